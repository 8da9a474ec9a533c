-- Each joint of a boundary has a next one.
use Rattle.std.proofs.Common.{◌≡◌, ◌≢◌, refl, sym, ap, inl, inr, ⊎_elim}
use Rattle.dd_model.specs.declared.index.Index.{Index}
use Rattle.dd_model.specs.declared.index.Index.TheVariants.{Zero, One, Two}
use Rattle.dd_model.specs.declared.pair.Pair.{Pair}
use Rattle.dd_model.specs.declared.pair.Pair.TheVariants.{Tile, Vertex, Edge}
use Rattle.dd_model.specs.Symbol.{Symbol, IsSymbol, AreInvolutions}
use Rattle.dd_model.proofs.Branching.{branching_exists}
use Rattle.dd_name.specs.declared.flags.Flag.{Flag}
use Rattle.dd_name.specs.declared.joints.Joint.{Joint}
use Rattle.dd_name.specs.Flags.{IsOfPair}
use Rattle.dd_name.specs.Rounds.{IsEnd, IsJoined, IsJoint, IsLinked}
use Rattle.dd_name.proofs.ChainLemmas.{letter, walked, walked_within, in_cell_walked, other_letter, letters_apart, letter_at_of_pair, returns_stopped, has_length, flag_at}

-- ## The other end of a chain

pub record HasOtherEnd (s : Symbol) (p : Pair) (f : Flag) : Type 0 where
  pub flag : Flag
  pub joined : IsJoined s p f flag

pub other_end_exists : (s : Symbol) → AreInvolutions s → (p : Pair) (f : Flag) → IsEnd s p f → HasOtherEnd s p f
other_end_exists s inv p f end =
    let i = f.index in
    let d = f.chamber in
    let h = end.flag.chamber in
    let other = other_letter p i end.letter in
    let j = other.j in
    let has = has_length s inv p i j other.letters d h end.flag.fixed in
    let last = flag_at (walked s i j has.n d) (letter i j has.n) in
    record {
      flag = last;
      joined = record {
        start = end;
        end = record {
          flag = record { chamber = walked_within s inv i j has.n d h; fixed = has.length.stop };
          letter = letter_at_of_pair p i j other.letters has.n;
        };
        in_cell = in_cell_walked s p i j other.letters has.n d;
        two = λ same.
            let back = returns_stopped s inv i j (letters_apart p i j other.letters) d h has.n
            (sym (ap (λ (g : Flag). g.chamber) same)) (sym (ap (λ (g : Flag). g.index) same)) in
            has.length.before back.t back.below back.stop;
      };
    }

-- ## The other pair of an involution

record HasOtherPair (p : Pair) (i : Index) : Type 0 where
  pub pair : Pair
  pub holds : IsOfPair pair i
  pub other : p ≢ pair

other_pair_exists : (p : Pair) (i : Index) → IsOfPair p i → HasOtherPair p i
other_pair_exists Tile Zero of = record { pair = Edge; holds = inl refl; other = λ e. (cc) }
other_pair_exists Vertex Zero of = ⊎_elim (λ e. absurd (cc)) (λ e. absurd (cc)) of
other_pair_exists Edge Zero of = record { pair = Tile; holds = inl refl; other = λ e. (cc) }
other_pair_exists Tile One of = record { pair = Vertex; holds = inl refl; other = λ e. (cc) }
other_pair_exists Vertex One of = record { pair = Tile; holds = inr refl; other = λ e. (cc) }
other_pair_exists Edge One of = ⊎_elim (λ e. absurd (cc)) (λ e. absurd (cc)) of
other_pair_exists Tile Two of = ⊎_elim (λ e. absurd (cc)) (λ e. absurd (cc)) of
other_pair_exists Vertex Two of = record { pair = Edge; holds = inr refl; other = λ e. (cc) }
other_pair_exists Edge Two of = record { pair = Vertex; holds = inr refl; other = λ e. (cc) }

-- ## Joints

pub record HasJoint (s : Symbol) (f : Flag) (p : Pair) : Type 0 where
  pub joint : Joint
  pub is : IsJoint s joint
  pub flag : joint.flag ≡ f
  pub by : joint.by ≡ p

pub joint_exists : (s : Symbol) → IsSymbol s → (f : Flag) (p : Pair) → IsEnd s p f → HasJoint s f p
joint_exists s is f p end =
    let v = branching_exists s is p f.chamber end.flag.chamber in
    record { joint = record { flag = f; by = p; value = v.0 }; is = record { end = end; value = v.1 }; flag = refl; by = refl }

pub record HasNext (s : Symbol) (a : Joint) : Type 0 where
  pub joint : Joint
  pub linked : IsLinked s a joint
  pub is : IsJoint s joint

pub next_exists : (s : Symbol) → IsSymbol s → (a : Joint) → IsJoint s a → HasNext s a
next_exists s is a at =
    let far = other_end_exists s is.table.involutions a.by a.flag at.end in
    let pair = other_pair_exists a.by far.flag.index far.joined.end.letter in
    let v = branching_exists s is pair.pair far.flag.chamber far.joined.end.flag.chamber in
    record {
      joint = record { flag = far.flag; by = pair.pair; value = v.0 };
      linked = record { joint = at; joined = far.joined; other = pair.other };
      is = record { end = record { flag = far.joined.end.flag; letter = pair.holds }; value = v.1 };
    }
