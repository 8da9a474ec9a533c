-- The boundaries of each symbol can be told.
use Rattle.std.proofs.Common.{◌≡◌, ℕ, zero, suc, ◌+◌, ◌*◌, ◌≤◌, ◌<◌, ◌/◌, ◌%◌, Bool, true, false, cond, List, [], ◌∷◌, ◌++◌, length, get_or, replicate, refl, ap, subst, inl, inr, ⊎_elim, arith}
use Rattle.std.specs.Prelude.{sum_by}
use Rattle.std.proofs.Math.ListN.{set}
use Rattle.std.proofs.lemmas.Bool.{cases_eq, cases_Bool}
use Rattle.std.proofs.lemmas.List.{length-replicate}
use Rattle.std.proofs.lemmas.List.Sums.{sum_by-set}
use Rattle.dd_model.specs.declared.index.Index.{Index}
use Rattle.dd_model.specs.declared.index.Index.TheVariants.{Zero, One, Two}
use Rattle.dd_model.specs.Symbol.{Symbol, IsSymbol, op}
use Rattle.dd_model.proofs.AllowedLemmas.{none_in}
use Rattle.dd_model.proofs.CellSearch.{Decided, decide_chamber}
use Rattle.dd_model.proofs.Lists.{Contains-none}
use Rattle.dd_quotient.proofs.Deciding.{decide_after, decide_same}
use Rattle.dd_name.specs.declared.flags.Flag.{Flag}
use Rattle.dd_name.specs.declared.joints.Joint.{Joint}
use Rattle.dd_name.specs.Flags.{IsFlag, IsOfPair, place_of}
use Rattle.dd_name.specs.Rounds.{first_pair, AreRounds}
use Rattle.dd_name.specs.Marks.{IsMarked, AreMarks, IsNewRound, AreTold}
use Rattle.dd_name.proofs.TourLemmas.{IsTour, tour_starts, tour_goes_on, tour_closes, tour_is_round, told_skip, told_more, told_all, place_within}
use Rattle.dd_suite_exercise.proofs.NextJoint.{joint_exists, next_exists}

-- ## Round one boundary

-- how many flags are not marked
abbrev free : List Bool → ℕ
free marks = sum_by (λ (b : Bool). cond b 0 1) marks

fewer_free : (marks : List Bool) (k : ℕ) → k < length marks → get_or marks k false ≡ false → free (set marks k true) + 1 ≡ free marks
fewer_free marks k within bare =
    let e = sum_by-set (λ (b : Bool). cond b 0 1) marks k true false within in
    let one : ◌≡◌ {A = ℕ} (cond (get_or marks k false) 0 1) 1 = ap (λ (b : Bool). cond b 0 1) bare in
    omega (arith, e, one)

record HasNewRound (s : Symbol) (start : Flag) (old : List Bool) : Type 0 where
  pub new : List Bool
  pub round : List Joint
  pub marks : AreMarks s new
  pub is : IsNewRound s start old new round

not_marked : (b : Bool) → b ≡ false → b ≡ true → ⊥
not_marked b bare set = (cc)

-- a flag that is not marked is left
room_left : (s : Symbol) (start : Flag) (old marks : List Bool) (joints : List Joint) (current : Joint) → IsTour s start old marks joints current
    → get_or marks (place_of current.flag) false ≡ false → free (set marks (place_of current.flag) true) + 1 ≡ free marks
room_left s start old marks joints current w bare =
    let within : place_of current.flag < length marks = let low = place_within s current.flag w.joint.end.flag.chamber in let e = w.room in omega arith in
    fewer_free marks (place_of current.flag) within bare

tour_done : (s : Symbol) (start : Flag) (old marks : List Bool) (joints : List Joint) (current : Joint) → IsTour s start old marks joints current
    → (IsMarked old start → ⊥) → IsMarked marks current.flag → HasNewRound s start old
tour_done s start old marks joints current w fresh met = record {
  new = marks;
  round = joints;
  marks = tour_closes s start old marks joints current w fresh met;
  is = tour_is_round s start old marks joints current w fresh met;
}

-- At each joint the way is round, or goes on to one flag more.
tour_ends : (s : Symbol) → IsSymbol s → (start : Flag) (old : List Bool) → (IsMarked old start → ⊥) → (n : ℕ) (marks : List Bool) (joints : List Joint) (current : Joint)
    → IsTour s start old marks joints current → free marks ≤ n → HasNewRound s start old
tour_ends s is start old fresh zero marks joints current w few =
    ⊎_elim
    (λ met. tour_done s start old marks joints current w fresh met)
    (λ bare. let less = room_left s start old marks joints current w bare in absurd (omega (arith, few, less)))
    (cases_Bool (get_or marks (place_of current.flag) false))
tour_ends s is start old fresh (suc n) marks joints current w few =
    ⊎_elim
    (λ met. tour_done s start old marks joints current w fresh met)
    (λ bare.
    let less = room_left s start old marks joints current w bare in
    let next = next_exists s is current w.joint in
    tour_ends s is start old fresh n (set marks (place_of current.flag) true) (joints ++ current ∷ []) next.joint
    (tour_goes_on s is.table.involutions start old marks joints current next.joint w (not_marked (get_or marks (place_of current.flag) false) bare) next.linked next.is)
    (omega (arith, few, less)))
    (cases_Bool (get_or marks (place_of current.flag) false))

first_holds : (i : Index) → IsOfPair (first_pair i) i
first_holds Zero = inl refl
first_holds One = inr refl
first_holds Two = inr refl

round_exists : (s : Symbol) → IsSymbol s → (start : Flag) (old : List Bool) → IsFlag s start → AreMarks s old → (IsMarked old start → ⊥) → HasNewRound s start old
round_exists s is start old flag marks fresh =
    let j = joint_exists s is start (first_pair start.index) (record { flag = flag; letter = first_holds start.index }) in
    tour_ends s is start old fresh (free old) old [] j.joint (tour_starts s start old j.joint marks fresh j.is j.flag j.by) (omega arith)

-- ## From boundary to boundary

record HasFlag (k : ℕ) : Type 0 where
  pub flag : Flag
  pub at : place_of flag ≡ k

flag_at_place : (k : ℕ) → HasFlag k
flag_at_place k =
    ⊎_elim
    (λ e. record { flag = record { chamber = k / 3; index = Zero }; at = omega (arith, e) })
    (λ n. ⊎_elim
    (λ e. record { flag = record { chamber = k / 3; index = One }; at = omega (arith, e) })
    (λ m. record { flag = record { chamber = k / 3; index = Two }; at = omega (arith, n, m) })
    (cases_eq (k % 3) 1))
    (cases_eq (k % 3) 0)

decide_flag : (s : Symbol) (f : Flag) → Decided (IsFlag s f)
decide_flag s f =
    decide_after (decide_chamber s f.chamber) (λ h.
    decide_same (cases_eq (op s f.index f.chamber) f.chamber) (λ e. record { chamber = h; fixed = e }) (λ is. is.fixed))
    (λ is. is.chamber)

record HasTold (s : Symbol) (k : ℕ) : Type 0 where
  pub marks : List Bool
  pub rounds : List (List Joint)
  pub told : AreTold s k marks rounds

none_told : (s : Symbol) → HasTold s 0
none_told s =
    let marks = replicate (3 * s.size + 3) false in
    let bare : (f : Flag) → IsMarked marks f → ⊥ = λ f m. none_in (3 * s.size + 3) (place_of f) m in
    record {
      marks = marks;
      rounds = [];
      told = record {
        kept = record { room = length-replicate (3 * s.size + 3) false; closed = λ p f g joined m. absurd (bare f m) };
        each = tt;
        ascending = λ k high. absurd (omega (arith, high));
        below = λ y there. absurd (Contains-none y there);
        apart = tt;
        marked = λ f. (λ m. absurd (bare f m), λ there. absurd (Contains-none f there));
        complete = λ f flag low. absurd (omega (arith, low));
      };
    }

told_next : (s : Symbol) → IsSymbol s → (k : ℕ) → HasTold s k → HasTold s (k + 1)
told_next s is k t =
    let f = flag_at_place k in
    ⊎_elim
    (λ flag. ⊎_elim
    (λ met. record { marks = t.marks; rounds = t.rounds; told = told_skip s k t.marks t.rounds f.flag t.told f.at (λ _. met) })
    (λ bare.
    let r = round_exists s is f.flag t.marks flag t.told.kept (not_marked (get_or t.marks (place_of f.flag) false) bare) in
    record { marks = r.new; rounds = t.rounds ++ r.round ∷ []; told = told_more s k t.marks r.new t.rounds f.flag r.round t.told f.at r.marks r.is })
    (cases_Bool (get_or t.marks (place_of f.flag) false)))
    (λ none. record { marks = t.marks; rounds = t.rounds; told = told_skip s k t.marks t.rounds f.flag t.told f.at (λ flag. absurd (none flag)) })
    (decide_flag s f.flag)

told_to : (s : Symbol) → IsSymbol s → (k : ℕ) → HasTold s k
told_to s is zero = none_told s
told_to s is (suc k) = let e : k + 1 ≡ suc k = omega arith in subst (HasTold s) e (told_next s is k (told_to s is k))

pub record HasRounds (s : Symbol) : Type 0 where
  pub rounds : List (List Joint)
  pub are : AreRounds s rounds

pub rounds_exist : (s : Symbol) → IsSymbol s → HasRounds s
rounds_exist s is =
    let t = told_to s is (3 * s.size + 3) in
    record { rounds = t.rounds; are = told_all s (3 * s.size + 3) t.marks t.rounds t.told (omega arith) }
