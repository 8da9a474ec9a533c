-- Round a boundary all is determined: a joint leads to one next, a flag is on one round, and each round has one beginning.
use Rattle.std.proofs.Common.{◌≡◌, ◌≢◌, ℕ, ◌<◌, ◌⊎◌, List, [], ◌∷◌, ◌++◌, length, map, drop, slice_index, refl, sym, ap, ◌∙◌, subst, inl, inr, ⊎_elim, arith}
use Rattle.std.specs.List.{Contains, AllByRecursion, flat_map}
use Rattle.std.proofs.lemmas.List.Elements.{Contains-append_cases}
use Rattle.dd_model.specs.declared.index.Index.{Index}
use Rattle.dd_model.specs.declared.index.Index.TheVariants.{Zero, One, Two}
use Rattle.dd_model.specs.declared.pair.Pair.{Pair}
use Rattle.dd_model.specs.declared.pair.Pair.TheVariants.{Tile, Vertex, Edge}
use Rattle.dd_model.specs.Symbol.{Symbol, AreInvolutions}
use Rattle.dd_model.specs.Cell.{IsBranching}
use Rattle.dd_model.proofs.Branching.{branching_unique}
use Rattle.dd_model.proofs.CellLists.{increasing_unique}
use Rattle.dd_model.proofs.Lists.{Contains-head, Contains-later, Contains-cases, Contains-none}
use Rattle.dd_name.specs.declared.flags.Flag.{Flag}
use Rattle.dd_name.specs.declared.joints.Joint.{Joint}
use Rattle.dd_name.specs.Flags.{IsOfPair, place_of}
use Rattle.dd_name.specs.Rounds.{IsJoined, IsJoint, IsLinked, AreLinked, flags, first_pair, IsRoundFrom, IsRound, start_place, AreRounds}
use Rattle.dd_name.proofs.ChainLemmas.{other_end_unique, joined-sym, same_flag}
use Rattle.dd_model.proofs.AllIndices.{index_low, index_same}

-- ## Pairs and places

pub pair_cases : (p q : Pair) → (p ≡ q) ⊎ (p ≢ q)
pair_cases Tile Tile = inl refl
pair_cases Tile Vertex = inr (λ e. (cc))
pair_cases Tile Edge = inr (λ e. (cc))
pair_cases Vertex Tile = inr (λ e. (cc))
pair_cases Vertex Vertex = inl refl
pair_cases Vertex Edge = inr (λ e. (cc))
pair_cases Edge Tile = inr (λ e. (cc))
pair_cases Edge Vertex = inr (λ e. (cc))
pair_cases Edge Edge = inl refl

-- the second of the two pairs that hold an involution
abbrev second_pair : Index → Pair
second_pair Zero = Edge
second_pair One = Vertex
second_pair Two = Edge

pair_of : (i : Index) (p : Pair) → IsOfPair p i → (p ≡ first_pair i) ⊎ (p ≡ second_pair i)
pair_of Zero Tile of = inl refl
pair_of Zero Vertex of = ⊎_elim (λ e. (cc)) (λ e. (cc)) of
pair_of Zero Edge of = inr refl
pair_of One Tile of = inl refl
pair_of One Vertex of = inr refl
pair_of One Edge of = ⊎_elim (λ e. (cc)) (λ e. (cc)) of
pair_of Two Tile of = ⊎_elim (λ e. (cc)) (λ e. (cc)) of
pair_of Two Vertex of = inl refl
pair_of Two Edge of = inr refl

-- Two pairs hold an involution, so two that differ from a third are equal.
pub two_pairs : (i : Index) (p q r : Pair) → IsOfPair p i → IsOfPair q i → IsOfPair r i → p ≢ q → r ≢ q → p ≡ r
two_pairs i p q r of_p of_q of_r a b =
    ⊎_elim
    (λ pf. ⊎_elim
    (λ rf. pf ∙ sym rf)
    (λ rs. ⊎_elim (λ qf. absurd (a (pf ∙ sym qf))) (λ qs. absurd (b (rs ∙ sym qs))) (pair_of i q of_q))
    (pair_of i r of_r))
    (λ ps. ⊎_elim
    (λ rf. ⊎_elim (λ qf. absurd (b (rf ∙ sym qf))) (λ qs. absurd (a (ps ∙ sym qs))) (pair_of i q of_q))
    (λ rs. ps ∙ sym rs)
    (pair_of i r of_r))
    (pair_of i p of_p)

-- flags at one place are equal
pub place_apart : (f g : Flag) → place_of f ≡ place_of g → f ≡ g
place_apart f g e =
    let a = index_low f.index in
    let b = index_low g.index in
    same_flag f g (omega (arith, a, b, e)) (index_same f.index g.index (omega (arith, a, b, e)))

-- ## The next joint

pub same_joint : (s : Symbol) (a b : Joint) → IsJoint s a → IsJoint s b → a.flag ≡ b.flag → a.by ≡ b.by → a ≡ b
same_joint s a b x y f p =
    let value : a.value ≡ b.value =
    branching_unique s b.by b.flag.chamber a.value b.value
    (subst (λ (q : Pair). IsBranching s q b.flag.chamber a.value) p (subst (λ (g : Flag). IsBranching s a.by g.chamber a.value) f x.value))
    y.value in
    ap (λ (g : Flag). joint g a.by a.value) f ∙ ap (λ (q : Pair). joint b.flag q a.value) p ∙ ap (joint b.flag b.by) value where
      joint : Flag → Pair → ℕ → Joint
      joint f p v = record { flag = f; by = p; value = v }

pub next_unique : (s : Symbol) → AreInvolutions s → (a b c : Joint) → IsLinked s a b → IsLinked s a c → IsJoint s b → IsJoint s c → b ≡ c
next_unique s inv a b c to_b to_c x y =
    let f : b.flag ≡ c.flag = other_end_unique s inv a.by a.flag b.flag c.flag to_b.joined to_c.joined in
    same_joint s b c x y f
    (two_pairs b.flag.index b.by a.by c.by x.end.letter to_b.joined.end.letter
    (subst (λ (g : Flag). IsOfPair c.by g.index) (sym f) y.end.letter)
    (λ e. to_b.other (sym e)) (λ e. to_c.other (sym e)))

-- the first of linked joints is a joint
pub joint_of_linked : (s : Symbol) (a t : Joint) (xs : List Joint) → AreLinked s a (xs ++ t ∷ []) → IsJoint s a
joint_of_linked s a t [] linked = linked.0.joint
joint_of_linked s a t (x ∷ xs) linked = linked.0.joint

pub linked_front : (s : Symbol) (a : Joint) (xs ys : List Joint) → AreLinked s a (xs ++ ys) → AreLinked s a xs
linked_front s a [] ys linked = tt
linked_front s a (x ∷ xs) ys linked = (linked.0, linked_front s x xs ys linked.1)

-- ## One round

-- what follows a joint up to t is determined
same_rest : (s : Symbol) → AreInvolutions s → (t a : Joint) (xs ys : List Joint) → AreLinked s a (xs ++ t ∷ []) → AreLinked s a (ys ++ t ∷ [])
    → (Contains (flags xs) t.flag → ⊥) → (Contains (flags ys) t.flag → ⊥) → xs ≡ ys
same_rest s inv t a [] [] l m x y = refl
same_rest s inv t a [] (b ∷ ys) l m x y =
    let f : b.flag ≡ t.flag = other_end_unique s inv a.by a.flag b.flag t.flag m.0.joined l.0.joined in
    absurd (y (subst (Contains (flags (b ∷ ys))) f (Contains-head b.flag (flags ys))))
same_rest s inv t a (b ∷ xs) [] l m x y =
    let f : b.flag ≡ t.flag = other_end_unique s inv a.by a.flag b.flag t.flag l.0.joined m.0.joined in
    absurd (x (subst (Contains (flags (b ∷ xs))) f (Contains-head b.flag (flags xs))))
same_rest s inv t a (b ∷ xs) (c ∷ ys) l m x y =
    let same : b ≡ c = next_unique s inv a b c l.0 m.0 (joint_of_linked s b t xs l.1) (joint_of_linked s c t ys m.1) in
    let rest : xs ≡ ys =
    same_rest s inv t b xs ys l.1 (subst (λ (j : Joint). AreLinked s j (ys ++ t ∷ [])) (sym same) m.1)
    (λ there. x (Contains-later b.flag t.flag (flags xs) there)) (λ there. y (Contains-later c.flag t.flag (flags ys) there)) in
    ap (λ (j : Joint). j ∷ xs) same ∙ ap (λ (js : List Joint). c ∷ js) rest

-- rounds that begin at one flag are equal
same_round : (s : Symbol) → AreInvolutions s → (a b : Joint) (xs ys : List Joint) → IsRoundFrom s a xs → IsRoundFrom s b ys → a.flag ≡ b.flag → a ∷ xs ≡ b ∷ ys
same_round s inv a b xs ys x y f =
    let by : a.by ≡ b.by = x.first ∙ ap (λ (g : Flag). first_pair g.index) f ∙ sym y.first in
    let same : a ≡ b = same_joint s a b (joint_of_linked s a a xs x.closed) (joint_of_linked s b b ys y.closed) f by in
    let rest : xs ≡ ys =
    same_rest s inv a a xs ys x.closed (subst (λ (j : Joint). AreLinked s j (ys ++ j ∷ [])) (sym same) y.closed)
    x.distinct.0 (subst (λ (j : Joint). Contains (flags ys) j.flag → ⊥) (sym same) y.distinct.0) in
    ap (λ (j : Joint). j ∷ xs) same ∙ ap (λ (js : List Joint). b ∷ js) rest

-- ## A round holds the other ends of its chains

-- some joint at a flag of M leads to a
record IsEntered (s : Symbol) (M : Flag → Type 0) (a : Joint) : Type 0 where
  from : Joint
  inside : M from.flag
  linked : IsLinked s from a

-- a flag of which the chains of both pairs have their other ends in M
others_inside : (s : Symbol) → AreInvolutions s → (M : Flag → Type 0) (a b : Joint) → IsEntered s M a → IsLinked s a b → M b.flag
    → (p : Pair) (g : Flag) → IsJoined s p a.flag g → M g
others_inside s inv M a b entered linked inside p g joined =
    let z = entered.from in
    ⊎_elim
    (λ on. subst M (other_end_unique s inv a.by a.flag b.flag g linked.joined (subst (λ (q : Pair). IsJoined s q a.flag g) on joined)) inside)
    (λ back.
    let by : p ≡ z.by =
    two_pairs a.flag.index p a.by z.by joined.start.letter linked.joint.end.letter entered.linked.joined.end.letter back entered.linked.other in
    subst M
    (other_end_unique s inv z.by a.flag z.flag g (joined-sym s inv z.by z.flag a.flag entered.linked.joined)
    (subst (λ (q : Pair). IsJoined s q a.flag g) by joined))
    entered.inside)
    (pair_cases p a.by)

closed_along : (s : Symbol) → AreInvolutions s → (M : Flag → Type 0) (t a : Joint) (xs : List Joint) → AreLinked s a (xs ++ t ∷ [])
    → M t.flag → ((f : Flag) → Contains (flags (a ∷ xs)) f → M f) → IsEntered s M a
    → (p : Pair) (f g : Flag) → Contains (flags (a ∷ xs)) f → IsJoined s p f g → M g
closed_along s inv M t a [] linked end inside entered p f g there joined =
    ⊎_elim
    (λ here. others_inside s inv M a t entered linked.0 end p g (subst (λ (h : Flag). IsJoined s p h g) (sym here) joined))
    (λ none. absurd (Contains-none f none))
    (Contains-cases a.flag f [] there)
closed_along s inv M t a (x ∷ xs) linked end inside entered p f g there joined =
    let next : M x.flag = inside x.flag (Contains-later a.flag x.flag (flags (x ∷ xs)) (Contains-head x.flag (flags xs))) in
    ⊎_elim
    (λ here. others_inside s inv M a x entered linked.0 next p g (subst (λ (h : Flag). IsJoined s p h g) (sym here) joined))
    (λ later.
    closed_along s inv M t x xs linked.1 end (λ h on. inside h (Contains-later a.flag h (flags (x ∷ xs)) on))
    (record { from = a; inside = inside a.flag (Contains-head a.flag (flags (x ∷ xs))); linked = linked.0 })
    p f g later joined)
    (Contains-cases a.flag f (flags (x ∷ xs)) there)

-- the last of linked joints leads to t
last_enters : (s : Symbol) (M : Flag → Type 0) (t a : Joint) (xs : List Joint) → AreLinked s a (xs ++ t ∷ []) → ((f : Flag) → Contains (flags (a ∷ xs)) f → M f) → IsEntered s M t
last_enters s M t a [] linked inside = record { from = a; inside = inside a.flag (Contains-head a.flag []); linked = linked.0 }
last_enters s M t a (x ∷ xs) linked inside = last_enters s M t x xs linked.1 (λ h on. inside h (Contains-later a.flag h (flags (x ∷ xs)) on))

pub round_closed : (s : Symbol) → AreInvolutions s → (a : Joint) (xs : List Joint) → AreLinked s a (xs ++ a ∷ [])
    → (p : Pair) (f g : Flag) → Contains (flags (a ∷ xs)) f → IsJoined s p f g → Contains (flags (a ∷ xs)) g
round_closed s inv a xs linked =
    let M : Flag → Type 0 = Contains (flags (a ∷ xs)) in
    closed_along s inv M a a xs linked (Contains-head a.flag (flags xs)) (λ f on. on) (last_enters s M a a xs linked (λ f on. on))

-- where M is closed under chains and has one flag of linked joints, it has all
all_inside : (s : Symbol) → AreInvolutions s → (M : Flag → Type 0) → ((p : Pair) (f g : Flag) → M f → IsJoined s p f g → M g)
    → (a : Joint) (xs : List Joint) → AreLinked s a xs → (f : Flag) → Contains (flags (a ∷ xs)) f → M f → (g : Flag) → Contains (flags (a ∷ xs)) g → M g
all_inside s inv M closed a [] linked f on inside g there =
    ⊎_elim
    (λ here. ⊎_elim (λ beside. subst M (sym here ∙ beside) inside) (λ none. absurd (Contains-none g none)) (Contains-cases a.flag g [] there))
    (λ none. absurd (Contains-none f none))
    (Contains-cases a.flag f [] on)
all_inside s inv M closed a (x ∷ xs) linked f on inside g there =
    let link : IsJoined s a.by a.flag x.flag = linked.0.joined in
    let head = Contains-head x.flag (flags xs) in
    ⊎_elim
    (λ here.
    let first : M a.flag = subst M (sym here) inside in
    let later = all_inside s inv M closed x xs linked.1 x.flag head (closed a.by a.flag x.flag first link) in
    ⊎_elim (λ e. subst M e first) (λ l. later g l) (Contains-cases a.flag g (flags (x ∷ xs)) there))
    (λ behind.
    let later = all_inside s inv M closed x xs linked.1 f behind inside in
    let first : M a.flag = closed a.by x.flag a.flag (later x.flag head) (joined-sym s inv a.by a.flag x.flag link) in
    ⊎_elim (λ e. subst M e first) (λ l. later g l) (Contains-cases a.flag g (flags (x ∷ xs)) there))
    (Contains-cases a.flag f (flags (x ∷ xs)) on)

-- the beginning of a round that shares a flag with another is on the other
start_on : (s : Symbol) → AreInvolutions s → (a b : Joint) (xs ys : List Joint) → IsRoundFrom s a xs → IsRoundFrom s b ys
    → (f : Flag) → Contains (flags (a ∷ xs)) f → Contains (flags (b ∷ ys)) f → (b.flag ≡ a.flag) ⊎ (place_of b.flag < place_of a.flag)
start_on s inv a b xs ys x y f on_a on_b =
    let M : Flag → Type 0 = Contains (flags (b ∷ ys)) in
    let there : M a.flag =
    all_inside s inv M (λ p g h inside joined. round_closed s inv b ys y.closed p g h inside joined) a xs (linked_front s a xs (a ∷ []) x.closed)
    f on_a on_b a.flag (Contains-head a.flag (flags xs)) in
    ⊎_elim (λ e. inl e) (λ later. inr (y.least a.flag later)) (Contains-cases b.flag a.flag (flags ys) there)

-- rounds that share a flag begin at one flag
pub same_start : (s : Symbol) → AreInvolutions s → (a b : Joint) (xs ys : List Joint) → IsRoundFrom s a xs → IsRoundFrom s b ys
    → (f : Flag) → Contains (flags (a ∷ xs)) f → Contains (flags (b ∷ ys)) f → a.flag ≡ b.flag
same_start s inv a b xs ys x y f on_a on_b =
    ⊎_elim
    (λ e. sym e)
    (λ low. ⊎_elim (λ e. e) (λ high. absurd (omega (arith, low, high))) (start_on s inv b a ys xs y x f on_b on_a))
    (start_on s inv a b xs ys x y f on_a on_b)

-- ## All rounds

-- a round of a list that has f
record IsOnRound (s : Symbol) (rounds : List (List Joint)) (f : Flag) : Type 0 where
  start : Joint
  rest : List Joint
  round : IsRoundFrom s start rest
  on : Contains (flags (start ∷ rest)) f
  listed : Contains (map start_place rounds) (place_of start.flag)

on_round : (s : Symbol) (rounds : List (List Joint)) (f : Flag) → AllByRecursion (IsRound s) rounds → Contains (flat_map flags rounds) f → IsOnRound s rounds f
on_round s [] f each on = absurd (Contains-none f on)
on_round s ([] ∷ rounds) f each on = absurd each.0
on_round s ((a ∷ xs) ∷ rounds) f each on =
    ⊎_elim
    (λ here. record {
      start = a;
      rest = xs;
      round = each.0;
      on = here;
      listed = Contains-head (place_of a.flag) (map start_place rounds);
    })
    (λ there.
    let later = on_round s rounds f each.1 there in
    record {
      start = later.start;
      rest = later.rest;
      round = later.round;
      on = later.on;
      listed = Contains-later (place_of a.flag) (place_of later.start.flag) (map start_place rounds) later.listed;
    })
    (Contains-append_cases (flags (a ∷ xs)) (flat_map flags rounds) f on)

-- the places where rounds begin are those of any other list of rounds
starts_shared : (s : Symbol) → AreInvolutions s → (bs cs : List (List Joint)) → AllByRecursion (IsRound s) bs → AreRounds s cs
    → (y : ℕ) → Contains (map start_place bs) y → Contains (map start_place cs) y
starts_shared s inv [] cs each others y there = absurd (Contains-none y there)
starts_shared s inv ([] ∷ bs) cs each others y there = absurd each.0
starts_shared s inv ((a ∷ xs) ∷ bs) cs each others y there =
    ⊎_elim
    (λ here.
    let flag = (joint_of_linked s a a xs each.0.closed).end.flag in
    let other = on_round s cs a.flag others.each (others.complete a.flag flag) in
    let same : a.flag ≡ other.start.flag =
    same_start s inv a other.start xs other.rest each.0 other.round a.flag (Contains-head a.flag (flags xs)) other.on in
    subst (Contains (map start_place cs)) (sym (ap place_of same) ∙ here) other.listed)
    (λ later. starts_shared s inv bs cs each.1 others y later)
    (Contains-cases (place_of a.flag) y (map start_place bs) there)

same_list : (s : Symbol) → AreInvolutions s → (bs cs : List (List Joint)) → map start_place bs ≡ map start_place cs
    → AllByRecursion (IsRound s) bs → AllByRecursion (IsRound s) cs → bs ≡ cs
same_list s inv [] [] e x y = refl
same_list s inv [] (c ∷ cs) e x y = let w = ap length e in absurd (omega (arith, w))
same_list s inv (b ∷ bs) [] e x y = let w = ap length e in absurd (omega (arith, w))
same_list s inv ([] ∷ bs) (c ∷ cs) e x y = absurd x.0
same_list s inv ((a ∷ xs) ∷ bs) ([] ∷ cs) e x y = absurd y.0
same_list s inv ((a ∷ xs) ∷ bs) ((b ∷ ys) ∷ cs) e x y =
    ap (λ (r : List Joint). r ∷ bs) (same_round s inv a b xs ys x.0 y.0 (place_apart a.flag b.flag (ap (λ ns. slice_index ns 0) e)))
    ∙ ap (λ (rs : List (List Joint)). (b ∷ ys) ∷ rs) (same_list s inv bs cs (ap (drop 1) e) x.1 y.1)

-- A symbol has one list of boundaries.
pub rounds_unique : (s : Symbol) → AreInvolutions s → (bs cs : List (List Joint)) → AreRounds s bs → AreRounds s cs → bs ≡ cs
rounds_unique s inv bs cs x y =
    same_list s inv bs cs
    (increasing_unique (map start_place bs) (map start_place cs) x.ascending y.ascending
    (starts_shared s inv bs cs x.each y) (starts_shared s inv cs bs y.each x))
    x.each y.each
