-- All tables of a walk, one after another.
use Rattle.std.proofs.Common.{◌≡◌, ◌↔◌, Option, Some, IfSome, ℕ, suc, ◌+◌, ◌-◌, ◌*◌, ◌^◌, ◌<◌, ◌≤◌, ◌⊎◌, List, [], ◌∷◌, ◌++◌, length, get_or, refl, sym, ap, ◌∙◌, subst, inl, inr, ⊎_elim, arith}
use Rattle.std.proofs.Math.Nat.{mul-le-mul_left, pow-succ', pow-zero}
use Rattle.std.proofs.lemmas.Bool.{cases_lt, cases_eq}
use Rattle.std.proofs.lemmas.List.{append_assoc}
use Rattle.std.proofs.lemmas.List.Elements.{Contains-append_left, Contains-append_cases, Contains-push}
use Rattle.std.proofs.lemmas.Cmp.{nat_list_cmp_total}
use Rattle.std.proofs.lemmas.Map.Lookups.{exact_bytes}
use Rattle.std.specs.List.{AllByRecursion, Contains}
use Rattle.std.specs.Ordering.{nat_cmp, ordering_then, ordering_reverse}
use Rattle.std.specs.Cmp.Lexicographic.{slice_cmp}
use Rattle.std.specs.declared.cmp.Ordering.{Ordering}
use Rattle.std.specs.declared.cmp.Ordering.TheVariants.{Less, Equal, Greater}
use Rattle.dd_model.specs.Symbol.{Symbol}
use Rattle.dd_model.specs.Lists.{Begins}
use Rattle.dd_model.specs.Code.{code, all_images, IsBelow}
use Rattle.dd_model.specs.Wanted.{IsAscending}
use Rattle.dd_model.specs.declared.jobs.Job.{Job}
use Rattle.dd_model.specs.declared.requests.Request.{Request}
use Rattle.dd_model.proofs.Codes.{length-flat_images}
use Rattle.dd_model.proofs.LeastForms.{below_back}
use Rattle.dd_model.proofs.Lists.{Contains-one}
use Rattle.dd_model.proofs.Orders.{nat_cmp-same, list_not_below_both, list_not_below_itself}
use Rattle.dd_model.specs.Involutions.{HaveSameInvolutions}
use Rattle.dd_branch_tables.specs.Walk.{IsListed, IsPast, IsNext, HasNoneLeft, AreListed, Walking}
use Rattle.dd_model.proofs.Ascending.{ascending-append}
use Rattle.dd_front_jobs.proofs.Places.{chamber_at}
use Rattle.dd_branch_tables.proofs.TableFronts.{front_same}
use Rattle.dd_branch_tables.proofs.Unbranched.{unbranched_unique}
use Rattle.dd_branch_tables.proofs.WalkLemmas.{front_at, begins_appended}

-- ## Lists as in a dictionary

pub three : (o : Ordering) → (o ≡ Less) ⊎ ((o ≡ Equal) ⊎ (o ≡ Greater))
three Less = inl refl
three Equal = inr (inl refl)
three Greater = inr (inr refl)

pub turned_round : (xs ys : List ℕ) → slice_cmp nat_cmp xs ys ≡ Greater → slice_cmp nat_cmp ys xs ≡ Less
turned_round xs ys e = nat_list_cmp_total.antisymm ys xs ∙ ap ordering_reverse e

-- what is past a list is past all that is not
past_all_before : (bound xs ys : List ℕ) → (slice_cmp nat_cmp bound xs ≡ Less → ⊥) → slice_cmp nat_cmp bound ys ≡ Less → slice_cmp nat_cmp xs ys ≡ Less
past_all_before bound xs ys before past =
    ⊎_elim
    (λ less. absurd (before less))
    (λ others. ⊎_elim
    (λ same. sym (nat_list_cmp_total.congr bound xs ys same) ∙ past)
    (λ more. nat_list_cmp_total.trans xs bound ys (turned_round bound xs more) past)
    others)
    (three (slice_cmp nat_cmp bound xs))

less_longer : (xs ys us vs : List ℕ) → length xs ≡ length ys → slice_cmp nat_cmp xs ys ≡ Less → slice_cmp nat_cmp (xs ++ us) (ys ++ vs) ≡ Less
less_longer [] [] us vs size less = absurd (cc)
less_longer [] (y ∷ ys) us vs size less = absurd (omega arith)
less_longer (x ∷ xs) [] us vs size less = absurd (omega arith)
less_longer (x ∷ xs) (y ∷ ys) us vs size less =
    ⊎_elim
    (λ first. ap (λ o. ordering_then o (slice_cmp nat_cmp (xs ++ us) (ys ++ vs))) first)
    (λ others. ⊎_elim
    (λ same.
    let rest : slice_cmp nat_cmp xs ys ≡ Less = sym (ap (λ o. ordering_then o (slice_cmp nat_cmp xs ys)) same) ∙ less in
    ap (λ o. ordering_then o (slice_cmp nat_cmp (xs ++ us) (ys ++ vs))) same ∙ less_longer xs ys us vs (omega arith) rest)
    (λ more. let e : Greater ≡ Less = sym (ap (λ o. ordering_then o (slice_cmp nat_cmp xs ys)) more) ∙ less in absurd (cc))
    others)
    (three (nat_cmp x y))

pub length-front : (s : Symbol) → length (all_images s) ≡ 3 * s.size
length-front s = length-flat_images s 1 s.size

pub below_by_images : (s t : Symbol) → s.size ≡ t.size → slice_cmp nat_cmp (all_images s) (all_images t) ≡ Less → IsBelow s t
below_by_images s t size less =
    let ls = length-front s in
    let lt = length-front t in
    let codes : slice_cmp nat_cmp (code s) (code t) ≡ Less =
    ap (λ xs. slice_cmp nat_cmp xs (code t)) (append_assoc (all_images s) s.m01 s.m12)
    ∙ ap (slice_cmp nat_cmp (all_images s ++ (s.m01 ++ s.m12))) (append_assoc (all_images t) t.m01 t.m12)
    ∙ less_longer (all_images s) (all_images t) (s.m01 ++ s.m12) (t.m01 ++ t.m12) (omega arith) less in
    ap (λ o. ordering_then o (slice_cmp nat_cmp (code s) (code t))) (subst (λ z. nat_cmp s.size z ≡ Equal) size (nat_cmp-same s.size)) ∙ codes

-- ## The tables given so far

pub record AreGiven (q : Request) (job : Job) (last : List ℕ) (ts : List Symbol) : Type 0 where
  pub ascending : IsAscending ts
  pub members : (t : Symbol) → Contains ts t ↔ (IsListed q job t × (IsPast last t → ⊥))

pub some_past : (xs : List ℕ) → 1 ≤ length xs → slice_cmp nat_cmp [] xs ≡ Less
some_past [] low = absurd (omega arith)
some_past (x ∷ xs) low = refl

pub given_first : (q : Request) (job : Job) → AreGiven q job [] []
given_first q job = record {
  ascending = tt;
  members = λ t. (
    (λ there. let low = there.1 in absurd (omega arith)),
    (λ is. let some = is.0.symbol.table.chambers in let size = length-front t in absurd (is.1 (some_past (all_images t) (omega arith)))),
  );
}

pub own_begins : (s : Symbol) → Begins (all_images s) (code s)
own_begins s = subst (Begins (all_images s)) (sym (append_assoc (all_images s) s.m01 s.m12)) (begins_appended (all_images s) (s.m01 ++ s.m12))

-- listed tables with the same images are the same
same_images : (q : Request) (job : Job) (s t : Symbol) → IsListed q job s → IsListed q job t → all_images t ≡ all_images s → s ≡ t
same_images q job s t is it e =
    let size : t.size ≡ s.size = it.size ∙ sym is.size in
    let same : HaveSameInvolutions s t =
    front_same t s (all_images s) it.symbol.table is.symbol.table size (length-front s) (own_begins s) (subst (λ xs. Begins xs (code t)) e (own_begins t)) in
    unbranched_unique s t is.symbol it.symbol is.unbranched it.unbranched same

-- what is not past the next table is given or is that table
none_between : (q : Request) (job : Job) (last : List ℕ) (s t : Symbol) → IsListed q job s → IsNext q job last t → IsPast last s → (IsPast (all_images t) s → ⊥) → t ≡ s
none_between q job last s t is next past before =
    ⊎_elim
    (λ less. absurd (before less))
    (λ others. ⊎_elim
    (λ same. same_images q job t s next.listed is (sym (exact_bytes (all_images t) (all_images s) same)))
    (λ more.
    let lower = below_by_images s t (is.size ∙ sym next.listed.size) (turned_round (all_images t) (all_images s) more) in
    absurd (next.first s is past (below_back s t lower)))
    others)
    (three (slice_cmp nat_cmp (all_images t) (all_images s)))

pub given_more : (q : Request) (job : Job) (last : List ℕ) (ts : List Symbol) (t : Symbol) → AreGiven q job last ts → IsNext q job last t → AreGiven q job (all_images t) (ts ++ t ∷ [])
given_more q job last ts t old next = record {
  ascending = ascending-append ts (t ∷ []) old.ascending (tt, tt) (λ s u hs hu.
      let is = (old.members s).0 hs in
      subst (IsBelow s) (Contains-one t u hu) (below_by_images s t (is.0.size ∙ sym next.listed.size) (past_all_before last (all_images s) (all_images t) is.1 next.past)));
  members = λ s. (
    (λ there. ⊎_elim
        (λ early.
        let is = (old.members s).0 early in
        (is.0, λ past. list_not_below_both (all_images t) (all_images s) past (past_all_before last (all_images s) (all_images t) is.1 next.past)))
        (λ late.
        let same = Contains-one t s late in
        (subst (IsListed q job) same next.listed, λ past. list_not_below_itself (all_images t) (subst (λ u. slice_cmp nat_cmp (all_images t) (all_images u) ≡ Less) (sym same) past)))
        (Contains-append_cases ts (t ∷ []) s there)),
    (λ is. ⊎_elim
        (λ past. subst (Contains (ts ++ t ∷ [])) (none_between q job last s t is.0 next past is.1) (Contains-push ts t))
        (λ before. Contains-append_left ts (t ∷ []) s ((old.members s).1 (is.0, before)))
        (past_or_not (slice_cmp nat_cmp last (all_images s)))),
  );
}
  where
    past_or_not : (o : Ordering) → (o ≡ Less) ⊎ (o ≡ Less → ⊥)
    past_or_not Less = inl refl
    past_or_not Equal = inr (λ e. cc)
    past_or_not Greater = inr (λ e. cc)

pub given_all : (q : Request) (job : Job) (last : List ℕ) (ts : List Symbol) → HasNoneLeft q job last → AreGiven q job last ts → AreListed q job ts
given_all q job last ts none old = record {
  ascending = old.ascending;
  members = λ t. ((λ there. ((old.members t).0 there).0), (λ is. (old.members t).1 (is, λ past. none t is past)));
}

-- ## How many may be left

-- the numbers as the digits of one number in base 37
abbrev pub value : List ℕ → ℕ
value [] = 0
value (x ∷ xs) = x * 37 ^ length xs + value xs

-- one more than that, but nothing where there are no numbers
abbrev pub weight : List ℕ → ℕ
weight [] = 0
weight (x ∷ xs) = 1 + value (x ∷ xs)

-- each number is at most 36
abbrev pub AreDigits : List ℕ → Type 0
AreDigits xs = AllByRecursion (λ x. x ≤ 36) xs

value_below : (xs : List ℕ) → AreDigits xs → value xs < 37 ^ length xs
value_below [] small = let e : 37 ^ 0 ≡ 1 = pow-zero 37 in omega arith
value_below (x ∷ xs) small =
    let rest = value_below xs small.1 in
    let p = 37 ^ length xs in
    let e : 37 ^ suc (length xs) ≡ 37 * p = pow-succ' 37 (length xs) in
    let most : p * x ≤ p * 36 = mul-le-mul_left p small.0 in
    omega arith

value_less : (xs ys : List ℕ) → AreDigits xs → AreDigits ys → length xs ≡ length ys → slice_cmp nat_cmp xs ys ≡ Less → value xs < value ys
value_less [] [] hx hy size less = absurd (cc)
value_less [] (y ∷ ys) hx hy size less = absurd (omega arith)
value_less (x ∷ xs) [] hx hy size less = absurd (omega arith)
value_less (x ∷ xs) (y ∷ ys) hx hy size less =
    let tails : length xs ≡ length ys = omega arith in
    let p = 37 ^ length xs in
    let top : y * 37 ^ length ys ≡ y * 37 ^ length xs = ap (λ n. y * 37 ^ n) (sym tails) in
    ⊎_elim
    (λ lower.
    let rest = value_below xs hx.1 in
    let step : p * (x + 1) ≤ p * y = mul-le-mul_left p (omega arith) in
    omega arith)
    (λ others. ⊎_elim
    (λ same.
    let tied : nat_cmp x y ≡ Equal = subst (λ z. nat_cmp x z ≡ Equal) same (nat_cmp-same x) in
    let rest = value_less xs ys hx.1 hy.1 tails (sym (ap (λ o. ordering_then o (slice_cmp nat_cmp xs ys)) tied) ∙ less) in
    let product : p * x ≡ p * y = ap (λ z. p * z) same in
    omega arith)
    (λ higher. let more : nat_cmp x y ≡ Greater = greater x y higher in let e : Greater ≡ Less = sym (ap (λ o. ordering_then o (slice_cmp nat_cmp xs ys)) more) ∙ less in absurd (cc))
    others)
    (three_ways x y)
  where
    three_ways : (x y : ℕ) → (x < y) ⊎ ((x ≡ y) ⊎ (y < x))
    three_ways x y = ⊎_elim (λ low. inl low) (λ high. inr (⊎_elim (λ same. inl same) (λ other. inr (omega arith)) (cases_eq x y))) (cases_lt x y)

    greater : (x y : ℕ) → y < x → nat_cmp x y ≡ Greater
    greater x y h = grind arith

-- the images that a walk of a size may stand at
pub record IsStand (n : ℕ) (last : List ℕ) : Type 0 where
  pub digits : AreDigits last
  pub long : (last ≡ []) ⊎ (length last ≡ 3 * n)

pub stand_first : (n : ℕ) → IsStand n []
stand_first n = record { digits = tt; long = inl refl }

digits_from : (xs : List ℕ) → ((u : ℕ) → u < length xs → get_or xs u 0 ≤ 36) → AreDigits xs
digits_from [] each = tt
digits_from (x ∷ xs) each = (each 0 (omega arith), digits_from xs (λ u low. each (suc u) (omega arith)))

pub stand_at : (q : Request) (job : Job) (t : Symbol) → job.size ≤ 36 → IsListed q job t → IsStand job.size (all_images t)
stand_at q job t small is =
    let size = is.size in
    let long = length-front t in
    record {
      digits = digits_from (all_images t) (λ u low.
          let inside = chamber_at t is.symbol.table u (omega arith) in
          let most = inside.1 in
          let same = front_at t u (omega arith) in
          omega arith);
      long = inr (omega arith);
    }

weight_most : (xs : List ℕ) (n : ℕ) → AreDigits xs → length xs ≡ 3 * n → weight xs ≤ 37 ^ (3 * n)
weight_most [] n digits size = omega arith
weight_most (x ∷ xs) n digits size =
    let below = value_below (x ∷ xs) digits in
    let e : 37 ^ length (x ∷ xs) ≡ 37 ^ (3 * n) = ap (λ k. 37 ^ k) size in
    omega arith

weight_less : (xs ys : List ℕ) (n : ℕ) → 1 ≤ n → IsStand n xs → IsStand n ys → slice_cmp nat_cmp xs ys ≡ Less → length ys ≡ 3 * n → weight xs < weight ys
weight_less [] [] n some sx sy less size = absurd (omega arith)
weight_less [] (y ∷ ys) n some sx sy less size = omega arith
weight_less (x ∷ xs) [] n some sx sy less size = absurd (omega arith)
weight_less (x ∷ xs) (y ∷ ys) n some sx sy less size =
    ⊎_elim
    (λ none. let none_size : length (x ∷ xs) ≡ 0 = ap length none in absurd (omega arith))
    (λ whole. let step = value_less (x ∷ xs) (y ∷ ys) sx.digits sy.digits (omega arith) less in omega arith)
    sx.long

-- Fewer are left after each table.
pub fewer_left : (q : Request) (job : Job) (last : List ℕ) (t : Symbol) → job.size ≤ 36 → IsStand job.size last → IsNext q job last t
    → 37 ^ (3 * job.size) + 1 - weight (all_images t) < 37 ^ (3 * job.size) + 1 - weight last
fewer_left q job last t small stand next =
    let there = stand_at q job t small next.listed in
    let size = next.listed.size in
    let some = next.listed.symbol.table.chambers in
    let long = length-front t in
    let whole : length (all_images t) ≡ 3 * job.size = omega arith in
    let step = weight_less last (all_images t) job.size (omega arith) stand there next.past whole in
    let most = weight_most (all_images t) job.size there.digits whole in
    omega arith

-- ## The steps of collecting all

-- the walk is still over the same request and job
pub record IsSameWalk (q : Request) (job : Job) (w : Walking) : Type 0 where
  pub asked : w.request ≡ q
  pub under : w.job ≡ job

pub next_here : (q : Request) (job : Job) (w : Walking) (t : Symbol) → IsSameWalk q job w → IsNext w.request w.job w.last t → IsNext q job w.last t
next_here q job w t same next = subst (λ j. IsNext q j w.last t) same.under (subst (λ p. IsNext p w.job w.last t) same.asked next)

pub none_here : (q : Request) (job : Job) (w : Walking) → IsSameWalk q job w → HasNoneLeft w.request w.job w.last → HasNoneLeft q job w.last
none_here q job w same none = subst (λ j. HasNoneLeft q j w.last) same.under (subst (λ p. HasNoneLeft p w.job w.last) same.asked none)

pub if_some : {A : Type 0} (o : Option A) (P : A → Type 0) (x : A) → o ≡ Some x → IfSome o P → P x
if_some o P x is says = subst (λ p. IfSome p P) is says
