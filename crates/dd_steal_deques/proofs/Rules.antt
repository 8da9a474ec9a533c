-- Each step on a deque keeps the rule.
use Rattle.std.proofs.Common.{◌≡◌, ◌≢◌, ℕ, zero, suc, ◌+◌, ◌-◌, ◌≤◌, Bool, true, false, true≢false, List, [], ◌∷◌, ◌++◌, map, length, length-append, set, refl, sym, ◌∙◌, ap, subst, arith, ⊎_elim}
use Rattle.std.proofs.lemmas.List.{map-append}
use mathlib.Core.Option.{some, some-ne-none}
use lib.ListN.{get_elem?}
use Rattle.crossbeam_deque.specs.Tasks.{Pushes, Takes, Finds, Forks, Merges}
use Rattle.crossbeam_deque.proofs.Lists.{at_set, at_snoc, set_else}
use Rattle.dd_steal_deques.specs.declared.known.Known.{Known}
use Rattle.dd_steal_deques.specs.Numbers.{known, times, counting, total, guest, took, Racked, Holds, TookAll, Pops}
use Rattle.dd_steal_deques.proofs.Totals.{times-append, counting_snoc, total_set, total_zero, total_alone, total_snoc, total_part, length_le, length_counting}

abbrev Each : (ℕ → Known → Type 0) → List Known → Type 0
Each F views = (port : ℕ) (v : Known) → get_elem? views port ≡ some v → F port v

each_set : (F : ℕ → Known → Type 0) (views : List Known) (port : ℕ) (w : Known) → F port w → ((j : ℕ) (u : Known) → j ≢ port → get_elem? views j ≡ some u → F j u) → Each F (set views port w)
each_set F views port w mine others j u e = ⊎_elim (λ (x : (j ≡ port) × (w ≡ u)). subst (λ (y : ℕ × Known). F y.0 y.1) (λ i. (sym x.0 i, x.1 i)) mine)
    (λ (x : (j ≢ port) × (get_elem? views j ≡ some u)). others j u x.0 x.1) (at_set views port j w u e)

first_only : (F : ℕ → Known → Type 0) (w : Known) → F 0 w → Each F (w ∷ [])
first_only F w mine zero u e = let same : w ≡ u = cc e in subst (λ y. F 0 y) same mine
first_only F w mine (suc j) u e = absurd (cc e)

-- what the owner knows
abbrev Owns : ℕ → ℕ → ℕ → ℕ → Known → Type 0
Owns seat n m port v = v.owns ≡ true → (port ≡ seat) × (v.live ≡ true) × (v.count ≡ n) × (v.passes ≡ m)

abbrev Spent : ℕ → Known → Type 0
Spent port v = v.live ≡ false → v.taken ≡ []

push_racked : (seat n m from : ℕ) (ns : List ℕ) (views : List Known) (port : ℕ) (v : Known) → Racked seat n m from ns views → get_elem? views port ≡ some v → v.owns ≡ true
    → Racked seat (n + 1) m from (ns ++ (n + 1) ∷ []) (set views port (known v.owns (v.count + 1) v.passes v.live v.taken))
push_racked seat n m from ns views port v r at may =
    let w = known v.owns (v.count + 1) v.passes v.live v.taken in
    let mine = r.owner port v at may in
    let longer : length (ns ++ (n + 1) ∷ []) ≡ length ns + 1 = length-append ns ((n + 1) ∷ []) in
    let next : from + 1 + length ns ≡ n + 1 = omega (arith, r.whole) in
    let last : 1 + n ≡ n + 1 = omega arith in
    record {
      whole = omega (arith, longer, r.whole);
      order = ap (λ t. t ++ (n + 1) ∷ []) r.order ∙ (ap (λ k. counting (from + 1) (length ns) ++ k ∷ []) (sym next) ∙ (sym (counting_snoc (from + 1) (length ns)) ∙ ap (λ k. counting (from + 1) k) (sym longer)));
      once = λ x.
          let c : times x (counting 1 (n + 1)) ≡ times x (counting 1 n) + times x ((n + 1) ∷ []) = ap (λ t. times x t) (counting_snoc 1 n) ∙ (times-append x (counting 1 n) ((1 + n) ∷ []) ∙ ap (λ k. times x (counting 1 n) + times x (k ∷ [])) last) in
          omega (arith, c, times-append x ns ((n + 1) ∷ []), total_set (took x) views port v w at, r.once x);
      owner = each_set (Owns seat (n + 1) m) views port w (λ _. (mine.0, mine.1, ap (λ k. k + 1) mine.2, mine.3)) (λ j u apart e owns. absurd (apart ((r.owner j u e owns).0 ∙ sym mine.0)));
      passes = omega (arith, total_set guest views port v w at, r.passes);
      spent = each_set Spent views port w (λ dead. r.spent port v at dead) (λ j u apart e. r.spent j u e);
    }

take_racked : (seat n m from k : ℕ) (ns : List ℕ) (views : List Known) (port : ℕ) (v : Known) → Racked seat n m from (k ∷ ns) views → get_elem? views port ≡ some v → v.live ≡ true
    → Racked seat n m (from + 1) ns (set views port (known v.owns v.count v.passes v.live (v.taken ++ k ∷ [])))
take_racked seat n m from k ns views port v r at alive =
    let w = known v.owns v.count v.passes v.live (v.taken ++ k ∷ []) in
    let longer : length (k ∷ ns) ≡ suc (length ns) = refl in
    let next : suc (from + 1) ≡ from + 1 + 1 = omega arith in
    record {
      whole = omega (arith, r.whole, longer);
      order = cc (r.order) ∙ ap (λ a. counting a (length ns)) next;
      once = λ x. omega (arith, times-append x v.taken (k ∷ []), total_set (took x) views port v w at, r.once x);
      owner = each_set (Owns seat n m) views port w (λ owns. r.owner port v at owns) (λ j u apart e. r.owner j u e);
      passes = omega (arith, total_set guest views port v w at, r.passes);
      spent = each_set Spent views port w (λ dead. absurd (true≢false (sym alive ∙ dead))) (λ j u apart e. r.spent j u e);
    }

idle_by : (x : ℕ) (u : Known) (live owns : Bool) → u.live ≡ live → u.owns ≡ owns → guest u ≡ 0 → (u.owns ≡ true → ⊥) → (u.live ≡ false → u.taken ≡ []) → took x u ≡ 0
idle_by x u false owns a b none not_owner spent = ap (λ t. times x t) (spent a)
idle_by x u true true a b none not_owner spent = absurd (not_owner b)
idle_by x u true false a b none not_owner spent =
    let one : guest u ≡ 1 = rw (a, b) refl in absurd (omega (arith, one, none))

idle_guest : (x : ℕ) (u : Known) → guest u ≡ 0 → (u.owns ≡ true → ⊥) → (u.live ≡ false → u.taken ≡ []) → took x u ≡ 0
idle_guest x u none not_owner spent = idle_by x u u.live u.owns refl refl none not_owner spent

-- an owner without other passes, at an empty deque
each_taken : (seat n m from : ℕ) (views : List Known) (port : ℕ) (v : Known) → Racked seat n m from [] views → get_elem? views port ≡ some v → v.owns ≡ true → v.passes ≡ 0 → (x : ℕ) → times x v.taken ≡ times x (counting 1 v.count)
each_taken seat n m from views port v r at may none x =
    let mine = r.owner port v at may in
    let nobody : total guest views ≡ 0 = r.passes ∙ (sym mine.3 ∙ none) in
    let idle = λ (j : ℕ) (u : Known) (apart : j ≢ port) (e : get_elem? views j ≡ some u). idle_guest x u (total_zero guest views j u nobody e) (λ owns. apart ((r.owner j u e owns).0 ∙ sym mine.0)) (λ dead. r.spent j u e dead) in
    let alone = total_alone (took x) views port v at idle in
    let c : times x (counting 1 v.count) ≡ times x (counting 1 n) = ap (λ k. times x (counting 1 k)) mine.2 in
    omega (arith, alone, r.once x, c)

taken_within : (seat n m from : ℕ) (ns : List ℕ) (views : List Known) (port : ℕ) (v : Known) → Racked seat n m from ns views → get_elem? views port ≡ some v → v.owns ≡ true
    → length v.taken ≤ v.count
taken_within seat n m from ns views port v r at may =
    let mine = r.owner port v at may in
    let shorter = length_le v.taken (counting 1 n) (λ x. omega (arith, total_part (took x) views port v at, r.once x)) in
    omega (arith, shorter, length_counting 1 n, mine.2)

at_here : (views : List Known) (port : ℕ) (v w : Known) → get_elem? views port ≡ some v → get_elem? (set views port w) port ≡ some w
at_here [] port v w at = absurd (some-ne-none v (sym at))
at_here (u ∷ views) zero v w at = refl
at_here (u ∷ views) (suc port) v w at = at_here views port v w at

all_taken : (seat n m from : ℕ) (views : List Known) (port : ℕ) (v : Known) → Racked seat n m from [] views → get_elem? views port ≡ some v → v.owns ≡ true → TookAll v
all_taken seat n m from views port v r at may none =
    let each = each_taken seat n m from views port v r at may none in
    let most = length_le v.taken (counting 1 v.count) (λ x. omega (arith, each x)) in
    let least = length_le (counting 1 v.count) v.taken (λ x. omega (arith, each x)) in
    record { each = each; amount = omega (arith, most, least, length_counting 1 v.count) }

-- whatever a deque of tasks with numbers holds
module _ {T : Type 0} (f : T → ℕ) where
  abbrev Rule : List T → List Known → Type 0
  Rule items views = Holds (map f items) views

  pub gives : (port : ℕ) (v : Known) (x : T) → v.owns ≡ true → f x ≡ v.count + 1 → Pushes Rule port v (x ∷ []) (λ w. w ≡ known v.owns (v.count + 1) v.passes v.live v.taken)
  gives port v x may is items views h at =
      let r = h.4 in
      let w = known v.owns (v.count + 1) v.passes v.live v.taken in
      let number : f x ≡ h.1 + 1 = is ∙ ap (λ k. k + 1) (r.owner port v at may).2 in
      let e : map f items ++ (h.1 + 1) ∷ [] ≡ map f (items ++ x ∷ []) = ap (λ k. map f items ++ k ∷ []) (sym number) ∙ sym (map-append f items (x ∷ [])) in
      (w, (h.0, h.1 + 1, h.2, h.3, subst (λ ns. Racked h.0 (h.1 + 1) h.2 h.3 ns (set views port w)) e (push_racked h.0 h.1 h.2 h.3 (map f items) views port v r at may)), refl)

  pub takes : (port : ℕ) (v : Known) → v.live ≡ true → Takes Rule port v 1 (λ xs w. w ≡ known v.owns v.count v.passes v.live (v.taken ++ map f xs))
  takes port v alive [] items views some_ few h at = absurd (omega (arith, some_))
  takes port v alive (x ∷ []) items views some_ few h at =
      (known v.owns v.count v.passes v.live (v.taken ++ f x ∷ []), (h.0, h.1, h.2, h.3 + 1, take_racked h.0 h.1 h.2 h.3 (f x) (map f items) views port v h.4 at alive), refl)
  takes port v alive (x ∷ (y ∷ xs)) items views some_ few h at = absurd (omega (arith, few))

  -- an owner has taken no more than it gave
  pub pops : (port : ℕ) (v : Known) → v.owns ≡ true → v.live ≡ true → Takes Rule port v 1 (λ xs w. Pops v (map f xs) w)
  pops port v may alive xs items views some_ few h at =
      let t = takes port v alive xs items views some_ few h at in
      let there : get_elem? (set views port t.0) port ≡ some t.0 = at_here views port v t.0 at in
      let owns : t.0.owns ≡ true = rw t.2 may in
      (t.0, t.1, (t.2, taken_within t.1.0 t.1.1 t.1.2 t.1.3 (map f items) (set views port t.0) port t.0 t.1.4 there owns))

  pub finds : (port : ℕ) (v : Known) → v.owns ≡ true → Finds Rule port v (TookAll v)
  finds port v may views h at = all_taken h.0 h.1 h.2 h.3 views port v h.4 at may

-- a pass is cut off
fork_racked : (seat n m from : ℕ) (ns : List ℕ) (views : List Known) (port : ℕ) (v : Known) → Racked seat n m from ns views → get_elem? views port ≡ some v → v.owns ≡ true
    → Racked seat n (m + 1) from ns (set views port (known true v.count (v.passes + 1) true v.taken) ++ known false 0 0 true [] ∷ [])
fork_racked seat n m from ns views port v r at may =
    let l = known true v.count (v.passes + 1) true v.taken in
    let new = known false 0 0 true [] in
    let mine = r.owner port v at may in
    let vs = set views port l in
    let owners : Each (Owns seat n (m + 1)) vs = each_set (Owns seat n (m + 1)) views port l (λ _. (mine.0, refl, mine.2, ap (λ k. k + 1) mine.3)) (λ j u apart e owns. absurd (apart ((r.owner j u e owns).0 ∙ sym mine.0))) in
    let spents : Each Spent vs = each_set Spent views port l (λ dead. absurd (true≢false dead)) (λ j u apart e. r.spent j u e) in
    let was : guest v ≡ 0 = rw (may, mine.1) refl in
    record {
      whole = r.whole;
      order = r.order;
      once = λ x. omega (arith, total_snoc (took x) vs new, total_set (took x) views port v l at, r.once x);
      owner = λ j u e. ⊎_elim (λ old. owners j u old) (λ (is : new ≡ u). λ owns. absurd (true≢false (sym owns ∙ ap (λ (y : Known). y.owns) (sym is)))) (at_snoc vs new u j e);
      passes = omega (arith, total_snoc guest vs new, total_set guest views port v l at, was, r.passes);
      spent = λ j u e. ⊎_elim (λ old. spents j u old) (λ (is : new ≡ u). λ dead. ap (λ (y : Known). y.taken) (sym is)) (at_snoc vs new u j e);
    }

-- a pass is joined again
merge_racked : (seat n m from : ℕ) (ns : List ℕ) (views : List Known) (port : ℕ) (v : Known) (other : ℕ) (w : Known) → Racked seat n m from ns views → get_elem? views port ≡ some v → v.owns ≡ true
    → (other ≡ port → ⊥) → get_elem? views other ≡ some w → w.owns ≡ false → w.live ≡ true
    → Racked seat n (m - 1) from ns (set (set views port (known true v.count (v.passes - 1) true (v.taken ++ w.taken))) other (known false 0 0 false []))
merge_racked seat n m from ns views port v other w r at may apart there guest' alive =
    let b = known true v.count (v.passes - 1) true (v.taken ++ w.taken) in
    let s = known false 0 0 false [] in
    let mine = r.owner port v at may in
    let vs = set views port b in
    let still : get_elem? vs other ≡ some w = set_else views port other b apart ∙ there in
    let owners : Each (Owns seat n (m - 1)) vs = each_set (Owns seat n (m - 1)) views port b (λ _. (mine.0, refl, mine.2, ap (λ k. k - 1) mine.3)) (λ j u apart' e owns. absurd (apart' ((r.owner j u e owns).0 ∙ sym mine.0))) in
    let spents : Each Spent vs = each_set Spent views port b (λ dead. absurd (true≢false dead)) (λ j u apart' e. r.spent j u e) in
    let was : guest v ≡ 0 = rw (may, mine.1) refl in
    let one : guest w ≡ 1 = rw (alive, guest') refl in
    record {
      whole = r.whole;
      order = r.order;
      once = λ x. omega (arith, times-append x v.taken w.taken, total_set (took x) vs other w s still, total_set (took x) views port v b at, r.once x);
      owner = each_set (Owns seat n (m - 1)) vs other s (λ owns. absurd (true≢false (sym owns))) (λ j u _ e. owners j u e);
      passes = omega (arith, total_set guest vs other w s still, total_set guest views port v b at, was, one, r.passes);
      spent = each_set Spent vs other s (λ _. refl) (λ j u _ e. spents j u e);
    }

module _ {T : Type 0} (f : T → ℕ) where
  pub forks : (port : ℕ) (v : Known) → v.owns ≡ true → Forks (Rule f) port v (known true v.count (v.passes + 1) true v.taken) (known false 0 0 true [])
  forks port v may items views h at = (h.0, h.1, h.2 + 1, h.3, fork_racked h.0 h.1 h.2 h.3 (map f items) views port v h.4 at may)

  pub merges : (port : ℕ) (v : Known) (other : ℕ) (w : Known) → v.owns ≡ true → w.owns ≡ false → w.live ≡ true
      → Merges (Rule f) port v other w (known true v.count (v.passes - 1) true (v.taken ++ w.taken)) (known false 0 0 false [])
  merges port v other w may guest' alive items views h at two at' =
      let b = known true v.count (v.passes - 1) true (v.taken ++ w.taken) in
      let there : get_elem? views other ≡ some w = ⊎_elim (λ x. absurd (two x.0)) (λ x. x.1) (at_set views port other b w at') in
      (h.0, h.1, h.2 - 1, h.3, merge_racked h.0 h.1 h.2 h.3 (map f items) views port v other w h.4 at may two there guest' alive)

  pub begins : Rule f [] (known true 0 0 true [] ∷ [])
  begins = (
    0,
    0,
    0,
    0,
    record {
      whole = refl;
      order = refl;
      once = λ x. refl;
      owner = first_only (Owns 0 0 0) (known true 0 0 true []) (λ _. (refl, refl, refl, refl));
      passes = refl;
      spent = first_only Spent (known true 0 0 true []) (λ dead. absurd (true≢false dead));
    },
  )
