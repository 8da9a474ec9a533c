-- Along links that join numbers, demands are met by one value a link, if over each class of joined numbers they add to nothing.
use Rattle.std.proofs.Common.{◌≡◌, ℕ, ◌+◌, ◌-◌, ◌*◌, ◌%◌, ◌<◌, ◌≤◌, Bool, true, false, cond, eqb, List, [], ◌∷◌, refl, sym, ap, ◌∙◌, ⊎_elim, arith}
use Rattle.std.proofs.lemmas.Bool.{cases_eq, eq-eqb, ne_eqb}
use Rattle.std.proofs.lemmas.List.Sums.{sum_by-cons}
use Rattle.std.proofs.lemmas.Nat.{mod_below}
use Rattle.std.specs.List.{Contains, sum_by}
use Rattle.std.specs.List.Sorted.{IsStrictlyIncreasing}
use Rattle.dd_model.proofs.CellLists.{increasing-head, increasing-tail}
use Rattle.dd_model.proofs.Lists.{Contains-none, Contains-head, Contains-later, Contains-cases}
use Rattle.dd_cells.proofs.CellSums.{sum_by_listed, sum_by_both, sum_by_none}
use Rattle.dd_covers.proofs.Congruences.{AreCongruent, mod_congruent}
use Rattle.dd_covers.proofs.Labels.{Link, labels}

-- the values at the links that lead to a number, and at those that lead from it
abbrev pub coming : List Link → List ℕ → ℕ → ℕ
coming [] zs v = 0
coming (e ∷ es) [] v = 0
coming (e ∷ es) (z ∷ zs) v = cond (eqb e.to v) z 0 + coming es zs v

abbrev pub going : List Link → List ℕ → ℕ → ℕ
going [] zs v = 0
going (e ∷ es) [] v = 0
going (e ∷ es) (z ∷ zs) v = cond (eqb e.from v) z 0 + going es zs v

-- a value below k for each link, and none where the links after it have joined its ends
abbrev pub AreValues : ℕ → List Link → List ℕ → Type 0
AreValues k [] [] = Unit {0}
AreValues k [] (z ∷ zs) = ⊥
AreValues k (e ∷ es) [] = ⊥
AreValues k (e ∷ es) (z ∷ zs) = (z < k) × (labels es e.from ≡ labels es e.to → z ≡ 0) × AreValues k es zs

-- the sum of the demands over a class
abbrev class_sum : List Link → (ℕ → ℕ) → List ℕ → ℕ → ℕ
class_sum es b vs q = sum_by (λ w. cond (eqb (labels es w) q) (b w) 0) vs

pub record AreMet (k : ℕ) (es : List Link) (vs : List ℕ) (b : ℕ → ℕ) : Type 0 where
  pub values : List ℕ
  pub are : AreValues k es values
  pub met : (v : ℕ) → Contains vs v → AreCongruent k (b v + coming es values v) (going es values v)

-- one member has a value of its own
pub one_hit : (r v : ℕ) (vs : List ℕ) → IsStrictlyIncreasing vs → Contains vs r → (g : ℕ → ℕ) → sum_by (λ w. cond (eqb r w) (g w) 0) vs ≡ g r
one_hit r v [] up here g = absurd (Contains-none r here)
one_hit r v (x ∷ xs) up here g =
    let split = sum_by-cons (λ w. cond (eqb r w) (g w) 0) x xs in
    ⊎_elim
    (λ at.
    let own : cond (eqb r x) (g x) 0 ≡ g r = ap (λ t. cond t (g x) 0) (eq-eqb r x (sym at)) ∙ ap g at in
    let rest = sum_by_none (λ w. cond (eqb r w) (g w) 0) xs
    (λ w later. let above = increasing-head x w xs up later in ap (λ t. cond t (g w) 0) (ne_eqb r w (λ e. absurd (omega arith)))) in
    omega arith)
    (λ later.
    let above = increasing-head x r xs up later in
    let none : cond (eqb r x) (g x) 0 ≡ 0 = ap (λ t. cond t (g x) 0) (ne_eqb r x (λ e. absurd (omega arith))) in
    let rest = one_hit r v xs (increasing-tail x xs up) later g in
    omega arith)
    (Contains-cases x r xs here)

-- a demand that is raised at one number
raised : (es : List Link) (vs : List ℕ) → IsStrictlyIncreasing vs → (r n : ℕ) → Contains vs r → (b : ℕ → ℕ) (q : ℕ)
    → class_sum es (λ w. b w + cond (eqb r w) n 0) vs q ≡ class_sum es b vs q + cond (eqb (labels es r) q) n 0
raised es vs up r n here b q =
    let f : ℕ → ℕ = λ w. cond (eqb (labels es w) q) (b w) 0 in
    let g : ℕ → ℕ = λ w. cond (eqb (labels es w) q) n 0 in
    let each : (w : ℕ) → Contains vs w → cond (eqb (labels es w) q) (b w + cond (eqb r w) n 0) 0 ≡ f w + cond (eqb r w) (g w) 0 = λ w _.
    parts (eqb (labels es w) q) (eqb r w) (b w) n in
    sum_by_listed (λ w. cond (eqb (labels es w) q) (b w + cond (eqb r w) n 0) 0) (λ w. f w + cond (eqb r w) (g w) 0) vs each
    ∙ sum_by_both f (λ w. cond (eqb r w) (g w) 0) vs ∙ ap (λ z. sum_by f vs + z) (one_hit r 0 vs up here g) where
      parts : (s t : Bool) (x n : ℕ) → cond s (x + cond t n 0) 0 ≡ cond s x 0 + cond t (cond s n 0) 0
      parts true true x n = refl
      parts true false x n = refl
      parts false true x n = refl
      parts false false x n = refl

-- two classes that a link joins
merged_sum : (e : Link) (es : List Link) (vs : List ℕ) (b : ℕ → ℕ) → (labels es e.from ≡ labels es e.to → ⊥)
    → class_sum (e ∷ es) b vs (labels es e.to) ≡ class_sum es b vs (labels es e.from) + class_sum es b vs (labels es e.to)
merged_sum e es vs b apart =
    let a = labels es e.from in
    let c = labels es e.to in
    sum_by_listed (λ w. cond (eqb (labels (e ∷ es) w) c) (b w) 0) (λ w. cond (eqb (labels es w) a) (b w) 0 + cond (eqb (labels es w) c) (b w) 0) vs
    (λ w _. ⊎_elim
    (λ at.
    let now : labels (e ∷ es) w ≡ c = ap (λ t. cond t c (labels es w)) (eq-eqb (labels es w) a at) in
    let one = ap (λ t. cond t (b w) 0) (eq-eqb (labels (e ∷ es) w) c now) in
    let two = ap (λ t. cond t (b w) 0) (eq-eqb (labels es w) a at) in
    let three : cond (eqb (labels es w) c) (b w) 0 ≡ 0 = ap (λ t. cond t (b w) 0) (ne_eqb (labels es w) c (λ x. apart (sym at ∙ x))) in
    omega arith)
    (λ other.
    let now : labels (e ∷ es) w ≡ labels es w = ap (λ t. cond t c (labels es w)) (ne_eqb (labels es w) a other) in
    let one = ap (λ z. cond (eqb z c) (b w) 0) now in
    let two : cond (eqb (labels es w) a) (b w) 0 ≡ 0 = ap (λ t. cond t (b w) 0) (ne_eqb (labels es w) a other) in
    omega arith)
    (cases_eq (labels es w) a))
    ∙ sum_by_both (λ w. cond (eqb (labels es w) a) (b w) 0) (λ w. cond (eqb (labels es w) c) (b w) 0) vs

-- a class that the link does not change
other_sum : (e : Link) (es : List Link) (vs : List ℕ) (b : ℕ → ℕ) (q : ℕ) → (q ≡ labels es e.from → ⊥) → (q ≡ labels es e.to → ⊥)
    → class_sum (e ∷ es) b vs q ≡ class_sum es b vs q
other_sum e es vs b q na nc =
    let a = labels es e.from in
    let c = labels es e.to in
    sum_by_listed (λ w. cond (eqb (labels (e ∷ es) w) q) (b w) 0) (λ w. cond (eqb (labels es w) q) (b w) 0) vs
    (λ w _. ⊎_elim
    (λ at.
    let now : labels (e ∷ es) w ≡ c = ap (λ t. cond t c (labels es w)) (eq-eqb (labels es w) a at) in
    let one : cond (eqb (labels (e ∷ es) w) q) (b w) 0 ≡ 0 = ap (λ t. cond t (b w) 0) (ne_eqb (labels (e ∷ es) w) q (λ x. nc (sym x ∙ now))) in
    let two : cond (eqb (labels es w) q) (b w) 0 ≡ 0 = ap (λ t. cond t (b w) 0) (ne_eqb (labels es w) q (λ x. na (sym x ∙ at))) in
    omega arith)
    (λ other. ap (λ z. cond (eqb z q) (b w) 0) (ap (λ t. cond t c (labels es w)) (ne_eqb (labels es w) a other)))
    (cases_eq (labels es w) a))

-- where the ends are joined already, labels stay
same_labels : (e : Link) (es : List Link) → labels es e.from ≡ labels es e.to → (w : ℕ) → labels (e ∷ es) w ≡ labels es w
same_labels e es same w =
    ⊎_elim
    (λ at. ap (λ t. cond t (labels es e.to) (labels es w)) (eq-eqb (labels es w) (labels es e.from) at) ∙ sym same ∙ sym at)
    (λ other. ap (λ t. cond t (labels es e.to) (labels es w)) (ne_eqb (labels es w) (labels es e.from) other))
    (cases_eq (labels es w) (labels es e.from))

abbrev pub AreWithin : List Link → List ℕ → Type 0
AreWithin es vs = (e : Link) → Contains es e → Contains vs e.from × Contains vs e.to

no_value : (t : Bool) → ◌≡◌ {A = ℕ} (cond t 0 0) 0
no_value true = refl
no_value false = refl

abbrev pub AddToNone : ℕ → List Link → List ℕ → (ℕ → ℕ) → Type 0
AddToNone k es vs b = (v : ℕ) → Contains vs v → AreCongruent k (class_sum es b vs (labels es v)) 0

turned_test : (a b n : ℕ) → cond (eqb a b) n 0 ≡ cond (eqb b a) n 0
turned_test a b n =
    ⊎_elim
    (λ e. ap (λ t. cond t n 0) (eq-eqb a b e) ∙ sym (ap (λ t. cond t n 0) (eq-eqb b a (sym e))))
    (λ other. ap (λ t. cond t n 0) (ne_eqb a b other) ∙ sym (ap (λ t. cond t n 0) (ne_eqb b a (λ e. other (sym e)))))
    (cases_eq a b)

-- the demands that a value leaves to the links after it
abbrev left_over : ℕ → Link → ℕ → (ℕ → ℕ) → ℕ → ℕ
left_over k e z b v = b v + cond (eqb e.from v) (k - z) 0 + cond (eqb e.to v) z 0

left_sum : (k : ℕ) (e : Link) (es : List Link) (vs : List ℕ) → IsStrictlyIncreasing vs → Contains vs e.from → Contains vs e.to → (z : ℕ) (b : ℕ → ℕ) (q : ℕ)
    → class_sum es (left_over k e z b) vs q ≡ class_sum es b vs q + cond (eqb (labels es e.from) q) (k - z) 0 + cond (eqb (labels es e.to) q) z 0
left_sum k e es vs up hf ht z b q =
    raised es vs up e.to z ht (λ w. b w + cond (eqb e.from w) (k - z) 0) q ∙ ap (λ n. n + cond (eqb (labels es e.to) q) z 0) (raised es vs up e.from (k - z) hf b q)

-- they add to nothing over each class
left_none : (k : ℕ) → 1 ≤ k → (e : Link) (es : List Link) (vs : List ℕ) → IsStrictlyIncreasing vs → Contains vs e.from → Contains vs e.to → (b : ℕ → ℕ)
    → (labels es e.from ≡ labels es e.to → ⊥) → AddToNone k (e ∷ es) vs b
    → AddToNone k es vs (left_over k e (class_sum es b vs (labels es e.from) % k) b)
left_none k some e es vs up hf ht b apart none v here =
    let a = labels es e.from in
    let c = labels es e.to in
    let q = labels es v in
    let total = class_sum es b vs a in
    let z = total % k in
    let below = mod_below total k some in
    let own = mod_congruent k total in
    let sum = left_sum k e es vs up hf ht z b q in
    let po = own.equal in
    ⊎_elim
    (λ at.
    let one : cond (eqb a q) (k - z) 0 ≡ k - z = ap (λ t. cond t (k - z) 0) (eq-eqb a q (sym at)) in
    let two : cond (eqb c q) z 0 ≡ 0 = ap (λ t. cond t z 0) (ne_eqb c q (λ x. apart (sym at ∙ sym x))) in
    let same = ap (class_sum es b vs) at in
    let up_k : own.up * k + k ≡ (own.up + 1) * k = omega arith in
    record { up = own.down; down = own.up + 1; equal = omega arith })
    (λ na. ⊎_elim
    (λ at.
    let one : cond (eqb a q) (k - z) 0 ≡ 0 = ap (λ t. cond t (k - z) 0) (ne_eqb a q (λ x. na (sym x))) in
    let two : cond (eqb c q) z 0 ≡ z = ap (λ t. cond t z 0) (eq-eqb c q (sym at)) in
    let same = ap (class_sum es b vs) at in
    let now : labels (e ∷ es) v ≡ c = ap (λ t. cond t c (labels es v)) (ne_eqb (labels es v) a na) ∙ at in
    let old = none v here in
    let merged = ap (class_sum (e ∷ es) b vs) now ∙ merged_sum e es vs b apart in
    let p = old.equal in
    record { up = old.up + own.up; down = old.down + own.down; equal = omega arith })
    (λ nc.
    let one : cond (eqb a q) (k - z) 0 ≡ 0 = ap (λ t. cond t (k - z) 0) (ne_eqb a q (λ x. na (sym x))) in
    let two : cond (eqb c q) z 0 ≡ 0 = ap (λ t. cond t z 0) (ne_eqb c q (λ x. nc (sym x))) in
    let now : labels (e ∷ es) v ≡ q = ap (λ t. cond t c (labels es v)) (ne_eqb (labels es v) a na) in
    let old = none v here in
    let other = ap (class_sum (e ∷ es) b vs) now ∙ other_sum e es vs b q na nc in
    let p = old.equal in
    record { up = old.up; down = old.down; equal = omega arith })
    (cases_eq q c))
    (cases_eq q a)

pub solve : (k : ℕ) → 1 ≤ k → (es : List Link) (vs : List ℕ) → IsStrictlyIncreasing vs → AreWithin es vs → (b : ℕ → ℕ) → AddToNone k es vs b → AreMet k es vs b
solve k some [] vs up within b none = record {
  values = [];
  are = tt;
  met = λ v here.
      let old = none v here in
      let e = sum_by_listed (λ w. cond (eqb w v) (b w) 0) (λ w. cond (eqb v w) (b w) 0) vs (λ w _. turned_test w v (b w)) in
      let hit = one_hit v 0 vs up here b in
      let p = old.equal in
      record { up = old.up; down = old.down; equal = omega arith };
}
solve k some (e ∷ es) vs up within b none =
    let hf = (within e (Contains-head e es)).0 in
    let ht = (within e (Contains-head e es)).1 in
    let after : AreWithin es vs = λ x later. within x (Contains-later e x es later) in
    ⊎_elim
    (λ same.
    let rest = solve k some es vs up after b (λ v here.
    let old = none v here in
    let labels_same = same_labels e es same in
    let sums : class_sum (e ∷ es) b vs (labels (e ∷ es) v) ≡ class_sum es b vs (labels es v) =
    ap (class_sum (e ∷ es) b vs) (labels_same v)
    ∙ sum_by_listed (λ w. cond (eqb (labels (e ∷ es) w) (labels es v)) (b w) 0) (λ w. cond (eqb (labels es w) (labels es v)) (b w) 0) vs (λ w _. ap (λ z. cond (eqb z (labels es v)) (b w) 0) (labels_same w)) in
    let p = old.equal in
    record { up = old.up; down = old.down; equal = omega arith }) in
    record {
      values = 0 ∷ rest.values;
      are = (some, (λ _. refl), rest.are);
      met = λ v here.
          let m = rest.met v here in
          let p = m.equal in
          let x = no_value (eqb e.to v) in
          let y = no_value (eqb e.from v) in
          record { up = m.up; down = m.down; equal = omega arith };
    })
    (λ apart.
    let z = class_sum es b vs (labels es e.from) % k in
    let below = mod_below (class_sum es b vs (labels es e.from)) k some in
    let rest = solve k some es vs up after (left_over k e z b) (left_none k some e es vs up hf ht b apart none) in
    record {
      values = z ∷ rest.values;
      are = (below, (λ same. absurd (apart same)), rest.are);
      met = λ v here.
          let m = rest.met v here in
          let p = m.equal in
          ⊎_elim
          (λ at.
          let one : cond (eqb e.from v) (k - z) 0 ≡ k - z = ap (λ t. cond t (k - z) 0) (eq-eqb e.from v at) in
          let two : cond (eqb e.from v) z 0 ≡ z = ap (λ t. cond t z 0) (eq-eqb e.from v at) in
          record { up = m.up + 1; down = m.down; equal = omega arith })
          (λ other.
          let one : cond (eqb e.from v) (k - z) 0 ≡ 0 = ap (λ t. cond t (k - z) 0) (ne_eqb e.from v other) in
          let two : cond (eqb e.from v) z 0 ≡ 0 = ap (λ t. cond t z 0) (ne_eqb e.from v other) in
          record { up = m.up; down = m.down; equal = omega arith })
          (cases_eq e.from v);
    })
    (cases_eq (labels es e.from) (labels es e.to))
