-- The beginning of each least code is a first-visit prefix.
use Rattle.std.proofs.Common.{◌≡◌, ℕ, zero, suc, ◌+◌, ◌-◌, ◌*◌, ◌/◌, ◌<◌, ◌≤◌, max, List, [], ◌∷◌, ◌++◌, length, length-take-le, get_or, take, sym, ap, ◌∙◌, subst, ⊎_elim, arith}
use Rattle.std.proofs.lemmas.Bool.{cases_lt, cases_eq}
use Rattle.std.proofs.lemmas.List.{get_or-take, take-take, take-append-le, append_assoc}
use Rattle.std.specs.List.{Contains}
use Rattle.dd_model.specs.declared.index.Index.{Index}
use Rattle.dd_model.specs.Symbol.{Symbol, IsChamber, op, operation}
use Rattle.dd_model.specs.Code.{code, all_images}
use Rattle.dd_model.specs.FirstVisit.{Grows}
use Rattle.dd_model.proofs.Codes.{length-flat_images, length-code}
use Rattle.dd_model.proofs.FirstVisits.{IsMet, met_all}
use Rattle.dd_model.proofs.LeastForms.{least_first_visit}
use Rattle.dd_model.proofs.Lists.{Contains-head, Contains-later}
use Rattle.dd_front_jobs.specs.Places.{place}
use Rattle.dd_front_jobs.specs.Orderly.{IsOrderly}
use Rattle.dd_front_jobs.specs.FirstVisit.{greatest, image_in, IsFirstVisitPrefix}
use Rattle.dd_front_jobs.proofs.Places.{code_at, chamber_at, index_of_place, chamber_of_place}
use Rattle.dd_front_jobs.proofs.Growth.{code_grows}

-- the image of a chamber in a code
pub image_at : (s : Symbol) (i : Index) (d : ℕ) → 1 ≤ d → place i d < 3 * s.size → get_or (code s) (place i d) 0 ≡ op s i d
image_at s i d low h =
    let q = chamber_of_place i d in
    let c : 1 + place i d / 3 - 1 ≡ d - 1 = omega arith in
    code_at s (place i d) h ∙ ap (λ j. op s j (1 + place i d / 3)) (index_of_place i d) ∙ ap (λ k. get_or (operation s i) k 0) c

place_inside : (s : Symbol) (i : Index) (d : ℕ) → 1 ≤ d → place i d < 3 * s.size → IsChamber s d
place_inside s i d low h = let q = chamber_of_place i d in (low, omega arith)

-- a number that stands in a list is at most the greatest
pub le_greatest : (xs : List ℕ) (t : ℕ) → t < length xs → get_or xs t 0 ≤ greatest xs
le_greatest [] t low = absurd (omega arith)
le_greatest (x ∷ xs) zero low = omega arith
le_greatest (x ∷ xs) (suc t) low = let rest = le_greatest xs t (omega arith) in omega arith

-- Where numbers grow by at most one, each one up to the greatest stands among them.
pub stands : (m : ℕ) (xs : List ℕ) (v : ℕ) → 1 ≤ m → Grows m xs → m < v → v ≤ max m (greatest xs) → Contains xs v
stands m [] v pos grows low high = absurd (omega arith)
stands m (x ∷ xs) v pos grows low high =
    let first = grows.0 in
    ⊎_elim
    (λ here. subst (Contains (x ∷ xs)) here (Contains-head x xs))
    (λ other. Contains-later x v xs (stands (max m x) xs v (omega arith) grows.1 (omega arith) (omega arith)))
    (cases_eq x v)

pub grows_take : (m : ℕ) (xs : List ℕ) (k : ℕ) → Grows m xs → Grows m (take k xs)
grows_take m xs zero grows = tt
grows_take m [] (suc k) grows = tt
grows_take m (x ∷ xs) (suc k) grows = (grows.0, grows_take (max m x) xs k grows.1)

front_grows : (s : Symbol) → IsOrderly s → (k : ℕ) → k ≤ 3 * s.size → Grows 1 (take k (code s))
front_grows s is k low =
    let images = all_images s in
    let rest = s.m01 ++ s.m12 in
    let size : length images ≡ 3 * s.size = length-flat_images s 1 s.size in
    let front : take k (code s) ≡ take k images = ap (take k) (append_assoc images s.m01 s.m12) ∙ take-append-le k images rest (omega arith) in
    subst (Grows 1) (sym front) (grows_take 1 images k (least_first_visit s is.table is.connected is.least))

-- The images of the first k chambers lead out of them.
pub leads_out : (s : Symbol) → IsOrderly s → (k : ℕ) → 1 ≤ k → k < s.size → k + 1 ≤ greatest (take (3 * k) (code s))
leads_out s is k pos low =
    let whole = length-code s is.table in
    let size : length (take (3 * k) (code s)) ≡ 3 * k = length-take-le (3 * k) (code s) (omega arith) in
    ⊎_elim
    (λ less.
    let met : IsMet s (k + 1) k = record {
      met = λ i d one high.
          let q = chamber_of_place i d in
          let t : place i d < 3 * k = place_low i d k one (omega arith) in
          let e : get_or (take (3 * k) (code s)) (place i d) 0 ≡ op s i d = get_or-take (3 * k) (code s) (place i d) 0 t ∙ image_at s i d one (omega arith) in
          let bound = le_greatest (take (3 * k) (code s)) (place i d) (omega arith) in
          omega arith;
    } in
    let all = met_all s k is.table is.connected pos met s.size (omega arith, omega arith) in
    absurd (omega arith))
    (λ more. more)
    (cases_lt (greatest (take (3 * k) (code s))) (k + 1))
  where
    place_low : (i : Index) (d k : ℕ) → 1 ≤ d → d ≤ k → place i d < 3 * k
    place_low i d k one high = let q = chamber_of_place i d in omega arith

-- The beginning of a least code is a first-visit prefix.
pub front_first_visit : (s : Symbol) → IsOrderly s → (m : ℕ) → m ≤ 3 * s.size → IsFirstVisitPrefix s.size (take m (code s))
front_first_visit s is m low =
    let xs = code s in
    let whole = length-code s is.table in
    let size : length (take m xs) ≡ m = length-take-le m xs (omega arith) in
    let at : (t : ℕ) → t < m → get_or (take m xs) t 0 ≡ get_or xs t 0 = λ t h. get_or-take m xs t 0 h in
    let image : (i : Index) (d : ℕ) → 1 ≤ d → place i d < m → image_in (take m xs) i d ≡ op s i d = λ i d one h. at (place i d) h ∙ image_at s i d one (omega arith) in
    record {
      within = λ t h. subst (λ x. (1 ≤ x) × (x ≤ s.size)) (sym (at t (omega arith))) (chamber_at s is.table t (omega arith));
      short = omega arith;
      involutive = λ i d told again.
          let hd = told.1 in
          let he = again.1 in
          let e : image_in (take m xs) i d ≡ op s i d = image i d told.0 (omega arith) in
          let f = image i (image_in (take m xs) i d) again.0 (omega arith) in
          f ∙ ap (op s i) e ∙ (is.table.involutions i).involutive d (place_inside s i d told.0 (omega arith));
      distinct = λ i d e told other apart same.
          let hd = told.1 in
          let he = other.1 in
          let inv = is.table.involutions i in
          let images : op s i d ≡ op s i e = sym (image i d told.0 (omega arith)) ∙ same ∙ image i e other.0 (omega arith) in
          apart (sym (inv.involutive d (place_inside s i d told.0 (omega arith))) ∙ ap (op s i) images ∙ inv.involutive e (place_inside s i e other.0 (omega arith)));
      next = λ t h.
          let grows = code_grows s is t (omega arith) in
          let e = at t (omega arith) in
          let f : greatest (take t (take m xs)) ≡ greatest (take t xs) = ap greatest (take-take t m xs (omega arith)) in
          omega arith;
      reached = λ k pos below h.
          let f : take (3 * k) (take m xs) ≡ take (3 * k) xs = take-take (3 * k) m xs (omega arith) in
          let out = leads_out s is k pos below in
          subst (λ zs. Contains zs (k + 1)) (sym f) (stands 1 (take (3 * k) xs) (k + 1) (omega arith) (front_grows s is (3 * k) (omega arith)) (omega arith) (omega arith));
    }
