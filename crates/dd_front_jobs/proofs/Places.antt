-- The places of a code, and what stands there.
use Rattle.std.proofs.Common.{◌≡◌, ℕ, zero, suc, ◌+◌, ◌-◌, ◌*◌, ◌/◌, ◌%◌, ◌<◌, ◌++◌, get_or, refl, sym, ap, ◌∙◌, subst, arith}
use Rattle.std.proofs.lemmas.List.{get_or_append_left, append_assoc}
use Rattle.std.specs.List.{flat_map}
use Rattle.dd_model.specs.declared.index.Index.{Index}
use Rattle.dd_model.specs.declared.index.Index.TheVariants.{Zero, One, Two}
use Rattle.dd_model.specs.Symbol.{Symbol, IsTable, IsChamber, op}
use Rattle.dd_model.specs.Code.{count_from, images, code, all_images}
use Rattle.dd_front_jobs.specs.Places.{place}
use Rattle.dd_model.proofs.Codes.{length-flat_images}
use Rattle.dd_model.specs.Indices.{index_at}

pub images_at : (s : Symbol) (k n t : ℕ) → t < 3 * n → get_or (flat_map (images s) (count_from k n)) t 0 ≡ op s (index_at (t % 3)) (k + t / 3)
images_at s k zero t low = absurd (omega arith)
images_at s k (suc n) zero low = let e : k + 0 / 3 ≡ k = omega arith in ap (op s Zero) (sym e)
images_at s k (suc n) (suc zero) low = let e : k + 1 / 3 ≡ k = omega arith in ap (op s One) (sym e)
images_at s k (suc n) (suc (suc zero)) low = let e : k + 2 / 3 ≡ k = omega arith in ap (op s Two) (sym e)
images_at s k (suc n) (suc (suc (suc t))) low =
    let r : t % 3 ≡ suc (suc (suc t)) % 3 = omega arith in
    let e : k + 1 + t / 3 ≡ k + suc (suc (suc t)) / 3 = omega arith in
    images_at s (k + 1) n t (omega arith) ∙ ap (λ j. op s (index_at j) (k + 1 + t / 3)) r ∙ ap (op s (index_at (suc (suc (suc t)) % 3))) e

-- the number at a place below three times the size
pub code_at : (s : Symbol) (t : ℕ) → t < 3 * s.size → get_or (code s) t 0 ≡ op s (index_at (t % 3)) (1 + t / 3)
code_at s t low =
    let e : code s ≡ all_images s ++ (s.m01 ++ s.m12) = append_assoc (all_images s) s.m01 s.m12 in
    let size = length-flat_images s 1 s.size in
    ap (λ xs. get_or xs t 0) e ∙ get_or_append_left (all_images s) (s.m01 ++ s.m12) 0 t (omega (arith, size)) ∙ images_at s 1 s.size t low

pub chamber_at : (s : Symbol) → IsTable s → (t : ℕ) → t < 3 * s.size → IsChamber s (get_or (code s) t 0)
chamber_at s is t low =
    subst (IsChamber s) (sym (code_at s t low)) ((is.involutions (index_at (t % 3))).within (1 + t / 3) (omega arith, omega arith))

-- the involution and the chamber of a place
pub index_of_place : (i : Index) (d : ℕ) → index_at (place i d % 3) ≡ i
index_of_place Zero d = let e : (3 * (d - 1)) % 3 ≡ 0 = omega arith in ap index_at e
index_of_place One d = let e : (3 * (d - 1) + 1) % 3 ≡ 1 = omega arith in ap index_at e
index_of_place Two d = let e : (3 * (d - 1) + 2) % 3 ≡ 2 = omega arith in ap index_at e

pub chamber_of_place : (i : Index) (d : ℕ) → place i d / 3 ≡ d - 1
chamber_of_place Zero d = omega arith
chamber_of_place One d = omega arith
chamber_of_place Two d = omega arith

-- the place of what stands at a place
pub place_of_place : (t : ℕ) → place (index_at (t % 3)) (1 + t / 3) ≡ t
place_of_place t = go (t % 3) (omega arith) refl
  where
    go : (r : ℕ) → r < 3 → t % 3 ≡ r → place (index_at (t % 3)) (1 + t / 3) ≡ t
    go zero low e = ap (λ r. place (index_at r) (1 + t / 3)) e ∙ omega arith
    go (suc zero) low e = ap (λ r. place (index_at r) (1 + t / 3)) e ∙ omega arith
    go (suc (suc zero)) low e = ap (λ r. place (index_at r) (1 + t / 3)) e ∙ omega arith
    go (suc (suc (suc r))) low e = absurd (omega arith)
