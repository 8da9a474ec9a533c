-- What stands at a place of a code.
use Rattle.std.proofs.Common.{◌≡◌, ℕ, zero, suc, ◌+◌, ◌-◌, ◌*◌, ◌/◌, ◌%◌, ◌<◌, ◌≤◌, ◌++◌, length, get_or, ap, ◌∙◌, arith}
use Rattle.std.proofs.lemmas.List.{get_or_append_left, get_or-append_right, length-append}
use Rattle.std.specs.List.{flat_map}
use Rattle.dd_model.specs.Symbol.{Symbol}
use Rattle.dd_model.specs.Code.{count_from, images, all_images, code}
use Rattle.dd_model.proofs.Codes.{length-flat_images}

-- the images of the chambers from k on, three for each
pub images_at : (s : Symbol) (k n t : ℕ) → t < 3 * n → get_or (flat_map (images s) (count_from k n)) t 0 ≡ get_or (images s (t / 3 + k)) (t % 3) 0
images_at s k zero t low = absurd (omega arith)
images_at s k (suc n) zero low = let e : k ≡ 0 / 3 + k = omega arith in ap (λ d. get_or (images s d) 0 0) e
images_at s k (suc n) (suc zero) low = let e : k ≡ 1 / 3 + k = omega arith in ap (λ d. get_or (images s d) 1 0) e
images_at s k (suc n) (suc (suc zero)) low = let e : k ≡ 2 / 3 + k = omega arith in ap (λ d. get_or (images s d) 2 0) e
images_at s k (suc n) (suc (suc (suc t))) low =
    let r : t % 3 ≡ suc (suc (suc t)) % 3 = omega arith in
    let e : t / 3 + (k + 1) ≡ suc (suc (suc t)) / 3 + k = omega arith in
    images_at s (k + 1) n t (omega arith) ∙ ap (λ j. get_or (images s (t / 3 + (k + 1))) j 0) r ∙ ap (λ d. get_or (images s d) (suc (suc (suc t)) % 3) 0) e

-- a place of the images
pub among_images : (s : Symbol) (t : ℕ) → length s.m01 ≡ s.size → t < 3 * s.size → get_or (code s) t 0 ≡ get_or (images s (t / 3 + 1)) (t % 3) 0
among_images s t tiles low =
    let size = length-flat_images s 1 s.size in
    let front = length-append (all_images s) s.m01 in
    get_or_append_left (all_images s ++ s.m01) s.m12 0 t (omega arith) ∙ get_or_append_left (all_images s) s.m01 0 t (omega (arith, size)) ∙ images_at s 1 s.size t low

-- a place of the degrees of tiles
pub among_tiles : (s : Symbol) (t : ℕ) → length s.m01 ≡ s.size → 3 * s.size ≤ t → t < 4 * s.size → get_or (code s) t 0 ≡ get_or s.m01 (t - 3 * s.size) 0
among_tiles s t tiles low high =
    let size = length-flat_images s 1 s.size in
    let front = length-append (all_images s) s.m01 in
    get_or_append_left (all_images s ++ s.m01) s.m12 0 t (omega arith) ∙ get_or-append_right (all_images s) s.m01 (3 * s.size) t 0 size low

-- a place of the degrees of vertices
pub among_vertices : (s : Symbol) (t : ℕ) → length s.m01 ≡ s.size → 4 * s.size ≤ t → get_or (code s) t 0 ≡ get_or s.m12 (t - 4 * s.size) 0
among_vertices s t tiles low =
    let size = length-flat_images s 1 s.size in
    let front = length-append (all_images s) s.m01 in
    get_or-append_right (all_images s ++ s.m01) s.m12 (4 * s.size) t 0 (omega arith) low
