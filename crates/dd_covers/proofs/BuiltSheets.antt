-- Five lists that are pushed are those of the sheets.
use Rattle.std.proofs.Common.{◌≡◌, ℕ, ◌*◌, List, length, ap, ◌∙◌}
use Rattle.dd_model.specs.declared.index.Index.{Index}
use Rattle.dd_model.specs.declared.index.Index.TheVariants.{Zero, One, Two}
use Rattle.dd_model.specs.declared.pair.Pair.TheVariants.{Tile, Vertex}
use Rattle.dd_model.specs.Symbol.{Symbol, IsTable}
use Rattle.dd_model.proofs.Codes.{items_again}
use Rattle.dd_symbol.specs.Building.{listed}
use Rattle.dd_covers.specs.Sheets.{all_sheets, alike, all_images_in, sheets_of, degrees_of}
use Rattle.dd_covers.proofs.SheetLemmas.{lengths-sheets}

pub listed-sheets : {s t : Symbol} → t ≡ s → IsTable s → (k : ℕ) (x : Index → ℕ → ℕ) {s0 s1 s2 m01 m12 : List ℕ}
    → s0 ≡ all_images_in t k (x Zero) Zero → s1 ≡ all_images_in t k (x One) One → s2 ≡ all_images_in t k (x Two) Two
    → m01 ≡ all_sheets k (alike (degrees_of t Tile)) → m12 ≡ all_sheets k (alike (degrees_of t Vertex)) → listed s0 s1 s2 m01 m12 ≡ sheets_of s k x
listed-sheets {s} {t} same table k x {s0} {s1} {s2} {m01} {m12} a b c d e =
    let f0 : s0 ≡ all_images_in s k (x Zero) Zero = a ∙ ap (λ u. all_images_in u k (x Zero) Zero) same in
    let f1 : s1 ≡ all_images_in s k (x One) One = b ∙ ap (λ u. all_images_in u k (x One) One) same in
    let f2 : s2 ≡ all_images_in s k (x Two) Two = c ∙ ap (λ u. all_images_in u k (x Two) Two) same in
    let g01 : m01 ≡ all_sheets k (alike s.m01) = d ∙ ap (λ u. all_sheets k (alike (degrees_of u Tile))) same ∙ ap (λ m. all_sheets k (alike m)) (items_again s.m01 s.size table.m01_length) in
    let g12 : m12 ≡ all_sheets k (alike s.m12) = e ∙ ap (λ u. all_sheets k (alike (degrees_of u Vertex))) same ∙ ap (λ m. all_sheets k (alike m)) (items_again s.m12 s.size table.m12_length) in
    let size : length s0 ≡ k * s.size = ap length f0 ∙ lengths-sheets s k x Zero in
    λ i. record { size = size i; s0 = f0 i; s1 = f1 i; s2 = f2 i; m01 = g01 i; m12 = g12 i }
