-- The parts of two tables as one: their moves and their entries.
use Rattle.std.proofs.Common.{◌≡◌, ℕ, ◌*◌, ◌/◌, ◌%◌, ◌<◌, ◌≤◌, List, length, None, get_or, sym, ap, ◌∙◌, arith}
use Rattle.std.proofs.Math.Nat.{mul_comm}
use Rattle.std.proofs.lemmas.List.{length-map, get_or-map, ext_get_or}
use Rattle.std.proofs.lemmas.Nat.{mul-add-lt, same_from_place, div_below, div-add-mod', mod_below}
use Rattle.dd_model.specs.Code.{count_from}
use Rattle.dd_model.proofs.CountFrom.{length-count_from, get_or-count_from}
use Rattle.dd_model.specs.declared.index.Index.{Index}
use Rattle.dd_model.specs.declared.index.Index.TheVariants.{Zero, One, Two}
use Rattle.dd_model.specs.declared.pair.Pair.{Pair}
use Rattle.dd_model.specs.declared.pair.Pair.TheVariants.{Tile, Vertex, Edge}
use Rattle.dd_template.specs.declared.tables.Move.{Move}
use Rattle.dd_template.specs.declared.tables.Degree.{Degree}
use Rattle.dd_template.specs.declared.tables.Degree.TheVariants.{Fixed}
use Rattle.dd_template.specs.Table.{Table, IsPart, move, entry}
use Rattle.dd_template.specs.Entries.{entries}
use Rattle.dd_opword.specs.Composed.{part_in, composed_move, composed_degree, of_both, composed_moves, composed_entries, composed}

-- a part of the two tables as one, as an outer part of an inner one
pub record IsPartIn (outer inner : Table) (z : ℕ) : Type 0 where
  pub inner_part : ℕ
  pub outer_part : ℕ
  pub is_inner : IsPart inner inner_part
  pub is_outer : IsPart outer outer_part
  pub place : part_in outer inner_part outer_part ≡ z

pub part_within : (outer inner : Table) (y x : ℕ) → IsPart inner y → IsPart outer x → IsPart (composed outer inner) (part_in outer y x)
part_within outer inner y x hy hx =
    let l = mul-add-lt y outer.parts x inner.parts hy hx in
    let e = mul_comm outer.parts inner.parts in
    omega arith

pub parts_of_part : (outer inner : Table) (z : ℕ) → 1 ≤ outer.parts → IsPart (composed outer inner) z → IsPartIn outer inner z
parts_of_part outer inner z some h = record {
  inner_part = z / outer.parts;
  outer_part = z % outer.parts;
  is_inner = div_below z outer.parts inner.parts some h;
  is_outer = mod_below z outer.parts some;
  place = div-add-mod' z outer.parts;
}

-- the inner and the outer part of a part
inner_of : (outer : Table) (y x : ℕ) → IsPart outer x → (part_in outer y x / outer.parts ≡ y) × (part_in outer y x % outer.parts ≡ x)
inner_of outer y x hx =
    let z = part_in outer y x in
    let below = mod_below z outer.parts (omega arith) in
    same_from_place (z / outer.parts) (z % outer.parts) y x outer.parts below hx (div-add-mod' z outer.parts)

-- two parts are one
pub same_part : (outer : Table) (y x v u : ℕ) → IsPart outer x → IsPart outer u → part_in outer y x ≡ part_in outer v u → (y ≡ v) × (x ≡ u)
same_part outer y x v u hx hu same = same_from_place y x v u outer.parts hx hu same

pub length-of_both : {A : Type 0} (outer inner : Table) (f : ℕ → ℕ → A) → length (of_both outer inner f) ≡ inner.parts * outer.parts
length-of_both outer inner f =
    length-map (count_from 0 (inner.parts * outer.parts)) (λ z. f (z / outer.parts) (z % outer.parts)) ∙ length-count_from 0 (inner.parts * outer.parts)

-- what stands at a part
pub at-of_both : {A : Type 0} (outer inner : Table) (f : ℕ → ℕ → A) (default : A) (y x : ℕ) → IsPart inner y → IsPart outer x
    → get_or (of_both outer inner f) (part_in outer y x) default ≡ f y x
at-of_both {A} outer inner f default y x hy hx =
    let z = part_in outer y x in
    let n = inner.parts * outer.parts in
    let inside : z < n = part_within outer inner y x hy hx in
    let long = length-count_from 0 n in
    let at : get_or (count_from 0 n) z 0 ≡ z = get_or-count_from 0 n z inside ∙ omega arith in
    let g : ℕ → A = λ w. f (w / outer.parts) (w % outer.parts) in
    let both = inner_of outer y x hx in
    get_or-map g (count_from 0 n) z 0 default (omega arith)
    ∙ ap g at
    ∙ ap (λ w. f w (z % outer.parts)) both.0
    ∙ ap (f y) both.1

-- a move of a part
pub move-composed : (outer inner : Table) (i : Index) (y x : ℕ) → IsPart inner y → IsPart outer x
    → move (composed outer inner) i (part_in outer y x) ≡ composed_move outer inner y (move outer i x)
move-composed outer inner Zero y x hy hx = at-of_both outer inner (λ v u. composed_move outer inner v (move outer Zero u)) (record { by = None; to = 0 }) y x hy hx
move-composed outer inner One y x hy hx = at-of_both outer inner (λ v u. composed_move outer inner v (move outer One u)) (record { by = None; to = 0 }) y x hy hx
move-composed outer inner Two y x hy hx = at-of_both outer inner (λ v u. composed_move outer inner v (move outer Two u)) (record { by = None; to = 0 }) y x hy hx

-- a degree of tiles or of vertices is one of the pair
abbrev pub IsOfEntries : Pair → Type 0
IsOfEntries Tile = Unit {0}
IsOfEntries Vertex = Unit {0}
IsOfEntries Edge = ⊥

-- an entry of a part
pub entry-composed : (outer inner : Table) (p : Pair) (y x : ℕ) → IsOfEntries p → IsPart inner y → IsPart outer x
    → entry (entries (composed outer inner) p) (part_in outer y x) ≡ composed_degree inner y (entry (entries outer p) x)
entry-composed outer inner Tile y x h hy hx = at-of_both outer inner (λ v u. composed_degree inner v (entry outer.face u)) (Fixed 0) y x hy hx
entry-composed outer inner Vertex y x h hy hx = at-of_both outer inner (λ v u. composed_degree inner v (entry outer.degree u)) (Fixed 0) y x hy hx
entry-composed outer inner Edge y x h hy hx = absurd h

-- the move, or the entry, of a part by its number
abbrev pub move_at : Table → Table → Index → ℕ → Move
move_at outer inner i z = composed_move outer inner (z / outer.parts) (move outer i (z % outer.parts))

abbrev pub degree_at : Table → Table → Pair → ℕ → Degree
degree_at outer inner p z = composed_degree inner (z / outer.parts) (entry (entries outer p) (z % outer.parts))

-- a list that has at each part what a function gives
pub same_as_both : {A : Type 0} (outer inner : Table) (f : ℕ → ℕ → A) (default : A) (xs : List A) → 1 ≤ outer.parts → length xs ≡ inner.parts * outer.parts
    → ((z : ℕ) → z < inner.parts * outer.parts → get_or xs z default ≡ f (z / outer.parts) (z % outer.parts)) → xs ≡ of_both outer inner f
same_as_both outer inner f default xs some long same =
    ext_get_or default xs (of_both outer inner f) (long ∙ sym (length-of_both outer inner f))
    (λ z h.
    let inside : z < inner.parts * outer.parts = omega arith in
    let y = z / outer.parts in
    let x = z % outer.parts in
    let hy = div_below z outer.parts inner.parts some inside in
    let hx = mod_below z outer.parts some in
    let here = at-of_both outer inner f default y x hy hx in
    same z inside ∙ sym (ap (λ w. get_or (of_both outer inner f) w default) (sym (div-add-mod' z outer.parts)) ∙ here))

-- a table by its parts and lists
abbrev listed : ℕ → List Move → List Move → List Move → List Degree → List Degree → Table
listed k s0 s1 s2 face degree = record { parts = k; s0 = s0; s1 = s1; s2 = s2; face = face; degree = degree }

-- the table of five lists that are those of the two tables as one
pub composed_of_lists : (outer inner : Table) {k : ℕ} {s0 s1 s2 : List Move} {face degree : List Degree} → k ≡ inner.parts * outer.parts
    → s0 ≡ composed_moves outer inner Zero → s1 ≡ composed_moves outer inner One → s2 ≡ composed_moves outer inner Two
    → face ≡ composed_entries outer inner Tile → degree ≡ composed_entries outer inner Vertex
    → listed k s0 s1 s2 face degree ≡ composed outer inner
composed_of_lists outer inner size e0 e1 e2 tiles vertices =
    λ i. record { parts = size i; s0 = e0 i; s1 = e1 i; s2 = e2 i; face = tiles i; degree = vertices i }
