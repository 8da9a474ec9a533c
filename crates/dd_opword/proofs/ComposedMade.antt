-- Two tables as one make what they make one after the other.
use Rattle.std.proofs.Common.{◌≡◌, ℕ, ◌+◌, ◌-◌, ◌*◌, ◌≤◌, List, Option, Some, None, refl, sym, ap, ◌∙◌, arith}
use Rattle.std.proofs.Math.Nat.{mul_assoc, add-mul}
use Rattle.dd_model.specs.declared.index.Index.{Index}
use Rattle.dd_model.specs.declared.index.Index.TheVariants.{Zero, One, Two}
use Rattle.dd_model.specs.declared.pair.Pair.{Pair}
use Rattle.dd_model.specs.declared.pair.Pair.TheVariants.{Tile, Vertex}
use Rattle.dd_model.proofs.Numbers.{positive_product}
use Rattle.dd_model.specs.Symbol.{Symbol, IsTable, IsChamber, item, op}
use Rattle.dd_model.proofs.Codes.{same_items}
use Rattle.dd_template.specs.declared.tables.Degree.{Degree}
use Rattle.dd_template.specs.declared.tables.Degree.TheVariants.{OfTile, OfVertex, Fixed}
use Rattle.dd_template.specs.Table.{Table, IsPart, move, entry}
use Rattle.dd_template.specs.Entries.{entries}
use Rattle.dd_template.specs.Moves.{AreUndone}
use Rattle.dd_template.specs.Made.{chamber_of, moved, image_of, degree_of, degree_from, made, made_operation, made_degrees}
use Rattle.dd_template.proofs.PlaceLemmas.{place_of, chamber_of_within, op-made, item-of_parts, length-of_parts}
use Rattle.dd_opword.specs.Composed.{part_in, times, composed_degree, composed}
use Rattle.dd_opword.specs.Together.{GoTogether}
use Rattle.dd_opword.proofs.ComposedParts.{parts_of_part, part_within, entry-composed, IsOfEntries}
use Rattle.dd_opword.proofs.ComposedMoves.{inner_part, inner_by, to-composed, by-composed}

-- a part of both, as an outer part of an inner part of a chamber
same_chamber : (outer inner : Table) (d y x : ℕ) → 1 ≤ d → chamber_of (composed outer inner) d (part_in outer y x) ≡ chamber_of outer (chamber_of inner d y) x
same_chamber outer inner d y x low =
    let assoc : (d - 1) * (inner.parts * outer.parts) ≡ (d - 1) * inner.parts * outer.parts = sym (mul_assoc (d - 1) inner.parts outer.parts) in
    let back : (d - 1) * inner.parts + y + 1 - 1 ≡ (d - 1) * inner.parts + y = omega arith in
    let sum : ((d - 1) * inner.parts + y + 1 - 1) * outer.parts ≡ (d - 1) * inner.parts * outer.parts + y * outer.parts =
    ap (λ n. n * outer.parts) back ∙ add-mul ((d - 1) * inner.parts) y outer.parts in
    omega arith

-- a chamber of what both make
record IsPlaceIn (outer inner : Table) (s : Symbol) (e : ℕ) : Type 0 where
  pub chamber : ℕ
  pub inner_part : ℕ
  pub outer_part : ℕ
  pub is_chamber : IsChamber s chamber
  pub is_inner : IsPart inner inner_part
  pub is_outer : IsPart outer outer_part
  pub place : chamber_of (composed outer inner) chamber (part_in outer inner_part outer_part) ≡ e

place_in : (outer inner : Table) (s : Symbol) (e : ℕ) → 1 ≤ outer.parts → 1 ≤ inner.parts * outer.parts → IsChamber (made (composed outer inner) s) e → IsPlaceIn outer inner s e
place_in outer inner s e some all h =
    let p = place_of (composed outer inner) s e all h in
    let q = parts_of_part outer inner p.part some p.is_part in
    record {
      chamber = p.chamber;
      inner_part = q.inner_part;
      outer_part = q.outer_part;
      is_chamber = p.is_chamber;
      is_inner = q.is_inner;
      is_outer = q.is_outer;
      place = ap (chamber_of (composed outer inner) p.chamber) q.place ∙ p.place;
    }

-- the chamber of the inner symbol to which an outer move leads
inner_moved : (inner : Table) (s : Symbol) (by : Option Index) (d y : ℕ) → IsChamber s d → IsPart inner y
    → moved (made inner s) by (chamber_of inner d y) ≡ chamber_of inner (moved s (inner_by inner by y) d) (inner_part inner by y)
inner_moved inner s None d y h inside = refl
inner_moved inner s (Some j) d y h inside = op-made inner s j d y h inside

moved_from_one : (s : Symbol) → ((i : Index) (d : ℕ) → IsChamber s d → IsChamber s (op s i d)) → (by : Option Index) (d : ℕ) → IsChamber s d → 1 ≤ moved s by d
moved_from_one s within None d h = h.0
moved_from_one s within (Some i) d h = (within i d h).0

-- what two tables and a symbol must be
pub record AreApplied (outer inner : Table) (s : Symbol) : Type 0 where
  pub some : 1 ≤ outer.parts
  pub inner_some : 1 ≤ inner.parts
  pub all : 1 ≤ inner.parts * outer.parts
  pub undone : AreUndone inner
  pub within : (i : Index) (d : ℕ) → IsChamber s d → IsChamber s (op s i d)

same_image : (outer inner : Table) (s : Symbol) → AreApplied outer inner s → (i : Index) (e : ℕ) → IsChamber (made (composed outer inner) s) e
    → op (made (composed outer inner) s) i e ≡ op (made outer (made inner s)) i e
same_image outer inner s applied i e h =
    let all = composed outer inner in
    let p = place_in outer inner s e applied.some applied.all h in
    let d = p.chamber in
    let y = p.inner_part in
    let x = p.outer_part in
    let m = move outer i x in
    let z = part_in outer y x in
    let hz = part_within outer inner y x p.is_inner p.is_outer in
    let hd = chamber_of_within inner s d y p.is_chamber p.is_inner in
    let both = op-made all s i d z p.is_chamber hz in
    let once = op-made outer (made inner s) i (chamber_of inner d y) x hd p.is_outer in
    let v = inner_part inner m.by y in
    let c = moved s (inner_by inner m.by y) d in
    let low = moved_from_one s applied.within (inner_by inner m.by y) d p.is_chamber in
    let there : op (made all s) i (chamber_of all d z) ≡ op (made outer (made inner s)) i (chamber_of outer (chamber_of inner d y) x) =
    both
    ∙ ap (λ b. chamber_of all (moved s b d) (move all i z).to) (by-composed outer inner i y x p.is_inner p.is_outer)
    ∙ ap (chamber_of all c) (to-composed outer inner i y x p.is_inner p.is_outer)
    ∙ same_chamber outer inner c v m.to low
    ∙ sym (once ∙ ap (λ b. chamber_of outer b m.to) (inner_moved inner s m.by d y p.is_chamber p.is_inner)) in
    let first = p.is_chamber.0 in
    sym (ap (op (made all s) i) p.place)
    ∙ there
    ∙ ap (op (made outer (made inner s)) i) (sym (same_chamber outer inner d y x first) ∙ p.place)

-- ## Degrees

-- the degrees of what a table makes, of a pair
abbrev of_entries : Table → Symbol → Pair → List ℕ
of_entries t s p = made_degrees t s (entries t p)

degree_times : (s : Symbol) (c : ℕ) (e : Degree) (d : ℕ) → degree_of s (times c e) d ≡ c * degree_of s e d
degree_times s c (OfTile k) d = mul_assoc c k (item s.m01 d)
degree_times s c (OfVertex k) d = mul_assoc c k (item s.m12 d)
degree_times s c (Fixed m) d = refl

degree_over : (inner : Table) (s : Symbol) (e : Degree) (d y : ℕ) → IsChamber s d → IsPart inner y
    → degree_of s (composed_degree inner y e) d ≡ degree_of (made inner s) e (chamber_of inner d y)
degree_over inner s (OfTile c) d y h inside =
    degree_times s c (entry inner.face y) d ∙ ap (λ m. c * m) (sym (item-of_parts inner s (λ b u. degree_of s (entry inner.face u) b) d y h inside))
degree_over inner s (OfVertex c) d y h inside =
    degree_times s c (entry inner.degree y) d ∙ ap (λ m. c * m) (sym (item-of_parts inner s (λ b u. degree_of s (entry inner.degree u) b) d y h inside))
degree_over inner s (Fixed m) d y h inside = refl

same_degree : (outer inner : Table) (s : Symbol) → AreApplied outer inner s → (p : Pair) → IsOfEntries p → (e : ℕ) → IsChamber (made (composed outer inner) s) e
    → item (of_entries (composed outer inner) s p) e ≡ item (of_entries outer (made inner s) p) e
same_degree outer inner s applied pair is_of e h =
    let all = composed outer inner in
    let p = place_in outer inner s e applied.some applied.all h in
    let d = p.chamber in
    let y = p.inner_part in
    let x = p.outer_part in
    let z = part_in outer y x in
    let hz = part_within outer inner y x p.is_inner p.is_outer in
    let hd = chamber_of_within inner s d y p.is_chamber p.is_inner in
    let first = p.is_chamber.0 in
    sym (ap (item (of_entries all s pair)) p.place)
    ∙ item-of_parts all s (λ b u. degree_of s (entry (entries all pair) u) b) d z p.is_chamber hz
    ∙ ap (λ g. degree_of s g d) (entry-composed outer inner pair y x is_of p.is_inner p.is_outer)
    ∙ degree_over inner s (entry (entries outer pair) x) d y p.is_chamber p.is_inner
    ∙ sym (item-of_parts outer (made inner s) (λ b u. degree_of (made inner s) (entry (entries outer pair) u) b) (chamber_of inner d y) x hd p.is_outer)
    ∙ ap (item (of_entries outer (made inner s) pair)) (sym (same_chamber outer inner d y x first) ∙ p.place)

-- ## The symbol

same_operation : (outer inner : Table) (s : Symbol) → AreApplied outer inner s → s.size * (inner.parts * outer.parts) ≡ s.size * inner.parts * outer.parts → (i : Index)
    → made_operation (composed outer inner) s i ≡ made_operation outer (made inner s) i
same_operation outer inner s applied size i =
    let n = s.size * (inner.parts * outer.parts) in
    same_items (made_operation (composed outer inner) s i) (made_operation outer (made inner s) i) n
    (length-of_parts (composed outer inner) s (image_of (composed outer inner) s i))
    (length-of_parts outer (made inner s) (image_of outer (made inner s) i) ∙ sym size)
    (λ e low high. at i e (low, omega arith)) where
      at : (j : Index) (e : ℕ) → IsChamber (made (composed outer inner) s) e → item (made_operation (composed outer inner) s j) e ≡ item (made_operation outer (made inner s) j) e
      at Zero e h = same_image outer inner s applied Zero e h
      at One e h = same_image outer inner s applied One e h
      at Two e h = same_image outer inner s applied Two e h

same_degrees : (outer inner : Table) (s : Symbol) → AreApplied outer inner s → s.size * (inner.parts * outer.parts) ≡ s.size * inner.parts * outer.parts → (p : Pair) → IsOfEntries p
    → of_entries (composed outer inner) s p ≡ of_entries outer (made inner s) p
same_degrees outer inner s applied size p is_of =
    let n = s.size * (inner.parts * outer.parts) in
    same_items (of_entries (composed outer inner) s p) (of_entries outer (made inner s) p) n
    (length-of_parts (composed outer inner) s (degree_from s (entries (composed outer inner) p)))
    (length-of_parts outer (made inner s) (degree_from (made inner s) (entries outer p)) ∙ sym size)
    (λ e low high. same_degree outer inner s applied p is_of e (low, omega arith))

-- The symbol that both make at once is that which they make one after the other.
pub composed_made : (outer inner : Table) (s : Symbol) → AreApplied outer inner s → made (composed outer inner) s ≡ made outer (made inner s)
composed_made outer inner s applied =
    let size : s.size * (inner.parts * outer.parts) ≡ s.size * inner.parts * outer.parts = sym (mul_assoc s.size inner.parts outer.parts) in
    let s0 = same_operation outer inner s applied size Zero in
    let s1 = same_operation outer inner s applied size One in
    let s2 = same_operation outer inner s applied size Two in
    let m01 = same_degrees outer inner s applied size Tile tt in
    let m12 = same_degrees outer inner s applied size Vertex tt in
    λ i. record { size = size i; s0 = s0 i; s1 = s1 i; s2 = s2 i; m01 = m01 i; m12 = m12 i }

pub are_applied : (outer inner : Table) (s : Symbol) → GoTogether outer inner → IsTable s → AreApplied outer inner s
are_applied outer inner s go is =
    let some = go.outer_lawful.lists.some in
    let inner_some = go.inner_lawful.lists.some in
    record {
      some = some;
      inner_some = inner_some;
      all = positive_product inner.parts outer.parts inner_some some;
      undone = go.inner_lawful.moves.undone;
      within = λ i d h. (is.involutions i).within d h;
    }
