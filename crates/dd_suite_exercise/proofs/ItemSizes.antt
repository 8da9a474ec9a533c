-- How many chambers an item has.
use Rattle.std.proofs.Common.{◌*◌, ◌≤◌, ℕ, zero, suc, List, length, inl, inr, ap, subst, ⊎_elim, arith}
use Rattle.dd_model.specs.Symbol.{Symbol}
use Rattle.dd_model.specs.Flat.{Flat}
use Rattle.dd_model.specs.Reading.{IsReadable}
use Rattle.dd_covers.specs.OrientedCover.{IsOrientedCover}
use Rattle.dd_covers.specs.PlaneValues.{IsCrystal}
use Rattle.dd_covers.specs.TorusCover.{IsTorusCover}
use Rattle.dd_covers.proofs.PlaneUses.{plane_crystal}
use Rattle.dd_covers.proofs.TorusCovers.{middle_of, sheets_above}
use Rattle.dd_suite_exercise.specs.declared.coverings.Covering.{Covering}
use Rattle.dd_suite_exercise.specs.declared.coverings.Covering.TheVariants as covering
use Rattle.dd_suite_exercise.specs.Choices.{change_at, changed, covering_at, IsCoverBy}
use Rattle.dd_suite_exercise.specs.Items.{drawn, IsItem}
use Rattle.dd_suite_exercise.specs.Seeds.{AreSeeds}
use Rattle.dd_suite_exercise.proofs.ChangeLemmas.{changed_twice, base_readable}
use Rattle.dd_suite_exercise.proofs.SeedLemmas.{seed_base}

-- twice as many sheets as a branching value of the plane says
sheets_most : (k n : ℕ) → IsCrystal k → n ≤ 32 → 2 * k * n ≤ 384
sheets_most k n (zero, h, e) few = subst (λ z. 2 * z * n ≤ 384) e (omega arith)
sheets_most k n (suc zero, h, e) few = subst (λ z. 2 * z * n ≤ 384) e (omega arith)
sheets_most k n (suc (suc zero), h, e) few = subst (λ z. 2 * z * n ≤ 384) e (omega arith)
sheets_most k n (suc (suc (suc zero)), h, e) few = subst (λ z. 2 * z * n ≤ 384) e (omega arith)
sheets_most k n (suc (suc (suc (suc zero))), h, e) few = subst (λ z. 2 * z * n ≤ 384) e (omega arith)
sheets_most k n (suc (suc (suc (suc (suc q)))), h, e) few = absurd (omega (arith, h))

oriented_most : (s t : Symbol) (below : List ℕ) → s.size ≤ 32 → IsOrientedCover s t below → t.size ≤ 384
oriented_most s t below few (inl same) = let size = ap (λ (u : Symbol). u.size) same.same in omega (arith, few, size)
oriented_most s t below few (inr twice) = let size = ap (λ (u : Symbol). u.size) twice.sheets in omega (arith, few, size)

torus_most : (s t : Symbol) (below : List ℕ) → IsReadable s → s.size ≤ 32 → Flat s → IsTorusCover s t below → t.size ≤ 384
torus_most s t below readable few flat is =
    let m = middle_of s is.middle is.lower readable.symbol.symbol readable.connected is.oriented in
    let g = is.torus.greatest in
    let most = sheets_most is.sheets s.size (plane_crystal is.middle m.symbol m.connected m.oriented (m.flat flat) g.pair g.chamber is.sheets g.is_chamber g.branching) few in
    ⊎_elim (λ once. let size = once.1 in omega (arith, most, size)) (λ twice. let size = twice.1 in omega (arith, most, size)) (sheets_above s t below is)

cover_most : (c : Covering) (s t : Symbol) → IsReadable s → s.size ≤ 32 → Flat s → IsCoverBy c s t → t.size ≤ 384
cover_most covering.Nothing s t readable few flat is = let size = ap (λ (u : Symbol). u.size) is in omega (arith, few, size)
cover_most covering.Oriented s t readable few flat is = oriented_most s t is.0 few is.1
cover_most covering.Torus s t readable few flat is = torus_most s t is.0 readable few flat is.1

-- two changes make 32 chambers of two at most, and a torus cover has twelve sheets at most
pub item_most : (seeds : List Symbol) (z : ℕ) (form : Symbol) → AreSeeds seeds → IsItem seeds z form → form.size ≤ 384
item_most seeds z form a is =
    let base = changed_twice (change_at (drawn z 1 5)) (change_at (drawn z 2 5)) is.covers.seed (seed_base seeds (drawn z 0 (length seeds)) is.covers.seed a is.covers.picked) in
    let most = cover_most (covering_at (drawn z 3 3)) (changed (change_at (drawn z 2 5)) (changed (change_at (drawn z 1 5)) is.covers.seed)) is.cover
    (base_readable 32 _ (omega arith) base) base.accepted.within base.flat is.covers.is_cover in
    let size = is.renumbers.size in
    let same = is.least.renumbering.1.size in
    omega (arith, most, size, same)
