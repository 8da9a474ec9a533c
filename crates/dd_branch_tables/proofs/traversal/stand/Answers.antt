use Rattle.std.proofs.Common.{◌≡◌, ℕ, ◌+◌, ◌-◌, ◌*◌, ◌/◌, ◌%◌, ◌≢◌, ◌<◌, ◌≤◌, List, length, get_or, sym, ap, ◌∙◌, inl, inr, arith}
use Rattle.dd_model.specs.Symbol.{Symbol, op}
use Rattle.dd_canon.specs.Traversal.{IsVisit, IsMeeting}
use Rattle.dd_branch_tables.specs.Rows.{partial_of, HasNumberAt}
use Rattle.dd_branch_tables.proofs.Passing.{ReadsNext, passing_begun, passing_more, passed_here, agreeing_here, unknown_here}
use Rattle.dd_branch_tables.proofs.Traversing.{AreInside, extends_met, inside_begun, inside_met, met_at, reads_more, beats_here, visit_of}
use Rattle.dd_branch_tables.proofs.traversal.stand.Goals as goal
use Rattle.dd_model.specs.Indices.{index_at}

-- what is read at a place of the row of a chamber, whose first place is known
read_at : (P : Symbol) (xs : List ℕ) (row offset u first image : ℕ) → u ≡ 3 * row + offset → offset < 3 → first ≡ 3 * (get_or xs row 0 - 1) → 1 ≤ get_or xs row 0 → HasNumberAt (first + offset) image P
    → image ≡ op P (index_at (u % 3)) (get_or xs (u / 3) 0)
read_at P xs row offset u first image within rest begin some number =
    let index : (first + offset) % 3 ≡ u % 3 = omega arith in
    let here : 1 + (first + offset) / 3 ≡ get_or xs row 0 = omega arith in
    let at : row ≡ u / 3 = omega arith in
    sym number ∙ ap (λ j. op P (index_at j) (1 + (first + offset) / 3)) index ∙ ap (op P (index_at (u % 3))) (here ∙ ap (λ r. get_or xs r 0) at)

-- what is read there and met
next_read : (P : Symbol) (prefix xs ys number : List ℕ) (row offset u first image k : ℕ) → row < length xs → u ≡ 3 * row + offset → offset < 3 → first ≡ 3 * (get_or xs row 0 - 1) → u < length prefix → P.size ≤ 36 → AreInside P.size xs
    → HasNumberAt (first + offset) image P → image ≢ 0 → image ≤ P.size → IsMeeting xs ys number image k → IsVisit 36 ys number → ReadsNext P prefix xs ys number u image k 36
next_read P prefix xs ys number row offset u first image k low within rest begin place small old known some inside met visit =
    let chamber = (old.inside row low).0 in
    let read = read_at P xs row offset u first image within rest begin chamber known in
    record {
      place = place;
      at = met_at P xs ys number u image k (omega arith) met read some;
      small = small;
      visit = visit;
      inside = inside_met P.size xs ys number image k met old (omega arith, inside);
    }

pub loop-place-init : goal.loop-place-init
loop-place-init c =
    let P = partial_of c.args.rows.now in
    let inside = inside_begun P.size c.args.start c.begin.new.self.order.items c.begin.ensures c.requires.start in
    record {
      inside = inside;
      reads = record { same = λ v low. absurd (omega arith) };
      passing = passing_begun P c.args.prefix.now c.begin.new.self.order.items c.begin.new.self.number c.args.start 36 c.size.ensures.ready.small c.begin.ensures (visit_of c.begin.new.self) inside;
      some = let order = c.begin.ensures in let one = ap length order in omega (arith, one);
      begun = omega arith;
    }

pub returns-then-number-prefix-clause-beaten : goal.returns-then-number-prefix-clause-beaten
returns-then-number-prefix-clause-beaten c _ =
    let P = partial_of c.args.rows.now in
    let i = c.loop-offset.invariant in
    let next = next_read P c.args.prefix.now c.loop-offset.visit.order.items c.meet-number.new.self.order.items c.meet-number.new.self.number c.loop-place.row c.loop-offset.offset c.loop-offset.place _
    c.number_at-image.result c.meet-number.result i.low i.within c.loop-offset-test.true i.first c.if-place-prefix.false c.size.ensures.ready.small i.inside
    c.number_at-image.ensures.number c.if-image-eq0.false c.number_at-image.ensures.within c.meet-number.ensures (visit_of c.meet-number.new.self) in
    beats_here P c.args.prefix.now _ _ _ c.loop-offset.place _ c.meet-number.result 36 next.at i.reads next.visit next.inside next.place c.if-number-prefix.true

pub returns-then-number-prefix-2-clause-larger : goal.returns-then-number-prefix-2-clause-larger
returns-then-number-prefix-2-clause-larger c _ =
    let P = partial_of c.args.rows.now in
    let i = c.loop-offset.invariant in
    let next = next_read P c.args.prefix.now c.loop-offset.visit.order.items c.meet-number.new.self.order.items c.meet-number.new.self.number c.loop-place.row c.loop-offset.offset c.loop-offset.place _
    c.number_at-image.result c.meet-number.result i.low i.within c.loop-offset-test.true i.first c.if-place-prefix.false c.size.ensures.ready.small i.inside
    c.number_at-image.ensures.number c.if-image-eq0.false c.number_at-image.ensures.within c.meet-number.ensures (visit_of c.meet-number.new.self) in
    passed_here P c.args.prefix.now _ _ c.loop-offset.visit.number _ c.args.start c.loop-offset.place _ c.meet-number.result 36 next i.passing c.if-number-prefix-2.true

pub loop-offset-preserved : goal.loop-offset-preserved
loop-offset-preserved c =
    let P = partial_of c.args.rows.now in
    let i = c.loop-offset.invariant in
    let next = next_read P c.args.prefix.now c.loop-offset.visit.order.items c.meet-number.new.self.order.items c.meet-number.new.self.number c.loop-place.row c.loop-offset.offset c.loop-offset.place _
    c.number_at-image.result c.meet-number.result i.low i.within c.loop-offset-test.true i.first c.if-place-prefix.false c.size.ensures.ready.small i.inside
    c.number_at-image.ensures.number c.if-image-eq0.false c.number_at-image.ensures.within c.meet-number.ensures (visit_of c.meet-number.new.self) in
    let grown = extends_met _ _ _ _ _ c.meet-number.ensures in
    let longer = grown.longer in
    let low = i.low in
    record {
      inside = next.inside;
      reads = reads_more P c.args.prefix.now _ _ _ c.loop-offset.place _ c.meet-number.result next.at i.reads (omega arith);
      passing = passing_more P c.args.prefix.now _ _ c.loop-offset.visit.number _ c.args.start c.loop-offset.place _ c.meet-number.result 36 next i.passing (omega arith);
      some = let some = i.some in omega (arith, some, longer);
      low = omega arith;
      first = i.first ∙ ap (λ d. 3 * (d - 1)) (sym (grown.same c.loop-place.row low));
      within = omega arith;
    }

pub returns-then-place-prefix-clause-open : goal.returns-then-place-prefix-clause-open
returns-then-place-prefix-clause-open c _ _ =
    let i = c.loop-offset.invariant in
    inl (agreeing_here (partial_of c.args.rows.now) c.args.prefix.now c.loop-offset.visit.order.items c.loop-offset.visit.number c.args.start c.loop-offset.place
    c.if-place-prefix.true c.requires.short i.reads i.passing)

pub returns-then-image-eq0-clause-open : goal.returns-then-image-eq0-clause-open
returns-then-image-eq0-clause-open c _ _ =
    let i = c.loop-offset.invariant in
    let chamber = (i.inside.inside c.loop-place.row i.low).1 in
    let first = i.first in
    let test = c.loop-offset-test.true in
    let low = (i.inside.inside c.loop-place.row i.low).0 in
    inr (inr (unknown_here (partial_of c.args.rows.now) _ c.number_at-image.result (omega (arith, chamber, low, first, test)) c.number_at-image.ensures.number c.if-image-eq0.true))

pub returns-clause-open : goal.returns-clause-open
returns-clause-open c _ _ =
    let i = c.loop-place.invariant in
    inl (agreeing_here (partial_of c.args.rows.now) c.args.prefix.now c.loop-place.visit.order.items c.loop-place.visit.number c.args.start c.loop-place.place
    c.loop-place-test.false c.requires.short i.reads i.passing)
