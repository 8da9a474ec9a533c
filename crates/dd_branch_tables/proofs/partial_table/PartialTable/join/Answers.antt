use Rattle.std.proofs.Common.{◌≡◌, ◌≢◌, ◌≤◌, subst, ◌+◌, ◌/◌, ◌%◌, get_or, set, refl, sym, ap, ◌∙◌, arith}
use Rattle.std.specs.Int.Bits.{bit_xor}
use Rattle.dd_model.specs.Symbol.{op}
use Rattle.dd_model.specs.Partial.{Completes}
use Rattle.dd_front_jobs.specs.Places.{back_of, bits_of}
use Rattle.dd_branch_tables.specs.Commuting.{KeepsOthers}
use Rattle.dd_branch_tables.specs.Kept.{rows_of}
use Rattle.dd_branch_tables.specs.Rows.{Rows, partial_of}
use Rattle.dd_front_jobs.proofs.Places.{chamber_of_place}
use Rattle.dd_branch_tables.proofs.RowsLemmas.{IsPut, HasBoth, back_is_place, flipped_by, known_excludes, put_learns, put_ready, put_told, room_left, told_at}
use Rattle.dd_branch_tables.proofs.Commuting.{put_others}
use Rattle.dd_branch_tables.proofs.Filling.{at_place, back_again, chamber_too, from_place, learns_from}
use Rattle.dd_branch_tables.proofs.partial_table.PartialTable.join.Goals as goal
use Rattle.dd_branch_tables.proofs.partial_table.PartialTable.join.Goals.{then-known-ne0-via-then-known-ne0, then-known-ne0-via-else-known-ne0+then-self-back-ne0}

pub returns-then-known-image-clause-told : goal.returns-then-known-image-clause-told
returns-then-known-image-clause-told c = rw (← c.self.view_is)
    let r = rows_of c.self.inside in
    let p = c.place_of-place.result in
    from_place (partial_of r) c.args.i c.args.chamber c.args.image p c.place_of-place.ensures.place (told_at r p c.args.image c.place_of-place.ensures.inside c.if-known-image.true)

pub returns-then-known-ne0-clause-clash : goal.returns-then-known-ne0-clause-clash
returns-then-known-ne0-clause-clash c s now is =
    let r = rows_of c.self.inside in
    let full : Completes (partial_of r) s = subst (λ t. Completes (partial_of t) s) (sym c.self.view_is) now in
    let chamber : (1 ≤ c.args.chamber) × (c.args.chamber ≤ r.size) = subst (λ (t : Rows). (1 ≤ c.args.chamber) × (c.args.chamber ≤ t.size)) (sym c.self.view_is) c.requires.chamber in
    let p = c.place_of-place.result in
    let b = c.place_of-back.result in
    let there = at_place s c.args.i c.args.chamber c.args.image p c.place_of-place.ensures.place is in
    let back = back_again s c.args.i c.args.chamber c.args.image full.table (chamber_too (partial_of r) s c.args.chamber full chamber) is in
    let back_there = at_place s c.args.i c.args.image c.args.chamber b c.place_of-back.ensures.place back in
    elim c.then-known-ne0.branch [
      | then-known-ne0-via-then-known-ne0 w ↦ known_excludes r p c.args.image c.place_of-place.ensures.inside w.if-known-ne0.true c.if-known-image.false s full there
      | then-known-ne0-via-else-known-ne0+then-self-back-ne0 w ↦
          let none : get_or r.numbers p 0 ≡ 0 = w.if-known-ne0.false in
          let way : back_of b c.args.chamber ≡ p =
          ap (λ t. back_of t c.args.chamber) c.place_of-back.ensures.place ∙ back_is_place c.args.i c.args.image c.args.chamber c.requires.chamber.0 ∙ sym c.place_of-place.ensures.place in
          let other : get_or r.numbers b 0 ≢ c.args.chamber = λ z.
          let led = c.self.invariant.paired b c.place_of-back.ensures.inside w.if-self-back-ne0.true in
          let same = ap (λ e. get_or r.numbers (back_of b e) 0) z ∙ ap (λ t. get_or r.numbers t 0) way in
          omega arith in
          known_excludes r b c.args.chamber c.place_of-back.ensures.inside w.if-self-back-ne0.true other s full back_there
    ]

pub push-requires : goal.push-requires
push-requires c =
    (omega arith, room_left (rows_of c.self.inside) c.place_of-place.result c.self.invariant c.place_of-place.ensures.inside c.if-known-ne0.false)

abbrev rows_after : goal.After-push → Rows
rows_after c =
    let r = rows_of c.self.inside in
    record {
      size = r.size;
      numbers = set (set r.numbers c.place_of-place.result c.args.image) c.place_of-back.result c.args.chamber;
      free = set r.free (c.place_of-place.result % 3) (bit_xor (get_or r.free (c.place_of-place.result % 3) 0) c.bits_of.result);
      trail = c.push.new.self.items;
    }

put_of : (c : goal.After-push) → IsPut (rows_of c.self.inside) (rows_after c) c.place_of-place.result c.place_of-back.result c.args.image c.args.chamber
put_of c =
    let some = c.requires.chamber.0 in
    let row = chamber_of_place c.args.i c.args.chamber in
    let at = ap (λ t. t / 3) c.place_of-place.ensures.place in
    let chamber_is : c.args.chamber ≡ 1 + c.place_of-place.result / 3 = omega arith in
    record {
      ready = c.self.invariant;
      low = c.place_of-place.ensures.inside;
      some = c.requires.image.0;
      image = subst (λ (r : Rows). c.args.image ≤ r.size) (sym c.self.view_is) c.requires.image.1;
      chamber = subst (λ (r : Rows). c.args.chamber ≤ r.size) (sym c.self.view_is) c.requires.chamber.1;
      back = c.place_of-back.ensures.place ∙ sym (ap (λ t. back_of t c.args.image) c.place_of-place.ensures.place ∙ back_is_place c.args.i c.args.chamber c.args.image c.requires.image.0);
      from = chamber_is;
      none = c.if-known-ne0.false;
      none_back = c.if-self-back-ne0.false;
      size = refl;
      numbers = refl;
      free = flipped_by c.self.inside.free c.place_of-place.result c.args.image c.bits_of.result (c.bits_of.ensures ∙ ap (λ d. bits_of d c.args.image) chamber_is);
      trail = c.push.ensures.items;
    }

pub invariant_of-self : goal.invariant_of-self
invariant_of-self c = put_ready _ (rows_after c) _ _ _ _ (put_of c)

pub returns-clause-ready : goal.returns-clause-ready
returns-clause-ready c = put_ready _ (rows_after c) _ _ _ _ (put_of c)

pub returns-clause-learnt : goal.returns-clause-learnt
returns-clause-learnt c = rw (← c.self.view_is)
    let r = rows_of c.self.inside in
    let p = c.place_of-place.result in
    let b = c.place_of-back.result in
    learns_from (HasBoth p b c.args.image c.args.chamber) (λ s. op s c.args.i c.args.chamber ≡ c.args.image) r (rows_after c)
    (λ s full is. (
      at_place s c.args.i c.args.chamber c.args.image p c.place_of-place.ensures.place is,
      at_place s c.args.i c.args.image c.args.chamber b c.place_of-back.ensures.place
          (back_again s c.args.i c.args.chamber c.args.image full.table (chamber_too (partial_of r) s c.args.chamber full (subst (λ (t : Rows). (1 ≤ c.args.chamber) × (c.args.chamber ≤ t.size)) (sym c.self.view_is) c.requires.chamber)) is),
    ))
    (put_learns r (rows_after c) _ _ _ _ (put_of c))

pub returns-clause-told : goal.returns-clause-told
returns-clause-told c =
    from_place (partial_of (rows_after c)) c.args.i c.args.chamber c.args.image c.place_of-place.result c.place_of-place.ensures.place (put_told _ (rows_after c) _ _ _ _ (put_of c))

pub returns-clause-others : goal.returns-clause-others
returns-clause-others c =
    subst (λ r. KeepsOthers c.args.i c.args.chamber c.args.image (partial_of r) (partial_of (rows_after c))) c.self.view_is
    (put_others _ (rows_after c) c.args.i c.args.chamber c.args.image _ _ (put_of c) c.place_of-place.ensures.place c.place_of-back.ensures.place
    c.requires.chamber.0 c.requires.image.0)
