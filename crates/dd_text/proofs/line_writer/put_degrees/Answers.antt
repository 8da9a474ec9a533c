use Rattle.std.proofs.Common.{◌∙◌, ◌+◌, ◌++◌, drop, get_or, map, subst, ap}
use Rattle.dd_model.specs.Symbol.{degree}
use Rattle.dd_text.specs.Writing.{next_number}
use Rattle.dd_text.proofs.Spacing.{IsSpaced, spaced_none, spaced_next, spaced_all, mapped-cons, mapped_end}
use Rattle.dd_text.proofs.line_writer.put_degrees.Goals as goal

pub loop-chamber-init : goal.loop-chamber-init
loop-chamber-init c = spaced_none (map (degree c.args.symbol.now c.args.pair) c.args.chambers.now) c.args.out.now.items

pub loop-chamber-preserved : goal.loop-chamber-preserved
loop-chamber-preserved c =
    let s = c.args.symbol.now in
    let p = c.args.pair in
    let ds = c.args.chambers.now in
    let k = c.loop-chamber.chamber-index in
    let all = map (degree s p) ds in
    let old = c.args.out.now.items in
    let before = subst (λ left. IsSpaced all left c.loop-chamber.begun old c.loop-chamber.out.items) (mapped-cons (degree s p) ds k c.loop-chamber-test.true) c.loop-chamber.invariant in
    spaced_next all (map (degree s p) (drop (k + 1) ds)) (degree s p (get_or ds k 0)) c.loop-chamber.begun old c.loop-chamber.out.items c.put_next.new.out.items before
    (c.in_ok-put_next.ensures ∙ ap (λ n. c.loop-chamber.out.items ++ next_number c.loop-chamber.begun n) c.degree.ensures)

pub returns : goal.returns
returns c =
    let s = c.args.symbol.now in
    let all = map (degree s c.args.pair) c.args.chambers.now in
    spaced_all all c.loop-chamber.begun c.args.out.now.items c.loop-chamber.out.items
    (subst (λ left. IsSpaced all left c.loop-chamber.begun c.args.out.now.items c.loop-chamber.out.items)
    (mapped_end (degree s c.args.pair) c.args.chambers.now c.loop-chamber.chamber-index c.loop-chamber-test.false) c.loop-chamber.invariant)
