use Rattle.std.proofs.Common.{◌≡◌, ◌+◌, ◌<◌, ◌^◌, refl, subst, arith}
use Rattle.dd_text.specs.Outline.{IsOutlineOf, shared_by}
use Rattle.dd_text.specs.Writing.{AddsLine}
use Rattle.dd_text.proofs.LineTexts.{number_within}
use Rattle.dd_text.proofs.LinesAdded.{no_lines, one_line_more, all_lines, front_stays}
use Rattle.dd_text.proofs.line_writer.append_lines.Goals as goal

pub loop-connected-init : goal.loop-connected-init
loop-connected-init c =
    let count = c.from.ensures in
    let start : c.from.result ≡ c.args.before + 0 = omega arith in
    record {
      lines = no_lines c.args.before c.args.symbols.now c.args.out.now.items;
      outline = subst (λ n. IsOutlineOf n c.symbol-last.result.now c.in_ok-outline.outline) start c.in_ok-outline.ensures;
    }

pub returns-in_err-follow-clause-longer : goal.returns-in_err-follow-clause-longer
returns-in_err-follow-clause-longer c = front_stays _ _ _ _ _ c.loop-connected.invariant.lines refl

pub advance-requires-clause-some : goal.advance-requires-clause-some
advance-requires-clause-some c =
    let end = (c.in_ok-follow.ensures (c.args.before + c.loop-connected.connected-index) c.loop-connected.invariant.outline).numbered.end_is in
    omega arith

pub advance-requires-clause-within : goal.advance-requires-clause-within
advance-requires-clause-within c =
    let k = c.args.before + c.loop-connected.connected-index in
    let o = c.follow.new.self in
    number_within k (shared_by c.symbol-symbol.result.now) o.head.items o.number_end (c.in_ok-follow.ensures k c.loop-connected.invariant.outline).numbered

pub returns-in_err-advance-clause-longer : goal.returns-in_err-advance-clause-longer
returns-in_err-advance-clause-longer c = front_stays _ _ _ _ _ c.loop-connected.invariant.lines refl

pub put_line-requires : goal.put_line-requires
put_line-requires c =
    let k = c.args.before + c.loop-connected.connected-index in
    let before = c.ranges.before.fits in
    let last = c.loop-connected.auto.connected-index-end in
    let small : k + 1 < 10 ^ 64 = omega arith in
    (c.in_ok-advance.ensures k c.symbol-symbol.result.now small (c.in_ok-follow.ensures k c.loop-connected.invariant.outline)).cells

pub returns-in_err-put_line-clause-longer : goal.returns-in_err-put_line-clause-longer
returns-in_err-put_line-clause-longer c = front_stays _ _ _ _ _ c.loop-connected.invariant.lines c.in_err-put_line.ensures.same

pub loop-connected-preserved : goal.loop-connected-preserved
loop-connected-preserved c =
    let place = c.loop-connected.connected-index in
    let k = c.args.before + place in
    let s = c.symbol-symbol.result.now in
    let before = c.ranges.before.fits in
    let last = c.loop-connected.auto.connected-index-end in
    let small : k + 1 < 10 ^ 64 = omega arith in
    let next : k + 1 ≡ c.args.before + (place + 1) = omega arith in
    let advanced = c.in_ok-advance.ensures k s small (c.in_ok-follow.ensures k c.loop-connected.invariant.outline) in
    record {
      lines = one_line_more c.args.before k place c.args.symbols.now c.connected-item.result c.args.out.now.items c.loop-connected.out.items c.put_line.new.out.items
          c.loop-connected-test.true c.connected-item.is refl c.loop-connected.invariant.lines
          (subst (λ t. AddsLine (k + 1) t c.loop-connected.out.items c.put_line.new.out.items) c.symbol-symbol.ensures.same (c.in_ok-put_line.ensures.line (k + 1) advanced));
      outline = subst (λ n. IsOutlineOf n s c.put_line.new.self) next (c.in_ok-put_line.ensures.outline (k + 1) s advanced);
    }

pub returns-clause-lines : goal.returns-clause-lines
returns-clause-lines c = all_lines _ c.loop-connected.connected-index _ _ _ (omega (arith, c.loop-connected-test.false)) c.loop-connected.invariant.lines

pub returns-clause-longer : goal.returns-clause-longer
returns-clause-longer c = front_stays _ _ _ _ _ c.loop-connected.invariant.lines refl
