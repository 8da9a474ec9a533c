use Rattle.std.proofs.Common.{◌<◌, length, sym, ◌∙◌, subst}
use Rattle.dd_text.specs.Reader.{cursor_of}
use Rattle.dd_text.proofs.NextPart.{shorter}
use Rattle.dd_text.proofs.ListReads.{list_ends, one_more}
use Rattle.dd_text.proofs.reader.Reader.list.Goals as goal

pub returns-then-is_sign-clause-ok : goal.returns-then-is_sign-clause-ok
returns-then-is_sign-clause-ok c = list_ends _ _ _ c.loop-numbers.numbers.items _ _ c.loop-numbers.invariant c.part-part.ensures (c.is_sign.ensures.0 c.if-is_sign.true)

pub loop-numbers-smaller : goal.loop-numbers-smaller
loop-numbers-smaller c =
    let less = shorter (cursor_of c.loop-numbers.self) c.in_ok-number.number (sym c.part-part.ensures.part ∙ c.in_ok-number.ensures.ok) in
    subst (λ (z : _). length z.rest < length c.loop-numbers.self.rest.now) (sym c.part-part.ensures.rest) less

pub loop-numbers-preserved : goal.loop-numbers-preserved
loop-numbers-preserved c =
    one_more _ _ _ c.loop-numbers.numbers.items _ _ c.loop-numbers.invariant c.part-part.ensures c.in_ok-number.ensures.ok _ c.in_ok-push.ensures.items
