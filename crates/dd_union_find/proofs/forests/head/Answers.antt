use Rattle.std.proofs.Common.{◌≡◌, ◌≢◌, get_or, ap, ◌∙◌, arith}
use Rattle.std.proofs.lemmas.List.{get_or_default, length-set}
use Rattle.dd_union_find.proofs.PartLemmas.{twice_low, halved_falls, halved_value, halved_parts, halved_heads, parts_along}
use Rattle.dd_union_find.proofs.forests.head.Goals as goal

pub loop-place-preserved : goal.loop-place-preserved
loop-place-preserved c =
    let above = c.loop-place.above.items in
    let p = c.loop-place.place in
    let i = c.loop-place.invariant in
    let up : c.index-in-loop-place.result.now ≡ get_or above p 0 = c.index-in-loop-place.ensures ∙ get_or_default above p _ 0 i.inside in
    let low = twice_low above i.falls p i.inside in
    let next : c.index-next.result.now ≡ get_or above (get_or above p 0) 0 =
    c.index-next.ensures ∙ get_or_default above c.index-in-loop-place.result.now _ 0 (omega (arith, low.1)) ∙ ap (λ q. get_or above q 0) up in
    let first : c.index.result.now ≡ get_or above p 0 = c.index.ensures ∙ get_or_default above p _ 0 i.inside in
    let long = length-set above p c.index-next.result.now in
    let moves : get_or above p 0 ≢ p = λ e. c.loop-place-test.true (first ∙ e) in
    record {
      falls = rw next (halved_falls above i.falls p i.inside);
      parts = rw next (parts_along c.args.above.now.items above _ i.parts (halved_parts above i.falls p i.inside));
      inside = omega (arith, low.0, low.1);
      in_part = λ h level. ap h next ∙ halved_value above i.falls p i.inside h (i.parts.to h level) ∙ i.in_part h level;
      others = λ n head. rw next (halved_heads above i.falls p i.inside moves n (i.others n head));
    }
