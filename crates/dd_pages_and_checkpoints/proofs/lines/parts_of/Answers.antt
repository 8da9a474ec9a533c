use Rattle.std.proofs.Common.{◌+◌, ◌-◌, ◌≤◌, ◌≡◌, ◌++◌, length, take, drop, refl, sym, ap, ◌∙◌, arith, take-append-drop}
use Rattle.std.proofs.lemmas.List.{length-take-le}
use Rattle.dd_pages_and_checkpoints.proofs.LineParts.{none_cut, one_cut, all_cut}
use Rattle.dd_pages_and_checkpoints.proofs.lines.parts_of.Goals as goal

pub loop-members-init : goal.loop-members-init
loop-members-init c = none_cut _ _ _ _ refl c.new-parts.ensures.items

pub loop-members-preserved : goal.loop-members-preserved
loop-members-preserved c =
    let left = c.loop-members.members in
    let kept = c.len-in-loop-members.result - c.args.size in
    let fits : kept ≤ length left = omega (arith, c.len-in-loop-members.ensures.count) in
    let tail : c.skip.new.self ≡ drop kept left = c.skip.ensures ∙ ap (drop kept) c.in_ok-part.ensures in
    let split = sym (ap (λ xs. xs ++ c.skip.new.self) c.keep.ensures ∙ ap (λ xs. take kept left ++ xs) tail ∙ take-append-drop kept left) in
    let before = ap (λ n. c.args.before + n) (sym (ap length c.keep.ensures ∙ length-take-le kept left fits)) in
    one_cut c.args.before c.args.members left c.keep.new.self _ c.loop-members.parts.items c.push.new.self.items split before c.in_ok-push.ensures.items c.loop-members.invariant

pub returns : goal.returns
returns c =
    all_cut c.args.before c.args.members c.loop-members.members _ c.loop-members.parts.items c.push-2.new.self.items c.reverse.new.self.items
    refl refl c.in_ok-push-2.ensures.items c.reverse.ensures.items c.loop-members.invariant
