use Rattle.std.proofs.Common.{◌≡◌, ◌+◌, ◌-◌, ◌≤◌, length, take, drop, sym, ap, ◌∙◌, arith}
use Rattle.std.proofs.lemmas.List.{drop-take, drop-drop, length-take, length-drop}
use Rattle.std.specs.Arc.{arc_value}
use Rattle.dd_front.proofs.span.Span.skip.Goals as goal

pub returns : goal.returns
returns c =
    let start = c.self.inside.start in
    let end = c.self.inside.end in
    let items = arc_value c.self.inside.list in
    let n = c.args.count in
    let inside = c.self.invariant in
    let len : length (take (end - start) (drop start items)) ≡ end - start = simp (length-take, length-drop) (omega arith) in
    let room : n ≤ end - start = omega (arith, c.requires, ap length c.self.view_is, len) in
    let whole : n + (end - (start + n)) ≡ end - start = omega arith in
    ap (take (end - (start + n))) (sym (drop-drop n start items))
    ∙ sym (drop-take n (end - (start + n)) (drop start items))
    ∙ ap (λ m. drop n (take m (drop start items))) whole
    ∙ ap (drop n) c.self.view_is
