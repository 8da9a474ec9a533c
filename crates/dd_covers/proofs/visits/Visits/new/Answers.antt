use Rattle.std.proofs.Common.{◌≡◌, [], ◌∷◌, ◌++◌, ap, ◌∙◌}
use Rattle.dd_model.specs.Symbol.{Symbol}
use Rattle.dd_covers.proofs.VisitingLemmas.{begun_visiting}
use Rattle.dd_covers.proofs.visits.Visits.new.Goals as goal

pub returns : goal.returns
returns c =
    let s = c.args.s.now in
    let size : c.size-size.result ≡ s.size = c.size-size.ensures.size ∙ ap (λ (t : Symbol). t.size) c.symbol.ensures.same in
    let order : c.push.new.self.items ≡ 1 ∷ [] = c.in_ok-push.ensures.items ∙ ap (λ xs. xs ++ 1 ∷ []) c.in_ok-order.ensures.items in
    rw (order, c.in_ok-number.ensures.items_if_clones_equal (λ y e. e), c.in_ok-white.ensures.items_if_clones_equal (λ y e. e))
    (begun_visiting s c.symbol.ensures.symbol c.symbol.ensures.connected c.requires c.size-size.result size)
