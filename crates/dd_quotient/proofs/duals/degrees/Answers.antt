use Rattle.std.proofs.Common.{ℕ, [], ◌∷◌, ◌++◌, map, sym, ap, ◌∙◌}
use Rattle.dd_model.specs.Symbol.{degree}
use Rattle.dd_model.specs.Code.{count_from}
use Rattle.dd_model.proofs.CountFrom.{map-count_from-more}
use Rattle.dd_quotient.proofs.duals.degrees.Goals as goal

pub loop-k-preserved : goal.loop-k-preserved
loop-k-preserved c =
    let h : ℕ → ℕ = degree c.args.s.now c.args.pair in
    c.in_ok-push.ensures.items ∙ ap (λ xs. xs ++ c.degree.result ∷ []) c.loop-k.invariant
    ∙ ap (λ m. map h (count_from 1 c.loop-k.k) ++ m ∷ []) c.degree.ensures ∙ sym (map-count_from-more h c.loop-k.k)
