use Rattle.std.proofs.Common.{◌≡◌, length, ◌+◌, ◌-◌, [], ◌∷◌, ap, ◌∙◌, sym, subst, ⊎_elim, arith}
use Rattle.std.proofs.lemmas.Bool.{cases_lt}
use Rattle.std.proofs.lemmas.List.{get_or_append_left, get_or_push, length_push}
use Rattle.dd_model.specs.Symbol.{item}
use Rattle.dd_model.specs.Cell.{IsPeriod}
use Rattle.dd_symbol.proofs.involutions.Involutions.periods.Goals as goal

pub loop-k-preserved : goal.loop-k-preserved
loop-k-preserved c =
    let s = c.args.self.now in
    let p = c.args.pair in
    let k = c.loop-k.k in
    let old = c.loop-k.periods.items in
    let size = c.loop-k.invariant.length in
    let more = c.in_ok-push.ensures.items in
    record {
      length = ap length more ∙ length_push old c.following_period-turns.result ∙ omega arith;
      each = λ d low high. subst (λ xs. IsPeriod s p d (item xs d)) (sym more) (⊎_elim
          (λ early. subst (IsPeriod s p d) (sym (get_or_append_left old (c.following_period-turns.result ∷ []) 0 (d - 1) (omega arith))) (c.loop-k.invariant.each d low early))
          (λ late.
          let here : k + 1 ≡ d = omega arith in
          subst (IsPeriod s p d) (sym (get_or_push old c.following_period-turns.result 0 (d - 1) (omega arith))) (subst (λ e. IsPeriod s p e c.following_period-turns.result) here c.following_period-turns.ensures))
          (cases_lt d (k + 1)));
    }

pub returns : goal.returns
returns c = record { whole = c.loop-k.invariant.length ∙ omega arith; each = λ d h. c.loop-k.invariant.each d h.0 (let high = h.1 in omega arith) }
