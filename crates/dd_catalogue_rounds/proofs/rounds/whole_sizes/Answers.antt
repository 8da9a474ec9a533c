use Rattle.std.proofs.Common.{◌≡◌, ◌+◌, ℕ, suc, List, [], ◌∷◌, ◌++◌, sym, ap, ◌∙◌, arith}
use Rattle.dd_model.specs.declared.jobs.Job.{Job}
use Rattle.dd_catalogue_rounds.specs.WholeSizes.{sizes_up_to}
use Rattle.dd_catalogue_rounds.proofs.rounds.whole_sizes.Goals as goal

pub loop-k-init : goal.loop-k-init
loop-k-init c = c.new-jobs.ensures.items

pub loop-k-preserved : goal.loop-k-preserved
loop-k-preserved c =
    let k = c.loop-k.k in
    let next : suc k ≡ k + 1 = omega arith in
    let job : ℕ → List ℕ → Job = λ size prefix. record { size = size; prefix = prefix } in
    c.in_ok-push.ensures.items ∙ ap (λ js. js ++ job (k + 1) c.in_ok-prefix.prefix ∷ []) c.loop-k.invariant
    ∙ ap (λ prefix. sizes_up_to k ++ job (k + 1) prefix ∷ []) c.in_ok-prefix.ensures
    ∙ ap (λ size. sizes_up_to k ++ job size [] ∷ []) (sym next) ∙ ap sizes_up_to next
