use Rattle.std.proofs.Common.{◌≡◌, ◌≢◌, ◌+◌, ◌≤◌, ◌<◌, ◌∷◌, [], ◌++◌, ◌-◌, take, drop, length, refl, sym, ap, ◌∙◌, subst, arith}
use Rattle.std.proofs.lemmas.List.{length_push}
use Rattle.dd_front.specs.declared.entry.State.TheVariants.{Open}
use Rattle.dd_front.specs.Rounds.{open_jobs}
use Rattle.dd_front.proofs.Firsts.{one_more, none_more}
use Rattle.dd_front.proofs.rounds.first_open.Goals as goal
use Rattle.dd_front.proofs.rounds.first_open.Goals.{then-is_open+in_ok-try_copy+in_ok-push, else-is_open}

pub loop-entry-preserved : goal.loop-entry-preserved
loop-entry-preserved c =
    let es = c.args.entries.now in
    let i = c.loop-entry.entry-index in
    let e = c.entry-item.result in
    let jobs = c.loop-entry.jobs.items in
    let now = c.if-is_open.jobs.items in
    let room : length jobs < c.args.most = omega arith in
    elim c.if-is_open.branch [
      | then-is_open+in_ok-try_copy+in_ok-push w ↦
          let longer : now ≡ jobs ++ e.job ∷ [] = ap (λ v. v.items) w.jobs-is ∙ w.in_ok-push.ensures.items ∙ ap (λ j. jobs ++ j ∷ []) w.in_ok-try_copy.ensures in (
            omega (arith, ap length longer, length_push jobs e.job),
            one_more jobs now c.args.most es i e c.loop-entry-test.true c.entry-item.is room (w.if-is_open.ensures.0 refl) longer ∙ c.loop-entry.invariant.1,
          )
      | else-is_open w ↦
          let same : now ≡ jobs = ap (λ v. v.items) w.jobs-is in
          let no : e.state ≢ Open = λ is. let wrong = w.if-is_open.ensures.1 is in cc in
          subst (λ js. (length js ≤ c.args.most) × (js ++ take (c.args.most - length js) (open_jobs (drop (i + 1) es)) ≡ take c.args.most (open_jobs es))) (sym same)
          (c.loop-entry.invariant.0, none_more jobs c.args.most es i e c.loop-entry-test.true c.entry-item.is no ∙ c.loop-entry.invariant.1)
    ]
