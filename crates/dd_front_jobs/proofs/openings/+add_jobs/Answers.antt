use Rattle.std.proofs.Common.{rules, ◌≡◌, ℕ, IsTrue, false, List, ◌+◌, ◌-◌, ◌*◌, ◌≤◌, ◌<◌, ◌++◌, ◌∷◌, [], min, length, take, refl, sym, ap, ◌∙◌, subst, arith}
use Rattle.std.proofs.lemmas.List.{take_at, length_push}
use Rattle.dd_front_jobs.specs.FirstVisit.{IsFirstVisitPrefix, CanFollow, greatest}
use Rattle.dd_front_jobs.specs.Opening.{AreJobsUnder}
use Rattle.dd_front_jobs.specs.Under.{Appends}
use Rattle.dd_front_jobs.proofs.FirstVisits.{first_more}
use Rattle.dd_front_jobs.proofs.JobLists.{AreJobsBefore, adds_none, adds_more, adds_skip, adds_all, adds_whole}
use Rattle.dd_front_jobs.proofs.openings.+add_jobs.Goals as goal
use Rattle.dd_front_jobs.proofs.openings.+add_jobs.Goals.{then-can_follow+in_ok-add_jobs, else-can_follow}

pub returns-then-len-end-clause-jobs : goal.returns-then-len-end-clause-jobs
returns-then-len-end-clause-jobs t c =
    let xs = c.args.prefix.now.items in
    let end = min (3 * c.args.size) 9 in
    let whole : length xs ≡ end = omega arith in
    subst (Appends (AreJobsUnder c.args.size end xs) c.args.jobs.now.items) (sym c.in_ok-push.ensures.items)
    (adds_whole c.args.size end xs _ c.args.jobs.now.items whole c.requires.first_visit refl (c.in_ok-prefix.ensures ∙ c.deref.ensures.0))

pub add_jobs-requires : goal.add_jobs-requires
add_jobs-requires t c =
    let xs = c.args.prefix.now.items in
    let i = c.loop-k.invariant in
    let short = i.short in
    let pushed : c.push-then-can_follow.new.self.items ≡ xs ++ (c.loop-k.k + 1) ∷ [] = c.push-then-can_follow.ensures.items ∙ ap (λ ys. ys ++ (c.loop-k.k + 1) ∷ []) i.same in
    let longer : length c.push-then-can_follow.new.self.items ≡ length xs + 1 = ap length pushed ∙ length_push xs (c.loop-k.k + 1) in
    let can = subst (λ ys. CanFollow c.args.size ys (c.loop-k.k + 1)) (c.deref-in-loop-k.ensures.0 ∙ i.same) (c.if-can_follow.ensures.0 refl) in (
      search rules,
      (c.requires.small, (omega arith, subst (IsFirstVisitPrefix c.args.size) (sym pushed) (first_more c.args.size xs (c.loop-k.k + 1) c.requires.first_visit can))),
    )

popped : (ys xs : List ℕ) (k : ℕ) → ys ≡ xs ++ k ∷ [] → take (length ys - 1) ys ≡ xs
popped ys xs k e =
    let longer : length ys ≡ length xs + 1 = ap length e ∙ length_push xs k in
    let one : length ys - 1 ≡ length xs = omega arith in
    ap (λ j. take j ys) one ∙ ap (take (length xs)) e ∙ take_at xs (k ∷ []) (length xs) refl

falsity : IsTrue false → ⊥
falsity f = cc

pub loop-k-preserved : goal.loop-k-preserved
loop-k-preserved t c =
    let xs = c.args.prefix.now.items in
    let n = c.args.size in
    let end = min (3 * n) 9 in
    let k = c.loop-k.k + 1 in
    let i = c.loop-k.invariant in
    elim c.if-can_follow.branch [
      | then-can_follow+in_ok-add_jobs w ↦
          let pushed : w.push-then-can_follow.new.self.items ≡ xs ++ k ∷ [] = w.push-then-can_follow.ensures.items ∙ ap (λ ys. ys ++ k ∷ []) i.same in
          let after = w.in_ok-add_jobs.ensures.same ∙ pushed in
          let added = subst (λ ys. Appends (AreJobsUnder n end ys) c.loop-k.jobs.items w.add_jobs.new.jobs.items) pushed w.in_ok-add_jobs.ensures.jobs in
          record {
            same = ap (λ p. p.items) w.prefix-is ∙ w.pop.ensures.rest ∙ popped w.add_jobs.new.prefix.items xs k after;
            short = i.short;
            jobs = subst (λ l. Appends (AreJobsBefore n end xs (k + 1)) c.args.jobs.now.items l.items) (sym w.jobs-is)
                (adds_more n end xs k c.args.jobs.now.items c.loop-k.jobs.items w.add_jobs.new.jobs.items i.short i.jobs added);
          }
      | else-can_follow w ↦ record {
        same = ap (λ p. p.items) w.prefix-is ∙ i.same;
        short = i.short;
        jobs = subst (λ l. Appends (AreJobsBefore n end xs (k + 1)) c.args.jobs.now.items l.items) (sym w.jobs-is)
            (adds_skip n end xs k c.args.jobs.now.items c.loop-k.jobs.items i.short (λ can. absurd (falsity (w.if-can_follow.ensures.1 (subst (λ ys. CanFollow n ys k) (sym (c.deref-in-loop-k.ensures.0 ∙ i.same)) can)))) i.jobs);
      }
    ]

pub returns-clause-jobs : goal.returns-clause-jobs
returns-clause-jobs t c =
    let xs = c.args.prefix.now.items in
    let n = c.args.size in
    let i = c.loop-k.invariant in
    adds_all n (min (3 * n) 9) xs (c.loop-k.k + 1) c.args.jobs.now.items c.loop-k.jobs.items i.short
    (λ j can.
    let small = can.small in
    let next : j ≤ greatest xs + 1 = can.next in
    let past = c.loop-k-test.false in
    let end = c.loop-k.auto.k-end in
    let most = c.min-most.ensures in
    let one = c.from.ensures in
    let great : c.greatest.result ≡ greatest xs = c.greatest.ensures ∙ ap greatest c.deref-2.ensures.0 in
    omega (arith, small, next, past, end, most, one, great))
    i.jobs

pub loop-k-init : goal.loop-k-init
loop-k-init t c =
    let xs = c.args.prefix.now.items in
    let n = c.args.size in
    let within = c.requires.short in
    let other = c.if-len-end.false in
    let short : length xs < min (3 * n) 9 = omega arith in
    record { same = refl; short = short; jobs = adds_none n (min (3 * n) 9) xs c.args.jobs.now.items short }
