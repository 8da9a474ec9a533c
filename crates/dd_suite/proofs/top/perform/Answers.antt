use Rattle.std.proofs.Common.{ℕ, ◌≤◌, List, None, Some, map, length, refl, sym, subst}
use Rattle.std.specs.List.{AllByRecursion}
use Rattle.std.specs.Prelude.{IsSome}
use Rattle.std.specs.Rc.{rc_str_bytes}
use Rattle.dd_check.specs.Calls.{Begin, Resume as Next}
use Rattle.dd_suite_tasks.specs.declared.task.Task.TheVariants.{Alone, Kept, Resume, OnFile, Merge, Exercise}
use Rattle.dd_suite_tasks.specs.Outcomes.{IsRunOutcome}
use Rattle.dd_suite_tasks.specs.Outside.{before_of, after_of}
use Rattle.dd_suite_tasks.specs.Stops.{EndsOnFile, on_file, of_merge, of_exercise, of_run}
use Rattle.dd_suite_tasks.specs.Merges.{AskToMerge}
use Rattle.dd_suite_tasks.specs.MergeEndings.{EndsMerge}
use Rattle.dd_suite_tasks.specs.Words.{IsOnFile, AskToExercise}
use Rattle.dd_suite_tasks.proofs.Requests.{asked_of, file_asked, lone_asked, kept_asked, resume_asked, merge_asked, few_files, exercise_asked, exercise_range}
use Rattle.dd_suite.proofs.RunCalls.{lone_outcome}
use Rattle.dd_suite.proofs.top.perform.Goals as goal

pub write_lone-requires-clause-valid : goal.write_lone-requires-clause-valid
write_lone-requires-clause-valid g c κs within =
    let words = map rc_str_bytes c.args.words.now in
    (lone_asked words c.in-Alone.portion c.in-Alone.pace (asked_of words c.in-Ok-Some.field-0 c.in-Ok-Some.task (Alone c.in-Alone.portion c.in-Alone.pace) c.in-Ok-Some.ensures c.in-Ok-Some.field-0-is c.in-Alone.is)).valid

pub write_kept-requires-clause-valid : goal.write_kept-requires-clause-valid
write_kept-requires-clause-valid g c κs within =
    let words = map rc_str_bytes c.args.words.now in
    (kept_asked words c.in-Kept.portion c.in-Kept.name c.in-Kept.pace c.in-Kept.pause (asked_of words c.in-Ok-Some.field-0 c.in-Ok-Some.task (Kept c.in-Kept.portion c.in-Kept.name c.in-Kept.pace c.in-Kept.pause) c.in-Ok-Some.ensures c.in-Ok-Some.field-0-is c.in-Kept.is)).valid

pub returns-in-Alone-clause-outcome : goal.returns-in-Alone-clause-outcome
returns-in-Alone-clause-outcome g c =
    let words = map rc_str_bytes c.args.words.now in
    let q = c.in-Alone.portion in
    let pace = c.in-Alone.pace in
    let asked = lone_asked words q pace (asked_of words c.in-Ok-Some.field-0 c.in-Ok-Some.task (Alone q pace) c.in-Ok-Some.ensures c.in-Ok-Some.field-0-is c.in-Alone.is) in
    let before = before_of g.S.Store g.O.Sink c.args.store.now c.args.out.now in
    let after = after_of g.S.Store g.O.Sink c.args.store.now c.write_lone.new.out in
    of_run (record { task = Begin q None; round = pace.round; pause = None }) asked.asked
    (lone_outcome q pace.round c.write_lone.result before after c.write_lone.ensures.ending (λ told other. refl))

pub returns-in-Kept-clause-outcome : goal.returns-in-Kept-clause-outcome
returns-in-Kept-clause-outcome g c =
    let words = map rc_str_bytes c.args.words.now in
    let q = c.in-Kept.portion in
    let name = c.in-Kept.name in
    let pace = c.in-Kept.pace in
    let pause = c.in-Kept.pause in
    let asked = kept_asked words q name pace pause (asked_of words c.in-Ok-Some.field-0 c.in-Ok-Some.task (Kept q name pace pause) c.in-Ok-Some.ensures c.in-Ok-Some.field-0-is c.in-Kept.is) in
    let before = before_of g.S.Store g.O.Sink c.args.store.now c.args.out.now in
    let after = after_of g.S.Store g.O.Sink c.write_kept.new.store c.write_kept.new.out in
    of_run (record { task = Begin q (Some name); round = pace.round; pause = pause }) asked.asked
    (subst (λ (n : List ℕ). IsRunOutcome (record { task = Begin q (Some n); round = pace.round; pause = pause }) c.write_kept.result before after) c.as_str.ensures c.write_kept.ensures.outcome)

pub returns-in-Resume-clause-outcome : goal.returns-in-Resume-clause-outcome
returns-in-Resume-clause-outcome g c =
    let words = map rc_str_bytes c.args.words.now in
    let kind = c.in-Resume.kind in
    let name = c.in-Resume.name in
    let pace = c.in-Resume.pace in
    let pause = c.in-Resume.pause in
    let asked = resume_asked words kind name pace pause (asked_of words c.in-Ok-Some.field-0 c.in-Ok-Some.task (Resume kind name pace pause) c.in-Ok-Some.ensures c.in-Ok-Some.field-0-is c.in-Resume.is) in
    let before = before_of g.S.Store g.O.Sink c.args.store.now c.args.out.now in
    let after = after_of g.S.Store g.O.Sink c.resume.new.store c.resume.new.out in
    of_run (record { task = Next kind name; round = pace.round; pause = pause }) asked
    (subst (λ (n : List ℕ). IsRunOutcome (record { task = Next kind n; round = pace.round; pause = pause }) c.resume.result before after) c.as_str-in-Resume.ensures c.resume.ensures.outcome)

pub returns-in-Resume-clause-store_sure : goal.returns-in-Resume-clause-store_sure
returns-in-Resume-clause-store_sure g c sure held =
    let words = map rc_str_bytes c.args.words.now in
    let kind = c.in-Resume.kind in
    let name = c.in-Resume.name in
    let pace = c.in-Resume.pace in
    let pause = c.in-Resume.pause in
    let asked = resume_asked words kind name pace pause (asked_of words c.in-Ok-Some.field-0 c.in-Ok-Some.task (Resume kind name pace pause) c.in-Ok-Some.ensures c.in-Ok-Some.field-0-is c.in-Resume.is) in
    c.resume.ensures.store_sure sure
    (subst (λ n. IsSome (g.S.Store.held c.args.store.now n)) (sym c.as_str-in-Resume.ensures)
    (held.check kind name (record { round = pace.round; pause = pause; run = asked })))

pub returns-in-OnFile-clause-outcome : goal.returns-in-OnFile-clause-outcome
returns-in-OnFile-clause-outcome g c =
    let words = map rc_str_bytes c.args.words.now in
    let command = c.in-OnFile.command in
    let name = c.in-OnFile.name in
    let asked : IsOnFile words command name = file_asked words command name (asked_of words c.in-Ok-Some.field-0 c.in-Ok-Some.task (OnFile command name) c.in-Ok-Some.ensures c.in-Ok-Some.field-0-is c.in-OnFile.is) in
    let before = before_of g.S.Store g.O.Sink c.args.store.now c.args.out.now in
    let after = after_of g.S.Store g.O.Sink c.write_file.new.store c.write_file.new.out in
    on_file command name asked
    (subst (λ (n : List ℕ). EndsOnFile command n c.write_file.result before after) c.as_str-in-OnFile.ensures
    (record { cause = c.write_file.ensures.cause; prefix = c.write_file.ensures.prefix; whole = c.write_file.ensures.whole; same = λ told. (c.write_file.ensures.same told).1 }))

pub write_merge-requires-clause-few : goal.write_merge-requires-clause-few
write_merge-requires-clause-few g c κs within =
    let words = map rc_str_bytes c.args.words.now in
    let names = c.in-Merge.names in
    subst (λ ns. length ns ≤ 8) (sym c.as_slice.ensures)
    (few_files words names (merge_asked words names (asked_of words c.in-Ok-Some.field-0 c.in-Ok-Some.task (Merge names) c.in-Ok-Some.ensures c.in-Ok-Some.field-0-is c.in-Merge.is)))

pub returns-in-Merge-clause-store_sure : goal.returns-in-Merge-clause-store_sure
returns-in-Merge-clause-store_sure g c sure all =
    let words = map rc_str_bytes c.args.words.now in
    let names = c.in-Merge.names in
    let held = g.S.Store.held c.args.store.now in
    let merged = all.merged names (merge_asked words names (asked_of words c.in-Ok-Some.field-0 c.in-Ok-Some.task (Merge names) c.in-Ok-Some.ensures c.in-Ok-Some.field-0-is c.in-Merge.is)) in
    c.write_merge.ensures.store_sure sure merged.0 (subst (AllByRecursion (λ name. IsSome (held name))) (sym c.as_slice.ensures) merged.1)

pub returns-in-Merge-clause-outcome : goal.returns-in-Merge-clause-outcome
returns-in-Merge-clause-outcome g c =
    let words = map rc_str_bytes c.args.words.now in
    let names = c.in-Merge.names in
    let asked : AskToMerge words names = merge_asked words names (asked_of words c.in-Ok-Some.field-0 c.in-Ok-Some.task (Merge names) c.in-Ok-Some.ensures c.in-Ok-Some.field-0-is c.in-Merge.is) in
    let before = before_of g.S.Store g.O.Sink c.args.store.now c.args.out.now in
    let after = after_of g.S.Store g.O.Sink c.write_merge.new.store c.write_merge.new.out in
    of_merge names asked
    (subst (λ ns. EndsMerge ns c.write_merge.result before after) c.as_slice.ensures
    (record { cause = c.write_merge.ensures.cause; prefix = c.write_merge.ensures.prefix; whole = c.write_merge.ensures.whole; same = λ told. (c.write_merge.ensures.same told).1 }))

pub write_exercise-requires-clause-start : goal.write_exercise-requires-clause-start
write_exercise-requires-clause-start g c =
    let words = map rc_str_bytes c.args.words.now in
    let start = c.in-Exercise.start in
    let count = c.in-Exercise.count in
    (exercise_range words start count (exercise_asked words start count (asked_of words c.in-Ok-Some.field-0 c.in-Ok-Some.task (Exercise start count) c.in-Ok-Some.ensures c.in-Ok-Some.field-0-is c.in-Exercise.is))).0

pub write_exercise-requires-clause-count : goal.write_exercise-requires-clause-count
write_exercise-requires-clause-count g c =
    let words = map rc_str_bytes c.args.words.now in
    let start = c.in-Exercise.start in
    let count = c.in-Exercise.count in
    (exercise_range words start count (exercise_asked words start count (asked_of words c.in-Ok-Some.field-0 c.in-Ok-Some.task (Exercise start count) c.in-Ok-Some.ensures c.in-Ok-Some.field-0-is c.in-Exercise.is))).1

pub returns-in-Exercise-clause-outcome : goal.returns-in-Exercise-clause-outcome
returns-in-Exercise-clause-outcome g c =
    let words = map rc_str_bytes c.args.words.now in
    let start = c.in-Exercise.start in
    let count = c.in-Exercise.count in
    let asked : AskToExercise words start count = exercise_asked words start count (asked_of words c.in-Ok-Some.field-0 c.in-Ok-Some.task (Exercise start count) c.in-Ok-Some.ensures c.in-Ok-Some.field-0-is c.in-Exercise.is) in
    of_exercise start count asked
    (record { cause = c.write_exercise.ensures.cause; prefix = c.write_exercise.ensures.prefix; whole = c.write_exercise.ensures.whole; same = λ told other. refl })
