use Rattle.std.proofs.Common.{◌≤◌, length, sym, subst, arith}
use Rattle.std.specs.Io.KnownBytes.{Appends}
use Rattle.std.proofs.KnownBytes.{Appends-nil}
use Rattle.dd_ports.specs.Grows.{GrowsByPrefix}
use Rattle.dd_suite_commands.specs.Merges.{bytes_of, IsMergedText, IsMergeRefusal}
use Rattle.dd_suite_commands.specs.Stops.{IsStop}
use Rattle.dd_suite_commands.proofs.MergedTexts.{files_length}
use Rattle.dd_suite_tasks.proofs.FetchedFronts.{fronts_length, merge_of_fronts, unmerged_of_fronts}
use Rattle.dd_suite_tasks.proofs.MergedOfHeld.{prefix_of_each_merge, merge_cause}
use Rattle.dd_suite_tasks.proofs.merge.write_merge.Goals as goal

pub merge_files-requires-clause-few : goal.merge_files-requires-clause-few
merge_files-requires-clause-few g c κs within =
    let tells = g.S.Store.tells c.args.store.now in
    let held = g.S.Store.held c.args.store.now in
    let files = fronts_length tells held 16777217 c.args.names.now (bytes_of c.in-Ok.files.items) c.in-Ok.ensures.fronts in
    let same = files_length c.in-Ok.files.items in
    let few = c.requires.few in
    subst (λ fs. length fs ≤ 8) (sym c.deref.ensures.value) (omega (arith, files, same, few))

pub returns-in-Ok-merge_files-clause-prefix : goal.returns-in-Ok-merge_files-clause-prefix
returns-in-Ok-merge_files-clause-prefix g c told text is =
    let tells = g.S.Store.tells c.args.store.now in
    let held = g.S.Store.held c.args.store.now in
    let old = g.O.Sink.held c.args.out.now in
    let new = g.O.Sink.held c.write_text.new.out in
    let mine = c.in-Ok-merge_files.text.items in
    prefix_of_each_merge c.args.names.now tells held old new mine text told
    (merge_of_fronts tells held c.args.names.now (bytes_of c.in-Ok.files.items) mine c.in-Ok.ensures.fronts
    (subst (λ fs. IsMergedText (bytes_of fs) mine) c.deref.ensures.value c.in-Ok-merge_files.ensures.text))
    (subst (GrowsByPrefix old new) c.deref-in-Ok-merge_files.ensures.value c.write_text.ensures.prefix) is

pub returns-in-Ok-merge_files-clause-whole : goal.returns-in-Ok-merge_files-clause-whole
returns-in-Ok-merge_files-clause-whole g c done =
    let tells = g.S.Store.tells c.args.store.now in
    let held = g.S.Store.held c.args.store.now in
    let old = g.O.Sink.held c.args.out.now in
    let new = g.O.Sink.held c.write_text.new.out in
    let mine = c.in-Ok-merge_files.text.items in
    record {
      text = mine;
      is_text = merge_of_fronts tells held c.args.names.now (bytes_of c.in-Ok.files.items) mine c.in-Ok.ensures.fronts
          (subst (λ fs. IsMergedText (bytes_of fs) mine) c.deref.ensures.value c.in-Ok-merge_files.ensures.text);
      appended = subst (Appends old new) c.deref-in-Ok-merge_files.ensures.value (c.write_text.ensures.whole done);
    }

pub returns-in-Ok-merge_files-clause-cause : goal.returns-in-Ok-merge_files-clause-cause
returns-in-Ok-merge_files-clause-cause g c =
    let tells = g.S.Store.tells c.args.store.now in
    let held = g.S.Store.held c.args.store.now in
    let old = g.O.Sink.held c.args.out.now in
    let new = g.O.Sink.held c.write_text.new.out in
    let mine = c.in-Ok-merge_files.text.items in
    merge_cause c.args.names.now c.write_text.result _ _ c.write_text.ensures.cause
    (record {
      text = mine;
      is_text = merge_of_fronts tells held c.args.names.now (bytes_of c.in-Ok.files.items) mine c.in-Ok.ensures.fronts
          (subst (λ fs. IsMergedText (bytes_of fs) mine) c.deref.ensures.value c.in-Ok-merge_files.ensures.text);
      grown = subst (GrowsByPrefix old new) c.deref-in-Ok-merge_files.ensures.value c.write_text.ensures.prefix;
    })

pub returns-in-Err-Refused-clause-cause : goal.returns-in-Err-Refused-clause-cause
returns-in-Err-Refused-clause-cause g c =
    let tells = g.S.Store.tells c.args.store.now in
    let held = g.S.Store.held c.args.store.now in
    let fronts = bytes_of c.in-Ok.files.items in
    let refused = subst (IsStop (IsMergeRefusal (bytes_of c.deref.result.now))) c.in-Err-Refused.field-0-is c.in-Err-Refused.ensures.why in (
      unmerged_of_fronts tells held c.args.names.now fronts c.in-Err-Refused.refusal c.in-Ok.ensures.fronts
          (subst (λ fs. IsMergeRefusal (bytes_of fs) c.in-Err-Refused.refusal) c.deref.ensures.value refused),
      Appends-nil (g.O.Sink.held c.args.out.now),
    )
