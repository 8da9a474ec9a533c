use Rattle.std.proofs.Common.{subst}
use Rattle.dd_ports.specs.Grows.{GrowsByPrefix}
use Rattle.dd_suite_commands.specs.Files.{IsFileText}
use Rattle.dd_suite_tasks.proofs.HeldTexts.{prefix_of_each_file}
use Rattle.dd_suite_tasks.proofs.file.write_file.Goals as goal

pub returns-in-Ok-text_of_file-clause-prefix : goal.returns-in-Ok-text_of_file-clause-prefix
returns-in-Ok-text_of_file-clause-prefix g c told text is =
    let tells = g.S.Store.tells c.args.store.now in
    let held = g.S.Store.held c.args.store.now c.args.name.now in
    let old = g.O.Sink.held c.args.out.now in
    let new = g.O.Sink.held c.write_text.new.out in
    let mine = c.in-Ok-text_of_file.text.items in
    prefix_of_each_file c.args.command tells held old new mine text told
    (record {
      bytes = c.in-Ok.bytes.items;
      fetched = c.in-Ok.ensures.bytes;
      is_text = subst (λ bytes. IsFileText c.args.command bytes mine) c.deref.ensures.value c.in-Ok-text_of_file.ensures.text;
    })
    (subst (GrowsByPrefix old new) c.deref-in-Ok-text_of_file.ensures.value c.write_text.ensures.prefix) is
