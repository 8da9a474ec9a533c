use Rattle.std.proofs.lemmas.Result.{on_ok_weaker}
use Rattle.std.specs.Prelude.{string_bytes}
use Rattle.dd_check.specs.Sets.{set_text}
use Rattle.dd_check.proofs.LineLemmas.{set_line}
use Rattle.dd_check.proofs.checkpoint_writer.put_set_line.Goals as goal

pub returns : goal.returns
returns c =
    let set = c.in_ok-put_set.ensures in
    on_ok_weaker c.writeln.result
    (λ end. record {
      items = set.items;
      are_items = set.are_items;
      set_is = set.set_is;
      text = set_line (string_bytes c.args.text.now) (string_bytes c.write.new.self) (string_bytes c.put_set.new.text) (string_bytes c.writeln.new.self) c.args.key.now (set_text set.items)
          c.in_ok-write.ensures.bytes set.text end;
    })
    c.writeln.ensures.bytes
