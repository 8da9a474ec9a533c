use Rattle.std.proofs.Common.{◌++◌, ◌∙◌, refl, ap, append_assoc}
use Rattle.std.proofs.lemmas.Result.{on_ok_weaker}
use Rattle.std.specs.Prelude.{string_bytes}
use Rattle.dd_check.specs.Writing.{AddsCheck}
use Rattle.dd_check.specs.ShardChecks.{shard_line}
use Rattle.dd_check.proofs.checkpoint_writer.put_shard.Goals as goal

pub returns : goal.returns
returns c =
    on_ok_weaker c.put_checkpoint.result
    (λ (adds : AddsCheck c.args.c.now (string_bytes c.put_shard_line.new.text) (string_bytes c.put_checkpoint.new.text)). record {
      check = shard_line c.args.shard ++ adds.check;
      is_check = record { check = adds.check; is_check = adds.is_check; text_is = refl };
      text = adds.text ∙ ap (λ z. z ++ adds.check) c.in_ok-put_shard_line.ensures ∙ append_assoc (string_bytes c.args.text.now) (shard_line c.args.shard) adds.check;
    })
    c.put_checkpoint.ensures
