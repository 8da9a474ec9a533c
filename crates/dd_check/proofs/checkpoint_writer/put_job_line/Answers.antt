use Rattle.std.proofs.Common.{◌++◌, ◌∙◌, ap}
use Rattle.std.proofs.lemmas.Result.{on_ok_weaker}
use Rattle.std.specs.Prelude.{string_bytes}
use Rattle.std.specs.List.{flat_map}
use Rattle.dd_model.specs.Line.{after_space}
use Rattle.dd_check.proofs.LineLemmas.{job_line}
use Rattle.dd_check.proofs.checkpoint_writer.put_job_line.Goals as goal

pub returns : goal.returns
returns c =
    let o1 = string_bytes c.write.new.self in
    let o2 = string_bytes c.put_all.new.text in
    let o3 = string_bytes c.writeln.new.self in
    on_ok_weaker c.writeln.result
    (job_line (string_bytes c.args.text.now) o1 o2 o3 c.args.job.now.size c.args.job.now.prefix
    c.in_ok-write.ensures.bytes (c.in_ok-put_all.ensures ∙ ap (λ ns. o1 ++ flat_map after_space ns) c.as_slice.ensures))
    c.writeln.ensures.bytes
