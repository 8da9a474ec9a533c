use Rattle.std.proofs.Common.{◌++◌, ◌∙◌, sym, ap, append_assoc}
use Rattle.std.proofs.lemmas.Result.{on_ok_weaker}
use Rattle.std.specs.Prelude.{codes, string_bytes}
use Rattle.dd_check.specs.Texts.{line_text}
use Rattle.dd_check.specs.Rows.{number_row, limits_row}
use Rattle.dd_check.specs.Checks.{limits_of}
use Rattle.dd_check.proofs.checkpoint_writer.put_first_lines.Goals as goal

pub returns : goal.returns
returns c =
    on_ok_weaker c.put_limits_line.result
    (λ limits. limits ∙ ap (λ z. z ++ line_text (limits_row (limits_of c.args.c.now.request)))
    (c.in_ok-writeln.ensures.bytes ∙ sym (append_assoc (string_bytes c.args.text.now) (codes "dressline checkpoint 2\n") (line_text (number_row (codes "run") c.args.c.now.run)))))
    c.put_limits_line.ensures
