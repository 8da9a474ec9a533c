use Rattle.std.proofs.Common.{◌++◌, ap, ◌∙◌}
use Rattle.dd_symbol.specs.Images.{of_code}
use Rattle.dd_symbol.proofs.TableLemmas.{of_code-of_rows}
use Rattle.dd_symbol.proofs.code_rows.CodeRows.from_bytes.Goals as goal

-- images after no numbers
pub returns : goal.returns
returns c =
    let images = c.args.images.now in
    ap (of_code c.args.size) (c.in_ok-extend_bytes.ensures ∙ ap (λ xs. xs ++ images) c.in_ok-numbers.ensures) ∙ of_code-of_rows c.args.size images c.requires.length
