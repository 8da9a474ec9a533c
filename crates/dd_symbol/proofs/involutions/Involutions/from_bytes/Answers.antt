use Rattle.std.proofs.Common.{subst, arith}
use Rattle.dd_symbol.specs.Images.{of_rows}
use Rattle.dd_symbol.specs.Refusals.{IsRowsFault}
use Rattle.dd_symbol.proofs.TableLemmas.{three_of_code}
use Rattle.dd_symbol.proofs.RefusalLemmas.{no_rows_fault}
use Rattle.dd_symbol.proofs.involutions.Involutions.from_bytes.Goals as goal

pub invariant_of-result : goal.invariant_of-result
invariant_of-result c =
    let rows = c.in_ok-rows.rows in
    let small = rows.small in
    three_of_code rows.size rows.numbers (omega arith) c.in-Ok.ensures.involutions

pub returns-in-Err : goal.returns-in-Err
returns-in-Err c inv =
    let why = c.in-Err.field-0 in
    no_rows_fault (of_rows c.args.size c.args.images.now) why inv (subst (λ s. IsRowsFault s why) c.in_ok-rows.ensures c.in-Err.ensures.why)
