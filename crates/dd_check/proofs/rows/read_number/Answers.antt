use Rattle.std.proofs.Common.{◌∙◌, ap, arith}
use Rattle.std.specs.Prelude.{decimal}
use Rattle.dd_check.proofs.NumberLemmas.{no_text, not_refused, same_parsed}
use Rattle.dd_check.proofs.rows.read_number.Goals as goal

pub returns-in-Err : goal.returns-in-Err
returns-in-Err c n = no_text c.args.word.now n c.in-Err.ensures.cases.0

pub returns-in-Err-parse : goal.returns-in-Err-parse
returns-in-Err-parse c n =
    not_refused c.args.word.now c.in-Ok.text.now n c.parse.result c.in-Err-parse.field-0 c.in-Ok.ensures.cases.0 c.parse.ensures.value.0 c.in-Err-parse.is

pub returns-then-number-ge-LIMIT : goal.returns-then-number-ge-LIMIT
returns-then-number-ge-LIMIT c n i =
    let same = same_parsed c.args.word.now c.in-Ok.text.now n c.in-Ok-parse.number c.parse.result c.in-Ok.ensures.cases.0 c.parse.ensures.value.0 c.in-Ok-parse.is i in
    let short = i.short in
    omega (arith, c.if-number-ge-LIMIT.true)

pub returns-then-not-is_written : goal.returns-then-not-is_written
returns-then-not-is_written c n i =
    let same = same_parsed c.args.word.now c.in-Ok.text.now n c.in-Ok-parse.number c.parse.result c.in-Ok.ensures.cases.0 c.parse.ensures.value.0 c.in-Ok-parse.is i in
    let is = c.is_written.ensures.1 (i.digits ∙ ap decimal same) in
    let not = c.if-not-is_written.true in
    cc
