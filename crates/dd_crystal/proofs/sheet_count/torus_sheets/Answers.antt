use Rattle.std.proofs.Common.{arith}
use Rattle.dd_crystal.proofs.sheet_count.torus_sheets.Goals as goal

pub overflow_mul-result : goal.overflow_mul-result
overflow_mul-result c =
    let great = c.greatest_value-greatest.ensures in
    let low = c.symbol-symbol.ensures.symbol.branching great.pair great.chamber c.greatest_value-greatest.result great.is_chamber great.branching in
    omega arith
