use Rattle.std.proofs.Common.{◌≡◌, rules}
use Rattle.std.specs.declared.cmp.Ordering.TheVariants.{Equal}
use Rattle.dd_model.specs.Code.{code_cmp}
use Rattle.dd_model.proofs.Codes.{same_from_code_cmp}
use Rattle.dd_shard.proofs.doubles.are_equal.Goals as goal

pub returns-clause-same : goal.returns-clause-same
returns-clause-same c is =
    let equal : code_cmp c.args.a.now.symbol c.args.b.now.symbol ≡ Equal = search rules in
    same_from_code_cmp c.args.a.now.symbol c.args.b.now.symbol c.symbol.ensures.symbol.symbol.table c.symbol-2.ensures.symbol.symbol.table equal
