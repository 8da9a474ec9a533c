use Rattle.std.proofs.Common.{⊎_elim}
use Rattle.std.proofs.lemmas.Bool.{cases_lt}
use Rattle.dd_model.specs.declared.index.Index.TheVariants.{Zero}
use Rattle.dd_model.specs.Symbol.{op}
use Rattle.dd_branch_bounds.proofs.OddSizes.{odd_fixes, odd_first}
use Rattle.dd_branch_bounds.proofs.share_laws.odd_tables_have_fixed_chambers.Goals as goal

pub returns-clause-fixed : goal.returns-clause-fixed
returns-clause-fixed _ s i table odd free = odd_fixes s table.involutions i odd free

pub returns-clause-first : goal.returns-clause-first
returns-clause-first _ s table connected least odd =
    ⊎_elim (λ more. absurd (odd_first s table connected least odd more)) (λ low. low) (cases_lt 1 (op s Zero 1))
