use Rattle.std.proofs.Common.{◌≡◌, sym, ap, ◌∙◌, subst}
use Rattle.std.proofs.lemmas.Result.{IfOk-weaker}
use Rattle.dd_model.specs.Symbol.{Symbol, AreInvolutions}
use Rattle.dd_model.proofs.SameInvolutions.{involutions-same}
use Rattle.dd_symbol.specs.Images.{of_rows}
use Rattle.dd_branch_tables.specs.Stem.{prefix_of, size_of}
use Rattle.dd_branch_tables.specs.Table.{AreOfTable}
use Rattle.dd_branch_tables.proofs.TableLemmas.{rows_of_table}
use Rattle.dd_branch_tables.proofs.whole_stems.involutions.Goals as goal
use Rattle.dd_branch_tables.proofs.whole_stems.involutions.Goals.{After-from_known_bytes}

pub from_known_bytes-requires-clause-involutions : goal.from_known_bytes-requires-clause-involutions
from_known_bytes-requires-clause-involutions c =
    let stem = c.args.stem.now in
    let of = rows_of_table (size_of stem) (prefix_of stem) c.requires.stem.ready.small c.requires.whole c.requires.some in
    let rows = involutions-same of.table (of_rows (size_of stem) (prefix_of stem)) of.same of.is_table.involutions in
    subst (λ n. AreInvolutions (of_rows n c.prefix.result.now)) (sym (c.from-size.ensures ∙ c.size.ensures))
    (subst (λ xs. AreInvolutions (of_rows (size_of stem) xs)) (sym c.prefix.ensures) rows)

-- what is read
read : (c : After-from_known_bytes) (it : Symbol) → it ≡ of_rows c.from-size.result c.prefix.result.now → it ≡ of_rows (size_of c.args.stem.now) (prefix_of c.args.stem.now)
read c it is = is ∙ ap (of_rows c.from-size.result) c.prefix.ensures ∙ ap (λ n. of_rows n (prefix_of c.args.stem.now)) (c.from-size.ensures ∙ c.size.ensures)

pub returns-clause-same : goal.returns-clause-same
returns-clause-same c = IfOk-weaker c.from_known_bytes.result _ _ (read c) c.from_known_bytes.ensures

pub returns-clause-table : goal.returns-clause-table
returns-clause-table c =
    let stem = c.args.stem.now in
    let of = rows_of_table (size_of stem) (prefix_of stem) c.requires.stem.ready.small c.requires.whole c.requires.some in
    IfOk-weaker c.from_known_bytes.result _ _ (λ it is. subst AreOfTable (sym (read c it is)) of) c.from_known_bytes.ensures
