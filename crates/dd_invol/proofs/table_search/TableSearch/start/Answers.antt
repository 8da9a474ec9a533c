use Rattle.dd_invol.proofs.TableSearches.{nothing_comes}
use Rattle.dd_invol.proofs.table_search.TableSearch.start.Goals as goal

pub returns-clause-coming : goal.returns-clause-coming
returns-clause-coming c =
    nothing_comes c.args.request.now c.args.job.now _ c.new.ensures.stem c.new.ensures.request c.new.ensures.size c.none.ensures c.in_default.ensures
