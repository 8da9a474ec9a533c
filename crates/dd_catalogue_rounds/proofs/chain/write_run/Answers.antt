use Rattle.dd_pages_and_checkpoints.specs.declared.fault.RunFault.TheVariants.{Memory}
use Rattle.dd_pages_and_checkpoints.specs.Runs.{start_of}
use Rattle.dd_catalogue_rounds.proofs.KeptRuns.{nothing_done}
use Rattle.dd_catalogue_rounds.proofs.chain.write_run.Goals as goal

pub returns-in_default-clause-run : goal.returns-in_default-clause-run
returns-in_default-clause-run g c =
    nothing_done (start_of c.args.run.now) c.args.run.now.pace.round c.args.run.now.pause (g.O.Sink.held c.args.out.now) (g.S.Store.held c.args.store.now c.args.name.now) (g.S.Store.tells c.args.store.now) Memory
