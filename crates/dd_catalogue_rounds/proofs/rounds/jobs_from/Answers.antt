use Rattle.std.proofs.Common.{rules}
use Rattle.dd_model.specs.Position.{IsWhollyBefore}
use Rattle.dd_catalogue_rounds.proofs.JobsFrom.{without_from_retain}
use Rattle.dd_catalogue_rounds.proofs.rounds.jobs_from.Goals as goal

pub returns : goal.returns
returns c = without_from_retain _ (IsWhollyBefore c.args.at.now) _ (λ x b f' k. search rules) _ _ c.retain.ensures.filtered
