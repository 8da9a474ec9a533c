use Rattle.std.proofs.lemmas.Result.{IfOk-weaker}
use Rattle.dd_model.specs.Wanted.{IsCatalogue}
use Rattle.dd_suite_exercise.specs.Seeds.{AreSeeds}
use Rattle.dd_suite_exercise.proofs.seeds.seeds.Goals as goal

pub returns : goal.returns
returns c = record {
  seeds = IfOk-weaker c.plain_catalogue.result (λ list. IsCatalogue c.up_to.result list.items) (λ list. AreSeeds list.items)
      (λ list is. record {
        request = c.up_to.result;
        asks = record {
          chambers = c.up_to.ensures.chambers;
          tiles = c.up_to.ensures.limits.0;
          vertices = c.up_to.ensures.limits.1;
          faces = c.up_to.ensures.sets.0;
          degrees = c.up_to.ensures.sets.1;
          minimal = c.up_to.ensures.minimal;
        };
        catalogue = is;
      })
      c.plain_catalogue.ensures;
}
