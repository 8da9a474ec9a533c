use Rattle.std.proofs.Common.{option_map}
use Rattle.clap.specs.Words.{found_of}
use Rattle.dd_words.specs.declared.places.Place.TheVariants.{First}
use Rattle.dd_words.specs.Laying.{texts}
use Rattle.dd_words.proofs.MatchLemmas.{argument_step}
use Rattle.dd_words.proofs.layouts.read_arguments.Goals as goal

pub loop-place-preserved : goal.loop-place-preserved
loop-place-preserved c =
    argument_step (found_of c.args.matches.now) c.args.places.now c.loop-place.place-index First (texts c.loop-place.arguments.items) (texts c.add_argument.new.arguments.items) c.name.result.now
    (option_map (λ s. s.now) c.get_str.result) c.loop-place-test.true c.loop-place.invariant c.in_ok-add_argument.ensures c.get_str.ensures c.name.ensures
