use Rattle.std.proofs.Common.{◌≡◌, drop}
use Rattle.clap.specs.Words.{app_of}
use Rattle.dd_words.specs.Apps.{with_places}
use Rattle.dd_words.proofs.apps.with_places.Given as goal

abbrev pub invariant-loop-place : goal.invariant-loop-place
invariant-loop-place l = with_places l.verb (app_of l.more) (drop l.place-index l.places) ≡ with_places l.verb (app_of l.fn.app) l.places
