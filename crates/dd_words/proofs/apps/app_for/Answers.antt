use Rattle.std.proofs.Common.{◌≡◌, rules}
use Rattle.clap.specs.Words.{app_of}
use Rattle.dd_words.specs.Apps.{all_settings, with_settings, app_for}
use Rattle.dd_words.specs.Places.{all_places}
use Rattle.dd_words.proofs.MatchLemmas.{all_told, told_as}
use Rattle.dd_words.proofs.apps.app_for.Goals as goal

pub returns : goal.returns
returns c =
    let places_are : c.as_slice.result.now ≡ all_places = search rules in
    let settings_are : c.as_slice-2.result.now ≡ all_settings = search rules in
    told_as c.with_settings.result (with_settings c.args.verb (app_of c.in_ok-app.app) c.as_slice-2.result.now) (app_for c.args.verb)
    (all_told c.args.verb (app_of c.bare_app.result) (app_of c.in_ok-app.app) c.as_slice.result.now c.as_slice-2.result.now c.bare_app.ensures c.in_ok-app.ensures places_are settings_are) c.with_settings.ensures
