use Rattle.std.proofs.Common.{◌≡◌, map, subst, rules}
use Rattle.std.specs.Rc.{rc_str_bytes}
use Rattle.clap.specs.Words.{app_of, rows_of, found_of}
use Rattle.dd_words.specs.declared.fault.WordsFault.TheVariants as fault
use Rattle.dd_words.specs.Apps.{all_settings}
use Rattle.dd_words.specs.Laying.{texts}
use Rattle.dd_words.specs.Settings.{given_of}
use Rattle.dd_words.specs.Places.{all_places}
use Rattle.dd_words.specs.Matching.{AreRead, arguments_at}
use Rattle.dd_words.proofs.MatchLemmas.{not_taken_by_clap, taken_by_clap}
use Rattle.dd_words.proofs.layouts.lay_out.Goals as goal

pub returns-in-Err-clause-not_taken : goal.returns-in-Err-clause-not_taken
returns-in-Err-clause-not_taken c failed =
    let not_taken : c.of.result ≡ fault.NotTaken = cc in
    not_taken_by_clap c.args.verb (app_of c.in_ok-app_for.field-0) (map rc_str_bytes c.args.words.now) c.in-Err.error c.in_ok-app_for.ensures c.in-Err.ensures.kinds
    (c.of.ensures.not_taken not_taken)

pub returns-clause-matched : goal.returns-clause-matched
returns-clause-matched c =
    let places_are : c.as_slice.result.now ≡ all_places = search rules in
    let settings_are : c.as_slice-2.result.now ≡ all_settings = search rules in
    taken_by_clap c.args.verb (app_of c.in_ok-app_for.field-0) (map rc_str_bytes c.args.words.now) (texts c.in_ok-arguments.arguments.items)
    (map given_of c.in_ok-settings.settings.items) c.in-Ok.matches c.in_ok-app_for.ensures c.in-Ok.ensures.kinds c.in-Ok.ensures.matches
    (subst (λ z. texts c.in_ok-arguments.arguments.items ≡ arguments_at (rows_of (found_of c.in-Ok.matches)) z) places_are c.in_ok-arguments.ensures)
    (subst (λ z. AreRead (rows_of (found_of c.in-Ok.matches)) z (map given_of c.in_ok-settings.settings.items)) settings_are c.in_ok-settings.ensures)
