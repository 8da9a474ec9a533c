use Rattle.std.proofs.Common.{◌≡◌, drop}
use Rattle.clap.specs.Words.{app_of}
use Rattle.dd_words.specs.Apps.{with_settings}
use Rattle.dd_words.proofs.apps.with_settings.Given as goal

abbrev pub invariant-loop-setting : goal.invariant-loop-setting
invariant-loop-setting l = with_settings l.verb (app_of l.more) (drop l.setting-index l.settings) ≡ with_settings l.verb (app_of l.fn.app) l.settings
