use Rattle.std.proofs.Common.{take, map}
use Rattle.clap.specs.Words.{found_of, rows_of}
use Rattle.dd_words.specs.Settings.{given_of}
use Rattle.dd_words.specs.Matching.{AreRead}
use Rattle.dd_words.proofs.layouts.read_settings.Given as goal

abbrev pub invariant-loop-setting : goal.invariant-loop-setting
invariant-loop-setting l = AreRead (rows_of (found_of l.matches)) (take l.setting-index l.settings) (map given_of l.given.items)
