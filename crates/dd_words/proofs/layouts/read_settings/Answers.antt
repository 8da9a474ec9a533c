use Rattle.std.proofs.Common.{map, option_map}
use Rattle.clap.specs.Words.{found_of, rows_of}
use Rattle.dd_words.specs.declared.settings.Setting.TheVariants.{Tiles}
use Rattle.dd_words.specs.Settings.{given_of}
use Rattle.dd_words.proofs.MatchLemmas.{read_step}
use Rattle.dd_words.proofs.layouts.read_settings.Goals as goal

pub loop-setting-preserved : goal.loop-setting-preserved
loop-setting-preserved c =
    read_step (rows_of (found_of c.args.matches.now)) c.args.settings.now c.loop-setting.setting-index Tiles (map given_of c.loop-setting.given.items) (map given_of c.add_setting.new.given.items)
    (option_map (λ s. s.now) c.value_in.result) c.loop-setting-test.true c.loop-setting.invariant c.value_in.ensures c.in_ok-add_setting.ensures
