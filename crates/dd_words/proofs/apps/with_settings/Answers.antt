use Rattle.std.proofs.Common.{◌≡◌, ◌+◌, true, false, cond, drop, get_or, sym, ap, ◌∙◌}
use Rattle.std.proofs.lemmas.List.{drop_more, drop_all}
use Rattle.clap.specs.Words.{app_of, with_rule}
use Rattle.dd_words.specs.SettingNames.{has_setting}
use Rattle.dd_words.specs.Apps.{setting_rule, with_settings}
use Rattle.dd_words.specs.declared.settings.Setting.TheVariants.{Tiles}
use Rattle.dd_words.proofs.apps.with_settings.Goals as goal

pub loop-setting-preserved-then-not-is_of : goal.loop-setting-preserved-then-not-is_of
loop-setting-preserved-then-not-is_of c =
    let settings = c.args.settings.now in
    let k = c.loop-setting.setting-index in
    let app = app_of c.loop-setting.more in
    let more = with_rule app (setting_rule (get_or settings k Tiles)) in
    let lacks : has_setting c.args.verb (get_or settings k Tiles) ≡ false = sym c.is_of.ensures ∙ c.if-not-is_of.true in
    sym (ap (λ b. with_settings c.args.verb (cond b more app) (drop (k + 1) settings)) lacks)
    ∙ ap (with_settings c.args.verb app) (sym (drop_more settings k Tiles c.loop-setting-test.true)) ∙ c.loop-setting.invariant

pub loop-setting-preserved : goal.loop-setting-preserved
loop-setting-preserved c =
    let settings = c.args.settings.now in
    let k = c.loop-setting.setting-index in
    let app = app_of c.loop-setting.more in
    let more = with_rule app (setting_rule (get_or settings k Tiles)) in
    let has : has_setting c.args.verb (get_or settings k Tiles) ≡ true = sym c.is_of.ensures ∙ c.if-not-is_of.false in
    ap (λ now. with_settings c.args.verb now (drop (k + 1) settings)) (c.in_ok-more.ensures.shape c.option.ensures.local ∙ ap (with_rule app) c.option.ensures.rule)
    ∙ sym (ap (λ b. with_settings c.args.verb (cond b more app) (drop (k + 1) settings)) has)
    ∙ ap (with_settings c.args.verb app) (sym (drop_more settings k Tiles c.loop-setting-test.true)) ∙ c.loop-setting.invariant

pub returns : goal.returns
returns c =
    ap (with_settings c.args.verb (app_of c.loop-setting.more)) (sym (drop_all c.loop-setting.setting-index c.args.settings.now c.loop-setting-test.false)) ∙ c.loop-setting.invariant
