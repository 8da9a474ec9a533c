use Rattle.std.proofs.Common.{option_map, sym, ◌∙◌}
use Rattle.clap.specs.Words.{found_of}
use Rattle.dd_words.proofs.MatchLemmas.{text_read, flag_raised, flag_lowered}
use Rattle.dd_words.proofs.layouts.value_in.Goals as goal

pub returns-then-has_value : goal.returns-then-has_value
returns-then-has_value c =
    text_read (found_of c.args.matches.now) c.args.setting (option_map (λ s. s.now) c.get_str.result) c.name.result.now c.name.ensures
    (sym c.has_value.ensures ∙ c.if-has_value.true) c.get_str.ensures

pub returns-then-get_flag : goal.returns-then-get_flag
returns-then-get_flag c =
    flag_raised (found_of c.args.matches.now) c.args.setting c.name-2.result.now c.get_flag.result c.name-2.ensures
    (sym c.has_value.ensures ∙ c.if-has_value.false) c.if-get_flag.true c.get_flag.ensures.none c.get_flag.ensures.other

pub returns-else-get_flag : goal.returns-else-get_flag
returns-else-get_flag c =
    flag_lowered (found_of c.args.matches.now) c.args.setting c.name-2.result.now c.get_flag.result c.name-2.ensures
    (sym c.has_value.ensures ∙ c.if-has_value.false) c.if-get_flag.false c.get_flag.ensures.value
