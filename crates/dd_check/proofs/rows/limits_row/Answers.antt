use Rattle.std.proofs.Common.{refl, ◌∙◌}
use Rattle.dd_check.specs.Texts.{texts}
use Rattle.dd_check.proofs.WordReads.{same_word, five_words, limits_told}
use Rattle.dd_check.proofs.rows.limits_row.Goals as goal

pub returns : goal.returns
returns c =
    limits_told c.read_limits.result _ _ _ _ (texts c.args.words.now)
    (five_words c.args.words.now _ _ _ _ _ _ _ _ _ _ c.in-len5.len_at_least c.in-len5.len_below (same_word _ _ c.if-ne.ensures ∙ c.as_slice.ensures) refl refl refl refl)
    c.read_limits.ensures
