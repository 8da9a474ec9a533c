use Rattle.std.proofs.Common.{◌∙◌}
use Rattle.std.proofs.lemmas.Result.{IfOk-weaker}
use Rattle.dd_check.proofs.WordReads.{same_word}
use Rattle.dd_check.proofs.PlaceReads.{place_end, place_job}
use Rattle.dd_check.proofs.rows.place_row.Goals as goal

pub returns-then-is_empty : goal.returns-then-is_empty
returns-then-is_empty c =
    place_end c.end_of.result c.args.words.now _ _ c.in-len2-up.len_at_least (same_word _ _ c.if-ne.ensures ∙ c.as_slice.ensures) c.if-is_empty.ensures c.end_of.ensures

pub returns : goal.returns
returns c =
    IfOk-weaker c.read_place.result _ _
    (λ told h. place_job told c.args.words.now _ _ c.in-len2-up.len_at_least (same_word _ _ c.if-ne.ensures ∙ c.as_slice.ensures) c.if-is_empty.ensures h)
    c.read_place.ensures
