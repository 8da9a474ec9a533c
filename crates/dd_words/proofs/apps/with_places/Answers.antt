use Rattle.std.proofs.Common.{◌≡◌, ◌+◌, true, false, cond, drop, get_or, sym, ap, ◌∙◌}
use Rattle.std.proofs.lemmas.List.{drop_more, drop_all}
use Rattle.clap.specs.Words.{app_of, with_rule}
use Rattle.dd_words.specs.Places.{name_of, has_place}
use Rattle.dd_words.specs.Apps.{place_rule, with_places}
use Rattle.dd_words.specs.declared.places.Place.TheVariants.{First}
use Rattle.dd_words.proofs.apps.with_places.Goals as goal

pub loop-place-preserved-then-not-is_of : goal.loop-place-preserved-then-not-is_of
loop-place-preserved-then-not-is_of c =
    let places = c.args.places.now in
    let k = c.loop-place.place-index in
    let app = app_of c.loop-place.more in
    let more = with_rule app (place_rule (name_of (get_or places k First))) in
    let lacks : has_place c.args.verb (get_or places k First) ≡ false = sym c.is_of.ensures ∙ c.if-not-is_of.true in
    sym (ap (λ b. with_places c.args.verb (cond b more app) (drop (k + 1) places)) lacks)
    ∙ ap (with_places c.args.verb app) (sym (drop_more places k First c.loop-place-test.true)) ∙ c.loop-place.invariant

pub loop-place-preserved : goal.loop-place-preserved
loop-place-preserved c =
    let places = c.args.places.now in
    let k = c.loop-place.place-index in
    let app = app_of c.loop-place.more in
    let more = with_rule app (place_rule (name_of (get_or places k First))) in
    let has : has_place c.args.verb (get_or places k First) ≡ true = sym c.is_of.ensures ∙ c.if-not-is_of.false in
    ap (λ now. with_places c.args.verb now (drop (k + 1) places)) (c.in_ok-more.ensures.shape c.argument.ensures.local ∙ ap (with_rule app) c.argument.ensures.rule)
    ∙ sym (ap (λ b. with_places c.args.verb (cond b more app) (drop (k + 1) places)) has)
    ∙ ap (with_places c.args.verb app) (sym (drop_more places k First c.loop-place-test.true)) ∙ c.loop-place.invariant

pub returns : goal.returns
returns c =
    ap (with_places c.args.verb (app_of c.loop-place.more)) (sym (drop_all c.loop-place.place-index c.args.places.now c.loop-place-test.false)) ∙ c.loop-place.invariant
