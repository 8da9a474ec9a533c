-- The rules that clap has of each verb.
use Rattle.std.proofs.Common.{◌≡◌, ◌∙◌, ◌⊎◌, ◌||◌, ◌<◌, ◌≤◌, ℕ, suc, zero, Bool, true, false, cond, List, [], ◌∷◌, map, Some, None, refl, sym, ap, arith, inl, inr, bytes_eq}
use Rattle.std.specs.Prelude.{◌==◌}
use Rattle.std.specs.Option.{option_map_or}
use Rattle.std.proofs.lemmas.Bool.Decides.{nat_tests}
use Rattle.std.specs.List.{AllByRecursion}
use Rattle.std.proofs.lemmas.Slice.Eq.{bytes_eq-Decides}
use Rattle.clap.specs.Words.{is_simple, Rule, built}
use Rattle.clap.specs.Walk.{arg_by_long, arg_by_id, arg_by_index}
use Rattle.clap.specs.Simple.{filled}
use Rattle.clap.specs.Faults.{is_simple_and_free}
use Rattle.clap.proofs.OnLiterals.{clap_on_literals}
use Rattle.dd_words.specs.declared.settings.Setting.{Setting}
use Rattle.dd_words.specs.declared.settings.Setting.TheVariants.{Tiles, Vertices, LeastFace, LeastDegree, Faces, Degrees, Minimal, Workers, Round, Pause, Checkpoint, Cell}
use Rattle.dd_words.specs.declared.commands.FileKind.{FileKind}
use Rattle.dd_words.specs.declared.verbs.Verb.{Verb}
use Rattle.dd_words.specs.declared.verbs.Verb.TheVariants as verb
use Rattle.dd_words.specs.Values.{Text}
use Rattle.dd_words.specs.Layout.{IsFlagOf, IsValuedOf}
use Rattle.dd_words.specs.SettingNames.{word_of, has_setting}
use Rattle.dd_words.specs.declared.places.Place.TheVariants.{First, Second, Third, Fourth, Fifth, Sixth, Seventh, Eighth}
use Rattle.dd_words.specs.Places.{name_of}
use Rattle.dd_words.specs.Apps.{app_for, setting_rule}
use Rattle.dd_words.proofs.ClapSteps.{shape_with, valued, flagged, placed}
use Rattle.dd_words.proofs.ClapWalks.{IsPlace, IsReader}

-- the rules of the built command
abbrev pub rules_for : Verb → List Rule
rules_for v = (built (app_for v)).top.rules

pub built_for : (v : Verb) → built (app_for v) ≡ record { top = shape_with (rules_for v); subs = [] }
built_for verb.Catalogue = refl
built_for verb.Resume = refl
built_for verb.Shard = refl
built_for verb.ResumeShard = refl
built_for verb.Draw = refl
built_for verb.Exercise = refl
built_for verb.Apply = refl
built_for verb.Merge = refl
built_for (verb.File kind) = refl

pub simple_for : (v : Verb) → is_simple_and_free (app_for v) ≡ true
unfolding clap_on_literals
simple_for verb.Catalogue = refl
simple_for verb.Resume = refl
simple_for verb.Shard = refl
simple_for verb.ResumeShard = refl
simple_for verb.Draw = refl
simple_for verb.Exercise = refl
simple_for verb.Apply = refl
simple_for verb.Merge = refl
simple_for (verb.File kind) = refl

pub plain_for : (v : Verb) → is_simple (app_for v) ≡ true
unfolding clap_on_literals
plain_for verb.Catalogue = refl
plain_for verb.Resume = refl
plain_for verb.Shard = refl
plain_for verb.ResumeShard = refl
plain_for verb.Draw = refl
plain_for verb.Exercise = refl
plain_for verb.Apply = refl
plain_for verb.Merge = refl
plain_for (verb.File kind) = refl

-- no rule stands at a place that is none of its own
not_at : (a : Rule) (c : List Rule) (k i : ℕ) → a.index ≡ Some i → (i == k) ≡ false → arg_by_index c k ≡ None → arg_by_index (a ∷ c) k ≡ None
not_at a c k i e f h =
    ap (λ o. cond (option_map_or (λ j. j == k) o false) (Some a) (arg_by_index c k)) e ∙ ap (λ b. cond b (Some a) (arg_by_index c k)) f ∙ h

past_one : (k : ℕ) → (1 == suc (suc k)) ≡ false
past_one k = grind (arith, nat_tests)

past_both : (k : ℕ) → (1 == suc (suc (suc k))) ≡ false
past_both k = grind (arith, nat_tests)

past_two : (k : ℕ) → (2 == suc (suc (suc k))) ≡ false
past_two k = grind (arith, nat_tests)

none_is_some : {A : Type 0} (a : A) → None ≡ Some a → ⊥
none_is_some a e = cc

abbrev rules_of : List Setting → List Rule
rules_of = map (λ s. filled (setting_rule s))

-- the rule of a name is that of a setting
named_in : (v : Verb) (name : Text) (ss : List Setting) → AllByRecursion (λ s. has_setting v s ≡ true) ss
    → (arg_by_long (rules_of ss) name ≡ None) ⊎ ((s : Setting) × (has_setting v s ≡ true) × (name ≡ word_of s))
named_in v name [] all = inl refl
named_in v name (s ∷ ss) all = go (bytes_eq (word_of s) name) (λ e. sym ((bytes_eq-Decides (word_of s) name).0 e)) (named_in v name ss all.1)
  where
    go : (b : Bool) → (b ≡ true → name ≡ word_of s) → (arg_by_long (rules_of ss) name ≡ None) ⊎ ((s : Setting) × (has_setting v s ≡ true) × (name ≡ word_of s))
        → (cond (b || false) (Some (filled (setting_rule s))) (arg_by_long (rules_of ss) name) ≡ None) ⊎ ((s : Setting) × (has_setting v s ≡ true) × (name ≡ word_of s))
    go true is more = inr (s, all.0, is refl)
    go false is more = more

catalogue_valued_long : (s : Setting) → IsValuedOf verb.Catalogue s → arg_by_long (rules_for verb.Catalogue) (word_of s) ≡ Some (valued (word_of s))
catalogue_valued_long Tiles h = refl
catalogue_valued_long Vertices h = refl
catalogue_valued_long LeastFace h = refl
catalogue_valued_long LeastDegree h = refl
catalogue_valued_long Faces h = refl
catalogue_valued_long Degrees h = refl
catalogue_valued_long Minimal h = let bad = h.valued in absurd (cc)
catalogue_valued_long Workers h = refl
catalogue_valued_long Round h = refl
catalogue_valued_long Pause h = refl
catalogue_valued_long Checkpoint h = refl
catalogue_valued_long Cell h = let bad = h.owned in absurd (cc)

catalogue_valued_id : (s : Setting) → IsValuedOf verb.Catalogue s → arg_by_id (rules_for verb.Catalogue) (word_of s) ≡ Some (valued (word_of s))
catalogue_valued_id Tiles h = refl
catalogue_valued_id Vertices h = refl
catalogue_valued_id LeastFace h = refl
catalogue_valued_id LeastDegree h = refl
catalogue_valued_id Faces h = refl
catalogue_valued_id Degrees h = refl
catalogue_valued_id Minimal h = let bad = h.valued in absurd (cc)
catalogue_valued_id Workers h = refl
catalogue_valued_id Round h = refl
catalogue_valued_id Pause h = refl
catalogue_valued_id Checkpoint h = refl
catalogue_valued_id Cell h = let bad = h.owned in absurd (cc)

catalogue_flagged_long : (s : Setting) → IsFlagOf verb.Catalogue s → arg_by_long (rules_for verb.Catalogue) (word_of s) ≡ Some (flagged (word_of s))
catalogue_flagged_long Tiles h = let bad = h.flag in absurd (cc)
catalogue_flagged_long Vertices h = let bad = h.flag in absurd (cc)
catalogue_flagged_long LeastFace h = let bad = h.flag in absurd (cc)
catalogue_flagged_long LeastDegree h = let bad = h.flag in absurd (cc)
catalogue_flagged_long Faces h = let bad = h.flag in absurd (cc)
catalogue_flagged_long Degrees h = let bad = h.flag in absurd (cc)
catalogue_flagged_long Minimal h = refl
catalogue_flagged_long Workers h = let bad = h.flag in absurd (cc)
catalogue_flagged_long Round h = let bad = h.flag in absurd (cc)
catalogue_flagged_long Pause h = let bad = h.flag in absurd (cc)
catalogue_flagged_long Checkpoint h = let bad = h.flag in absurd (cc)
catalogue_flagged_long Cell h = let bad = h.owned in absurd (cc)

catalogue_past : (k : ℕ) → arg_by_index (rules_for verb.Catalogue) (suc (suc k)) ≡ None
catalogue_past k = not_at (placed (name_of First) 1) (rules_of (Tiles ∷ Vertices ∷ LeastFace ∷ LeastDegree ∷ Faces ∷ Degrees ∷ Minimal ∷ Workers ∷ Round ∷ Pause ∷ Checkpoint ∷ [])) (suc (suc k)) 1 refl (past_one k) refl

catalogue_places : (k : ℕ) → (arg_by_index (rules_for verb.Catalogue) k ≡ None) ⊎ IsPlace (rules_for verb.Catalogue) k
catalogue_places zero = inl refl
catalogue_places (suc zero) = inr (record { by_index = refl; by_id = refl })
catalogue_places (suc (suc k)) = inl (catalogue_past k)

catalogue_few : (k : ℕ) → IsPlace (rules_for verb.Catalogue) k → k ≤ 8
catalogue_few zero p = omega arith
catalogue_few (suc zero) p = omega arith
catalogue_few (suc (suc k)) p = absurd (none_is_some _ (sym (catalogue_past k) ∙ p.by_index))

catalogue_reader : IsReader verb.Catalogue (rules_for verb.Catalogue)
catalogue_reader = record {
  valued_long = catalogue_valued_long;
  valued_id = catalogue_valued_id;
  flagged_long = catalogue_flagged_long;
  known = λ name. named_in verb.Catalogue name (Tiles ∷ Vertices ∷ LeastFace ∷ LeastDegree ∷ Faces ∷ Degrees ∷ Minimal ∷ Workers ∷ Round ∷ Pause ∷ Checkpoint ∷ []) (refl, (refl, (refl, (refl, (refl, (refl, (refl, (refl, (refl, (refl, (refl, tt)))))))))));
  no_short = λ x. refl;
  places = catalogue_places;
  few = catalogue_few;
  quiet = (inl refl, (inl refl, (inl refl, (inl refl, (inl refl, (inl refl, (inl refl, (inr refl, (inl refl, (inl refl, (inl refl, (inl refl, tt))))))))))));
  checks = λ rows. refl;
}

resume_valued_long : (s : Setting) → IsValuedOf verb.Resume s → arg_by_long (rules_for verb.Resume) (word_of s) ≡ Some (valued (word_of s))
resume_valued_long Tiles h = let bad = h.owned in absurd (cc)
resume_valued_long Vertices h = let bad = h.owned in absurd (cc)
resume_valued_long LeastFace h = let bad = h.owned in absurd (cc)
resume_valued_long LeastDegree h = let bad = h.owned in absurd (cc)
resume_valued_long Faces h = let bad = h.owned in absurd (cc)
resume_valued_long Degrees h = let bad = h.owned in absurd (cc)
resume_valued_long Minimal h = let bad = h.owned in absurd (cc)
resume_valued_long Workers h = refl
resume_valued_long Round h = refl
resume_valued_long Pause h = refl
resume_valued_long Checkpoint h = let bad = h.owned in absurd (cc)
resume_valued_long Cell h = let bad = h.owned in absurd (cc)

resume_valued_id : (s : Setting) → IsValuedOf verb.Resume s → arg_by_id (rules_for verb.Resume) (word_of s) ≡ Some (valued (word_of s))
resume_valued_id Tiles h = let bad = h.owned in absurd (cc)
resume_valued_id Vertices h = let bad = h.owned in absurd (cc)
resume_valued_id LeastFace h = let bad = h.owned in absurd (cc)
resume_valued_id LeastDegree h = let bad = h.owned in absurd (cc)
resume_valued_id Faces h = let bad = h.owned in absurd (cc)
resume_valued_id Degrees h = let bad = h.owned in absurd (cc)
resume_valued_id Minimal h = let bad = h.owned in absurd (cc)
resume_valued_id Workers h = refl
resume_valued_id Round h = refl
resume_valued_id Pause h = refl
resume_valued_id Checkpoint h = let bad = h.owned in absurd (cc)
resume_valued_id Cell h = let bad = h.owned in absurd (cc)

resume_flagged_long : (s : Setting) → IsFlagOf verb.Resume s → arg_by_long (rules_for verb.Resume) (word_of s) ≡ Some (flagged (word_of s))
resume_flagged_long Tiles h = let bad = h.owned in absurd (cc)
resume_flagged_long Vertices h = let bad = h.owned in absurd (cc)
resume_flagged_long LeastFace h = let bad = h.owned in absurd (cc)
resume_flagged_long LeastDegree h = let bad = h.owned in absurd (cc)
resume_flagged_long Faces h = let bad = h.owned in absurd (cc)
resume_flagged_long Degrees h = let bad = h.owned in absurd (cc)
resume_flagged_long Minimal h = let bad = h.owned in absurd (cc)
resume_flagged_long Workers h = let bad = h.flag in absurd (cc)
resume_flagged_long Round h = let bad = h.flag in absurd (cc)
resume_flagged_long Pause h = let bad = h.flag in absurd (cc)
resume_flagged_long Checkpoint h = let bad = h.owned in absurd (cc)
resume_flagged_long Cell h = let bad = h.owned in absurd (cc)

resume_past : (k : ℕ) → arg_by_index (rules_for verb.Resume) (suc (suc k)) ≡ None
resume_past k = not_at (placed (name_of First) 1) (rules_of (Workers ∷ Round ∷ Pause ∷ [])) (suc (suc k)) 1 refl (past_one k) refl

resume_places : (k : ℕ) → (arg_by_index (rules_for verb.Resume) k ≡ None) ⊎ IsPlace (rules_for verb.Resume) k
resume_places zero = inl refl
resume_places (suc zero) = inr (record { by_index = refl; by_id = refl })
resume_places (suc (suc k)) = inl (resume_past k)

resume_few : (k : ℕ) → IsPlace (rules_for verb.Resume) k → k ≤ 8
resume_few zero p = omega arith
resume_few (suc zero) p = omega arith
resume_few (suc (suc k)) p = absurd (none_is_some _ (sym (resume_past k) ∙ p.by_index))

resume_reader : IsReader verb.Resume (rules_for verb.Resume)
resume_reader = record {
  valued_long = resume_valued_long;
  valued_id = resume_valued_id;
  flagged_long = resume_flagged_long;
  known = λ name. named_in verb.Resume name (Workers ∷ Round ∷ Pause ∷ []) (refl, (refl, (refl, tt)));
  no_short = λ x. refl;
  places = resume_places;
  few = resume_few;
  quiet = (inl refl, (inl refl, (inl refl, (inl refl, tt))));
  checks = λ rows. refl;
}

draw_valued_long : (s : Setting) → IsValuedOf verb.Draw s → arg_by_long (rules_for verb.Draw) (word_of s) ≡ Some (valued (word_of s))
draw_valued_long Tiles h = let bad = h.owned in absurd (cc)
draw_valued_long Vertices h = let bad = h.owned in absurd (cc)
draw_valued_long LeastFace h = let bad = h.owned in absurd (cc)
draw_valued_long LeastDegree h = let bad = h.owned in absurd (cc)
draw_valued_long Faces h = let bad = h.owned in absurd (cc)
draw_valued_long Degrees h = let bad = h.owned in absurd (cc)
draw_valued_long Minimal h = let bad = h.owned in absurd (cc)
draw_valued_long Workers h = let bad = h.owned in absurd (cc)
draw_valued_long Round h = let bad = h.owned in absurd (cc)
draw_valued_long Pause h = let bad = h.owned in absurd (cc)
draw_valued_long Checkpoint h = let bad = h.owned in absurd (cc)
draw_valued_long Cell h = refl

draw_valued_id : (s : Setting) → IsValuedOf verb.Draw s → arg_by_id (rules_for verb.Draw) (word_of s) ≡ Some (valued (word_of s))
draw_valued_id Tiles h = let bad = h.owned in absurd (cc)
draw_valued_id Vertices h = let bad = h.owned in absurd (cc)
draw_valued_id LeastFace h = let bad = h.owned in absurd (cc)
draw_valued_id LeastDegree h = let bad = h.owned in absurd (cc)
draw_valued_id Faces h = let bad = h.owned in absurd (cc)
draw_valued_id Degrees h = let bad = h.owned in absurd (cc)
draw_valued_id Minimal h = let bad = h.owned in absurd (cc)
draw_valued_id Workers h = let bad = h.owned in absurd (cc)
draw_valued_id Round h = let bad = h.owned in absurd (cc)
draw_valued_id Pause h = let bad = h.owned in absurd (cc)
draw_valued_id Checkpoint h = let bad = h.owned in absurd (cc)
draw_valued_id Cell h = refl

draw_flagged_long : (s : Setting) → IsFlagOf verb.Draw s → arg_by_long (rules_for verb.Draw) (word_of s) ≡ Some (flagged (word_of s))
draw_flagged_long Tiles h = let bad = h.owned in absurd (cc)
draw_flagged_long Vertices h = let bad = h.owned in absurd (cc)
draw_flagged_long LeastFace h = let bad = h.owned in absurd (cc)
draw_flagged_long LeastDegree h = let bad = h.owned in absurd (cc)
draw_flagged_long Faces h = let bad = h.owned in absurd (cc)
draw_flagged_long Degrees h = let bad = h.owned in absurd (cc)
draw_flagged_long Minimal h = let bad = h.owned in absurd (cc)
draw_flagged_long Workers h = let bad = h.owned in absurd (cc)
draw_flagged_long Round h = let bad = h.owned in absurd (cc)
draw_flagged_long Pause h = let bad = h.owned in absurd (cc)
draw_flagged_long Checkpoint h = let bad = h.owned in absurd (cc)
draw_flagged_long Cell h = let bad = h.flag in absurd (cc)

draw_past : (k : ℕ) → arg_by_index (rules_for verb.Draw) (suc (suc k)) ≡ None
draw_past k = not_at (placed (name_of First) 1) (rules_of (Cell ∷ [])) (suc (suc k)) 1 refl (past_one k) refl

draw_places : (k : ℕ) → (arg_by_index (rules_for verb.Draw) k ≡ None) ⊎ IsPlace (rules_for verb.Draw) k
draw_places zero = inl refl
draw_places (suc zero) = inr (record { by_index = refl; by_id = refl })
draw_places (suc (suc k)) = inl (draw_past k)

draw_few : (k : ℕ) → IsPlace (rules_for verb.Draw) k → k ≤ 8
draw_few zero p = omega arith
draw_few (suc zero) p = omega arith
draw_few (suc (suc k)) p = absurd (none_is_some _ (sym (draw_past k) ∙ p.by_index))

draw_reader : IsReader verb.Draw (rules_for verb.Draw)
draw_reader = record {
  valued_long = draw_valued_long;
  valued_id = draw_valued_id;
  flagged_long = draw_flagged_long;
  known = λ name. named_in verb.Draw name (Cell ∷ []) (refl, tt);
  no_short = λ x. refl;
  places = draw_places;
  few = draw_few;
  quiet = (inl refl, (inl refl, tt));
  checks = λ rows. refl;
}

-- a verb that has no settings has none with a value, and no flag
bare_valued : {A : Type 0} (v : Verb) (s : Setting) → has_setting v s ≡ false → IsValuedOf v s → A
bare_valued v s none h = let own = h.owned in absurd (cc)

bare_flagged : {A : Type 0} (v : Verb) (s : Setting) → has_setting v s ≡ false → IsFlagOf v s → A
bare_flagged v s none h = let own = h.owned in absurd (cc)

exercise_past : (k : ℕ) → arg_by_index (rules_for verb.Exercise) (suc (suc (suc k))) ≡ None
exercise_past k = not_at (placed (name_of First) 1) (placed (name_of Second) 2 ∷ []) (suc (suc (suc k))) 1 refl (past_both k) (not_at (placed (name_of Second) 2) [] (suc (suc (suc k))) 2 refl (past_two k) refl)

exercise_places : (k : ℕ) → (arg_by_index (rules_for verb.Exercise) k ≡ None) ⊎ IsPlace (rules_for verb.Exercise) k
exercise_places zero = inl refl
exercise_places (suc zero) = inr (record { by_index = refl; by_id = refl })
exercise_places (suc (suc zero)) = inr (record { by_index = refl; by_id = refl })
exercise_places (suc (suc (suc k))) = inl (exercise_past k)

exercise_few : (k : ℕ) → IsPlace (rules_for verb.Exercise) k → k ≤ 8
exercise_few zero p = omega arith
exercise_few (suc zero) p = omega arith
exercise_few (suc (suc zero)) p = omega arith
exercise_few (suc (suc (suc k))) p = absurd (none_is_some _ (sym (exercise_past k) ∙ p.by_index))

exercise_reader : IsReader verb.Exercise (rules_for verb.Exercise)
exercise_reader = record {
  valued_long = λ s. bare_valued verb.Exercise s refl;
  valued_id = λ s. bare_valued verb.Exercise s refl;
  flagged_long = λ s. bare_flagged verb.Exercise s refl;
  known = λ name. named_in verb.Exercise name ([]) tt;
  no_short = λ x. refl;
  places = exercise_places;
  few = exercise_few;
  quiet = (inl refl, (inl refl, tt));
  checks = λ rows. refl;
}

-- a word of operations and a file have the rules of an exercise
apply_reader : IsReader verb.Apply (rules_for verb.Apply)
apply_reader = record {
  valued_long = λ s. bare_valued verb.Apply s refl;
  valued_id = λ s. bare_valued verb.Apply s refl;
  flagged_long = λ s. bare_flagged verb.Apply s refl;
  known = λ name. named_in verb.Apply name ([]) tt;
  no_short = λ x. refl;
  places = exercise_places;
  few = exercise_few;
  quiet = (inl refl, (inl refl, tt));
  checks = λ rows. refl;
}

past : (j k : ℕ) → j < k → (j == k) ≡ false
past j k less = grind (arith, nat_tests)

merge_past : (k : ℕ) → arg_by_index (rules_for verb.Merge) (suc (suc (suc (suc (suc (suc (suc (suc (suc k))))))))) ≡ None
merge_past k = not_at (placed (name_of First) 1) (placed (name_of Second) 2 ∷ placed (name_of Third) 3 ∷ placed (name_of Fourth) 4 ∷ placed (name_of Fifth) 5 ∷ placed (name_of Sixth) 6 ∷ placed (name_of Seventh) 7 ∷ placed (name_of Eighth) 8 ∷ []) (suc (suc (suc (suc (suc (suc (suc (suc (suc k))))))))) 1 refl (past 1 (suc (suc (suc (suc (suc (suc (suc (suc (suc k))))))))) (omega arith)) (not_at (placed (name_of Second) 2) (placed (name_of Third) 3 ∷ placed (name_of Fourth) 4 ∷ placed (name_of Fifth) 5 ∷ placed (name_of Sixth) 6 ∷ placed (name_of Seventh) 7 ∷ placed (name_of Eighth) 8 ∷ []) (suc (suc (suc (suc (suc (suc (suc (suc (suc k))))))))) 2 refl (past 2 (suc (suc (suc (suc (suc (suc (suc (suc (suc k))))))))) (omega arith)) (not_at (placed (name_of Third) 3) (placed (name_of Fourth) 4 ∷ placed (name_of Fifth) 5 ∷ placed (name_of Sixth) 6 ∷ placed (name_of Seventh) 7 ∷ placed (name_of Eighth) 8 ∷ []) (suc (suc (suc (suc (suc (suc (suc (suc (suc k))))))))) 3 refl (past 3 (suc (suc (suc (suc (suc (suc (suc (suc (suc k))))))))) (omega arith)) (not_at (placed (name_of Fourth) 4) (placed (name_of Fifth) 5 ∷ placed (name_of Sixth) 6 ∷ placed (name_of Seventh) 7 ∷ placed (name_of Eighth) 8 ∷ []) (suc (suc (suc (suc (suc (suc (suc (suc (suc k))))))))) 4 refl (past 4 (suc (suc (suc (suc (suc (suc (suc (suc (suc k))))))))) (omega arith)) (not_at (placed (name_of Fifth) 5) (placed (name_of Sixth) 6 ∷ placed (name_of Seventh) 7 ∷ placed (name_of Eighth) 8 ∷ []) (suc (suc (suc (suc (suc (suc (suc (suc (suc k))))))))) 5 refl (past 5 (suc (suc (suc (suc (suc (suc (suc (suc (suc k))))))))) (omega arith)) (not_at (placed (name_of Sixth) 6) (placed (name_of Seventh) 7 ∷ placed (name_of Eighth) 8 ∷ []) (suc (suc (suc (suc (suc (suc (suc (suc (suc k))))))))) 6 refl (past 6 (suc (suc (suc (suc (suc (suc (suc (suc (suc k))))))))) (omega arith)) (not_at (placed (name_of Seventh) 7) (placed (name_of Eighth) 8 ∷ []) (suc (suc (suc (suc (suc (suc (suc (suc (suc k))))))))) 7 refl (past 7 (suc (suc (suc (suc (suc (suc (suc (suc (suc k))))))))) (omega arith)) (not_at (placed (name_of Eighth) 8) ([]) (suc (suc (suc (suc (suc (suc (suc (suc (suc k))))))))) 8 refl (past 8 (suc (suc (suc (suc (suc (suc (suc (suc (suc k))))))))) (omega arith)) (refl))))))))

merge_places : (k : ℕ) → (arg_by_index (rules_for verb.Merge) k ≡ None) ⊎ IsPlace (rules_for verb.Merge) k
merge_places zero = inl refl
merge_places (suc zero) = inr (record { by_index = refl; by_id = refl })
merge_places (suc (suc zero)) = inr (record { by_index = refl; by_id = refl })
merge_places (suc (suc (suc zero))) = inr (record { by_index = refl; by_id = refl })
merge_places (suc (suc (suc (suc zero)))) = inr (record { by_index = refl; by_id = refl })
merge_places (suc (suc (suc (suc (suc zero))))) = inr (record { by_index = refl; by_id = refl })
merge_places (suc (suc (suc (suc (suc (suc zero)))))) = inr (record { by_index = refl; by_id = refl })
merge_places (suc (suc (suc (suc (suc (suc (suc zero))))))) = inr (record { by_index = refl; by_id = refl })
merge_places (suc (suc (suc (suc (suc (suc (suc (suc zero)))))))) = inr (record { by_index = refl; by_id = refl })
merge_places (suc (suc (suc (suc (suc (suc (suc (suc (suc k))))))))) = inl (merge_past k)

merge_few : (k : ℕ) → IsPlace (rules_for verb.Merge) k → k ≤ 8
merge_few zero p = omega arith
merge_few (suc zero) p = omega arith
merge_few (suc (suc zero)) p = omega arith
merge_few (suc (suc (suc zero))) p = omega arith
merge_few (suc (suc (suc (suc zero)))) p = omega arith
merge_few (suc (suc (suc (suc (suc zero))))) p = omega arith
merge_few (suc (suc (suc (suc (suc (suc zero)))))) p = omega arith
merge_few (suc (suc (suc (suc (suc (suc (suc zero))))))) p = omega arith
merge_few (suc (suc (suc (suc (suc (suc (suc (suc zero)))))))) p = omega arith
merge_few (suc (suc (suc (suc (suc (suc (suc (suc (suc k))))))))) p = absurd (none_is_some _ (sym (merge_past k) ∙ p.by_index))

merge_reader : IsReader verb.Merge (rules_for verb.Merge)
merge_reader = record {
  valued_long = λ s. bare_valued verb.Merge s refl;
  valued_id = λ s. bare_valued verb.Merge s refl;
  flagged_long = λ s. bare_flagged verb.Merge s refl;
  known = λ name. named_in verb.Merge name ([]) tt;
  no_short = λ x. refl;
  places = merge_places;
  few = merge_few;
  quiet = (inl refl, (inl refl, (inl refl, (inl refl, (inl refl, (inl refl, (inl refl, (inl refl, tt))))))));
  checks = λ rows. refl;
}

-- ## Shards

of_catalogue_valued : (s : Setting) → IsValuedOf verb.Shard s → IsValuedOf verb.Catalogue s
of_catalogue_valued s h = record { owned = h.owned; valued = h.valued }

of_catalogue_flag : (s : Setting) → IsFlagOf verb.Shard s → IsFlagOf verb.Catalogue s
of_catalogue_flag s h = record { owned = h.owned; flag = h.flag }

shard_valued_id : (s : Setting) → IsValuedOf verb.Shard s → arg_by_id (rules_for verb.Shard) (word_of s) ≡ Some (valued (word_of s))
shard_valued_id Tiles h = refl
shard_valued_id Vertices h = refl
shard_valued_id LeastFace h = refl
shard_valued_id LeastDegree h = refl
shard_valued_id Faces h = refl
shard_valued_id Degrees h = refl
shard_valued_id Minimal h = let bad = h.valued in absurd (cc)
shard_valued_id Workers h = refl
shard_valued_id Round h = refl
shard_valued_id Pause h = refl
shard_valued_id Checkpoint h = refl
shard_valued_id Cell h = let bad = h.owned in absurd (cc)

-- a shard has three arguments, and the settings of a catalogue
abbrev shard_settings : List Setting
shard_settings = Tiles ∷ Vertices ∷ LeastFace ∷ LeastDegree ∷ Faces ∷ Degrees ∷ Minimal ∷ Workers ∷ Round ∷ Pause ∷ Checkpoint ∷ []

shard_past : (k : ℕ) → arg_by_index (rules_for verb.Shard) (suc (suc (suc (suc k)))) ≡ None
shard_past k =
    let n = suc (suc (suc (suc k))) in
    not_at (placed (name_of First) 1) (placed (name_of Second) 2 ∷ placed (name_of Third) 3 ∷ rules_of shard_settings) n 1 refl (past 1 n (omega arith))
    (not_at (placed (name_of Second) 2) (placed (name_of Third) 3 ∷ rules_of shard_settings) n 2 refl (past 2 n (omega arith))
    (not_at (placed (name_of Third) 3) (rules_of shard_settings) n 3 refl (past 3 n (omega arith)) refl))

shard_places : (k : ℕ) → (arg_by_index (rules_for verb.Shard) k ≡ None) ⊎ IsPlace (rules_for verb.Shard) k
shard_places zero = inl refl
shard_places (suc zero) = inr (record { by_index = refl; by_id = refl })
shard_places (suc (suc zero)) = inr (record { by_index = refl; by_id = refl })
shard_places (suc (suc (suc zero))) = inr (record { by_index = refl; by_id = refl })
shard_places (suc (suc (suc (suc k)))) = inl (shard_past k)

shard_few : (k : ℕ) → IsPlace (rules_for verb.Shard) k → k ≤ 8
shard_few zero p = omega arith
shard_few (suc zero) p = omega arith
shard_few (suc (suc zero)) p = omega arith
shard_few (suc (suc (suc zero))) p = omega arith
shard_few (suc (suc (suc (suc k)))) p = absurd (none_is_some _ (sym (shard_past k) ∙ p.by_index))

shard_reader : IsReader verb.Shard (rules_for verb.Shard)
shard_reader = record {
  valued_long = λ s h. catalogue_valued_long s (of_catalogue_valued s h);
  valued_id = shard_valued_id;
  flagged_long = λ s h. catalogue_flagged_long s (of_catalogue_flag s h);
  known = λ name. named_in verb.Shard name shard_settings (refl, (refl, (refl, (refl, (refl, (refl, (refl, (refl, (refl, (refl, (refl, tt)))))))))));
  no_short = λ x. refl;
  places = shard_places;
  few = shard_few;
  quiet = (inl refl, (inl refl, (inl refl, (inl refl, (inl refl, (inl refl, (inl refl, (inl refl, (inl refl, (inr refl, (inl refl, (inl refl, (inl refl, (inl refl, tt))))))))))))));
  checks = λ rows. refl;
}

-- a shard that is resumed has the rules of a catalogue that is resumed
resume_shard_reader : IsReader verb.ResumeShard (rules_for verb.ResumeShard)
resume_shard_reader = record {
  valued_long = λ s h. resume_valued_long s (record { owned = h.owned; valued = h.valued });
  valued_id = λ s h. resume_valued_id s (record { owned = h.owned; valued = h.valued });
  flagged_long = λ s h. resume_flagged_long s (record { owned = h.owned; flag = h.flag });
  known = λ name. named_in verb.ResumeShard name (Workers ∷ Round ∷ Pause ∷ []) (refl, (refl, (refl, tt)));
  no_short = λ x. refl;
  places = resume_places;
  few = resume_few;
  quiet = (inl refl, (inl refl, (inl refl, (inl refl, tt))));
  checks = λ rows. refl;
}

file_past : (kind : FileKind) (k : ℕ) → arg_by_index (rules_for (verb.File kind)) (suc (suc k)) ≡ None
file_past kind k = not_at (placed (name_of First) 1) (rules_of ([])) (suc (suc k)) 1 refl (past_one k) refl

file_places : (kind : FileKind) (k : ℕ) → (arg_by_index (rules_for (verb.File kind)) k ≡ None) ⊎ IsPlace (rules_for (verb.File kind)) k
file_places kind zero = inl refl
file_places kind (suc zero) = inr (record { by_index = refl; by_id = refl })
file_places kind (suc (suc k)) = inl (file_past kind k)

file_few : (kind : FileKind) (k : ℕ) → IsPlace (rules_for (verb.File kind)) k → k ≤ 8
file_few kind zero p = omega arith
file_few kind (suc zero) p = omega arith
file_few kind (suc (suc k)) p = absurd (none_is_some _ (sym (file_past kind k) ∙ p.by_index))

file_reader : (kind : FileKind) → IsReader (verb.File kind) (rules_for (verb.File kind))
file_reader kind = record {
  valued_long = λ s. bare_valued (verb.File kind) s refl;
  valued_id = λ s. bare_valued (verb.File kind) s refl;
  flagged_long = λ s. bare_flagged (verb.File kind) s refl;
  known = λ name. named_in (verb.File kind) name ([]) tt;
  no_short = λ x. refl;
  places = file_places kind;
  few = file_few kind;
  quiet = (inl refl, tt);
  checks = λ rows. refl;
}

pub reader_for : (v : Verb) → IsReader v (rules_for v)
reader_for verb.Catalogue = catalogue_reader
reader_for verb.Resume = resume_reader
reader_for verb.Shard = shard_reader
reader_for verb.ResumeShard = resume_shard_reader
reader_for verb.Draw = draw_reader
reader_for verb.Exercise = exercise_reader
reader_for verb.Apply = apply_reader
reader_for verb.Merge = merge_reader
reader_for (verb.File kind) = file_reader kind
