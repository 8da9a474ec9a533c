-- A position after its word.
use Rattle.std.proofs.Common.{◌≡◌, ◌≢◌, ℕ, suc, ◌-◌, ◌≤◌, true, false, List, [], ◌∷◌, length, get_or, take, drop, map, refl, sym, ap, ◌∙◌, arith, Option, Some, None}
use Rattle.std.specs.Prelude.{decimal, codes, ◌==◌}
use Rattle.std.proofs.lemmas.Bool.Decides.{nat_tests}
use Rattle.std.proofs.Math.Seq.{take-length}
use Rattle.std.specs.Borrow.{Bor}
use Rattle.dd_model.specs.declared.jobs.Position.{Position}
use Rattle.dd_model.specs.declared.jobs.Position.TheVariants.{At as AtJob, End as NoJob}
use Rattle.dd_check.specs.declared.raw_values.RawPosition.{RawPosition}
use Rattle.dd_check.specs.declared.raw_values.RawPosition.TheVariants.{At, End}
use Rattle.dd_check.specs.Texts.{Text, texts}
use Rattle.dd_check.specs.Rows.{IsPlaceRow}
use Rattle.dd_check.specs.Told.{IsWhatTellsEnd, IsWhatTellsJob, IsWhatTellsPlace}

-- the words after the first two
abbrev pub rest_of : List (Bor Text) → List (Bor Text)
rest_of ws = take (length ws - 2) (drop 2 ws)

first_two : (ws : List (Bor Text)) (d0 d1 : Bor Text) → 2 ≤ length ws → texts ws ≡ (get_or ws 0 d0).now ∷ (get_or ws 1 d1).now ∷ texts (rest_of ws)
first_two (x ∷ y ∷ ws) d0 d1 h =
    let e : length (x ∷ y ∷ ws) - 2 ≡ length ws = omega arith in
    ap (λ z. x.now ∷ y.now ∷ texts z) (sym (ap (λ n. take n ws) e ∙ take-length ws))
first_two ws d0 d1 h = absurd (omega arith)

empty_rest : (ws : List (Bor Text)) → true ≡ (length ws == 0) → texts ws ≡ []
empty_rest [] h = refl
empty_rest (w ∷ ws) h = absurd (some_are (length ws) h)
  where
    some_are : (n : ℕ) → true ≡ (suc n == 0) → ⊥
    some_are n e = grind (arith, nat_tests)

some_rest : (ws : List (Bor Text)) → false ≡ (length ws == 0) → texts ws ≢ []
some_rest [] h e = differ h
  where
    differ : false ≡ true → ⊥
    differ p = (cc)
some_rest (w ∷ ws) h e = (cc)

no_numbers : (prefix : List ℕ) → prefix ≢ [] → map decimal prefix ≡ [] → ⊥
no_numbers [] some e = some refl
no_numbers (n ∷ ns) some e = (cc)

end_told : (r : Option RawPosition) (words : List Text) (word : Text) → words ≡ codes "at" ∷ word ∷ [] → IsWhatTellsEnd word r → IsWhatTellsPlace words r
end_told None words word e h = none
  where
    none : (at : Position) → IsPlaceRow words at → ⊥
    none NoJob row = h (ap (λ ws. get_or ws 1 []) (sym e ∙ row.words_are))
    none (AtJob job) row = no_numbers job.prefix row.told (sym (ap (drop 2) (sym e ∙ row.words_are)))
end_told (Some End) words word e h = record { words_are = e ∙ ap (λ w. codes "at" ∷ w ∷ []) h.1; told = tt; short = tt }
end_told (Some (At n numbers)) words word e h = absurd (other h.0)
  where
    other : At n numbers ≡ End → ⊥
    other f = (cc)

job_told : (r : Option RawPosition) (words : List Text) (first : Text) (rest : List Text) → words ≡ codes "at" ∷ first ∷ rest → rest ≢ [] → IsWhatTellsJob first rest r → IsWhatTellsPlace words r
job_told None words first rest e some h = none
  where
    none : (at : Position) → IsPlaceRow words at → ⊥
    none NoJob row = some (ap (drop 2) (sym e ∙ row.words_are))
    none (AtJob job) row =
        h job (record {
          size_is = record { digits = ap (λ ws. get_or ws 1 []) (sym e ∙ row.words_are); short = row.short.size };
          numbers_are = (ap (drop 2) (sym e ∙ row.words_are), row.short.numbers);
        })
job_told (Some End) words first rest e some h = absurd h
job_told (Some (At n numbers)) words first rest e some h = record {
  words_are = e ∙ ap (λ w. codes "at" ∷ w ∷ rest) h.0.digits ∙ ap (λ ws. codes "at" ∷ decimal n ∷ ws) h.1.0;
  told = λ empty. some (h.1.0 ∙ ap (map decimal) empty);
  short = record { size = h.0.short; numbers = h.1.1 };
}

pub place_end : (r : Option RawPosition) (ws : List (Bor Text)) (d0 d1 : Bor Text) → 2 ≤ length ws → (get_or ws 0 d0).now ≡ codes "at" → true ≡ (length (rest_of ws) == 0)
    → IsWhatTellsEnd (get_or ws 1 d1).now r → IsWhatTellsPlace (texts ws) r
place_end r ws d0 d1 low at empty h =
    end_told r (texts ws) (get_or ws 1 d1).now
    (first_two ws d0 d1 low ∙ ap (λ w. w ∷ (get_or ws 1 d1).now ∷ texts (rest_of ws)) at ∙ ap (λ rest. codes "at" ∷ (get_or ws 1 d1).now ∷ rest) (empty_rest (rest_of ws) empty)) h

pub place_job : (r : Option RawPosition) (ws : List (Bor Text)) (d0 d1 : Bor Text) → 2 ≤ length ws → (get_or ws 0 d0).now ≡ codes "at" → false ≡ (length (rest_of ws) == 0)
    → IsWhatTellsJob (get_or ws 1 d1).now (texts (rest_of ws)) r → IsWhatTellsPlace (texts ws) r
place_job r ws d0 d1 low at some h =
    job_told r (texts ws) (get_or ws 1 d1).now (texts (rest_of ws))
    (first_two ws d0 d1 low ∙ ap (λ w. w ∷ (get_or ws 1 d1).now ∷ texts (rest_of ws)) at) (some_rest (rest_of ws) some) h
