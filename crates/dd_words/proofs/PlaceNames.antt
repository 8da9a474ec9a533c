-- The names of places are apart, and no setting has one.
use Rattle.std.proofs.Common.{◌≡◌, ◌≤◌, ◌<◌, ℕ, zero, suc, Bool, true, false, cond, codes, None, refl, sym, ap, ◌∙◌, bytes_eq, arith}
use Rattle.std.proofs.lemmas.Slice.Eq.{bytes_eq-Decides}
use Rattle.dd_words.specs.declared.settings.Setting.{Setting}
use Rattle.dd_words.specs.declared.places.Place.TheVariants.{First, Second, Third, Fourth, Fifth, Sixth, Seventh, Eighth}
use Rattle.dd_words.specs.Values.{Text}
use Rattle.dd_words.specs.Places.{name_of}
use Rattle.dd_words.specs.SettingNames.{word_of}
use Rattle.dd_words.proofs.Told.{setting_of, no_setting_has}

-- the name of the argument with a number, counted from 1
abbrev pub place_of : ℕ → Text
place_of (suc zero) = name_of First
place_of (suc (suc zero)) = name_of Second
place_of (suc (suc (suc zero))) = name_of Third
place_of (suc (suc (suc (suc zero)))) = name_of Fourth
place_of (suc (suc (suc (suc (suc zero))))) = name_of Fifth
place_of (suc (suc (suc (suc (suc (suc zero)))))) = name_of Sixth
place_of (suc (suc (suc (suc (suc (suc (suc zero))))))) = name_of Seventh
place_of _ = name_of Eighth

-- the number of a name
number_of : Text → ℕ
number_of w = cond (bytes_eq w (codes "first")) 1 (cond (bytes_eq w (codes "second")) 2 (cond (bytes_eq w (codes "third")) 3 (cond (bytes_eq w (codes "fourth")) 4 (cond (bytes_eq w (codes "fifth")) 5 (cond (bytes_eq w (codes "sixth")) 6 (cond (bytes_eq w (codes "seventh")) 7 8))))))

number_is : (k : ℕ) → 1 ≤ k → k ≤ 8 → number_of (place_of k) ≡ k
unfolding number_of
number_is zero low high = absurd (omega arith)
number_is (suc zero) low high = refl
number_is (suc (suc zero)) low high = refl
number_is (suc (suc (suc zero))) low high = refl
number_is (suc (suc (suc (suc zero)))) low high = refl
number_is (suc (suc (suc (suc (suc zero))))) low high = refl
number_is (suc (suc (suc (suc (suc (suc zero)))))) low high = refl
number_is (suc (suc (suc (suc (suc (suc (suc zero))))))) low high = refl
number_is (suc (suc (suc (suc (suc (suc (suc (suc zero)))))))) low high = refl
number_is (suc (suc (suc (suc (suc (suc (suc (suc (suc k))))))))) low high = absurd (omega arith)

-- two arguments have different names
pub places_apart : (j k : ℕ) → 1 ≤ j → j < k → k ≤ 8 → bytes_eq (place_of j) (place_of k) ≡ false
places_apart j k low less high = go (bytes_eq (place_of j) (place_of k)) ((bytes_eq-Decides (place_of j) (place_of k)).0)
  where
    go : (b : Bool) → (b ≡ true → place_of j ≡ place_of k) → b ≡ false
    go true same =
        let e : j ≡ k = sym (number_is j low (omega arith)) ∙ ap number_of (same refl) ∙ number_is k (omega arith) high in
        absurd (omega arith)
    go false same = refl

no_setting : (k : ℕ) → setting_of (place_of k) ≡ None
no_setting zero = refl
no_setting (suc zero) = refl
no_setting (suc (suc zero)) = refl
no_setting (suc (suc (suc zero))) = refl
no_setting (suc (suc (suc (suc zero)))) = refl
no_setting (suc (suc (suc (suc (suc zero))))) = refl
no_setting (suc (suc (suc (suc (suc (suc zero)))))) = refl
no_setting (suc (suc (suc (suc (suc (suc (suc zero))))))) = refl
no_setting (suc (suc (suc (suc (suc (suc (suc (suc k)))))))) = refl

-- no argument has the name of a setting
pub no_place_is : (k : ℕ) (s : Setting) → bytes_eq (place_of k) (word_of s) ≡ false
no_place_is k s = no_setting_has (place_of k) (no_setting k) s
