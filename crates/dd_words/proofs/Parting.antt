-- A text is parted at a byte in one way.
use Rattle.std.proofs.Common.{◌≡◌, ◌≢◌, ◌<◌, ℕ, suc, List, [], ◌∷◌, ◌++◌, length, get_or, refl, arith}
use Rattle.std.specs.Prelude.{MatchOption, IfSome, IfNone, Option, Some, None}
use Rattle.std.specs.Borrow.{Bor}
use Rattle.dd_model.proofs.Digits.{same_front}
use Rattle.dd_words.specs.Parted.{Avoids, IsParted}

pub same_parts : (byte : ℕ) (xs ys us vs : List ℕ) → Avoids byte xs → Avoids byte us → xs ++ byte ∷ ys ≡ us ++ byte ∷ vs → (xs ≡ us) × (ys ≡ vs)
same_parts byte xs ys us vs a b e =
    let both = same_front (λ other. other ≢ byte) xs us (byte ∷ ys) (byte ∷ vs) a b (λ h. h refl) (λ h. h refl) e in
    (both.0, cc)

-- a text with the byte does not avoid it
pub not_avoided : (byte : ℕ) (xs ys : List ℕ) → Avoids byte (xs ++ byte ∷ ys) → ⊥
not_avoided byte [] ys h = h.0 refl
not_avoided byte (x ∷ xs) ys h = not_avoided byte xs ys h.1

pub avoids_each : (byte : ℕ) (xs : List ℕ) → ((i : ℕ) → i < length xs → get_or xs i 0 ≢ byte) → Avoids byte xs
avoids_each byte [] h = tt
avoids_each byte (x ∷ xs) h = (h 0 (omega arith), avoids_each byte xs (λ i low. h (suc i) (omega arith)))

-- the clause of `split_once` at a byte
abbrev Splits : ℕ → List ℕ → Option (Bor (List ℕ) × Bor (List ℕ)) → Type 0
Splits c bs r = MatchOption r ((i : ℕ) → i < length bs → get_or bs i 0 ≢ c)
    (λ x. (bs ≡ x.0.now ++ (c ∷ x.1.now)) × ((i : ℕ) → i < length x.0.now → get_or x.0.now i 0 ≢ c))

pub parted_some : (c : ℕ) (bs : List ℕ) (r : Option (Bor (List ℕ) × Bor (List ℕ))) → Splits c bs r → IfSome r (λ parts. IsParted c bs parts.0.now parts.1.now)
parted_some c bs None h = tt
parted_some c bs (Some parts) h = record { joined = h.0; first = avoids_each c parts.0.now h.1 }

pub parted_none : (c : ℕ) (bs : List ℕ) (r : Option (Bor (List ℕ) × Bor (List ℕ))) → Splits c bs r → IfNone r (Avoids c bs)
parted_none c bs None h = avoids_each c bs h
parted_none c bs (Some parts) h = tt
