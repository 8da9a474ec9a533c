-- How the map of the totals grows by a name.
use Rattle.std.proofs.Common.{◌≡◌, ℕ, suc, ◌+◌, ◌<◌, Bool, true, false, cond, if◌then◌else◌, List, [], ◌∷◌, ◌++◌, map, take, slice_get, length, append-nil, append_assoc, Option, Some, None, Vec, refl, sym, ap, ◌∙◌, subst, arith}
use Rattle.std.specs.Global.{Global}
use Rattle.std.specs.List.{AllByRecursion}
use Rattle.std.specs.Str.{bytes_eq}
use Rattle.std.specs.Map.{lookup}
use Rattle.indexmap.specs.IndexMap.{insert_entry}
use Rattle.std.specs.List.{flat_map}
use Rattle.std.proofs.Math.Seq.{take-suc}
use Rattle.std.proofs.lemmas.Option.{get_or_from_slice_get, slice_get_within}
use Rattle.std.proofs.lemmas.Grind.{flat_map-append}
use Rattle.std.proofs.lemmas.List.Concat.{flat_map-cons}
use Rattle.dd_suite_commands.specs.Totals.{counted, total_text}

-- names with their numbers, as the map keeps them
abbrev pub Entries : Type 0
Entries = List (Vec ℕ Global × ℕ)

abbrev pub told : Entries → List (List ℕ × ℕ)
told = map (λ e. (e.0.items, e.1))

-- one more than is kept
abbrev pub next_count : Option ℕ → ℕ
next_count None = 1
next_count (Some n) = n + 1

-- a name meets the first entry: that is counted once more, or the name goes on to the others
pub insert_counts : (es : Entries) (k : Vec ℕ Global) → told (insert_entry (λ a b. bytes_eq a.items b.items) es k (next_count (lookup (λ y. bytes_eq k.items y.items) es)))
    ≡ counted (told es) k.items
insert_counts [] k = refl
insert_counts (e ∷ es) k = by (bytes_eq k.items e.0.items) refl (insert_counts es k)
  where
    by : (b : Bool) → bytes_eq k.items e.0.items ≡ b → told (insert_entry (λ a b. bytes_eq a.items b.items) es k (next_count (lookup (λ y. bytes_eq k.items y.items) es))) ≡ counted (told es) k.items
        → told (if bytes_eq k.items e.0.items then (e.0, next_count (cond (bytes_eq k.items e.0.items) (Some e.1) (lookup (λ y. bytes_eq k.items y.items) es))) ∷ es
        else e ∷ insert_entry (λ a b. bytes_eq a.items b.items) es k (next_count (cond (bytes_eq k.items e.0.items) (Some e.1) (lookup (λ y. bytes_eq k.items y.items) es))))
        ≡ cond (bytes_eq k.items e.0.items) ((e.0.items, e.1 + 1) ∷ told es) ((e.0.items, e.1) ∷ counted (told es) k.items)
    by true t h = rw t refl
    by false t h = rw t (ap (λ xs. (e.0.items, e.1) ∷ xs) h)

pub kept_count_below : (bound : ℕ) (test : Vec ℕ Global → Bool) (es : Entries) (n : ℕ) → AllByRecursion (λ (e : List ℕ × ℕ). e.1 < bound) (told es) → lookup test es ≡ Some n → n < bound
kept_count_below bound test [] n all e = absurd (cc)
kept_count_below bound test (x ∷ es) n all e = by (test x.0) refl (kept_count_below bound test es n all.1)
  where
    by : (b : Bool) → test x.0 ≡ b → (lookup test es ≡ Some n → n < bound) → n < bound
    by true t h = let same : Some x.1 ≡ Some n = sym (ap (λ b. cond b (Some x.1) (lookup test es)) t) ∙ e in let value : x.1 ≡ n = cc in subst (λ m. m < bound) value all.0
    by false t h = h (sym (ap (λ b. cond b (Some x.1) (lookup test es)) t) ∙ e)

-- the lines of the entries to a place, and one more
pub totals_taken : (word : List ℕ) (es : List (List ℕ × ℕ)) (i : ℕ) (e : List ℕ × ℕ) → slice_get es i ≡ Some e
    → flat_map (total_text word) (take i es) ++ total_text word e ≡ flat_map (total_text word) (take (i + 1) es)
totals_taken word es i e at =
    let inside : i < length es = slice_get_within es i e at in
    let next : i + 1 ≡ suc i = omega arith in
    let taken : take (i + 1) es ≡ take i es ++ e ∷ [] =
    ap (λ j. take j es) next ∙ take-suc es i e inside ∙ ap (λ x. take i es ++ x ∷ []) (get_or_from_slice_get es i e e at) in
    let line : total_text word e ≡ flat_map (total_text word) (e ∷ []) = sym (append-nil (total_text word e)) ∙ sym (flat_map-cons (total_text word) e []) in
    ap (λ t. flat_map (total_text word) (take i es) ++ t) line ∙ sym (flat_map-append (total_text word) (take i es) (e ∷ [])) ∙ ap (flat_map (total_text word)) (sym taken)

-- three parts of a text, one after the other
pub three_parts : (old one two three a b c : List ℕ) → a ≡ old ++ one → b ≡ a ++ two → c ≡ b ++ three → c ≡ old ++ (one ++ (two ++ three))
three_parts old one two three a b c ea eb ec =
    ec ∙ ap (λ t. t ++ three) (eb ∙ ap (λ t. t ++ two) ea) ∙ append_assoc (old ++ one) two three ∙ append_assoc old one (two ++ three)

-- a text of four parts more
pub four_parts : (old one two three four a b c d : List ℕ) → a ≡ old ++ one → b ≡ a ++ two → c ≡ b ++ three → d ≡ c ++ four
    → d ≡ old ++ (one ++ (two ++ (three ++ four)))
four_parts old one two three four a b c d ea eb ec ed =
    ed ∙ ap (λ t. t ++ four) (three_parts old one two three a b c ea eb ec) ∙ append_assoc old (one ++ (two ++ three)) four
    ∙ ap (λ t. old ++ t) (append_assoc one (two ++ three) four ∙ ap (λ t. one ++ t) (append_assoc two three four))
