-- Numbers written one by one, with a space between two of them.
use Rattle.std.proofs.Common.{◌≡◌, ℕ, suc, ◌+◌, ◌-◌, ◌<◌, ◌≤◌, Bool, true, false, cond, List, [], ◌∷◌, ◌++◌, map, drop, get_or, length, refl, sym, ap, ◌∙◌, append_assoc, append-nil, codes, decimal, arith}
use Rattle.std.proofs.lemmas.Bool.{le-leb, lt-leb}
use Rattle.std.proofs.lemmas.List.Concat.{flat_map-cons}
use Rattle.std.proofs.Math.Seq.{drop-cons}
use Rattle.std.proofs.Math.ListN.{drop_of_length-le}
use Rattle.std.specs.Prelude.{nat_le}
use Rattle.std.specs.List.{filter, flat_map}
use Rattle.dd_model.specs.declared.index.Index.{Index}
use Rattle.dd_model.specs.Symbol.{Symbol, op}
use Rattle.dd_model.specs.Code.{count_from}
use Rattle.dd_model.specs.Line.{spaced, after_space, told_images}
use Rattle.dd_text.specs.Writing.{next_number}

-- what numbers add to a list that has begun, or that has not
pub spaced_from : Bool → List ℕ → List ℕ
spaced_from false xs = spaced xs
spaced_from true xs = flat_map after_space xs

spaced_from-nil : (begun : Bool) → spaced_from begun [] ≡ []
unfolding spaced_from
spaced_from-nil false = refl
spaced_from-nil true = refl

spaced_from-cons : (begun : Bool) (x : ℕ) (xs : List ℕ) → spaced_from begun (x ∷ xs) ≡ next_number begun x ++ spaced_from true xs
unfolding spaced_from
spaced_from-cons false x xs = refl
spaced_from-cons true x xs = flat_map-cons after_space x xs

-- what went out, and the text of what is left, are the text of all
pub record IsSpaced (all left : List ℕ) (begun : Bool) (old now : List ℕ) : Type 0 where
  pub front : List ℕ
  pub grown : now ≡ old ++ front
  pub whole : front ++ spaced_from begun left ≡ spaced all

pub spaced_none : (all old : List ℕ) → IsSpaced all all false old old
unfolding spaced_from
spaced_none all old = record { front = []; grown = sym (append-nil old); whole = refl }

pub spaced_next : (all left : List ℕ) (x : ℕ) (begun : Bool) (old now later : List ℕ) → IsSpaced all (x ∷ left) begun old now
    → later ≡ now ++ next_number begun x → IsSpaced all left true old later
spaced_next all left x begun old now later is e = record {
  front = is.front ++ next_number begun x;
  grown = e ∙ ap (λ t. t ++ next_number begun x) is.grown ∙ append_assoc old is.front (next_number begun x);
  whole = append_assoc is.front (next_number begun x) (spaced_from true left) ∙ ap (λ t. is.front ++ t) (sym (spaced_from-cons begun x left)) ∙ is.whole;
}

pub spaced_all : (all : List ℕ) (begun : Bool) (old now : List ℕ) → IsSpaced all [] begun old now → now ≡ old ++ spaced all
spaced_all all begun old now is =
    is.grown ∙ ap (λ t. old ++ t) (sym (append-nil is.front) ∙ ap (λ t. is.front ++ t) (sym (spaced_from-nil begun)) ∙ is.whole)

-- the images of the chambers after k that are told
abbrev pub told_after : Symbol → Index → ℕ → List ℕ
told_after s i k = map (op s i) (filter (λ d. nat_le d (op s i d)) (count_from (k + 1) (s.size - k)))

one_left : (s : Symbol) (k : ℕ) → k < s.size → s.size - k ≡ suc (s.size - (k + 1))
one_left s k h = omega arith

pub told_after-start : (s : Symbol) (i : Index) → told_after s i 0 ≡ told_images s i
told_after-start s i = let e : s.size - 0 ≡ s.size = omega arith in ap (λ n. map (op s i) (filter (λ d. nat_le d (op s i d)) (count_from 1 n))) e

pub told_after-told : (s : Symbol) (i : Index) (k : ℕ) → k < s.size → k + 1 ≤ op s i (k + 1) → told_after s i k ≡ op s i (k + 1) ∷ told_after s i (k + 1)
told_after-told s i k h told =
    let rest = count_from (k + 1 + 1) (s.size - (k + 1)) in
    ap (λ n. map (op s i) (filter (λ d. nat_le d (op s i d)) (count_from (k + 1) n))) (one_left s k h)
    ∙ ap (λ b. map (op s i) (cond b ((k + 1) ∷ filter (λ d. nat_le d (op s i d)) rest) (filter (λ d. nat_le d (op s i d)) rest))) (le-leb (k + 1) (op s i (k + 1)) told)

pub told_after-passed : (s : Symbol) (i : Index) (k : ℕ) → k < s.size → op s i (k + 1) < k + 1 → told_after s i k ≡ told_after s i (k + 1)
told_after-passed s i k h passed =
    let rest = count_from (k + 1 + 1) (s.size - (k + 1)) in
    ap (λ n. map (op s i) (filter (λ d. nat_le d (op s i d)) (count_from (k + 1) n))) (one_left s k h)
    ∙ ap (λ b. map (op s i) (cond b ((k + 1) ∷ filter (λ d. nat_le d (op s i d)) rest) (filter (λ d. nat_le d (op s i d)) rest))) (lt-leb (k + 1) (op s i (k + 1)) passed)

pub told_after-end : (s : Symbol) (i : Index) (k : ℕ) → s.size ≤ k → told_after s i k ≡ []
told_after-end s i k h = let e : s.size - k ≡ 0 = omega arith in ap (λ n. map (op s i) (filter (λ d. nat_le d (op s i d)) (count_from (k + 1) n))) e

-- what a function makes of the items from a place on, and of those after it
pub mapped-cons : (f : ℕ → ℕ) (ds : List ℕ) (k : ℕ) → k < length ds → map f (drop k ds) ≡ f (get_or ds k 0) ∷ map f (drop (k + 1) ds)
mapped-cons f ds k h =
    let e : suc k ≡ k + 1 = omega arith in
    ap (map f) (drop-cons ds k 0 h) ∙ ap (λ j. f (get_or ds k 0) ∷ map f (drop j ds)) e

pub mapped_end : (f : ℕ → ℕ) (ds : List ℕ) (k : ℕ) → length ds ≤ k → map f (drop k ds) ≡ []
mapped_end f ds k h = ap (map f) (drop_of_length-le ds h)

-- a list that has begun goes on with a space and a number
pub spaced_on : (x : ℕ) (left now once later whole : List ℕ) → now ++ flat_map after_space (x ∷ left) ≡ whole → once ≡ now ++ codes " " → later ≡ once ++ decimal x
    → later ++ flat_map after_space left ≡ whole
spaced_on x left now once later whole before space number =
    ap (λ t. t ++ flat_map after_space left) (number ∙ ap (λ t. t ++ decimal x) space)
    ∙ parted now (codes " ") (decimal x) (flat_map after_space left)
    ∙ ap (λ t. now ++ t) (sym (flat_map-cons after_space x left))
    ∙ before
  where
    parted : (a b c d : List ℕ) → a ++ b ++ c ++ d ≡ a ++ (b ++ c ++ d)
    parted a b c d = simp (append_assoc) refl

pub spaced_end : (now whole : List ℕ) → now ++ flat_map after_space [] ≡ whole → now ≡ whole
spaced_end now whole e = sym (append-nil now) ∙ e
