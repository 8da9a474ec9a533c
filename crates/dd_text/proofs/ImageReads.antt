-- What the numbers of a list say.
use Rattle.std.proofs.Common.{◌≡◌, ◌≢◌, ◌⊎◌, ℕ, zero, suc, ◌+◌, ◌-◌, ◌<◌, ◌≤◌, List, [], ◌∷◌, ◌++◌, length, get_or, set, take, drop, refl, sym, ap, ◌∙◌, subst, inl, inr, ⊎_elim, arith}
use Rattle.std.proofs.lemmas.Bool.{cases_lt, cases_eq}
use Rattle.std.proofs.lemmas.List.{get_or-set_same, get_or-set_other, length-set, length-replicate, get_or-replicate, get_or_past}
use Rattle.dd_model.specs.Symbol.{item}
use Rattle.dd_model.proofs.ReadingImages.{told_from, told-yes, told-no}
use Rattle.dd_model.specs.Spelling.{Told, values}
use Rattle.dd_model.specs.declared.tokens.Numeral.{Numeral}
use Rattle.dd_text.specs.ToldImages.{IsFirstUnknown, AllKnown, IsFree, Says, Say, Nothing, numbers_of}
use Rattle.dd_text.specs.ListFaults.{IsShortList, IsLongList, IsWrongImage}
use Rattle.dd_text.proofs.ListSteps.{cut_at, one_more, all_of}
use Rattle.dd_text.specs.Images.{IsNextUnknown, IsToldBy}

pub say-push : (f g h : List ℕ) (xs : List ℕ) (x : ℕ) → Say f xs g → Says g x h → Say f (xs ++ x ∷ []) h
say-push f g h [] x a b = (h, subst (λ z. Says z x h) (sym a) b, refl)
say-push f g h (y ∷ ys) x a b = (a.0, a.1, say-push a.0 g h ys x a.2 b)

-- the first chamber without an image, from what a search found
pub first_unknown : (f : List ℕ) (k e : ℕ) → 1 ≤ k → ((x : ℕ) → 1 ≤ x → x < k → item f x ≢ 0) → IsNextUnknown f k e → e ≤ length f → IsFirstUnknown f e
first_unknown f k e low below n within = record {
  some = let h = n.from in omega arith;
  within = within;
  unknown = n.within within;
  least = λ x pos lt. ⊎_elim (λ early. below x pos early) (λ late. n.known x late lt) (cases_lt x k);
}

pub all_known : (f : List ℕ) (k e : ℕ) → ((x : ℕ) → 1 ≤ x → x < k → item f x ≢ 0) → IsNextUnknown f k e → length f < e → AllKnown f
all_known f k e below n past x pos high = ⊎_elim (λ early. below x pos early) (λ late. n.known x late (omega arith)) (cases_lt x k)

-- ---- what a pair leaves

-- an item of a list in which one place is set
item-set_same : (f : List ℕ) (d x : ℕ) → 1 ≤ d → d ≤ length f → item (set f (d - 1) x) d ≡ x
item-set_same f d x low high = get_or-set_same f (d - 1) x 0 (omega arith)

item-set_other : (f : List ℕ) (d e x : ℕ) → 1 ≤ d → 1 ≤ e → e ≢ d → item (set f (d - 1) x) e ≡ item f e
item-set_other f d e x low low' other = get_or-set_other f (d - 1) (e - 1) x 0 (λ same. other (omega arith))

abbrev pub paired : List ℕ → ℕ → ℕ → List ℕ
paired f c x = set (set f (c - 1) x) (x - 1) c

pub paired-length : (f : List ℕ) (c x : ℕ) → length (paired f c x) ≡ length f
paired-length f c x = length-set (set f (c - 1) x) (x - 1) c ∙ length-set f (c - 1) x

paired-number : (f : List ℕ) (c x : ℕ) → IsFree f x → item (paired f c x) x ≡ c
paired-number f c x free = let l = length-set f (c - 1) x in let h = free.within in item-set_same (set f (c - 1) x) x c free.some (omega arith)

paired-chamber : (f : List ℕ) (c x : ℕ) → IsFirstUnknown f c → IsFree f x → item (paired f c x) c ≡ x
paired-chamber f c x first free =
    ⊎_elim
    (λ same. subst (λ z. item (paired f c x) z ≡ x) (sym same) (paired-number f c x free ∙ same))
    (λ other. item-set_other (set f (c - 1) x) x c c free.some first.some other ∙ item-set_same f c x first.some first.within)
    (cases_eq c x)

pub paired-other : (f : List ℕ) (c x e : ℕ) → IsFirstUnknown f c → IsFree f x → 1 ≤ e → e ≢ c → e ≢ x → item (paired f c x) e ≡ item f e
paired-other f c x e first free low not_c not_x =
    item-set_other (set f (c - 1) x) x e c free.some low not_x ∙ item-set_other f c e x first.some low not_c

-- known images stay
known_stays : (f g : List ℕ) (x d : ℕ) → Says f x g → 1 ≤ d → item f d ≢ 0 → item g d ≡ item f d
known_stays f g x d s low known =
    ap (λ z. item z d) s.pairs
    ∙ paired-other f s.chamber x d s.first s.free low (λ e. known (ap (item f) e ∙ s.first.unknown)) (λ e. known (ap (item f) e ∙ s.free.unknown))

pub says-length : (f g : List ℕ) (x : ℕ) → Says f x g → length g ≡ length f
says-length f g x s = ap length s.pairs ∙ paired-length f s.chamber x

pub say-length : (f g : List ℕ) (xs : List ℕ) → Say f xs g → length g ≡ length f
say-length f g [] a = ap length (sym a)
say-length f g (x ∷ xs) a = say-length a.0 g xs a.2 ∙ says-length f a.0 x a.1

pub say_stays : (f g : List ℕ) (xs : List ℕ) (d : ℕ) → Say f xs g → 1 ≤ d → item f d ≢ 0 → item g d ≡ item f d
say_stays f g [] d a low known = ap (λ z. item z d) (sym a)
say_stays f g (x ∷ xs) d a low known =
    let same = known_stays f a.0 x d a.1 low known in
    say_stays a.0 g xs d a.2 low (λ e. known (sym same ∙ e)) ∙ same

-- ---- partners

-- who has an image is the image of it, and the images of chambers from k on are below k
pub record IsPartial (f : List ℕ) (k : ℕ) : Type 0 where
  pub within : (d : ℕ) → 1 ≤ d → d ≤ length f → item f d ≢ 0 → (item f d ≤ length f) × (item f (item f d) ≡ d)
  pub later : (d : ℕ) → k ≤ d → d ≤ length f → item f d ≢ 0 → item f d < k
  pub known : (d : ℕ) → 1 ≤ d → d < k → item f d ≢ 0

pub length-nothing : (n : ℕ) → length (Nothing n) ≡ n
length-nothing n = length-replicate n 0

pub no_image : (n d : ℕ) → item (Nothing n) d ≡ 0
no_image n d = ⊎_elim (λ lt. get_or-replicate n (d - 1) 0 0 lt) (λ ge. get_or_past (Nothing n) (d - 1) 0 (let h = length-nothing n in omega arith)) (cases_lt (d - 1) n)

pub partial-nothing : (n : ℕ) → IsPartial (Nothing n) 1
partial-nothing n = record {
  within = λ d low high some. absurd (some (no_image n d));
  later = λ d low high some. absurd (some (no_image n d));
  known = λ d low high. absurd (omega arith);
}

-- a pair, its two chambers and the others
pub record IsPaired (f g : List ℕ) (c x : ℕ) : Type 0 where
  pub length_is : length g ≡ length f
  pub chamber : item g c ≡ x
  pub number : item g x ≡ c
  pub other : (e : ℕ) → 1 ≤ e → e ≢ c → e ≢ x → item g e ≡ item f e

pub is_paired : (f g : List ℕ) (x : ℕ) (s : Says f x g) → IsPaired f g s.chamber x
is_paired f g x s = subst (λ z. IsPaired f z s.chamber x) (sym s.pairs) (record {
  length_is = paired-length f s.chamber x;
  chamber = paired-chamber f s.chamber x s.first s.free;
  number = paired-number f s.chamber x s.free;
  other = λ e low a b. paired-other f s.chamber x e s.first s.free low a b;
})

-- three ways for a chamber
pub three : (e c x : ℕ) → (e ≡ c) ⊎ ((e ≡ x) ⊎ ((e ≢ c) × (e ≢ x)))
three e c x = ⊎_elim (λ a. inl a) (λ a. ⊎_elim (λ b. inr (inl b)) (λ b. inr (inr (a, b))) (cases_eq e x)) (cases_eq e c)

-- a chamber without an image is no image
known_back : (f : List ℕ) (d c : ℕ) → item f (item f d) ≡ d → item f d ≡ c → item f c ≡ 0 → 1 ≤ d → ⊥
known_back f d c back is none low = let h : d ≡ 0 = sym back ∙ ap (item f) is ∙ none in omega arith

-- the first chamber without an image is no earlier than k
pub frontier : (f : List ℕ) (k c : ℕ) → IsPartial f k → IsFirstUnknown f c → k ≤ c
frontier f k c p first = ⊎_elim (λ lt. absurd (p.known c first.some lt first.unknown)) (λ ge. ge) (cases_lt c k)

below_or : (d c : ℕ) → d ≢ c → d < c + 1 → d < c
below_or d c other high = omega arith

pub partial-says : (f g : List ℕ) (k x : ℕ) → IsPartial f k → (s : Says f x g) → IsPartial g (s.chamber + 1)
partial-says f g k x p s =
    let c = s.chamber in
    let q = is_paired f g x s in
    let first = s.first in
    let free = s.free in
    let here : c ≤ x = ⊎_elim (λ lt. absurd (first.least x free.some lt free.unknown)) (λ ge. ge) (cases_lt x c) in
    let count = q.length_is in
    record {
      within = λ d low high some.
          ⊎_elim
          (λ e. (subst (λ z. z ≤ length g) (sym (ap (item g) e ∙ q.chamber)) (let h = free.within in omega arith), ap (item g) (ap (item g) e ∙ q.chamber) ∙ q.number ∙ sym e))
          (λ rest. ⊎_elim
          (λ e. (subst (λ z. z ≤ length g) (sym (ap (item g) e ∙ q.number)) (let h = first.within in omega arith), ap (item g) (ap (item g) e ∙ q.number) ∙ q.chamber ∙ sym e))
          (λ e.
          let same = q.other d low e.0 e.1 in
          let known : item f d ≢ 0 = λ z. some (same ∙ z) in
          let old = p.within d low (omega arith) known in
          let pos : 1 ≤ item f d = ⊎_elim (λ z. absurd (known z)) (λ z. omega arith) (cases_eq (item f d) 0) in
          let not_c : item f d ≢ c = λ z. known_back f d c old.1 z first.unknown low in
          let not_x : item f d ≢ x = λ z. known_back f d x old.1 z free.unknown low in
          (subst (λ z. z ≤ length g) (sym same) (let h = old.0 in omega arith), ap (item g) same ∙ q.other (item f d) pos not_c not_x ∙ old.1))
          rest)
          (three d c x);
      later = λ d low high some.
          ⊎_elim
          (λ e. absurd (omega arith))
          (λ rest. ⊎_elim
          (λ e. subst (λ z. z < c + 1) (sym (ap (item g) e ∙ q.number)) (omega arith))
          (λ e.
          let pos : 1 ≤ d = let h = first.some in omega arith in
          let same = q.other d pos e.0 e.1 in
          let known : item f d ≢ 0 = λ z. some (same ∙ z) in
          let low_k = frontier f k c p first in
          subst (λ z. z < c + 1) (sym same) (let h = p.later d (omega arith) (omega arith) known in omega arith))
          rest)
          (three d c x);
      known = λ d low high z.
          ⊎_elim
          (λ e. let h = sym z ∙ ap (item g) e ∙ q.chamber in let pos = free.some in absurd (omega arith))
          (λ rest. ⊎_elim
          (λ e. let h = sym z ∙ ap (item g) e ∙ q.number in let pos = first.some in absurd (omega arith))
          (λ e. first.least d low (let a = e.0 in below_or d c a high) (sym (q.other d low e.0 e.1) ∙ z))
          rest)
          (three d c x);
    }

-- ---- what is told

pub told_none : (f : ℕ → ℕ) (k m : ℕ) → ((d : ℕ) → k ≤ d → d < k + m → f d < d) → told_from f k m ≡ []
told_none f k zero low = refl
told_none f k (suc m) low = told-no f k m (low k (omega arith) (omega arith)) ∙ told_none f (k + 1) m (λ d a b. low d (omega arith) (omega arith))

pub told_skip : (f : ℕ → ℕ) (k j m : ℕ) → ((d : ℕ) → k ≤ d → d < k + j → f d < d) → told_from f k (j + m) ≡ told_from f (k + j) m
told_skip f k zero m low =
    let a : zero + m ≡ m = omega arith in
    let b : k ≡ k + zero = omega arith in
    ap (told_from f k) a ∙ ap (λ z. told_from f z m) b
told_skip f k (suc j) m low =
    let a : suc j + m ≡ suc (j + m) = omega arith in
    let b : k + 1 + j ≡ k + suc j = omega arith in
    ap (told_from f k) a ∙ told-no f k (j + m) (low k (omega arith) (omega arith))
    ∙ told_skip f (k + 1) j m (λ d p q. low d (omega arith) (omega arith))
    ∙ ap (λ z. told_from f z m) b

-- the numbers that say an involution are its told images
say_told : (xs : List ℕ) (f g : List ℕ) (k : ℕ) → Say f xs g → IsPartial f k → 1 ≤ k → k ≤ length f + 1 → AllKnown g → told_from (item g) k (length f + 1 - k) ≡ xs
say_told [] f g k a p low high all = told_none (item g) k (length f + 1 - k) (λ d above below.
    let same : item g d ≡ item f d = ap (λ z. item z d) (sym a) in
    let n : length g ≡ length f = ap length (sym a) in
    let known : item f d ≢ 0 = λ z. all d (omega arith) (omega arith) (same ∙ z) in
    let h = p.later d above (omega arith) known in omega arith)
say_told (x ∷ xs) f g k a p low high all =
    let mid = a.0 in
    let s = a.1 in
    let c = s.chamber in
    let q = is_paired f mid x s in
    let low_c = frontier f k c p s.first in
    let first = s.first in
    let free = s.free in
    let in_f = first.within in
    let large : c ≤ x = ⊎_elim (λ lt. absurd (first.least x free.some lt free.unknown)) (λ ge. ge) (cases_lt x c) in
    let chamber : item g c ≡ x = say_stays mid g xs c a.2 first.some (λ z. let pos = free.some in let e = sym q.chamber ∙ z in absurd (omega arith)) ∙ q.chamber in
    let skipped : (d : ℕ) → k ≤ d → d < k + (c - k) → item g d < d = λ d above below.
    let known : item f d ≢ 0 = first.least d (omega arith) (omega arith) in
    let same = say_stays f g (x ∷ xs) d a (omega arith) known in
    let h = p.later d above (omega arith) known in omega arith in
    let count : length f + 1 - k ≡ c - k + suc (length f - c) = omega arith in
    let place : k + (c - k) ≡ c = omega arith in
    let n = says-length f mid x s in
    let left : length f - c ≡ length mid + 1 - (c + 1) = omega arith in
    ap (told_from (item g) k) count
    ∙ told_skip (item g) k (c - k) (suc (length f - c)) skipped
    ∙ ap (λ z. told_from (item g) z (suc (length f - c))) place
    ∙ told-yes (item g) c (length f - c) (subst (λ z. c ≤ z) (sym chamber) large)
    ∙ ap (λ z. z ∷ told_from (item g) (c + 1) (length f - c)) chamber
    ∙ ap (λ m. x ∷ told_from (item g) (c + 1) m) left
    ∙ ap (λ zs. x ∷ zs) (say_told xs mid g (c + 1) a.2 (partial-says f mid k x p s) (omega arith) (omega arith) all)

-- where all is said, who has an image is the image of it
record Ends (g : List ℕ) : Type 0 where
  pub frontier : ℕ
  pub partial : IsPartial g frontier

partial-say : (xs : List ℕ) (f g : List ℕ) (k : ℕ) → Say f xs g → IsPartial f k → Ends g
partial-say [] f g k a p = record { frontier = k; partial = subst (λ z. IsPartial z k) a p }
partial-say (x ∷ xs) f g k a p = partial-say xs a.0 g (a.1.chamber + 1) a.2 (partial-says f a.0 k x p a.1)

positive : (x : ℕ) → x ≢ 0 → 1 ≤ x
positive zero h = absurd (h refl)
positive (suc x) h = omega arith

pub is_told_by : (n : ℕ) (xs g : List ℕ) → Say (Nothing n) xs g → AllKnown g → IsToldBy n xs g
is_told_by n xs g a all =
    let p = (partial-say xs (Nothing n) g 1 a (partial-nothing n)).partial in
    let len : length g ≡ n = say-length (Nothing n) g xs a ∙ length-nothing n in
    let start = length-nothing n in
    let known : (d : ℕ) → 1 ≤ d → d ≤ n → item g d ≢ 0 = λ d low high. all d low (omega arith) in
    let count : length (Nothing n) + 1 - 1 ≡ n = omega arith in
    record {
      length_is = len;
      within = λ d low high. let h = (p.within d low (omega arith) (known d low high)).0 in let k = known d low high in (positive (item g d) k, omega arith);
      back = λ d low high. (p.within d low (omega arith) (known d low high)).1;
      images = ap (told_from (item g) 1) (sym count) ∙ say_told xs (Nothing n) g 1 a (partial-nothing n) (omega arith) (omega arith) all;
    }

-- ---- the exits

-- the first i numbers are read, and the chambers below k have images
pub record IsReadTo (n : ℕ) (xs : List Numeral) (i k : ℕ) (f : List ℕ) : Type 0 where
  pub count : length f ≡ n
  pub from : 1 ≤ k
  pub known : (x : ℕ) → 1 ≤ x → x < k → item f x ≡ 0 → ⊥
  pub said : Say (Nothing n) (numbers_of (take i xs)) f

pub nothing_read : (n : ℕ) (xs : List Numeral) (f : List ℕ) → f ≡ Nothing n → IsReadTo n xs 0 1 f
nothing_read n xs f e = record { count = ap length e ∙ length-nothing n; from = omega arith; known = λ x low high. absurd (omega arith); said = sym e }

abbrev pub at_index : List Numeral → ℕ → Numeral
at_index xs i = get_or xs i (record { at = 0; value = 0 })

pub long_list : (n : ℕ) (l : Told) (i k e : ℕ) (f : List ℕ) → IsReadTo n l.numbers i k f → IsNextUnknown f k e → length f < e → i < length l.numbers → IsLongList n l (at_index l.numbers i).at
long_list n l i k e f r next past h = record {
  before = take i l.numbers;
  number = at_index l.numbers i;
  after = drop (suc i) l.numbers;
  numbers = cut_at l.numbers i (record { at = 0; value = 0 }) h;
  known = f;
  say = r.said;
  all = all_known f k e r.known next past;
  place = refl;
}

pub wrong_image : (n : ℕ) (l : Told) (i k e : ℕ) (f : List ℕ) → IsReadTo n l.numbers i k f → IsNextUnknown f k e → e ≤ length f → i < length l.numbers
    → (IsFree f (at_index l.numbers i).value → ⊥) → IsWrongImage n l (at_index l.numbers i).at
wrong_image n l i k e f r next within h taken = record {
  before = take i l.numbers;
  number = at_index l.numbers i;
  after = drop (suc i) l.numbers;
  numbers = cut_at l.numbers i (record { at = 0; value = 0 }) h;
  known = f;
  say = r.said;
  chamber = e;
  unknown = first_unknown f k e r.from r.known next within;
  taken = taken;
  place = refl;
}

pub read_more : (n : ℕ) (xs : List Numeral) (i k e : ℕ) (f : List ℕ) → IsReadTo n xs i k f → IsNextUnknown f k e → e ≤ length f → i < length xs
    → IsFree f (at_index xs i).value → IsReadTo n xs (i + 1) e (paired f e (at_index xs i).value)
read_more n xs i k e f r next within h free =
    let x = (at_index xs i).value in
    let first = first_unknown f k e r.from r.known next within in
    let says : Says f x (paired f e x) = record { chamber = e; first = first; free = free; pairs = refl } in
    record {
      count = paired-length f e x ∙ r.count;
      from = first.some;
      known = λ d low lt none. first.least d low lt (sym (known_stays f (paired f e x) x d says low (first.least d low lt)) ∙ none);
      said = subst (λ zs. Say (Nothing n) zs (paired f e x)) (sym (one_more xs i (record { at = 0; value = 0 }) h))
          (say-push (Nothing n) f (paired f e x) (numbers_of (take i xs)) x r.said says);
    }

pub short_list : (n : ℕ) (l : Told) (i k e : ℕ) (f : List ℕ) → IsReadTo n l.numbers i k f → IsNextUnknown f k e → e ≤ length f → length l.numbers ≡ i → IsShortList n l l.end
short_list n l i k e f r next within done = record {
  known = f;
  say = subst (λ z. Say (Nothing n) (numbers_of z) f) (all_of l.numbers i done) r.said;
  chamber = e;
  unknown = first_unknown f k e r.from r.known next within;
  place = refl;
}

pub whole_list : (n : ℕ) (l : Told) (i k e : ℕ) (f : List ℕ) → IsReadTo n l.numbers i k f → IsNextUnknown f k e → length f < e → length l.numbers ≡ i → IsToldBy n (values l) f
whole_list n l i k e f r next past done =
    is_told_by n (values l) f (subst (λ z. Say (Nothing n) (numbers_of z) f) (all_of l.numbers i done) r.said) (all_known f k e r.known next past)
