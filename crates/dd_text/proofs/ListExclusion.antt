-- Lists that tell a symbol have no fault.
use Rattle.std.proofs.Common.{◌≡◌, ◌≢◌, ℕ, suc, ◌+◌, ◌-◌, ◌<◌, ◌≤◌, List, [], ◌∷◌, ◌++◌, length, refl, sym, ap, ◌∙◌, subst, ⊎_elim, arith}
use Rattle.std.proofs.lemmas.Bool.{cases_lt, cases_eq}
use Rattle.dd_model.specs.declared.tokens.Numeral.{Numeral}
use Rattle.dd_model.specs.Symbol.{item}
use Rattle.dd_model.specs.Spelling.{Told, values}
use Rattle.dd_model.proofs.ReadingImages.{told_from, told-yes, IsFold, told_same}
use Rattle.dd_model.proofs.Codes.{same_items}
use Rattle.dd_model.proofs.Lists.{cons_head, cons_tail}
use Rattle.dd_text.specs.declared.faults.Why.{Why}
use Rattle.dd_text.specs.declared.faults.Why.TheVariants as whys
use Rattle.dd_text.specs.ToldImages.{IsFirstUnknown, IsFree, Says, Say, Nothing, numbers_of}
use Rattle.dd_text.specs.ListFaults.{IsShortList, IsLongList, IsWrongImage, IsImagesFault}
use Rattle.dd_text.specs.Images.{IsToldBy}
use Rattle.dd_text.proofs.ImageReads.{IsPartial, partial-nothing, partial-says, is_paired, frontier, three, told_none, told_skip, length-nothing, no_image}

pub fold_of : (n : ℕ) (xs f : List ℕ) → IsToldBy n xs f → IsFold n (item f)
fold_of n xs f t = record { within = t.within; back = t.back }

-- one list of images tells one involution
pub told_by_unique : (n : ℕ) (xs f g : List ℕ) → IsToldBy n xs f → IsToldBy n xs g → f ≡ g
told_by_unique n xs f g a b =
    same_items f g n a.length_is b.length_is
    (λ d low high. told_same n (item f) (item g) (fold_of n xs f a) (fold_of n xs g b) 1 n (omega arith) (omega arith) (λ x p l. absurd (omega arith)) (a.images ∙ sym b.images) d low high)

-- the known images are those of F, and what F tells from k on is still to come
record Agrees (n : ℕ) (F : ℕ → ℕ) (f : List ℕ) (k : ℕ) (left : List ℕ) : Type 0 where
  pub length_is : length f ≡ n
  pub partial : IsPartial f k
  pub low : 1 ≤ k
  pub high : k ≤ n + 1
  pub same : (d : ℕ) → 1 ≤ d → d ≤ n → item f d ≢ 0 → F d ≡ item f d
  pub left_is : told_from F k (n + 1 - k) ≡ left

-- the first chamber without an image comes next: its image is told, and is free
record ComesNext (n : ℕ) (F : ℕ → ℕ) (f : List ℕ) (c : ℕ) (left : List ℕ) : Type 0 where
  pub free : IsFree f (F c)
  pub left_is : left ≡ F c ∷ told_from F (c + 1) (n - c)

comes_next : (n : ℕ) (F : ℕ → ℕ) (f : List ℕ) (k c : ℕ) (left : List ℕ) → IsFold n F → Agrees n F f k left → IsFirstUnknown f c → ComesNext n F f c left
comes_next n F f k c left fold a first =
    let len = a.length_is in
    let pos = first.some in
    let within = first.within in
    let there = fold.within c pos (omega arith) in
    let back = fold.back c pos (omega arith) in
    let unknown : item f (F c) ≡ 0 =
    ⊎_elim (λ z. z) (λ some.
    let same = a.same (F c) there.0 there.1 some in
    let h : item f (F c) ≡ c = sym same ∙ back in
    let p = a.partial.within (F c) there.0 (omega arith) some in
    let e : item f c ≡ F c = ap (item f) (sym h) ∙ p.1 in
    absurd (let u = first.unknown in let q = there.0 in omega arith))
    (cases_eq (item f (F c)) 0) in
    let large : c ≤ F c = ⊎_elim (λ lt. absurd (first.least (F c) there.0 lt unknown)) (λ ge. ge) (cases_lt (F c) c) in
    let low_c = frontier f k c a.partial first in
    let low = a.low in
    let skipped : (d : ℕ) → k ≤ d → d < k + (c - k) → F d < d = λ d above below.
    let known : item f d ≢ 0 = first.least d (omega arith) (omega arith) in
    let same = a.same d (omega arith) (omega arith) known in
    let h = a.partial.later d above (omega arith) known in omega arith in
    let count : n + 1 - k ≡ c - k + suc (n - c) = omega arith in
    let place : k + (c - k) ≡ c = omega arith in
    record {
      free = record { some = there.0; within = let h = there.1 in omega arith; unknown = unknown };
      left_is = sym a.left_is ∙ ap (told_from F k) count ∙ told_skip F k (c - k) (suc (n - c)) skipped ∙ ap (λ z. told_from F z (suc (n - c))) place ∙ told-yes F c (n - c) large;
    }

agrees_more : (n : ℕ) (F : ℕ → ℕ) (f mid : List ℕ) (k x : ℕ) (left : List ℕ) → IsFold n F → Agrees n F f k (x ∷ left) → (s : Says f x mid) → Agrees n F mid (s.chamber + 1) left
agrees_more n F f mid k x left fold a s =
    let c = s.chamber in
    let q = is_paired f mid x s in
    let first = s.first in
    let len = a.length_is in
    let next = comes_next n F f k c (x ∷ left) fold a first in
    let image : x ≡ F c = cons_head x (F c) left (told_from F (c + 1) (n - c)) next.left_is in
    let pos = first.some in
    let within = first.within in
    let back : F x ≡ c = ap F image ∙ fold.back c pos (omega arith) in
    let count : n + 1 - (c + 1) ≡ n - c = omega arith in
    record {
      length_is = q.length_is ∙ len;
      partial = partial-says f mid k x a.partial s;
      low = omega arith;
      high = omega arith;
      same = λ d low high some.
          ⊎_elim
          (λ e. ap F e ∙ sym image ∙ sym q.chamber ∙ ap (item mid) (sym e))
          (λ rest. ⊎_elim
          (λ e. ap F e ∙ back ∙ sym q.number ∙ ap (item mid) (sym e))
          (λ e. let same = q.other d low e.0 e.1 in a.same d low high (λ z. some (same ∙ z)) ∙ sym same)
          rest)
          (three d c x);
      left_is = ap (told_from F (c + 1)) count ∙ sym (cons_tail x (F c) left (told_from F (c + 1) (n - c)) next.left_is);
    }

-- the numbers that are read agree with F
record AgreesSomewhere (n : ℕ) (F : ℕ → ℕ) (f left : List ℕ) : Type 0 where
  pub frontier : ℕ
  pub agrees : Agrees n F f frontier left

agrees_all : (n : ℕ) (F : ℕ → ℕ) (xs f g : List ℕ) (k : ℕ) (left : List ℕ) → IsFold n F → Say f xs g → Agrees n F f k (xs ++ left) → AgreesSomewhere n F g left
agrees_all n F [] f g k left fold s a = record { frontier = k; agrees = subst (λ z. Agrees n F z k left) s a }
agrees_all n F (x ∷ xs) f g k left fold s a = agrees_all n F xs s.0 g (s.1.chamber + 1) left fold s.2 (agrees_more n F f s.0 k x (xs ++ left) fold a s.1)

agrees : (n : ℕ) (told f xs left known : List ℕ) → IsToldBy n told f → told ≡ xs ++ left → Say (Nothing n) xs known → AgreesSomewhere n (item f) known left
agrees n told f xs left known t e s =
    let count : n + 1 - 1 ≡ n = omega arith in
    agrees_all n (item f) xs (Nothing n) known 1 left (fold_of n told f t) s (record {
      length_is = length-nothing n;
      partial = partial-nothing n;
      low = omega arith;
      high = omega arith;
      same = λ d low high some. absurd (some (no_image n d));
      left_is = ap (told_from (item f) 1) count ∙ t.images ∙ e;
    })

nothing_more : (x : ℕ) (xs : List ℕ) → [] ≡ x ∷ xs → ⊥
nothing_more x xs e = cc

pub append_nil : (xs : List ℕ) → xs ≡ xs ++ []
append_nil [] = refl
append_nil (x ∷ xs) = ap (λ zs. x ∷ zs) (append_nil xs)

short_excluded : (n : ℕ) (l : Told) (at : ℕ) (f : List ℕ) → IsShortList n l at → IsToldBy n (values l) f → ⊥
short_excluded n l at f s t =
    let a = agrees n (values l) f (values l) [] s.known t (append_nil (values l)) s.say in
    let next = comes_next n (item f) s.known a.frontier s.chamber [] (fold_of n (values l) f t) a.agrees s.unknown in
    nothing_more _ _ next.left_is

pub mapped : (bs : List Numeral) (cs : List Numeral) (y : Numeral) → numbers_of (bs ++ y ∷ cs) ≡ numbers_of bs ++ y.value ∷ numbers_of cs
mapped [] cs y = refl
mapped (b ∷ bs) cs y = ap (λ zs. b.value ∷ zs) (mapped bs cs y)

pub split_values : (l : List Numeral) (before after : List Numeral) (x : Numeral) → l ≡ before ++ x ∷ after → numbers_of l ≡ numbers_of before ++ x.value ∷ numbers_of after
split_values l before after x e = ap numbers_of e ∙ mapped before after x

image_excluded : (n : ℕ) (l : Told) (at : ℕ) (f : List ℕ) → IsWrongImage n l at → IsToldBy n (values l) f → ⊥
image_excluded n l at f s t =
    let e = split_values l.numbers s.before s.after s.number s.numbers in
    let left = s.number.value ∷ numbers_of s.after in
    let a = agrees n (values l) f (numbers_of s.before) left s.known t e s.say in
    let next = comes_next n (item f) s.known a.frontier s.chamber left (fold_of n (values l) f t) a.agrees s.unknown in
    s.taken (subst (IsFree s.known) (sym (cons_head _ _ _ _ next.left_is)) next.free)

long_excluded : (n : ℕ) (l : Told) (at : ℕ) (f : List ℕ) → IsLongList n l at → IsToldBy n (values l) f → ⊥
long_excluded n l at f s t =
    let e = split_values l.numbers s.before s.after s.number s.numbers in
    let left = s.number.value ∷ numbers_of s.after in
    let some = agrees n (values l) f (numbers_of s.before) left s.known t e s.say in
    let a = some.agrees in
    let k = some.frontier in
    let len = a.length_is in
    let low_k = a.low in
    let empty = told_none (item f) k (n + 1 - k) (λ d above below.
    let known : item s.known d ≢ 0 = s.all d (omega arith) (omega arith) in
    let same = a.same d (omega arith) (omega arith) known in
    let h = a.partial.later d above (omega arith) known in omega arith) in
    nothing_more _ _ (sym empty ∙ a.left_is)

-- A list that tells an involution has no fault.
pub images_excluded : (n : ℕ) (l : Told) (w : Why) (at : ℕ) (f : List ℕ) → IsImagesFault n l w at → w ≢ whys.Memory → IsToldBy n (values l) f → ⊥
images_excluded n l whys.ListShort at f s some t = short_excluded n l at f s t
images_excluded n l whys.ListLong at f s some t = long_excluded n l at f s t
images_excluded n l whys.Image at f s some t = image_excluded n l at f s t
images_excluded n l whys.Memory at f s some t = some refl
images_excluded n l whys.Stray at f s some t = s
images_excluded n l whys.UnexpectedEnd at f s some t = s
images_excluded n l whys.NumberTooLong at f s some t = s
images_excluded n l whys.Dimension at f s some t = s
images_excluded n l whys.Size at f s some t = s
images_excluded n l (whys.Symbol r) at f s some t = s
images_excluded n l whys.TooManySymbols at f s some t = s
images_excluded n l whys.Long at f s some t = s
