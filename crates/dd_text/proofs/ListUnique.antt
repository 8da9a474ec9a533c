-- A list has one fault.
use Rattle.std.proofs.Common.{◌≡◌, ◌≢◌, ℕ, ◌-◌, List, [], ◌∷◌, ◌++◌, length, set, refl, sym, ap, ◌∙◌, subst, ⊎_elim, arith}
use Rattle.std.proofs.lemmas.Bool.{cases_lt}
use Rattle.std.proofs.lemmas.List.{length-append}
use Rattle.dd_model.specs.declared.pair.Pair.{Pair}
use Rattle.dd_model.specs.declared.tokens.Numeral.{Numeral}
use Rattle.dd_model.specs.Symbol.{Symbol}
use Rattle.dd_model.specs.Spelling.{Told}
use Rattle.dd_model.proofs.CellLists.{cells_unique}
use Rattle.dd_model.proofs.Lists.{cons_head, cons_tail}
use Rattle.dd_text.specs.declared.faults.Why.{Why}
use Rattle.dd_text.specs.declared.faults.Why.TheVariants as whys
use Rattle.dd_text.specs.ToldImages.{IsFirstUnknown, Says, Say, Nothing, numbers_of}
use Rattle.dd_text.specs.ListFaults.{IsShortList, IsLongList, IsWrongImage, IsImagesFault, IsShortOfCells, IsBeyondCells, IsDegreesFault}
use Rattle.dd_text.proofs.ListExclusion.{mapped, split_values}
use Rattle.dd_text.proofs.TextUnique.{SameFault}

first_once : (f : List ℕ) (c d : ℕ) → IsFirstUnknown f c → IsFirstUnknown f d → c ≡ d
first_once f c d a b =
    ⊎_elim (λ lt. absurd (b.least c a.some lt a.unknown)) (λ ge. ⊎_elim (λ lt. absurd (a.least d b.some lt b.unknown)) (λ le. omega arith) (cases_lt d c)) (cases_lt c d)

says_once : (f g h : List ℕ) (x : ℕ) → Says f x g → Says f x h → g ≡ h
says_once f g h x a b =
    let c = first_once f a.chamber b.chamber a.first b.first in
    a.pairs ∙ ap (λ z. set (set f (z - 1) x) (x - 1) z) c ∙ sym b.pairs

say_once : (f g h : List ℕ) (xs : List ℕ) → Say f xs g → Say f xs h → g ≡ h
say_once f g h [] a b = sym a ∙ b
say_once f g h (x ∷ xs) a b = say_once a.0 g h xs a.2 (subst (λ z. Say z xs h) (sym (says_once f a.0 b.0 x a.1 b.1)) b.2)

-- a number among those that are said is said after those before it
record SaysNext (f : List ℕ) (xs : List ℕ) (x : ℕ) : Type 0 where
  pub known : List ℕ
  pub say : Say f xs known
  pub next : List ℕ
  pub says : Says known x next

says_next : (f g : List ℕ) (xs : List ℕ) (x : ℕ) (ys : List ℕ) → Say f (xs ++ x ∷ ys) g → SaysNext f xs x
says_next f g [] x ys a = record { known = f; say = refl; next = a.0; says = a.1 }
says_next f g (z ∷ zs) x ys a =
    let later = says_next a.0 g zs x ys a.2 in
    record { known = later.known; say = (a.0, a.1, later.say); next = later.next; says = later.says }

-- the numbers before this one say what is known, and this one cannot be said then
record Stuck (n : ℕ) (l : List Numeral) : Type 0 where
  pub before : List Numeral
  pub number : Numeral
  pub after : List Numeral
  pub numbers : l ≡ before ++ number ∷ after
  pub known : List ℕ
  pub say : Say (Nothing n) (numbers_of before) known
  pub stuck : (next : List ℕ) → Says known number.value next → ⊥

long_stuck : (n : ℕ) (l : Told) (at : ℕ) → IsLongList n l at → Stuck n l.numbers
long_stuck n l at s = record {
  before = s.before;
  number = s.number;
  after = s.after;
  numbers = s.numbers;
  known = s.known;
  say = s.say;
  stuck = λ next a. s.all a.chamber a.first.some a.first.within a.first.unknown;
}

wrong_stuck : (n : ℕ) (l : Told) (at : ℕ) → IsWrongImage n l at → Stuck n l.numbers
wrong_stuck n l at s = record { before = s.before; number = s.number; after = s.after; numbers = s.numbers; known = s.known; say = s.say; stuck = λ next a. s.taken a.free }

-- no more is said
said_no_more : (n : ℕ) (l : List Numeral) (s : Stuck n l) (g : List ℕ) (ys : List ℕ) → Say (Nothing n) (numbers_of s.before ++ s.number.value ∷ ys) g → ⊥
said_no_more n l s g ys a =
    let next = says_next (Nothing n) g (numbers_of s.before) s.number.value ys a in
    let same = say_once (Nothing n) next.known s.known (numbers_of s.before) next.say s.say in
    s.stuck next.next (subst (λ z. Says z s.number.value next.next) same next.says)

short_not_stuck : (n : ℕ) (l : Told) (at : ℕ) → IsShortList n l at → Stuck n l.numbers → ⊥
short_not_stuck n l at a s =
    said_no_more n l.numbers s a.known (numbers_of s.after)
    (subst (λ z. Say (Nothing n) z a.known) (split_values l.numbers s.before s.after s.number s.numbers) a.say)

-- two cuts of a list
data Cut (a : List Numeral) (x : Numeral) (b : List Numeral) (y : Numeral) : Type 0 where
  same : a ≡ b → x ≡ y → Cut a x b y
  earlier : (more : List Numeral) → b ≡ a ++ x ∷ more → Cut a x b y
  later : (more : List Numeral) → a ≡ b ++ y ∷ more → Cut a x b y

cut_more : (u v : Numeral) (a b : List Numeral) (x y : Numeral) → u ≡ v → Cut a x b y → Cut (u ∷ a) x (v ∷ b) y
cut_more u v a b x y e (same f g) = same (ap (λ z. z ∷ a) e ∙ ap (λ zs. v ∷ zs) f) g
cut_more u v a b x y e (earlier more f) = earlier more (ap (λ z. z ∷ b) (sym e) ∙ ap (λ zs. u ∷ zs) f)
cut_more u v a b x y e (later more f) = later more (ap (λ z. z ∷ a) e ∙ ap (λ zs. v ∷ zs) f)

cut : (a b : List Numeral) (x y : Numeral) (p q : List Numeral) → a ++ x ∷ p ≡ b ++ y ∷ q → Cut a x b y
cut [] [] x y p q e = same refl (cons_head x y p q e)
cut [] (v ∷ b) x y p q e = earlier b (ap (λ z. z ∷ b) (sym (cons_head x v p (b ++ y ∷ q) e)))
cut (u ∷ a) [] x y p q e = later a (ap (λ z. z ∷ a) (cons_head u y (a ++ x ∷ p) q e))
cut (u ∷ a) (v ∷ b) x y p q e = cut_more u v a b x y (cons_head u v _ _ e) (cut a b x y p q (cons_tail u v _ _ e))

record SameStop (n : ℕ) (l : List Numeral) (s t : Stuck n l) : Type 0 where
  pub number : s.number ≡ t.number
  pub known : s.known ≡ t.known

stop_by : (n : ℕ) (l : List Numeral) (s t : Stuck n l) → Cut s.before s.number t.before t.number → SameStop n l s t
stop_by n l s t (same e f) = record { number = f; known = say_once (Nothing n) s.known t.known (numbers_of s.before) s.say (subst (λ z. Say (Nothing n) (numbers_of z) t.known) (sym e) t.say) }
stop_by n l s t (earlier more e) =
    absurd (said_no_more n l s t.known (numbers_of more) (subst (λ z. Say (Nothing n) z t.known) (ap numbers_of e ∙ mapped s.before more s.number) t.say))
stop_by n l s t (later more e) =
    absurd (said_no_more n l t s.known (numbers_of more) (subst (λ z. Say (Nothing n) z s.known) (ap numbers_of e ∙ mapped t.before more t.number) s.say))

stop_once : (n : ℕ) (l : List Numeral) (s t : Stuck n l) → SameStop n l s t
stop_once n l s t = stop_by n l s t (cut s.before t.before s.number t.number s.after t.after (sym s.numbers ∙ t.numbers))

data ImagesKind (n : ℕ) (l : Told) (w : Why) (at : ℕ) : Type 0 where
  short : w ≡ whys.ListShort → IsShortList n l at → ImagesKind n l w at
  long : w ≡ whys.ListLong → IsLongList n l at → ImagesKind n l w at
  wrong : w ≡ whys.Image → IsWrongImage n l at → ImagesKind n l w at

images_kind : (n : ℕ) (l : Told) (w : Why) (at : ℕ) → IsImagesFault n l w at → w ≢ whys.Memory → ImagesKind n l w at
images_kind n l whys.ListShort at f some = short refl f
images_kind n l whys.ListLong at f some = long refl f
images_kind n l whys.Image at f some = wrong refl f
images_kind n l whys.Memory at f some = absurd (some refl)
images_kind n l whys.Stray at f some = absurd f
images_kind n l whys.UnexpectedEnd at f some = absurd f
images_kind n l whys.NumberTooLong at f some = absurd f
images_kind n l whys.Dimension at f some = absurd f
images_kind n l whys.Size at f some = absurd f
images_kind n l (whys.Symbol r) at f some = absurd f
images_kind n l whys.TooManySymbols at f some = absurd f
images_kind n l whys.Long at f some = absurd f

long_or_wrong : (n : ℕ) (l : Told) (a b : ℕ) → IsLongList n l a → IsWrongImage n l b → ⊥
unfolding wrong_stuck long_stuck
long_or_wrong n l a b f g =
    let stop = stop_once n l.numbers (long_stuck n l a f) (wrong_stuck n l b g) in
    let u = subst (λ z. IsFirstUnknown z g.chamber) (sym stop.known) g.unknown in
    f.all g.chamber u.some u.within u.unknown

images_kinds : (n : ℕ) (l : Told) (v w : Why) (a b : ℕ) → ImagesKind n l v a → ImagesKind n l w b → SameFault v w a b
unfolding long_stuck wrong_stuck
images_kinds n l v w a b (short e f) (short g h) = record { why = e ∙ sym g; place = sym f.place ∙ h.place }
images_kinds n l v w a b (short e f) (long g h) = absurd (short_not_stuck n l a f (long_stuck n l b h))
images_kinds n l v w a b (short e f) (wrong g h) = absurd (short_not_stuck n l a f (wrong_stuck n l b h))
images_kinds n l v w a b (long e f) (short g h) = absurd (short_not_stuck n l b h (long_stuck n l a f))
images_kinds n l v w a b (long e f) (long g h) = record { why = e ∙ sym g; place = sym f.place ∙ ap (λ (x : Numeral). x.at) (stop_once n l.numbers (long_stuck n l a f) (long_stuck n l b h)).number ∙ h.place }
images_kinds n l v w a b (long e f) (wrong g h) = absurd (long_or_wrong n l a b f h)
images_kinds n l v w a b (wrong e f) (short g h) = absurd (short_not_stuck n l b h (wrong_stuck n l a f))
images_kinds n l v w a b (wrong e f) (long g h) = absurd (long_or_wrong n l b a h f)
images_kinds n l v w a b (wrong e f) (wrong g h) = record { why = e ∙ sym g; place = sym f.place ∙ ap (λ (x : Numeral). x.at) (stop_once n l.numbers (wrong_stuck n l a f) (wrong_stuck n l b h)).number ∙ h.place }

pub images_once : (n : ℕ) (l : Told) (v w : Why) (a b : ℕ) → IsImagesFault n l v a → IsImagesFault n l w b → v ≢ whys.Memory → w ≢ whys.Memory → SameFault v w a b
images_once n l v w a b f g some other = images_kinds n l v w a b (images_kind n l v a f some) (images_kind n l w b g other)

-- ---- degrees

data DegreesKind (s : Symbol) (p : Pair) (l : Told) (w : Why) (at : ℕ) : Type 0 where
  few : w ≡ whys.ListShort → IsShortOfCells s p l at → DegreesKind s p l w at
  many : w ≡ whys.ListLong → IsBeyondCells s p l at → DegreesKind s p l w at

degrees_kind : (s : Symbol) (p : Pair) (l : Told) (w : Why) (at : ℕ) → IsDegreesFault s p l w at → w ≢ whys.Memory → DegreesKind s p l w at
degrees_kind s p l whys.ListShort at f some = few refl f
degrees_kind s p l whys.ListLong at f some = many refl f
degrees_kind s p l whys.Image at f some = absurd f
degrees_kind s p l whys.Memory at f some = absurd (some refl)
degrees_kind s p l whys.Stray at f some = absurd f
degrees_kind s p l whys.UnexpectedEnd at f some = absurd f
degrees_kind s p l whys.NumberTooLong at f some = absurd f
degrees_kind s p l whys.Dimension at f some = absurd f
degrees_kind s p l whys.Size at f some = absurd f
degrees_kind s p l (whys.Symbol r) at f some = absurd f
degrees_kind s p l whys.TooManySymbols at f some = absurd f
degrees_kind s p l whys.Long at f some = absurd f

few_or_many : (s : Symbol) (p : Pair) (l : Told) (a b : ℕ) → IsShortOfCells s p l a → IsBeyondCells s p l b → ⊥
few_or_many s p l a b f g =
    let cells = ap length (cells_unique s p f.cells g.cells f.are_cells g.are_cells) in
    let short = f.short in
    let enough = g.enough in
    omega (arith, cells, ap length g.numbers, length-append g.before (g.number ∷ g.after))

number_by : (a b : List Numeral) (x y : Numeral) → length a ≡ length b → Cut a x b y → x ≡ y
number_by a b x y len (same e f) = f
number_by a b x y len (earlier more e) = absurd (omega (arith, ap length e, length-append a (x ∷ more)))
number_by a b x y len (later more e) = absurd (omega (arith, ap length e, length-append b (y ∷ more)))

many_once : (s : Symbol) (p : Pair) (l : Told) (a b : ℕ) → IsBeyondCells s p l a → IsBeyondCells s p l b → a ≡ b
many_once s p l a b f g =
    let cells = ap length (cells_unique s p f.cells g.cells f.are_cells g.are_cells) in
    let number = number_by f.before g.before f.number g.number (f.enough ∙ cells ∙ sym g.enough) (cut f.before g.before f.number g.number f.after g.after (sym f.numbers ∙ g.numbers)) in
    sym f.place ∙ ap (λ (x : Numeral). x.at) number ∙ g.place

degrees_kinds : (s : Symbol) (p : Pair) (l : Told) (v w : Why) (a b : ℕ) → DegreesKind s p l v a → DegreesKind s p l w b → SameFault v w a b
degrees_kinds s p l v w a b (few e f) (few g h) = record { why = e ∙ sym g; place = sym f.place ∙ h.place }
degrees_kinds s p l v w a b (few e f) (many g h) = absurd (few_or_many s p l a b f h)
degrees_kinds s p l v w a b (many e f) (few g h) = absurd (few_or_many s p l b a h f)
degrees_kinds s p l v w a b (many e f) (many g h) = record { why = e ∙ sym g; place = many_once s p l a b f h }

pub degrees_once : (s : Symbol) (p : Pair) (l : Told) (v w : Why) (a b : ℕ) → IsDegreesFault s p l v a → IsDegreesFault s p l w b → v ≢ whys.Memory → w ≢ whys.Memory → SameFault v w a b
degrees_once s p l v w a b f g some other = degrees_kinds s p l v w a b (degrees_kind s p l v a f some) (degrees_kind s p l w b g other)
