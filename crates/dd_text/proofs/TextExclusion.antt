-- A text that is that of a symbol in form has no fault of form, size or dimension.
use Rattle.std.proofs.Common.{◌≡◌, ◌≢◌, ◌⊎◌, ℕ, List, [], ◌∷◌, ◌++◌, length, Option, Some, None, refl, sym, ap, ◌∙◌, subst, inl, inr, ⊎_elim, arith, append_assoc}
use Rattle.std.specs.Prelude.{map}
use Rattle.std.specs.List.{AllByRecursion}
use Rattle.dd_model.specs.declared.tokens.Part.TheVariants.{Overlong, End}
use Rattle.dd_model.specs.declared.tokens.Placed.{Placed}
use Rattle.dd_model.specs.declared.tokens.Numeral.{Numeral}
use Rattle.dd_model.specs.Parts.{Cursor, first_part, after_part, Spells}
use Rattle.dd_model.specs.Spelling.{Told, Head, Shape, number_part, sign_part, parts_of, IsPlane}
use Rattle.dd_text.specs.declared.faults.Why.{Why}
use Rattle.dd_text.specs.declared.faults.Why.TheVariants as whys
use Rattle.dd_text.specs.TextFaults.{MayStand, IsWrong, IsFormFault, IsTextFault}
use Rattle.dd_text.specs.Texts.{IsHeadTo}
use Rattle.dd_text.proofs.ShapeParts.{nothing_left, opened, opened-append, peel_opened, peel_list, front, front-append, signs, lists_of}
use Rattle.dd_text.proofs.SizeParts.{no_size_fault, no_dimension_fault}
use Rattle.dd_text.proofs.TextReads.{after_size, after_dimension, NoEarlierFault}

-- a sign, or a number of at most 9 digits
abbrev pub IsPlain : Placed → Type 0
IsPlain p = (p.part ≢ End) × (p.part ≢ Overlong)

plain_number : (x : Numeral) → IsPlain (number_part x)
plain_number x = (λ e. cc, λ e. cc)

plain_sign : (b m : ℕ) → IsPlain (sign_part b m)
plain_sign b m = (λ e. cc, λ e. cc)

plain_list : (xs : List Numeral) (s m : ℕ) (ps : List Placed) → AllByRecursion IsPlain ps → AllByRecursion IsPlain (map number_part xs ++ sign_part s m ∷ ps)
plain_list [] s m ps a = (plain_sign s m, a)
plain_list (x ∷ xs) s m ps a = (plain_number x, plain_list xs s m ps a)

plain_opened : (h : Option Head) (n : Numeral) (d : Option Numeral) (m : ℕ) (ps : List Placed) → AllByRecursion IsPlain ps → AllByRecursion IsPlain (opened h n d m ps)
plain_opened None n None m ps a = (plain_number n, (plain_sign 58 m, a))
plain_opened None n (Some d) m ps a = (plain_number n, (plain_number d, (plain_sign 58 m, a)))
plain_opened (Some h) n None m ps a = (plain_number h.first, (plain_sign 46 h.dot, (plain_number h.second, (plain_sign 58 h.colon, (plain_number n, (plain_sign 58 m, a))))))
plain_opened (Some h) n (Some d) m ps a = (plain_number h.first, (plain_sign 46 h.dot, (plain_number h.second, (plain_sign 58 h.colon, (plain_number n, (plain_number d, (plain_sign 58 m, a)))))))

pub plain_parts : (x : Shape) → AllByRecursion IsPlain (parts_of x)
plain_parts x = plain_opened x.head x.size x.dimension x.colon _
    (plain_list x.s0.numbers 44 x.s0.end _ (plain_list x.s1.numbers 44 x.s1.end _ (plain_list x.s2.numbers 58 x.s2.end _ (plain_list x.m01.numbers 44 x.m01.end _ (plain_list x.m12.numbers 62 x.m12.end [] tt)))))

pub plain_at : (before : List Placed) (p : Placed) (rest : List Placed) → AllByRecursion IsPlain (before ++ p ∷ rest) → IsPlain p
plain_at [] p rest a = a.0
plain_at (q ∷ qs) p rest a = plain_at qs p rest a.1

-- ---- one text, two rows of parts

-- the second row goes on after the first
pub record GoesOn (xs ys : List Placed) (d : Cursor) : Type 0 where
  pub rest : List Placed
  pub parts : ys ≡ xs ++ first_part d ∷ rest

-- the first row goes on after the second, or ends with it
pub record GoesOnOrEnds (xs ys : List Placed) : Type 0 where
  pub rest : List Placed
  pub parts : xs ≡ ys ++ rest

pub compare : (c d e : Cursor) (xs ys : List Placed) → Spells c xs d → Spells c ys e → GoesOn xs ys d ⊎ GoesOnOrEnds xs ys
compare c d e [] [] a b = inr (record { rest = []; parts = refl })
compare c d e [] (y ∷ ys) a b = inl (record { rest = ys; parts = ap (λ z. z ∷ ys) (sym b.0 ∙ ap first_part a) })
compare c d e (x ∷ xs) [] a b = inr (record { rest = x ∷ xs; parts = refl })
compare c d e (x ∷ xs) (y ∷ ys) a b =
    let same : x ≡ y = sym a.0 ∙ b.0 in
    ⊎_elim
    (λ g. inl (record { rest = g.rest; parts = ap (λ z. z ∷ ys) (sym same) ∙ ap (λ zs. x ∷ zs) g.parts }))
    (λ g. inr (record { rest = g.rest; parts = ap (λ z. z ∷ xs) same ∙ ap (λ zs. y ∷ zs) g.parts }))
    (compare (after_part c) d e xs ys a.1 b.1)

peel_front : (ss : List ℕ) (ls ks : List Told) (a b : List Placed) → length ls ≡ length ks → front ss ls a ≡ front ss ks b → a ≡ b
peel_front ss [] [] a b n e = e
peel_front ss [] (k ∷ ks) a b n e = absurd (omega arith)
peel_front ss (l ∷ ls) [] a b n e = absurd (omega arith)
peel_front [] (l ∷ ls) (k ∷ ks) a b n e = e
peel_front (s ∷ ss) (l ∷ ls) (k ∷ ks) a b n e = peel_front ss ls ks a b (omega arith) (peel_list l.numbers k.numbers s l.end k.end _ _ e)

-- the parts of a shape do not begin those of another
no_longer : (x y : Shape) (qs : List Placed) → parts_of y ≡ parts_of x ++ qs → (qs ≡ [] → ⊥) → ⊥
no_longer x y qs e some =
    let whole : parts_of x ++ qs ≡ opened x.head x.size x.dimension x.colon (front signs (lists_of x) qs) =
    opened-append x.head x.size x.dimension x.colon (front signs (lists_of x) []) qs ∙ ap (opened x.head x.size x.dimension x.colon) (front-append signs (lists_of x) [] qs) in
    let lists = peel_opened y.head x.head y.size x.size y.dimension x.dimension y.colon x.colon (front signs (lists_of y) []) (front signs (lists_of x) qs) (e ∙ whole) in
    some (sym (peel_front signs (lists_of y) (lists_of x) [] qs refl lists))

some_left : (ps : List Placed) (q : Placed) (qs : List Placed) → ps ++ q ∷ qs ≡ [] → ⊥
some_left [] q qs e = nothing_left q qs e
some_left (p ∷ ps) q qs e = nothing_left p _ e

pub wrong_excluded : (before : List Placed) (p : Placed) (w : Why) → IsWrong before p w → MayStand before p → IsPlain p → ⊥
wrong_excluded before p whys.Stray f may plain = f.misplaced may
wrong_excluded before p whys.UnexpectedEnd f may plain = plain.0 f
wrong_excluded before p whys.NumberTooLong f may plain = plain.1 f.overlong
wrong_excluded before p whys.Dimension f may plain = f
wrong_excluded before p whys.Size f may plain = f
wrong_excluded before p whys.ListShort f may plain = f
wrong_excluded before p whys.ListLong f may plain = f
wrong_excluded before p whys.Image f may plain = f
wrong_excluded before p (whys.Symbol r) f may plain = f
wrong_excluded before p whys.TooManySymbols f may plain = f
wrong_excluded before p whys.Long f may plain = f
wrong_excluded before p whys.Memory f may plain = f

form_excluded : (c d : Cursor) (x : Shape) (w : Why) (at : ℕ) → IsFormFault c w at → Spells c (parts_of x) d → ⊥
form_excluded c d x w at f spells =
    ⊎_elim
    (λ g.
    let may : MayStand f.before (first_part f.here) = record { shape = x; after = g.rest; parts = g.parts } in
    wrong_excluded f.before (first_part f.here) w f.wrong may (plain_at f.before (first_part f.here) g.rest (subst (AllByRecursion IsPlain) g.parts (plain_parts x))))
    (λ g.
    let m = f.may_go_on in
    no_longer x m.shape (g.rest ++ f.other ∷ m.after)
    (m.parts ∙ ap (λ z. z ++ f.other ∷ m.after) g.parts ∙ append_assoc (parts_of x) g.rest (f.other ∷ m.after))
    (some_left g.rest f.other m.after))
    (compare c f.here d f.before (parts_of x) f.spells spells)

no_earlier : (c d : Cursor) (x : Shape) → Spells c (parts_of x) d → IsPlane x → NoEarlierFault c
no_earlier c d x spells plane =
    let s = after_size c d x.head x.size _ spells in
    let after = after_dimension s.mid d x.dimension x.colon _ s.rest plane.two in
    let head : IsHeadTo c x.size (first_part s.mid) (after_part s.mid) = record { head = x.head; mid = s.mid; spells = s.spells; no_prefix = λ e. after.no_dot; next_is = refl; to = refl } in
    record {
      size = no_size_fault c x.size (first_part s.mid) (after_part s.mid) head plane.some plane.few;
      dimension = no_dimension_fault c x.size (first_part s.mid) (after_part s.mid) head after.two;
    }

-- A text of a symbol in form has no fault of form, size or dimension.
pub text_excluded : (c d : Cursor) (x : Shape) (w : Why) (at : ℕ) → IsTextFault c w at → w ≢ whys.Memory → Spells c (parts_of x) d → IsPlane x → ⊥
text_excluded c d x whys.Stray at f some spells plane = form_excluded c d x whys.Stray at f.form spells
text_excluded c d x whys.UnexpectedEnd at f some spells plane = form_excluded c d x whys.UnexpectedEnd at f.form spells
text_excluded c d x whys.NumberTooLong at f some spells plane = form_excluded c d x whys.NumberTooLong at f.form spells
text_excluded c d x whys.Dimension at f some spells plane = (no_earlier c d x spells plane).dimension at f
text_excluded c d x whys.Size at f some spells plane = (no_earlier c d x spells plane).size at f
text_excluded c d x whys.ListShort at f some spells plane = f
text_excluded c d x whys.ListLong at f some spells plane = f
text_excluded c d x whys.Image at f some spells plane = f
text_excluded c d x (whys.Symbol r) at f some spells plane = f
text_excluded c d x whys.TooManySymbols at f some spells plane = f
text_excluded c d x whys.Long at f some spells plane = f
text_excluded c d x whys.Memory at f some spells plane = some refl
