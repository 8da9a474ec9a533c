-- A setting that stands at most once has at most one value.
use Rattle.std.proofs.Common.{codes, ◌≡◌, ◌≤◌, ◌==◌, ℕ, zero, suc, inl, inr, Bool, true, false, Option, Some, None, List, [], ◌∷◌, length, get_or, refl, sym, ap, ◌∙◌, subst, arith}
use Rattle.dd_model.specs.declared.allowed.Allowed.{Allowed}
use Rattle.dd_model.proofs.AllowedSets.{same_sets, same_from_sets}
use Rattle.dd_words.specs.declared.settings.Setting.{Setting}
use Rattle.dd_words.specs.declared.settings.Setting.TheVariants.{Cell}
use Rattle.dd_model.specs.declared.frame.Frame.{Frame}
use Rattle.dd_model.specs.declared.frame.Frame.TheVariants.{Square, Hex, Own}
use Rattle.dd_words.specs.Values.{Text, IsNumberIn, IsSetWord, IsName}
use Rattle.dd_words.specs.Given.{Given, AreSingle, Has, Lacks}
use Rattle.dd_words.specs.GivenValues.{IsNumberOr, IsNumberIfGiven, IsNameIfGiven, IsFlagIfGiven, IsSet, IsShapeWord, IsFramed}
use Rattle.dd_words.proofs.Items.{same_number}

pub not_both : (ss : List Given) (s : Setting) (w : Text) → Has ss s w → Lacks ss s → ⊥
not_both [] s w (k, below, e) lacks = absurd (omega (arith, below))
not_both (g ∷ ss) s w (zero, below, e) lacks = lacks.0 (ap (λ h. h.setting) e)
not_both (g ∷ ss) s w (suc k, below, e) lacks = not_both ss s w (k, omega (arith, below), e) lacks.1

pub same_value : (ss : List Given) (s : Setting) (v w : Text) → AreSingle ss → Has ss s v → Has ss s w → v ≡ w
same_value [] s v w single (k, below, e) b = absurd (omega (arith, below))
same_value (g ∷ ss) s v w single (zero, below, e) (zero, lower, f) = ap (λ h. h.value) (sym e ∙ f)
same_value (g ∷ ss) s v w single (zero, below, e) (suc k, lower, f) =
    let here : g.setting ≡ s = ap (λ h. h.setting) e in
    absurd (not_both ss s w (k, omega (arith, lower), f) (subst (Lacks ss) here single.0))
same_value (g ∷ ss) s v w single (suc k, below, e) (zero, lower, f) =
    let here : g.setting ≡ s = ap (λ h. h.setting) f in
    absurd (not_both ss s v (k, omega (arith, below), e) (subst (Lacks ss) here single.0))
same_value (g ∷ ss) s v w single (suc k, below, e) (suc j, lower, f) = same_value ss s v w single.1 (k, omega (arith, below), e) (j, omega (arith, lower), f)

-- where a value is given, only it counts
pub only_number : (ss : List Given) (s : Setting) (low high default n : ℕ) (w : Text) → AreSingle ss → Has ss s w → IsNumberOr ss s low high default n → IsNumberIn low high w n
only_number ss s low high default n w single has (inl h) = absurd (not_both ss s w has h.0)
only_number ss s low high default n w single has (inr h) = subst (λ x. IsNumberIn low high x n) (same_value ss s h.word w single h.has has) h.number

pub only_given : (ss : List Given) (s : Setting) (low high : ℕ) (n : Option ℕ) (w : Text) → AreSingle ss → Has ss s w → ((m : ℕ) → IsNumberIn low high w m → ⊥)
    → IsNumberIfGiven ss s low high n → ⊥
only_given ss s low high None w single has none h = not_both ss s w has h
only_given ss s low high (Some n) w single has none h = none n (subst (λ x. IsNumberIn low high x n) (same_value ss s h.word w single h.has has) h.number)

pub no_flag : (ss : List Given) (s : Setting) (w : Text) (flag : Bool) → AreSingle ss → Has ss s w → (w ≡ [] → ⊥) → IsFlagIfGiven ss s flag → ⊥
no_flag ss s w true single has some h = some (same_value ss s w [] single has h)
no_flag ss s w false single has some h = not_both ss s w has h

pub no_name : (ss : List Given) (s : Setting) (w : Text) (name : Option Text) → AreSingle ss → Has ss s w → (IsName w → ⊥) → IsNameIfGiven ss s name → ⊥
no_name ss s w None single has none h = not_both ss s w has h
no_name ss s w (Some x) single has none h = none (subst IsName (same_value ss s x w single h.0 has) h.1)

pub no_set : (ss : List Given) (set least : Setting) (w : Text) (a : Allowed) → AreSingle ss → Has ss set w → (Lacks ss least → IsSetWord w a → ⊥) → IsSet ss set least a → ⊥
no_set ss set least w a single has none (inl h) = none h.alone (subst (λ x. IsSetWord x a) (same_value ss set h.word w single h.has has) h.is_set)
no_set ss set least w a single has none (inr h) = not_both ss set w has h.alone

pub no_least : (ss : List Given) (set least : Setting) (a : Allowed) → Lacks ss set → ((n : ℕ) → IsNumberOr ss least 1 36 3 n → ⊥) → IsSet ss set least a → ⊥
no_least ss set least a lacks none (inl h) = not_both ss set h.word h.has lacks
no_least ss set least a lacks none (inr h) = none h.first h.is_first

pub least_range : (ss : List Given) (least : Setting) (n : ℕ) → IsNumberOr ss least 1 36 3 n → (1 ≤ n) × (n ≤ 36)
least_range ss least n (inl h) = let e = h.1 in (omega arith, omega arith)
least_range ss least n (inr h) = (h.number.from, h.number.to)

pub no_frame : (ss : List Given) (w : Text) (frame : Option Frame) → AreSingle ss → Has ss Cell w → ((f : Option Frame) → IsShapeWord w f → ⊥) → IsFramed ss frame → ⊥
no_frame ss w frame single has none (inl h) = not_both ss Cell w has h.0
no_frame ss w frame single has none (inr h) = none frame (subst (λ v. IsShapeWord v frame) (same_value ss Cell h.word w single h.has has) h.is)

-- the words ask for at most one value
pub one_number_in : (low high : ℕ) (w : Text) (m n : ℕ) → IsNumberIn low high w m → IsNumberIn low high w n → m ≡ n
one_number_in low high w m n a b = same_number w m n a.number b.number

pub one_number : (ss : List Given) (s : Setting) (low high default m n : ℕ) → AreSingle ss → IsNumberOr ss s low high default m → IsNumberOr ss s low high default n → m ≡ n
one_number ss s low high default m n single (inl a) (inl b) = a.1 ∙ sym b.1
one_number ss s low high default m n single (inl a) (inr b) = absurd (not_both ss s b.word b.has a.0)
one_number ss s low high default m n single (inr a) b = one_number_in low high a.word m n a.number (only_number ss s low high default n a.word single a.has b)

pub one_given : (ss : List Given) (s : Setting) (low high : ℕ) (m n : Option ℕ) → AreSingle ss → IsNumberIfGiven ss s low high m → IsNumberIfGiven ss s low high n → m ≡ n
one_given ss s low high None None single a b = refl
one_given ss s low high None (Some n) single a b = absurd (not_both ss s b.word b.has a)
one_given ss s low high (Some m) None single a b = absurd (not_both ss s a.word a.has b)
one_given ss s low high (Some m) (Some n) single a b =
    ap Some (one_number_in low high a.word m n a.number (subst (λ x. IsNumberIn low high x n) (same_value ss s b.word a.word single b.has a.has) b.number))

pub one_name : (ss : List Given) (s : Setting) (m n : Option Text) → AreSingle ss → IsNameIfGiven ss s m → IsNameIfGiven ss s n → m ≡ n
one_name ss s None None single a b = refl
one_name ss s None (Some n) single a b = absurd (not_both ss s n b.0 a)
one_name ss s (Some m) None single a b = absurd (not_both ss s m a.0 b)
one_name ss s (Some m) (Some n) single a b = ap Some (same_value ss s m n single a.0 b.0)

pub one_flag : (ss : List Given) (s : Setting) (m n : Bool) → IsFlagIfGiven ss s m → IsFlagIfGiven ss s n → m ≡ n
one_flag ss s true true a b = refl
one_flag ss s true false a b = absurd (not_both ss s [] a b)
one_flag ss s false true a b = absurd (not_both ss s [] b a)
one_flag ss s false false a b = refl

pub one_set_word : (w : Text) (a b : Allowed) → IsSetWord w a → IsSetWord w b → a ≡ b
one_set_word w a b x y = same_sets a b (λ m. (λ h. (y.members m).1 ((x.members m).0 h), λ h. (x.members m).1 ((y.members m).0 h)))

pub one_set : (ss : List Given) (set least : Setting) (a b : Allowed) → AreSingle ss → IsSet ss set least a → IsSet ss set least b → a ≡ b
one_set ss set least a b single (inl x) (inl y) =
    one_set_word x.word a b x.is_set (subst (λ w. IsSetWord w b) (same_value ss set y.word x.word single y.has x.has) y.is_set)
one_set ss set least a b single (inl x) (inr y) = absurd (not_both ss set x.word x.has y.alone)
one_set ss set least a b single (inr x) (inl y) = absurd (not_both ss set y.word y.has x.alone)
one_set ss set least a b single (inr x) (inr y) = same_from_sets x.first y.first a b (one_number ss least 1 36 3 x.first y.first single x.is_first y.is_first) x.is_set y.is_set

one_shape : (w : Text) (f g : Option Frame) → IsShapeWord w f → IsShapeWord w g → f ≡ g
one_shape w (Some Square) (Some Square) a b = refl
one_shape w (Some Square) (Some Hex) a b = absurd (let e : codes "square" ≡ codes "hex" = sym a ∙ b in cc)
one_shape w (Some Square) None a b = absurd (let e : codes "square" ≡ codes "own" = sym a ∙ b in cc)
one_shape w (Some Hex) (Some Square) a b = absurd (let e : codes "hex" ≡ codes "square" = sym a ∙ b in cc)
one_shape w (Some Hex) (Some Hex) a b = refl
one_shape w (Some Hex) None a b = absurd (let e : codes "hex" ≡ codes "own" = sym a ∙ b in let d = ap (λ t. get_or t 0 0) e in omega (arith, d))
one_shape w None (Some Square) a b = absurd (let e : codes "own" ≡ codes "square" = sym a ∙ b in cc)
one_shape w None (Some Hex) a b = absurd (let e : codes "own" ≡ codes "hex" = sym a ∙ b in let d = ap (λ t. get_or t 0 0) e in omega (arith, d))
one_shape w None None a b = refl
one_shape w (Some (Own p q)) g a b = absurd a
one_shape w f (Some (Own p q)) a b = absurd b

pub one_frame : (ss : List Given) (f g : Option Frame) → AreSingle ss → IsFramed ss f → IsFramed ss g → f ≡ g
one_frame ss f g single (inl a) (inl b) = a.1 ∙ sym b.1
one_frame ss f g single (inl a) (inr b) = absurd (not_both ss Cell b.word b.has a.0)
one_frame ss f g single (inr a) (inl b) = absurd (not_both ss Cell a.word a.has b.0)
one_frame ss f g single (inr a) (inr b) = one_shape a.word f g a.is (subst (λ w. IsShapeWord w g) (same_value ss Cell b.word a.word single b.has a.has) b.is)

pub no_other_frame : (w : Text) → (w ≡ codes "square" → ⊥) → (w ≡ codes "hex" → ⊥) → (w ≡ codes "own" → ⊥) → (f : Option Frame) → IsShapeWord w f → ⊥
no_other_frame w square hex own (Some Square) is = square is
no_other_frame w square hex own (Some Hex) is = hex is
no_other_frame w square hex own (Some (Own p q)) is = is
no_other_frame w square hex own None is = own is

pub some_text : (w : Text) (empty : Bool) → empty ≡ (length w == 0) → empty ≡ false → w ≡ [] → ⊥
some_text w empty is test e = let none = ap (λ x. length x == 0) e in absurd (cc)
