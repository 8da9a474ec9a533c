-- Ascending lists one after the other, and codes that first differ at a place.
use Rattle.std.proofs.Common.{◌≡◌, ℕ, zero, suc, ◌<◌, ◌≤◌, List, [], ◌∷◌, ◌++◌, length, get_or, refl, sym, ap, ◌∙◌, subst, arith}
use Rattle.std.specs.List.{AllByRecursion, Contains}
use Rattle.std.proofs.lemmas.List.Elements.{Contains-append_right, Contains-append_left, Contains-push}
use Rattle.std.specs.Ordering.{nat_cmp, ordering_then}
use Rattle.std.specs.Cmp.Lexicographic.{slice_cmp}
use Rattle.std.specs.declared.cmp.Ordering.TheVariants.{Less, Equal}
use Rattle.dd_model.specs.Symbol.{Symbol}
use Rattle.dd_model.specs.Lists.{Begins}
use Rattle.dd_model.specs.Code.{code, IsBelow}
use Rattle.dd_model.specs.Wanted.{IsAscending}
use Rattle.dd_model.proofs.Lists.{all_from_members}
use Rattle.dd_model.proofs.Orders.{nat_cmp-less, nat_cmp-same}

pub all-append : {A : Type 0} (P : A → Type 0) (xs ys : List A) → AllByRecursion P xs → AllByRecursion P ys → AllByRecursion P (xs ++ ys)
all-append P [] ys hx hy = hy
all-append P (x ∷ xs) ys hx hy = (hx.0, all-append P xs ys hx.1 hy)

-- two ascending lists of which the first is below the second
pub ascending-append : (xs ys : List Symbol) → IsAscending xs → IsAscending ys → ((s t : Symbol) → Contains xs s → Contains ys t → IsBelow s t) → IsAscending (xs ++ ys)
ascending-append [] ys hx hy below = hy
ascending-append (x ∷ xs) ys hx hy below = (
  all-append (IsBelow x) xs ys hx.0
      (all_from_members (IsBelow x) ys (λ t there. below x t (Contains-append_left (x ∷ []) xs x (Contains-push [] x)) there)),
  ascending-append xs ys hx.1 hy (λ s t hs ht. below s t (Contains-append_right (x ∷ []) xs s hs) ht),
)

-- Two lists agree before a place.
pub record AgreeBefore (n : ℕ) (xs ys : List ℕ) : Type 0 where
  pub same : (u : ℕ) → u < n → get_or xs u 0 ≡ get_or ys u 0

-- lists that first differ at a place
pub less_at : (xs ys : List ℕ) (n : ℕ) → AgreeBefore n xs ys → n < length xs → n < length ys → get_or xs n 0 < get_or ys n 0 → slice_cmp nat_cmp xs ys ≡ Less
less_at [] ys n agree hx hy less = absurd (omega arith)
less_at (x ∷ xs) [] n agree hx hy less = absurd (omega arith)
less_at (x ∷ xs) (y ∷ ys) zero agree hx hy less = ap (λ o. ordering_then o (slice_cmp nat_cmp xs ys)) (nat_cmp-less x y less)
less_at (x ∷ xs) (y ∷ ys) (suc n) agree hx hy less =
    let head : x ≡ y = agree.same 0 (omega arith) in
    let tail : AgreeBefore n xs ys = record { same = λ u h. agree.same (suc u) (omega arith) } in
    ap (λ o. ordering_then o (slice_cmp nat_cmp xs ys)) (subst (λ z. nat_cmp x z ≡ Equal) head (nat_cmp-same x))
    ∙ less_at xs ys n tail (omega arith) (omega arith) less

pub below_at : (s t : Symbol) (n : ℕ) → s.size ≡ t.size → AgreeBefore n (code s) (code t) → n < length (code s) → n < length (code t)
    → get_or (code s) n 0 < get_or (code t) n 0 → IsBelow s t
below_at s t n size agree hs ht less =
    ap (λ o. ordering_then o (slice_cmp nat_cmp (code s) (code t))) (subst (λ z. nat_cmp s.size z ≡ Equal) size (nat_cmp-same s.size))
    ∙ less_at (code s) (code t) n agree hs ht less

-- a list that begins with another has its numbers
pub begins_at : (xs ys : List ℕ) (u : ℕ) → Begins xs ys → u < length xs → get_or ys u 0 ≡ get_or xs u 0
begins_at [] ys u b low = absurd (omega arith)
begins_at (x ∷ xs) [] u b low = absurd b
begins_at (x ∷ xs) (y ∷ ys) zero b low = sym b.0
begins_at (x ∷ xs) (y ∷ ys) (suc u) b low = begins_at xs ys u b.1 (omega arith)

pub begins_length : (xs ys : List ℕ) → Begins xs ys → length xs ≤ length ys
begins_length [] ys b = omega arith
begins_length (x ∷ xs) [] b = absurd b
begins_length (x ∷ xs) (y ∷ ys) b = let l = begins_length xs ys b.1 in omega arith

-- a list that is long enough and has the numbers begins with the other
pub begins_from : (xs ys : List ℕ) → length xs ≤ length ys → ((u : ℕ) → u < length xs → get_or ys u 0 ≡ get_or xs u 0) → Begins xs ys
begins_from [] ys long same = tt
begins_from (x ∷ xs) [] long same = absurd (omega arith)
begins_from (x ∷ xs) (y ∷ ys) long same = (sym (same 0 (omega arith)), begins_from xs ys (omega arith) (λ u h. same (suc u) (omega arith)))

pub begins_itself : (xs : List ℕ) → Begins xs xs
begins_itself xs = begins_from xs xs (omega arith) (λ u h. refl)

pub begins_through : (xs ys zs : List ℕ) → Begins xs ys → Begins ys zs → Begins xs zs
begins_through [] ys zs a b = tt
begins_through (x ∷ xs) [] zs a b = absurd a
begins_through (x ∷ xs) (y ∷ ys) [] a b = absurd b
begins_through (x ∷ xs) (y ∷ ys) (z ∷ zs) a b = (a.0 ∙ b.0, begins_through xs ys zs a.1 b.1)

pub begins_append : (xs ys : List ℕ) → Begins xs (xs ++ ys)
begins_append [] ys = tt
begins_append (x ∷ xs) ys = (refl, begins_append xs ys)

-- of two lists of one length the one that begins with the other is the other
pub same_when_whole : (xs ys : List ℕ) → Begins xs ys → length xs ≡ length ys → ys ≡ xs
same_when_whole [] [] b e = refl
same_when_whole [] (y ∷ ys) b e = absurd (omega arith)
same_when_whole (x ∷ xs) [] b e = absurd b
same_when_whole (x ∷ xs) (y ∷ ys) b e = ap (λ z. z ∷ ys) (sym b.0) ∙ ap (λ zs. x ∷ zs) (same_when_whole xs ys b.1 (omega arith))

-- two that begin with one list agree so far
pub agree_from : (xs ys zs : List ℕ) → Begins xs ys → Begins xs zs → AgreeBefore (length xs) ys zs
agree_from xs ys zs a b = record { same = λ u h. begins_at xs ys u a h ∙ sym (begins_at xs zs u b h) }

pub begins_more : (xs ys : List ℕ) (k : ℕ) → length xs < length ys → Begins xs ys → get_or ys (length xs) 0 ≡ k → Begins (xs ++ k ∷ []) ys
begins_more [] [] k low b next = absurd (omega arith)
begins_more [] (y ∷ ys) k low b next = (sym next, tt)
begins_more (x ∷ xs) [] k low b next = absurd b
begins_more (x ∷ xs) (y ∷ ys) k low b next = (b.0, begins_more xs ys k (omega arith) b.1 next)

pub begins_less : (xs ys : List ℕ) (k : ℕ) → Begins (xs ++ k ∷ []) ys → Begins xs ys × (get_or ys (length xs) 0 ≡ k)
begins_less [] [] k b = absurd b
begins_less [] (y ∷ ys) k b = (tt, sym b.0)
begins_less (x ∷ xs) [] k b = absurd b
begins_less (x ∷ xs) (y ∷ ys) k b = let r = begins_less xs ys k b.1 in ((b.0, r.0), r.1)
