-- The orders of numbers, of lists of numbers and of symbols: nothing is below itself.
use Rattle.std.proofs.Common.{◌≡◌, ℕ, true, false, ◌<◌, List, [], ◌∷◌, ◌++◌, length, refl, sym, ap, ◌∙◌, subst, ⊎_elim, arith}
use Rattle.std.proofs.lemmas.Bool.{cases_lt, cases_eq}
use Rattle.std.proofs.lemmas.Cmp.{tied_itself}
use Rattle.std.specs.Cmp.{IsTotalOrder, nat_cmp_is, nat_cmp_total, on_total, then_total}
use Rattle.std.specs.Cmp.Lexicographic.{slice_cmp, nat_list_cmp_total}
use Rattle.std.specs.Ordering.{nat_cmp, ordering_then, is_ne}
use Rattle.std.specs.declared.cmp.Ordering.{Ordering}
use Rattle.std.specs.declared.cmp.Ordering.TheVariants.{Less, Equal, Greater}
use Rattle.dd_model.specs.Symbol.{Symbol}
use Rattle.dd_model.specs.Code.{IsBelow}
use Rattle.dd_model.specs.Jobs.{IsJobBelow, job_cmp}
use Rattle.dd_model.specs.declared.jobs.Job.{Job}
use Rattle.dd_model.proofs.Codes.{code_cmp_total}

pub nat_cmp-less : (x y : ℕ) → x < y → nat_cmp x y ≡ Less
nat_cmp-less x y h = sym (nat_cmp_is x y Less h)

pub nat_cmp-same : (x : ℕ) → nat_cmp x x ≡ Equal
nat_cmp-same x = tied_itself nat_cmp_total x

pub less_number : (x y : ℕ) → nat_cmp x y ≡ Less → x < y
less_number x y less =
    ⊎_elim
    (λ smaller. smaller)
    (λ not_smaller. ⊎_elim
    (λ same. absurd (let e : nat_cmp x y ≡ Equal = subst (λ z. nat_cmp x z ≡ Equal) same (nat_cmp-same x) in cc))
    (λ different. absurd (let e : Greater ≡ nat_cmp x y = nat_cmp_is x y Greater (omega arith) in cc))
    (cases_eq x y))
    (cases_lt x y)

not_less_than_itself : {A : Type 0} (cmp : A → A → Ordering) → IsTotalOrder cmp → (x : A) → cmp x x ≡ Less → ⊥
not_less_than_itself cmp total x less = let e = tied_itself total x in cc

pub job_cmp_total : IsTotalOrder job_cmp
job_cmp_total = then_total (on_total (λ (j : Job). j.size) nat_cmp_total) (on_total (λ (j : Job). j.prefix) nat_list_cmp_total)

not_less_both : {A : Type 0} (cmp : A → A → Ordering) → IsTotalOrder cmp → (x y : A) → cmp x y ≡ Less → cmp y x ≡ Less → ⊥
not_less_both cmp total x y a b = not_less_than_itself cmp total x (total.trans x y x a b)

-- lists of numbers
pub list_not_below_itself : (xs : List ℕ) → slice_cmp nat_cmp xs xs ≡ Less → ⊥
list_not_below_itself = not_less_than_itself (slice_cmp nat_cmp) nat_list_cmp_total

pub list_not_below_both : (xs ys : List ℕ) → slice_cmp nat_cmp xs ys ≡ Less → slice_cmp nat_cmp ys xs ≡ Less → ⊥
list_not_below_both = not_less_both (slice_cmp nat_cmp) nat_list_cmp_total

-- an order that decides is that of both, and one that does not is equal
pub then_first : (a b : Ordering) → is_ne a ≡ true → a ≡ ordering_then a b
then_first Less b e = refl
then_first Equal b e = cc
then_first Greater b e = refl

pub equal_of : (o : Ordering) → is_ne o ≡ false → o ≡ Equal
equal_of Less e = cc
equal_of Equal e = refl
equal_of Greater e = cc

-- an order of three parts, however they are grouped
pub then_assoc : (a b c : Ordering) → ordering_then (ordering_then a b) c ≡ ordering_then a (ordering_then b c)
then_assoc Less b c = refl
then_assoc Equal b c = refl
then_assoc Greater b c = refl

-- lists with parts of one length in front are compared part by part
pub compared_in_parts : (xs ys us vs : List ℕ) → length xs ≡ length ys
    → slice_cmp nat_cmp (xs ++ us) (ys ++ vs) ≡ ordering_then (slice_cmp nat_cmp xs ys) (slice_cmp nat_cmp us vs)
compared_in_parts [] [] us vs e = refl
compared_in_parts [] (y ∷ ys) us vs e = absurd (omega arith)
compared_in_parts (x ∷ xs) [] us vs e = absurd (omega arith)
compared_in_parts (x ∷ xs) (y ∷ ys) us vs e =
    ap (ordering_then (nat_cmp x y)) (compared_in_parts xs ys us vs (omega arith))
    ∙ sym (then_assoc (nat_cmp x y) (slice_cmp nat_cmp xs ys) (slice_cmp nat_cmp us vs))

-- symbols
pub not_below_itself : (s : Symbol) → IsBelow s s → ⊥
not_below_itself s less = let e = tied_itself code_cmp_total s in cc

pub not_below_both : (s t : Symbol) → IsBelow s t → IsBelow t s → ⊥
not_below_both s t a b = not_below_itself s (code_cmp_total.trans s t s a b)

-- jobs
pub job_not_below_itself : (j k : Job) → IsJobBelow j k → j.size ≡ k.size → j.prefix ≡ k.prefix → ⊥
job_not_below_itself j k less size prefix =
    not_less_than_itself job_cmp job_cmp_total k (subst (λ j. IsJobBelow j k) (λ i. record { size = size i; prefix = prefix i }) less)

pub jobs_not_both : (j k : Job) → IsJobBelow j k → IsJobBelow k j → ⊥
jobs_not_both j k a b = job_not_below_itself j j (job_cmp_total.trans j k j a b) refl refl
