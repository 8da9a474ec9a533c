-- What is under a prefix is what is under its extensions, in their order.
use Rattle.std.proofs.Common.{◌≡◌, ◌↔◌, ℕ, ◌+◌, ◌*◌, ◌<◌, ◌≤◌, Bool, false, IsTrue, List, [], ◌∷◌, ◌++◌, length, refl, sym, ap, ◌∙◌, ⊎_elim, arith}
use Rattle.std.proofs.lemmas.Bool.{cases_eq}
use Rattle.std.proofs.lemmas.List.{append_assoc}
use Rattle.std.proofs.lemmas.List.Elements.{Contains-append_right, Contains-append_left, Contains-append_cases}
use Rattle.dd_model.specs.Symbol.{Symbol}
use Rattle.dd_model.specs.Code.{code, IsBelow}
use Rattle.dd_front_jobs.specs.Under.{IsUnder, HasNothingUnder, AreUnder, AreUnderBefore, next_number, Appends, HasNoNumberFrom, SkipsTo}
use Rattle.dd_model.proofs.Ascending.{ascending-append, below_at, agree_from, begins_more, begins_less}
use Rattle.dd_model.proofs.Codes.{length-code}

-- a prefix that is no whole code leaves room for a number
pub room : (W : Symbol → Type 0) (n : ℕ) (prefix : List ℕ) (s : Symbol) → length prefix < 5 * n → IsUnder W n prefix s → length prefix < length (code s)
room W n prefix s low under =
    let l = length-code s under.orderly.table in
    let e = under.size in
    omega (arith, l, e)

-- nothing has a next number below 0
pub none_yet : (W : Symbol → Type 0) (n : ℕ) (prefix : List ℕ) → AreUnderBefore W n prefix 0 []
none_yet W n prefix = record {
  ascending = tt;
  members = λ s. ((λ there. absurd (omega (arith, there.1))), (λ under. absurd (omega (arith, under.1))));
}

-- each next number has been met
pub all_numbers : (W : Symbol → Type 0) (n : ℕ) (prefix : List ℕ) (k : ℕ) (ss : List Symbol) → HasNoNumberFrom W n prefix k → AreUnderBefore W n prefix k ss → AreUnder W n prefix ss
all_numbers W n prefix k ss none part = record {
  ascending = part.ascending;
  members = λ s. ((λ there. ((part.members s).0 there).0), (λ under. (part.members s).1 (under, none s under)));
}

pub extended : (W : Symbol → Type 0) (n : ℕ) (prefix : List ℕ) (k : ℕ) (s : Symbol) → length prefix < 5 * n → IsUnder W n prefix s → next_number prefix s ≡ k → IsUnder W n (prefix ++ k ∷ []) s
extended W n prefix k s low under next = record {
  wanted = under.wanted;
  orderly = under.orderly;
  size = under.size;
  begins = begins_more prefix (code s) k (room W n prefix s low under) under.begins next;
}

pub shortened : (W : Symbol → Type 0) (n : ℕ) (prefix : List ℕ) (k : ℕ) (s : Symbol) → IsUnder W n (prefix ++ k ∷ []) s → IsUnder W n prefix s × (next_number prefix s ≡ k)
shortened W n prefix k s under =
    let parts = begins_less prefix (code s) k under.begins in
    (record { wanted = under.wanted; orderly = under.orderly; size = under.size; begins = parts.0 }, parts.1)

-- of two under the prefix the one with the smaller next number is below
pub below_next : (W : Symbol → Type 0) (n : ℕ) (prefix : List ℕ) (s t : Symbol) → length prefix < 5 * n → IsUnder W n prefix s → IsUnder W n prefix t → next_number prefix s < next_number prefix t → IsBelow s t
below_next W n prefix s t low us ut less =
    below_at s t (length prefix) (us.size ∙ sym ut.size) (agree_from prefix (code s) (code t) us.begins ut.begins) (room W n prefix s low us) (room W n prefix t low ut) less

-- what is under the next extension comes after what is under the earlier ones
pub next_part : (W : Symbol → Type 0) (n : ℕ) (prefix : List ℕ) (k m : ℕ) (ss ts : List Symbol) → length prefix < 5 * n → SkipsTo W n prefix k m
    → AreUnderBefore W n prefix k ss → AreUnder W n (prefix ++ m ∷ []) ts → AreUnderBefore W n prefix (m + 1) (ss ++ ts)
next_part W n prefix k m ss ts low skips part more =
    let later = skips.later in
    record {
      ascending = ascending-append ss ts part.ascending more.ascending (λ s t hs ht.
          let us = (part.members s).0 hs in
          let ut = shortened W n prefix m t ((more.members t).0 ht) in
          below_next W n prefix s t low us.0 ut.0 (let a = us.1 in let b = ut.1 in omega (arith, a, b, later)));
      members = λ s. (
        (λ there. ⊎_elim
            (λ early. let u = (part.members s).0 early in (u.0, let a = u.1 in omega (arith, a, later)))
            (λ late. let u = shortened W n prefix m s ((more.members s).0 late) in (u.0, let b = u.1 in omega (arith, b)))
            (Contains-append_cases ss ts s there)),
        (λ under. ⊎_elim
            (λ early. Contains-append_left ss ts s ((part.members s).1 (under.0, early)))
            (λ late. Contains-append_right ss ts s ((more.members s).1 (extended W n prefix m s low under.0 (let a = under.1 in let b = late in omega (arith, a, b)))))
            (skips.none_between s under.0)),
      );
    }

-- the empty list is what is under a dead prefix
pub none_under : (W : Symbol → Type 0) (n : ℕ) (prefix : List ℕ) → HasNothingUnder W n prefix → AreUnder W n prefix []
none_under W n prefix dead = record {
  ascending = tt;
  members = λ s. ((λ there. absurd (omega (arith, there.1))), (λ under. absurd (dead s under)));
}

append_none : (xs : List Symbol) → xs ≡ xs ++ []
append_none [] = refl
append_none (x ∷ xs) = ap (λ ys. x ∷ ys) (append_none xs)

pub appends_none : (P : List Symbol → Type 0) (old : List Symbol) → P [] → Appends P old old
appends_none P old h = record { list = []; grown = append_none old; holds = h }

pub appends_dead : (W : Symbol → Type 0) (n : ℕ) (prefix : List ℕ) (old : List Symbol) → HasNothingUnder W n prefix → Appends (AreUnder W n prefix) old old
appends_dead W n prefix old dead = appends_none (AreUnder W n prefix) old (none_under W n prefix dead)

pub appends_first : (W : Symbol → Type 0) (n : ℕ) (prefix : List ℕ) (old : List Symbol) → Appends (AreUnderBefore W n prefix 0) old old
appends_first W n prefix old = appends_none (AreUnderBefore W n prefix 0) old (none_yet W n prefix)

pub appends_next : (W : Symbol → Type 0) (n : ℕ) (prefix : List ℕ) (k m : ℕ) (old mid new : List Symbol) → length prefix < 5 * n → SkipsTo W n prefix k m
    → Appends (AreUnderBefore W n prefix k) old mid → Appends (AreUnder W n (prefix ++ m ∷ [])) mid new → Appends (AreUnderBefore W n prefix (m + 1)) old new
appends_next W n prefix k m old mid new low skips a b = record {
  list = a.list ++ b.list;
  grown = b.grown ∙ ap (λ xs. xs ++ b.list) a.grown ∙ append_assoc old a.list b.list;
  holds = next_part W n prefix k m a.list b.list low skips a.holds b.holds;
}

pub appends_all : (W : Symbol → Type 0) (n : ℕ) (prefix : List ℕ) (k : ℕ) (old new : List Symbol) → HasNoNumberFrom W n prefix k → Appends (AreUnderBefore W n prefix k) old new → Appends (AreUnder W n prefix) old new
appends_all W n prefix k old new none a = record { list = a.list; grown = a.grown; holds = all_numbers W n prefix k a.list none a.holds }

-- what is not whole is shorter
pub not_whole : (b : Bool) (n m : ℕ) → b ≡ false → (IsTrue b ↔ (n ≡ m)) → n ≤ m → n < m
not_whole b n m fails whole low = ⊎_elim (λ e. absurd (clash b fails (whole.1 e))) (λ other. omega arith) (cases_eq n m)
  where
    clash : (b : Bool) → b ≡ false → IsTrue b → ⊥
    clash b fails holds = cc
