-- What an image that is put in says of the completions, and what commuting forces.
use Rattle.std.proofs.Common.{◌≡◌, ◌≢◌, ℕ, ◌+◌, ◌-◌, ◌*◌, ◌/◌, ◌%◌, ◌<◌, ◌≤◌, Bool, true, false, get_or, sym, ap, ◌∙◌, subst, arith, refl}
use Rattle.std.specs.Bool.{OnTrue, OnFalse}
use Rattle.dd_model.specs.declared.index.Index.{Index}
use Rattle.dd_model.specs.declared.index.Index.TheVariants.{Zero, Two}
use Rattle.dd_model.specs.Symbol.{Symbol, IsTable, IsChamber, op, operation}
use Rattle.dd_model.specs.Partial.{Completes}
use Rattle.dd_front_jobs.specs.Places.{place}
use Rattle.dd_branch_tables.specs.Rows.{Rows, partial_of, Learns, Excludes, Commutes}
use Rattle.dd_front_jobs.proofs.Places.{index_of_place, chamber_of_place}
use Rattle.dd_model.specs.Indices.{index_at}

-- what a symbol has at the place of an image
pub at_place : (s : Symbol) (i : Index) (d e t : ℕ) → t ≡ place i d → op s i d ≡ e → op s (index_at (t % 3)) (1 + t / 3) ≡ e
at_place s i d e t at is =
    let j : index_at (t % 3) ≡ i = ap (λ u. index_at (u % 3)) at ∙ index_of_place i d in
    let q : t / 3 ≡ d - 1 = ap (λ u. u / 3) at ∙ chamber_of_place i d in
    let c : 1 + t / 3 - 1 ≡ d - 1 = omega arith in
    ap (λ k. op s k (1 + t / 3)) j ∙ ap (λ k. get_or (operation s i) k 0) c ∙ is

pub back_again : (s : Symbol) (i : Index) (d e : ℕ) → IsTable s → IsChamber s d → op s i d ≡ e → op s i e ≡ d
back_again s i d e is h image = ap (op s i) (sym image) ∙ (is.involutions i).involutive d h

-- a property of completions from which another follows
pub learns_from : (P Q : Symbol → Type 0) (a b : Rows) → ((s : Symbol) → Completes (partial_of a) s → Q s → P s) → Learns P a b → Learns Q a b
learns_from P Q a b from one = record { completes = λ s full has. one.completes s full (from s full has); keeps = one.keeps; size = one.size; deeper = one.deeper; undone = one.undone }

pub excludes_from : (P Q : Symbol → Type 0) (r : Rows) → ((s : Symbol) → Completes (partial_of r) s → Q s → P s) → Excludes P r → Excludes Q r
excludes_from P Q r from none s full has = none s full (from s full has)

pub on_true_from : (b : Bool) (P Q : Type 0) → (P → Q) → OnTrue b P → OnTrue b Q
on_true_from true P Q f h = f h
on_true_from false P Q f h = h

pub on_false_from : (b : Bool) (P Q : Type 0) → (P → Q) → OnFalse b P → OnFalse b Q
on_false_from true P Q f h = h
on_false_from false P Q f h = f h

-- s0 and s2 commute
pub commuted : (s : Symbol) → IsTable s → Commutes s → (d : ℕ) → IsChamber s d → op s Zero (op s Two d) ≡ op s Two (op s Zero d)
commuted s is commutes d h =
    let zero_ = is.involutions Zero in
    let two = is.involutions Two in
    let a = op s Zero d in
    let ha = zero_.within d h in
    let b = op s Two a in
    let hb = two.within a ha in
    let c = op s Zero b in
    let hc = zero_.within b hb in
    let turns : op s Two c ≡ d = (commutes d h).turns in
    let here : c ≡ op s Two d = sym (two.involutive c hc) ∙ ap (op s Two) turns in
    ap (op s Zero) (sym here) ∙ zero_.involutive b hb

-- the images of a chamber that a partial table knows
pub record KnowsBoth (partial : Symbol) (d a b : ℕ) : Type 0 where
  pub zero_ : a ≡ op partial Zero d
  pub two : b ≡ op partial Two d
  pub zero_known : a ≢ 0
  pub two_known : b ≢ 0

-- the image that follows: s0 of s2(d) is s2 of s0(d)
pub forced_zero : (partial s : Symbol) (d a b c : ℕ) → Completes partial s → Commutes s → IsChamber s d → KnowsBoth partial d a b → c ≡ op partial Two a → c ≢ 0 → op s Zero b ≡ c
forced_zero partial s d a b c full commutes h k is some =
    let e0 : op s Zero d ≡ a = full.images Zero d (λ z. k.zero_known (k.zero_ ∙ z)) ∙ sym k.zero_ in
    let e2 : op s Two d ≡ b = full.images Two d (λ z. k.two_known (k.two ∙ z)) ∙ sym k.two in
    let e20 : op s Two a ≡ c = full.images Two a (λ z. some (is ∙ z)) ∙ sym is in
    ap (op s Zero) (sym e2) ∙ commuted s full.table commutes d h ∙ ap (op s Two) e0 ∙ e20

-- and the other way round
pub forced_two : (partial s : Symbol) (d a b c : ℕ) → Completes partial s → Commutes s → IsChamber s d → KnowsBoth partial d a b → c ≡ op partial Zero b → c ≢ 0 → op s Two a ≡ c
forced_two partial s d a b c full commutes h k is some =
    let e0 : op s Zero d ≡ a = full.images Zero d (λ z. k.zero_known (k.zero_ ∙ z)) ∙ sym k.zero_ in
    let e2 : op s Two d ≡ b = full.images Two d (λ z. k.two_known (k.two ∙ z)) ∙ sym k.two in
    let e02 : op s Zero b ≡ c = full.images Zero b (λ z. some (is ∙ z)) ∙ sym is in
    ap (op s Two) (sym e0) ∙ sym (commuted s full.table commutes d h) ∙ ap (op s Zero) e2 ∙ e02

-- a chamber of the partial table is one of each completion
pub chamber_too : (partial s : Symbol) (d : ℕ) → Completes partial s → (1 ≤ d) × (d ≤ partial.size) → IsChamber s d
chamber_too partial s d full h = let size = full.size in let low = h.0 in let high = h.1 in (low, omega arith)

-- an image is one of the chambers
pub image_inside : (partial s : Symbol) (t e : ℕ) → Completes partial s → t < 3 * partial.size → op s (index_at (t % 3)) (1 + t / 3) ≡ e → (1 ≤ e) × (e ≤ partial.size)
image_inside partial s t e full low is =
    let size = full.size in
    let w = subst (IsChamber s) is ((full.table.involutions (index_at (t % 3))).within (1 + t / 3) (omega arith, omega arith)) in
    let low = w.0 in
    let high = w.1 in
    (low, omega arith)

-- an image that is known at its place
pub from_place : (s : Symbol) (i : Index) (d e t : ℕ) → t ≡ place i d → op s (index_at (t % 3)) (1 + t / 3) ≡ e → op s i d ≡ e
from_place s i d e t at is = sym (at_place s i d (op s i d) t at refl) ∙ is

-- what was known before more was put in
pub still_known : (P : Symbol → Type 0) (a b : Rows) (i : Index) (d e : ℕ) → Learns P a b → 1 ≤ e → op (partial_of a) i d ≡ e → op (partial_of b) i d ≡ e
still_known P a b i d e learns some known = learns.keeps i d (λ z. let zero_ : e ≡ 0 = sym known ∙ z in omega arith) ∙ known
