-- Turns round a part of a chamber are turns of the chamber, so many for each.
use Rattle.std.proofs.Common.{◌≡◌, ℕ, zero, suc, ◌+◌, ◌*◌, ◌/◌, ◌%◌, ◌≤◌, [], ◌∷◌, refl, sym, ap, ◌∙◌, ⊎_elim, arith}
use Rattle.std.proofs.Math.Nat.{mul_comm, suc-mul, mul-suc}
use Rattle.std.proofs.lemmas.Bool.{cases_eq}
use Rattle.std.proofs.lemmas.Nat.{div-add-mod', mod_below}
use Rattle.dd_model.specs.declared.index.Index.{Index}
use Rattle.dd_model.specs.declared.pair.Pair.{Pair}
use Rattle.dd_model.specs.Symbol.{Symbol, AreInvolutions, IsSymbol, IsChamber, Word, first, second, turn, op, act, power}
use Rattle.dd_model.specs.Cell.{turned}
use Rattle.dd_model.proofs.Words.{act-append, act_within}
use Rattle.dd_model.proofs.Turns.{turned-add}
use Rattle.dd_template.specs.Table.{Table, IsPart, move, part_after}
use Rattle.dd_template.specs.Reduced.{carried}
use Rattle.dd_template.specs.Made.{chamber_of, composed, made}
use Rattle.dd_template.specs.Moves.{AreUndone, LeadsBack}
use Rattle.dd_template.specs.Entries.{IsTurned, IsApart}
use Rattle.dd_template.proofs.PlaceLemmas.{same_place}
use Rattle.dd_template.proofs.ActLemmas.{composed_within, act-part, act-back}

-- ## Two letters in turn

abbrev spun : Symbol → Index → Index → ℕ → ℕ → ℕ
spun s f g k d = act s (power (f ∷ g ∷ []) k) d

spun-last : (s : Symbol) (f g : Index) (k d : ℕ) → spun s f g (suc k) d ≡ op s g (op s f (spun s f g k d))
spun-last s f g zero d = refl
spun-last s f g (suc k) d = spun-last s f g k (op s g (op s f d))

-- the other way round they lead back
spun_back : (s : Symbol) → AreInvolutions s → (f g : Index) (k d : ℕ) → IsChamber s d → spun s g f k (spun s f g k d) ≡ d
spun_back s inv f g zero d h = refl
spun_back s inv f g (suc k) d h =
    let e = spun s f g k d in
    let he = act_within s inv (power (f ∷ g ∷ []) k) d h in
    ap (spun s g f (suc k)) (spun-last s f g k d)
    ∙ ap (λ y. spun s g f k (op s f y)) ((inv g).involutive (op s f e) ((inv f).within e he))
    ∙ ap (spun s g f k) ((inv f).involutive e he)
    ∙ spun_back s inv f g k d h

spun_fixed : (s : Symbol) → AreInvolutions s → (f g : Index) (k d : ℕ) → IsChamber s d → spun s f g k d ≡ d → spun s g f k d ≡ d
spun_fixed s inv f g k d h fixed = ap (spun s g f k) (sym fixed) ∙ spun_back s inv f g k d h

-- ## The turns that lead a part back to itself

pub part_after_within : (t : Table) → AreUndone t → (w : Word) (x : ℕ) → IsPart t x → IsPart t (part_after t w x)
part_after_within t undone [] x inside = inside
part_after_within t undone (i ∷ w) x inside = part_after_within t undone w (move t i x).to (undone i x inside).part

-- the part to which so many turns lead
abbrev pub part_turned : Table → Pair → ℕ → ℕ → ℕ
part_turned t p k x = part_after t (power (turn p) k) x

part_turned-add : (t : Table) (p : Pair) (a b x : ℕ) → part_turned t p (a + b) x ≡ part_turned t p b (part_turned t p a x)
part_turned-add t p zero b x = let e : zero + b ≡ b = omega arith in ap (λ k. part_turned t p k x) e
part_turned-add t p (suc a) b x =
    let e : suc a + b ≡ suc (a + b) = omega arith in
    ap (λ k. part_turned t p k x) e ∙ part_turned-add t p a b (part_after t (turn p) x)

part_turned-mul : (t : Table) (p : Pair) (c x : ℕ) → part_turned t p c x ≡ x → (q : ℕ) → part_turned t p (q * c) x ≡ x
part_turned-mul t p c x back zero = let e : zero * c ≡ 0 = omega arith in ap (λ k. part_turned t p k x) e
part_turned-mul t p c x back (suc q) =
    let e : suc q * c ≡ q * c + c = suc-mul q c in
    ap (λ k. part_turned t p k x) e ∙ part_turned-add t p (q * c) c x ∙ ap (part_turned t p c) (part_turned-mul t p c x back q) ∙ back

-- only whole rounds lead a part back to itself
pub rounds_alone : (t : Table) (p : Pair) (x c k : ℕ) → 1 ≤ c → part_turned t p c x ≡ x → IsApart t p x c → part_turned t p k x ≡ x → k % c ≡ 0
rounds_alone t p x c k some back apart same =
    let split : k / c * c + k % c ≡ k = div-add-mod' k c in
    let below = mod_below k c some in
    let rest : part_turned t p (k % c) x ≡ x =
    sym (ap (part_turned t p (k % c)) (part_turned-mul t p c x back (k / c)))
    ∙ sym (part_turned-add t p (k / c * c) (k % c) x)
    ∙ ap (λ n. part_turned t p n x) split
    ∙ same in
    ⊎_elim (λ none. none) (λ some_rest. absurd (apart (k % c) (omega arith) below rest)) (cases_eq (k % c) 0)

-- ## Turns of the parts of chambers

-- c turns lead each chamber's part to the same part of the chamber a turn further, one way or the other
pub record IsRound (t : Table) (s : Symbol) (p q : Pair) (x c : ℕ) : Type 0 where
  pub word : Word
  pub leads : (d : ℕ) → IsChamber s d → turned (made t s) p c (chamber_of t d x) ≡ chamber_of t (act s word d) x
  pub fixed : (k d : ℕ) → IsChamber s d → turned s q k d ≡ d → act s (power word k) d ≡ d
  pub fixes : (k d : ℕ) → IsChamber s d → act s (power word k) d ≡ d → turned s q k d ≡ d

pub round_of : (t : Table) (s : Symbol) → AreUndone t → IsSymbol s → (p q : Pair) (x c : ℕ) → IsPart t x → IsTurned t p q x c → IsRound t s p q x c
round_of t s undone is p q x c inside turns =
    let inv = is.table.involutions in
    let f = first q in
    let g = second q in
    ⊎_elim
    (λ back. record {
      word = g ∷ f ∷ [];
      leads = λ d h. act-back t s undone is (power (turn p) c) d x (f ∷ g ∷ []) h inside back;
      fixed = λ k d h. spun_fixed s inv f g k d h;
      fixes = λ k d h. spun_fixed s inv g f k d h;
    })
    (λ back. record {
      word = f ∷ g ∷ [];
      leads = λ d h. act-back t s undone is (power (turn p) c) d x (g ∷ f ∷ []) h inside back;
      fixed = λ k d h e. e;
      fixes = λ k d h e. e;
    })
    turns.back

-- k rounds
pub rounds : (t : Table) (s : Symbol) → AreInvolutions s → (p q : Pair) (x c : ℕ) (r : IsRound t s p q x c) (k d : ℕ) → IsChamber s d
    → turned (made t s) p (c * k) (chamber_of t d x) ≡ chamber_of t (act s (power r.word k) d) x
rounds t s inv p q x c r zero d h =
    let e : c * zero ≡ 0 = omega arith in
    ap (λ n. turned (made t s) p n (chamber_of t d x)) e
rounds t s inv p q x c r (suc k) d h =
    let e : c * suc k ≡ c + c * k = let m = mul-suc c k in omega arith in
    let next = act s r.word d in
    ap (λ n. turned (made t s) p n (chamber_of t d x)) e
    ∙ turned-add (made t s) p c (c * k) (chamber_of t d x)
    ∙ ap (turned (made t s) p (c * k)) (r.leads d h)
    ∙ rounds t s inv p q x c r k next (act_within s inv r.word d h)
    ∙ ap (λ y. chamber_of t y x) (sym (act-append s r.word (power r.word k) d))

-- so many turns fix the chamber of the part
pub record AreRounds (s : Symbol) (q : Pair) (d c k : ℕ) : Type 0 where
  pub number : ℕ
  pub whole : k ≡ c * number
  pub fixed : turned s q number d ≡ d

-- what fixes a part of a chamber is a number of rounds that fix the chamber
pub are_rounds : (t : Table) (s : Symbol) → AreUndone t → IsSymbol s → (p q : Pair) (d x c k : ℕ) → IsChamber s d → IsPart t x → IsTurned t p q x c
    → turned (made t s) p k (chamber_of t d x) ≡ chamber_of t d x → AreRounds s q d c k
are_rounds t s undone is p q d x c k h inside turns fixed =
    let inv = is.table.involutions in
    let w = power (turn p) k in
    let there = act-part t s undone is w d x h inside in
    let place = same_place t (composed s (carried t w x []) d) d (part_after t w x) x
    (composed_within s inv (carried t w x []) d h).0 h.0 (part_after_within t undone w x inside) inside (sym there ∙ fixed) in
    let back : part_turned t p c x ≡ x =
    ⊎_elim (λ (b : LeadsBack t (power (turn p) c) x (first q ∷ second q ∷ [])). b.part) (λ (b : LeadsBack t (power (turn p) c) x (second q ∷ first q ∷ [])). b.part) turns.back in
    let rest : k % c ≡ 0 = rounds_alone t p x c k turns.positive back turns.first_time place.part in
    let split : k / c * c + k % c ≡ k = div-add-mod' k c in
    let turn_over : k / c * c ≡ c * (k / c) = mul_comm (k / c) c in
    let whole : k ≡ c * (k / c) = omega arith in
    let r = round_of t s undone is p q x c inside turns in
    let around = rounds t s inv p q x c r (k / c) d h in
    let equal : chamber_of t (act s (power r.word (k / c)) d) x ≡ chamber_of t d x =
    sym around ∙ ap (λ n. turned (made t s) p n (chamber_of t d x)) (sym whole) ∙ fixed in
    let same = same_place t (act s (power r.word (k / c)) d) d x x (act_within s inv (power r.word (k / c)) d h).0 h.0 inside inside equal in
    record { number = k / c; whole = whole; fixed = r.fixes (k / c) d h same.chamber }
