-- Along a chain: the two involutions of a pair lead in turn from one of its ends to the other.
use Rattle.std.proofs.Common.{◌≡◌, ◌≢◌, ℕ, zero, suc, ◌+◌, ◌*◌, ◌<◌, ◌≤◌, ◌⊎◌, [], ◌∷◌, refl, sym, ap, ◌∙◌, subst, inl, inr, ⊎_elim, arith}
use Rattle.std.proofs.lemmas.Bool.{cases_eq, cases_lt}
use Rattle.dd_model.specs.declared.index.Index.{Index}
use Rattle.dd_model.specs.declared.pair.Pair.{Pair}
use Rattle.dd_model.specs.declared.pair.Pair.TheVariants.{Tile, Vertex, Edge}
use Rattle.dd_model.specs.Symbol.{Symbol, AreInvolutions, IsChamber, Word, first, second, op, act}
use Rattle.dd_model.specs.Cell.{IsWordOf, InCell, turned}
use Rattle.dd_model.proofs.Turns.{turned-last, period_bound}
use Rattle.dd_model.proofs.CellSearch.{Decided, find_below, least_where}
use Rattle.dd_model.proofs.CellWalks.{in_cell-refl, in_cell-letter, in_cell-sym}
use Rattle.dd_name.specs.declared.flags.Flag.{Flag}
use Rattle.dd_name.specs.Flags.{IsOfPair, AreLetters}
use Rattle.dd_name.specs.Rounds.{IsEnd, IsJoined}

-- ## Letters in turn

-- the letter that comes after t steps, where j comes first
abbrev pub letter : Index → Index → ℕ → Index
letter i j zero = j
letter i j (suc t) = letter j i t

-- where t steps lead
abbrev pub walked : Symbol → Index → Index → ℕ → ℕ → ℕ
walked s i j zero d = d
walked s i j (suc t) d = op s (letter i j t) (walked s i j t d)

-- what comes next and what came last are the two letters
pub letters_cases : (i j : Index) (t : ℕ) → ((letter i j t ≡ i) × (letter j i t ≡ j)) ⊎ ((letter i j t ≡ j) × (letter j i t ≡ i))
letters_cases i j zero = inr (refl, refl)
letters_cases i j (suc t) = ⊎_elim (λ a. inr (a.1, a.0)) (λ b. inl (b.1, b.0)) (letters_cases i j t)

letters_differ : (i j : Index) → i ≢ j → (t : ℕ) → letter i j t ≡ letter j i t → ⊥
letters_differ i j differ t same =
    ⊎_elim (λ a. differ (sym a.0 ∙ same ∙ a.1)) (λ b. differ (sym b.1 ∙ sym same ∙ b.0)) (letters_cases i j t)

pub first_is_not_second : (p : Pair) → first p ≡ second p → ⊥
first_is_not_second Tile e = cc
first_is_not_second Vertex e = cc
first_is_not_second Edge e = cc

pub letters_apart : (p : Pair) (i j : Index) → AreLetters p i j → i ≢ j
letters_apart p i j are e =
    ⊎_elim (λ a. first_is_not_second p (sym a.0 ∙ e ∙ a.1)) (λ b. first_is_not_second p (sym b.1 ∙ sym e ∙ b.0)) are

-- an involution of the pair has another beside it
pub record HasOther (p : Pair) (i : Index) : Type 0 where
  pub j : Index
  pub letters : AreLetters p i j

pub other_letter : (p : Pair) (i : Index) → IsOfPair p i → HasOther p i
other_letter p i of =
    ⊎_elim
    (λ is. record { j = second p; letters = inl (is, refl) })
    (λ is. record { j = first p; letters = inr (is, refl) })
    of

pub letter_of_pair : (p : Pair) (i j : Index) → AreLetters p i j → (l : Index) → IsOfPair p l → (l ≡ i) ⊎ (l ≡ j)
letter_of_pair p i j are l of =
    ⊎_elim
    (λ a. ⊎_elim (λ is. inl (is ∙ sym a.0)) (λ is. inr (is ∙ sym a.1)) of)
    (λ b. ⊎_elim (λ is. inr (is ∙ sym b.1)) (λ is. inl (is ∙ sym b.0)) of)
    are

pub letters_of_pair : (p : Pair) (i j : Index) → AreLetters p i j → IsOfPair p i × IsOfPair p j
letters_of_pair p i j are = ⊎_elim (λ a. (inl a.0, inr a.1)) (λ b. (inr b.0, inl b.1)) are

pub letter_at_of_pair : (p : Pair) (i j : Index) → AreLetters p i j → (t : ℕ) → IsOfPair p (letter i j t)
letter_at_of_pair p i j are t =
    let of = letters_of_pair p i j are in
    ⊎_elim
    (λ a. subst (IsOfPair p) (sym a.0) of.0)
    (λ b. subst (IsOfPair p) (sym b.0) of.1)
    (letters_cases i j t)

-- ## Steps

pub walked_within : (s : Symbol) → AreInvolutions s → (i j : Index) (t d : ℕ) → IsChamber s d → IsChamber s (walked s i j t d)
walked_within s inv i j zero d h = h
walked_within s inv i j (suc t) d h = (inv (letter i j t)).within (walked s i j t d) (walked_within s inv i j t d h)

walked_back : (s : Symbol) → AreInvolutions s → (i j : Index) (t d : ℕ) → IsChamber s d → op s (letter i j t) (walked s i j (suc t) d) ≡ walked s i j t d
walked_back s inv i j t d h = (inv (letter i j t)).involutive (walked s i j t d) (walked_within s inv i j t d h)

pub in_cell_walked : (s : Symbol) (p : Pair) (i j : Index) → AreLetters p i j → (t d : ℕ) → InCell s p d (walked s i j t d)
in_cell_walked s p i j are zero d = in_cell-refl s p d
in_cell_walked s p i j are (suc t) d =
    in_cell-letter s p d (walked s i j t d) (letter i j t) (letter_at_of_pair p i j are t) (in_cell_walked s p i j are t d)

-- a step before b that moves nothing
pub record HasStop (s : Symbol) (i j : Index) (d b : ℕ) : Type 0 where
  pub t : ℕ
  pub below : t < b
  pub stop : walked s i j (suc t) d ≡ walked s i j t d

-- A walk that meets a chamber again by the letter that led away from it has turned round on the way.
mirror : (s : Symbol) → AreInvolutions s → (i j : Index) → i ≢ j → (d : ℕ) → IsChamber s d → (n a b : ℕ) → suc (n + a) ≡ b
    → letter i j a ≡ letter j i b → letter j i a ≡ letter i j b → walked s i j a d ≡ walked s i j b d → HasStop s i j d b
mirror s inv i j differ d h n a zero e f g same = absurd (omega arith)
mirror s inv i j differ d h zero a (suc b) e f g same =
    let here : b ≡ a = omega arith in
    record { t = b; below = omega arith; stop = sym same ∙ ap (λ t. walked s i j t d) (sym here) }
mirror s inv i j differ d h (suc zero) a (suc b) e f g same =
    let here : b ≡ suc a = omega arith in
    absurd (letters_differ i j differ a (f ∙ ap (letter i j) here))
mirror s inv i j differ d h (suc (suc n)) a (suc b) e f g same =
    let shorter : suc (n + suc a) ≡ b = omega arith in
    let back : walked s i j (suc a) d ≡ walked s i j b d =
    ap (λ l. op s l (walked s i j a d)) f ∙ ap (op s (letter i j b)) same ∙ walked_back s inv i j b d h in
    let found = mirror s inv i j differ d h n (suc a) b shorter g f back in
    record { t = found.t; below = let low = found.below in omega arith; stop = found.stop }

-- The walk from a flag does not come to that flag before it has stopped.
pub returns_stopped : (s : Symbol) → AreInvolutions s → (i j : Index) → i ≢ j → (d : ℕ) → IsChamber s d → (k : ℕ)
    → walked s i j k d ≡ d → letter i j k ≡ i → HasStop s i j d k
returns_stopped s inv i j differ d h zero at came = absurd (differ (sym came))
returns_stopped s inv i j differ d h (suc k) at came =
    let length : suc (k + 0) ≡ suc k = omega arith in
    let other : j ≡ letter j i (suc k) =
    ⊎_elim (λ a. sym a.1) (λ b. absurd (differ (sym came ∙ b.0))) (letters_cases i j (suc k)) in
    mirror s inv i j differ d h k 0 (suc k) length other (sym came) (sym at)

-- ## Each chain has another end

twice : ℕ → ℕ
twice zero = zero
twice (suc k) = suc (suc (twice k))

twice_is : (k : ℕ) → twice k ≡ 2 * k
unfolding twice
twice_is zero = refl
twice_is (suc k) = let e = twice_is k in omega arith

letter-twice : (i j : Index) (k : ℕ) → letter i j (twice k) ≡ j
unfolding twice
letter-twice i j zero = refl
letter-twice i j (suc k) = letter-twice i j k

-- from a chamber that the second involution fixes
turned_is_walked : (s : Symbol) (p : Pair) (k d : ℕ) → turned s p k d ≡ walked s (second p) (first p) (twice k) d
unfolding twice
turned_is_walked s p zero d = refl
turned_is_walked s p (suc k) d =
    let x = walked s (second p) (first p) (twice k) d in
    turned-last s p k d
    ∙ ap (λ y. op s (second p) (op s (first p) y)) (turned_is_walked s p k d)
    ∙ ap (λ l. op s (second p) (op s l x)) (sym (letter-twice (second p) (first p) k))
    ∙ ap (λ l. op s l (op s (letter (second p) (first p) (twice k)) x)) (sym (letter-twice (first p) (second p) k))

-- from a chamber that the first involution fixes
turned_is_walked_on : (s : Symbol) (p : Pair) (k d : ℕ) → op s (first p) d ≡ d → turned s p (suc k) d ≡ walked s (first p) (second p) (suc (twice k)) d
unfolding twice
turned_is_walked_on s p zero d fixed = ap (op s (second p)) fixed
turned_is_walked_on s p (suc k) d fixed =
    let x = walked s (first p) (second p) (suc (twice k)) d in
    turned-last s p (suc k) d
    ∙ ap (λ y. op s (second p) (op s (first p) y)) (turned_is_walked_on s p k d fixed)
    ∙ ap (λ l. op s (second p) (op s l x)) (sym (letter-twice (second p) (first p) k))
    ∙ ap (λ l. op s l (op s (letter (second p) (first p) (twice k)) x)) (sym (letter-twice (first p) (second p) k))

stop_by_turns : (s : Symbol) → AreInvolutions s → (p : Pair) (k d : ℕ) → IsChamber s d → op s (second p) d ≡ d → 1 ≤ k → k ≤ s.size
    → turned s p k d ≡ d → HasStop s (second p) (first p) d (2 * s.size)
unfolding twice
stop_by_turns s inv p zero d h fixed low high back = absurd (omega arith)
stop_by_turns s inv p (suc k) d h fixed low high back =
    let i = second p in
    let j = first p in
    let y = walked s i j (suc (twice k)) d in
    let l : letter i j (suc (twice k)) ≡ i = letter-twice j i k in
    let round : walked s i j (suc (suc (twice k))) d ≡ d = sym (turned_is_walked s p (suc k) d) ∙ back in
    let there : y ≡ d = sym (walked_back s inv i j (suc (twice k)) d h) ∙ ap (op s (letter i j (suc (twice k)))) round ∙ ap (λ m. op s m d) l ∙ fixed in
    record { t = suc (twice k); below = let e = twice_is k in omega arith; stop = round ∙ sym there }

stop_by_turns_on : (s : Symbol) (p : Pair) (k d : ℕ) → op s (first p) d ≡ d → 1 ≤ k → k ≤ s.size
    → turned s p k d ≡ d → HasStop s (first p) (second p) d (2 * s.size)
unfolding twice
stop_by_turns_on s p zero d fixed low high back = absurd (omega arith)
stop_by_turns_on s p (suc k) d fixed low high back =
    let i = first p in
    let j = second p in
    let l : letter i j (suc (twice k)) ≡ i = letter-twice j i k in
    let there : walked s i j (suc (twice k)) d ≡ d = sym (turned_is_walked_on s p k d fixed) ∙ back in
    record {
      t = suc (twice k);
      below = let e = twice_is k in omega arith;
      stop = ap (op s (letter i j (suc (twice k)))) there ∙ ap (λ m. op s m d) l ∙ fixed ∙ sym there;
    }

-- The walk from a fixed chamber stops within twice as many steps as there are chambers.
pub never_unstopped : (s : Symbol) → AreInvolutions s → (p : Pair) (i j : Index) → AreLetters p i j → (d : ℕ) → IsChamber s d → op s i d ≡ d
    → (HasStop s i j d (2 * s.size) → ⊥) → ⊥
never_unstopped s inv p i j are d h fixed none =
    ⊎_elim
    (λ a.
    let moved = λ (k : ℕ) (low : 1 ≤ k) (high : k < s.size + 1) (back : turned s p k d ≡ d).
    none (subst (λ m. HasStop s m j d (2 * s.size)) (sym a.0) (subst (λ m. HasStop s (first p) m d (2 * s.size)) (sym a.1)
    (stop_by_turns_on s p k d (subst (λ m. op s m d ≡ d) a.0 fixed) low (omega arith) back))) in
    let bound = period_bound s inv p d (s.size + 1) h moved in omega arith)
    (λ b.
    let moved = λ (k : ℕ) (low : 1 ≤ k) (high : k < s.size + 1) (back : turned s p k d ≡ d).
    none (subst (λ m. HasStop s m j d (2 * s.size)) (sym b.0) (subst (λ m. HasStop s (second p) m d (2 * s.size)) (sym b.1)
    (stop_by_turns s inv p k d h (subst (λ m. op s m d ≡ d) b.0 fixed) low (omega arith) back))) in
    let bound = period_bound s inv p d (s.size + 1) h moved in omega arith)
    are

-- the steps to the other end
pub record IsLength (s : Symbol) (i j : Index) (d n : ℕ) : Type 0 where
  pub stop : walked s i j (suc n) d ≡ walked s i j n d
  pub before : (t : ℕ) → t < n → walked s i j (suc t) d ≡ walked s i j t d → ⊥

pub record HasLength (s : Symbol) (i j : Index) (d : ℕ) : Type 0 where
  pub n : ℕ
  pub length : IsLength s i j d n

pub has_length : (s : Symbol) → AreInvolutions s → (p : Pair) (i j : Index) → AreLetters p i j → (d : ℕ) → IsChamber s d → op s i d ≡ d → HasLength s i j d
has_length s inv p i j are d h fixed =
    let P : ℕ → Type 0 = λ t. walked s i j (suc t) d ≡ walked s i j t d in
    let decide : (t : ℕ) → Decided (P t) = λ t. cases_eq (walked s i j (suc t) d) (walked s i j t d) in
    ⊎_elim
    (λ found.
    let least = least_where P decide found.0 found.2 in
    record { n = least.0; length = record { stop = least.1; before = λ t low there. let e = least.2 t there in omega arith } })
    (λ none. absurd (never_unstopped s inv p i j are d h fixed (λ has. none has.t has.below has.stop)))
    (find_below P decide (2 * s.size))

-- ## And only one

-- e is met on the way to the other end
record IsOn (s : Symbol) (i j : Index) (d n e : ℕ) : Type 0 where
  pub t : ℕ
  pub within : t ≤ n
  pub at : walked s i j t d ≡ e

on_forward : (s : Symbol) (i j : Index) (d n e : ℕ) → IsLength s i j d n → (on : IsOn s i j d n e) → IsOn s i j d n (op s (letter i j on.t) e)
on_forward s i j d n e length on =
    let t = on.t in
    let low = on.within in
    ⊎_elim
    (λ more. record { t = suc t; within = omega arith; at = ap (op s (letter i j t)) on.at })
    (λ last.
    let here : t ≡ n = omega arith in
    record {
      t = t;
      within = omega arith;
      at = sym (subst (λ k. walked s i j (suc k) d ≡ walked s i j k d) (sym here) length.stop) ∙ ap (op s (letter i j t)) on.at;
    })
    (cases_lt t n)

on_backward : (s : Symbol) → AreInvolutions s → (i j : Index) (d n e : ℕ) → IsChamber s d → op s i d ≡ d → (t : ℕ) → t ≤ n → walked s i j t d ≡ e
    → IsOn s i j d n (op s (letter j i t) e)
on_backward s inv i j d n e h fixed zero low at = record { t = zero; within = omega arith; at = sym fixed ∙ ap (op s i) at }
on_backward s inv i j d n e h fixed (suc t) low at =
    record { t = t; within = omega arith; at = sym (walked_back s inv i j t d h) ∙ ap (op s (letter i j t)) at }

on_letter : (s : Symbol) → AreInvolutions s → (i j : Index) (d n e : ℕ) → IsChamber s d → op s i d ≡ d → IsLength s i j d n
    → (l : Index) → (l ≡ i) ⊎ (l ≡ j) → IsOn s i j d n e → IsOn s i j d n (op s l e)
on_letter s inv i j d n e h fixed length l of on =
    let forward = on_forward s i j d n e length on in
    let backward = on_backward s inv i j d n e h fixed on.t on.within on.at in
    let to : (m : Index) → m ≡ l → IsOn s i j d n (op s m e) → IsOn s i j d n (op s l e) = λ m is there. subst (λ k. IsOn s i j d n (op s k e)) is there in
    ⊎_elim
    (λ a. ⊎_elim (λ is. to _ (a.0 ∙ sym is) forward) (λ is. to _ (a.1 ∙ sym is) backward) of)
    (λ b. ⊎_elim (λ is. to _ (b.1 ∙ sym is) backward) (λ is. to _ (b.0 ∙ sym is) forward) of)
    (letters_cases i j on.t)

on_word : (s : Symbol) → AreInvolutions s → (p : Pair) (i j : Index) → AreLetters p i j → (d n : ℕ) → IsChamber s d → op s i d ≡ d → IsLength s i j d n
    → (w : Word) (e : ℕ) → IsWordOf p w → IsOn s i j d n e → IsOn s i j d n (act s w e)
on_word s inv p i j are d n h fixed length [] e letters on = on
on_word s inv p i j are d n h fixed length (l ∷ w) e letters on =
    on_word s inv p i j are d n h fixed length w (op s l e) letters.1
    (on_letter s inv i j d n e h fixed length l (letter_of_pair p i j are l letters.0) on)

on_cell : (s : Symbol) → AreInvolutions s → (p : Pair) (i j : Index) → AreLetters p i j → (d n : ℕ) → IsChamber s d → op s i d ≡ d → IsLength s i j d n
    → (e : ℕ) → InCell s p d e → IsOn s i j d n e
on_cell s inv p i j are d n h fixed length e there =
    subst (IsOn s i j d n) there.leads
    (on_word s inv p i j are d n h fixed length there.word d there.letters (record { t = zero; within = omega arith; at = refl }))

abbrev pub flag_at : ℕ → Index → Flag
flag_at d i = record { chamber = d; index = i }

pub same_flag : (f g : Flag) → f.chamber ≡ g.chamber → f.index ≡ g.index → f ≡ g
same_flag f g a b = ap (λ d. flag_at d f.index) a ∙ ap (flag_at g.chamber) b

-- a step by the letter that came is a stop before, or the start
came_back : (s : Symbol) → AreInvolutions s → (i j : Index) (d n : ℕ) → IsChamber s d → IsLength s i j d n → (f g : Flag) → f ≡ flag_at d i → f ≢ g
    → (t : ℕ) → t ≤ n → walked s i j t d ≡ g.chamber → op s g.index g.chamber ≡ g.chamber → g.index ≡ letter j i t → ⊥
came_back s inv i j d n h length f g is two zero low at fixed came = two (is ∙ same_flag (flag_at d i) g at (sym came))
came_back s inv i j d n h length f g is two (suc t) low at fixed came =
    length.before t (omega arith)
    (at ∙ sym fixed ∙ ap (op s g.index) (sym at) ∙ ap (λ l. op s l (walked s i j (suc t) d)) came ∙ walked_back s inv i j t d h)

-- an end that is not the start is where the walk stops
end_is : (s : Symbol) → AreInvolutions s → (p : Pair) (i j : Index) → AreLetters p i j → (d n : ℕ) → IsChamber s d → op s i d ≡ d → IsLength s i j d n
    → (f g : Flag) → f ≡ flag_at d i → f ≢ g → IsEnd s p g → InCell s p d g.chamber → g ≡ flag_at (walked s i j n d) (letter i j n)
end_is s inv p i j are d n h fixed length f g is two end there =
    let on = on_cell s inv p i j are d n h fixed length g.chamber there in
    let t = on.t in
    let low = on.within in
    let back = came_back s inv i j d n h length f g is two t low on.at end.flag.fixed in
    let forward : g.index ≡ letter i j t → g ≡ flag_at (walked s i j n d) (letter i j n) = λ next.
    let stop : walked s i j (suc t) d ≡ walked s i j t d =
    ap (λ l. op s l (walked s i j t d)) (sym next) ∙ ap (op s g.index) on.at ∙ end.flag.fixed ∙ sym on.at in
    ⊎_elim
    (λ early. absurd (length.before t early stop))
    (λ late.
    let last : t ≡ n = omega arith in
    same_flag g (flag_at (walked s i j n d) (letter i j n)) (sym on.at ∙ ap (λ k. walked s i j k d) last) (next ∙ ap (letter i j) last))
    (cases_lt t n) in
    ⊎_elim
    (λ a. ⊎_elim (λ l. forward (l ∙ sym a.0)) (λ l. absurd (back (l ∙ sym a.1))) (letter_of_pair p i j are g.index end.letter))
    (λ b. ⊎_elim (λ l. absurd (back (l ∙ sym b.1))) (λ l. forward (l ∙ sym b.0)) (letter_of_pair p i j are g.index end.letter))
    (letters_cases i j t)

-- A chain has one other end.
pub other_end_unique : (s : Symbol) → AreInvolutions s → (p : Pair) (f g h : Flag) → IsJoined s p f g → IsJoined s p f h → g ≡ h
other_end_unique s inv p f g h a b =
    let i = f.index in
    let d = f.chamber in
    let inside = a.start.flag.chamber in
    let fixed = a.start.flag.fixed in
    let other = other_letter p i a.start.letter in
    let has = has_length s inv p i other.j other.letters d inside fixed in
    end_is s inv p i other.j other.letters d has.n inside fixed has.length f g refl a.two a.end a.in_cell
    ∙ sym (end_is s inv p i other.j other.letters d has.n inside fixed has.length f h refl b.two b.end b.in_cell)

pub joined-sym : (s : Symbol) → AreInvolutions s → (p : Pair) (f g : Flag) → IsJoined s p f g → IsJoined s p g f
joined-sym s inv p f g a = record {
  start = a.end;
  end = a.start;
  in_cell = in_cell-sym s inv p f.chamber g.chamber a.start.flag.chamber a.in_cell;
  two = λ e. a.two (sym e);
}

-- ## The walk of the program

-- after k steps
pub record IsWalk (s : Symbol) (p : Pair) (f : Flag) (k chamber : ℕ) (came next : Index) : Type 0 where
  pub other : Index
  pub letters : AreLetters p f.index other
  pub at : chamber ≡ walked s f.index other k f.chamber
  pub last : came ≡ letter other f.index k
  pub following : next ≡ letter f.index other k
  pub moved : (t : ℕ) → t < k → walked s f.index other (suc t) f.chamber ≡ walked s f.index other t f.chamber → ⊥

pub walk_starts : (s : Symbol) (p : Pair) (f : Flag) (j : Index) → AreLetters p f.index j → IsWalk s p f 0 f.chamber f.index j
walk_starts s p f j are = record { other = j; letters = are; at = refl; last = refl; following = refl; moved = λ t low. absurd (omega arith) }

pub walk_goes_on : (s : Symbol) (p : Pair) (f : Flag) (k chamber image : ℕ) (came next : Index) → IsWalk s p f k chamber came next
    → image ≡ op s next chamber → (image ≡ chamber → ⊥) → IsWalk s p f (k + 1) image next came
walk_goes_on s p f k chamber image came next w is moved =
    let e : suc k ≡ k + 1 = omega arith in
    let i = f.index in
    let j = w.other in
    let at : image ≡ walked s i j (suc k) f.chamber = is ∙ ap (λ l. op s l chamber) w.following ∙ ap (op s (letter i j k)) w.at in
    record {
      other = j;
      letters = w.letters;
      at = at ∙ ap (λ n. walked s i j n f.chamber) e;
      last = w.following ∙ ap (letter j i) e;
      following = w.last ∙ ap (letter i j) e;
      moved = λ t low there.
          ⊎_elim
          (λ early. w.moved t early there)
          (λ late. let same : t ≡ k = omega arith in moved (at ∙ subst (λ n. walked s i j (suc n) f.chamber ≡ walked s i j n f.chamber) same there ∙ sym w.at))
          (cases_lt t k);
    }

pub walk_ends : (s : Symbol) → AreInvolutions s → (p : Pair) (f : Flag) (k chamber image : ℕ) (came next : Index) → IsEnd s p f → IsWalk s p f k chamber came next
    → image ≡ op s next chamber → image ≡ chamber → IsJoined s p f (flag_at chamber next)
walk_ends s inv p f k chamber image came next end w is stop =
    let i = f.index in
    let j = w.other in
    let d = f.chamber in
    record {
      start = end;
      end = record {
        flag = record {
          chamber = subst (IsChamber s) (sym w.at) (walked_within s inv i j k d end.flag.chamber);
          fixed = sym is ∙ stop;
        };
        letter = subst (IsOfPair p) (sym w.following) (letter_at_of_pair p i j w.letters k);
      };
      in_cell = subst (InCell s p d) (sym w.at) (in_cell_walked s p i j w.letters k d);
      two = λ same.
          let back = returns_stopped s inv i j (letters_apart p i j w.letters) d end.flag.chamber k
          (sym w.at ∙ sym (ap (λ (g : Flag). g.chamber) same)) (sym w.following ∙ sym (ap (λ (g : Flag). g.index) same)) in
          w.moved back.t back.below back.stop;
    }

pub walk_is_short : (s : Symbol) → AreInvolutions s → (p : Pair) (f : Flag) (k chamber : ℕ) (came next : Index) → IsEnd s p f → 2 * s.size ≤ k
    → IsWalk s p f k chamber came next → ⊥
walk_is_short s inv p f k chamber came next end long w =
    never_unstopped s inv p f.index w.other w.letters f.chamber end.flag.chamber end.flag.fixed
    (λ has. w.moved has.t (let low = has.below in omega arith) has.stop)
