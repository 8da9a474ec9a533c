-- What an isomorphism carries from one symbol to the other.
use Rattle.std.proofs.Common.{◌≡◌, ℕ, ◌+◌, ◌<◌, ◌≤◌, List, [], ◌∷◌, ◌++◌, refl, sym, ap, ◌∙◌, subst, arith}
use Rattle.dd_model.specs.declared.index.Index.{Index}
use Rattle.dd_model.specs.declared.index.Index.TheVariants.{Zero, One, Two}
use Rattle.dd_model.specs.declared.pair.Pair.{Pair}
use Rattle.dd_model.specs.declared.pair.Pair.TheVariants.{Tile, Vertex, Edge}
use Rattle.dd_model.specs.Symbol.{Symbol, IsTable, IsSymbol, AreInvolutions, HasDegree, IsChamber, Word, first, second, turn, degree, item, op, operation, act, power}
use Rattle.dd_model.specs.Connected.{IsReached, Connected}
use Rattle.dd_model.specs.Isomorphic.{IsMorphism, IsIsomorphism}
pub use Rattle.dd_model.specs.Isomorphic.{HaveLengths}
use Rattle.dd_model.specs.Cell.{InCell, IsLeastTurns}
use Rattle.dd_model.proofs.Words.{act-append, act_within, backwards, act-backwards}
use Rattle.dd_model.proofs.Codes.{same_items}
use Rattle.dd_model.proofs.Fields.{same_fields}

-- a morphism carries words along
pub act-along : (s t : Symbol) (f : List ℕ) → AreInvolutions s → IsMorphism s t f → (w : Word) (d : ℕ) → IsChamber s d → item f (act s w d) ≡ act t w (item f d)
act-along s t f inv m [] d h = refl
act-along s t f inv m (i ∷ w) d h = act-along s t f inv m w (op s i d) ((inv i).within d h) ∙ ap (act t w) (m.op i d h)

pub degree-along : (s t : Symbol) (f : List ℕ) → IsMorphism s t f → (p : Pair) (d : ℕ) → IsChamber s d → degree t p (item f d) ≡ degree s p d
degree-along s t f m Tile d h = m.m01 d h
degree-along s t f m Vertex d h = m.m12 d h
degree-along s t f m Edge d h = refl

-- what holds of each image holds of each chamber
pub each_image : (s t : Symbol) (f : List ℕ) → IsIsomorphism s t f → (P : ℕ → Type 0) → ((d : ℕ) → IsChamber s d → P (item f d)) → (e : ℕ) → IsChamber t e → P e
each_image s t f iso P all e h =
    let size = iso.size in
    let b = iso.bijection in
    let high : e ≤ s.size = omega (arith, h.1) in
    subst P (b.right.undone e h.0 high) (all (item b.inverse e) (b.right.within e h.0 high))

pub involution-along : (s t : Symbol) (f : List ℕ) → AreInvolutions s → IsIsomorphism s t f → AreInvolutions t
involution-along s t f inv iso i = record {
  within = each_image s t f iso (λ e. IsChamber t (op t i e)) (λ d h.
      subst (IsChamber t) (iso.morphism.op i d h) (iso.morphism.within (op s i d) ((inv i).within d h)));
  involutive = each_image s t f iso (λ e. op t i (op t i e) ≡ e) (λ d h.
      ap (op t i) (sym (iso.morphism.op i d h)) ∙ sym (iso.morphism.op i (op s i d) ((inv i).within d h)) ∙ ap (item f) ((inv i).involutive d h));
}

pub has_degree-along : (s t : Symbol) (f : List ℕ) → AreInvolutions s → IsMorphism s t f → (p : Pair) (d : ℕ) → IsChamber s d → HasDegree s p d → HasDegree t p (item f d)
has_degree-along s t f inv m p d h has =
    let same = degree-along s t f m p d h in
    let along : (i : Index) → degree s p (op s i d) ≡ degree s p d → degree t p (op t i (item f d)) ≡ degree t p (item f d) = λ i e.
    ap (degree t p) (sym (m.op i d h)) ∙ degree-along s t f m p (op s i d) ((inv i).within d h) ∙ e ∙ sym same in
    record {
      positive = subst (λ x. 1 ≤ x) (sym same) has.positive;
      along_first = along (first p) has.along_first;
      along_second = along (second p) has.along_second;
      turns = ap (λ k. act t (power (turn p) k) (item f d)) same ∙ sym (act-along s t f inv m (power (turn p) (degree s p d)) d h) ∙ ap (item f) has.turns;
    }

pub IsTable-along : (s t : Symbol) (f : List ℕ) → IsTable s → IsIsomorphism s t f → HaveLengths t → IsTable t
IsTable-along s t f is iso ls = record {
  chambers = subst (λ n. 1 ≤ n) (sym iso.size) is.chambers;
  lengths = ls.lengths;
  m01_length = ls.m01_length;
  m12_length = ls.m12_length;
  involutions = involution-along s t f is.involutions iso;
}

pub IsSymbol-along : (s t : Symbol) (f : List ℕ) → IsSymbol s → IsIsomorphism s t f → HaveLengths t → IsSymbol t
IsSymbol-along s t f is iso ls = record {
  table = IsTable-along s t f is.table iso ls;
  degrees = λ p. each_image s t f iso (HasDegree t p) (λ d h. has_degree-along s t f is.table.involutions iso.morphism p d h (is.degrees p d h));
}

pub Connected-along : (s t : Symbol) (f : List ℕ) → IsTable s → IsIsomorphism s t f → Connected s → Connected t
Connected-along s t f is iso con =
    let inv = is.involutions in
    let inv_t = involution-along s t f inv iso in
    let h1 : IsChamber s 1 = (omega arith, is.chambers) in
    each_image s t f iso (IsReached t) (λ d h.
    let b = iso.bijection in
    let one : IsChamber t 1 = (omega arith, subst (λ n. 1 ≤ n) (sym iso.size) is.chambers) in
    let d1 = item b.inverse 1 in
    let there : item f d1 ≡ 1 = b.right.undone 1 one.0 is.chambers in
    let to_one = con d1 (b.right.within 1 one.0 is.chambers) in
    let to_d = con d h in
    let first_image : act t to_one.word (item f 1) ≡ 1 = sym (act-along s t f inv iso.morphism to_one.word 1 h1) ∙ ap (item f) to_one.leads ∙ there in
    record {
      word = backwards to_one.word ++ to_d.word;
      leads =
          act-append t (backwards to_one.word) to_d.word 1
          ∙ ap (λ x. act t to_d.word (act t (backwards to_one.word) x)) (sym first_image)
          ∙ ap (act t to_d.word) (act-backwards t inv_t to_one.word (item f 1) (iso.morphism.within 1 h1))
          ∙ sym (act-along s t f inv iso.morphism to_d.word 1 h1)
          ∙ ap (item f) to_d.leads;
    })

pub in_cell-along : (s t : Symbol) (f : List ℕ) → AreInvolutions s → IsMorphism s t f → (p : Pair) (d x : ℕ) → IsChamber s d → InCell s p d x → InCell t p (item f d) (item f x)
in_cell-along s t f inv m p d x h there = record {
  word = there.word;
  letters = there.letters;
  leads = sym (act-along s t f inv m there.word d h) ∙ ap (item f) there.leads;
}

pub in_cell_within : (s : Symbol) → AreInvolutions s → (p : Pair) (d x : ℕ) → IsChamber s d → InCell s p d x → IsChamber s x
in_cell_within s inv p d x h there = subst (IsChamber s) there.leads (act_within s inv there.word d h)

-- Two morphisms that undo each other carry the number of turns.
pub least_turns-along : (s t : Symbol) (f g : List ℕ) → AreInvolutions s → AreInvolutions t → IsMorphism s t f → IsMorphism t s g
    → ((d : ℕ) → IsChamber s d → item g (item f d) ≡ d) → (p : Pair) (d r : ℕ) → IsChamber s d → IsLeastTurns s p d r → IsLeastTurns t p (item f d) r
least_turns-along s t f g inv inv_t m back undone p d r h is =
    let hx = in_cell_within s inv p d is.chamber h is.in_cell in
    record {
      positive = is.positive;
      chamber = item f is.chamber;
      in_cell = in_cell-along s t f inv m p d is.chamber h is.in_cell;
      fixed = sym (act-along s t f inv m (power (turn p) r) is.chamber hx) ∙ ap (item f) is.fixed;
      least = λ k e pos there fixed.
          let he = in_cell_within t inv_t p (item f d) e (m.within d h) there in
          is.least k (item g e) pos
          (subst (λ x. InCell s p x (item g e)) (undone d h) (in_cell-along t s g inv_t back p (item f d) e (m.within d h) there))
          (sym (act-along t s g inv_t back (power (turn p) k) e he) ∙ ap (item g) fixed);
    }

-- A map determines the symbol to which it leads.
pub same_by_map : (s t u : Symbol) (f : List ℕ) → IsIsomorphism s t f → IsIsomorphism s u f → HaveLengths t → HaveLengths u → t ≡ u
same_by_map s t u f a b lt lu =
    let n : t.size ≡ u.size = a.size ∙ sym b.size in
    let inside : (d : ℕ) → 1 ≤ d → d < 1 + t.size → IsChamber t d = λ d low high. (low, omega arith) in
    let lists : (i : Index) → operation t i ≡ operation u i = λ i.
    same_items (operation t i) (operation u i) t.size (lt.lengths i) (lu.lengths i ∙ sym n) (λ d low high.
    each_image s t f a (λ e. op t i e ≡ op u i e) (λ x h. sym (a.morphism.op i x h) ∙ b.morphism.op i x h) d (inside d low high)) in
    let s0 : t.s0 ≡ u.s0 = lists Zero in
    let s1 : t.s1 ≡ u.s1 = lists One in
    let s2 : t.s2 ≡ u.s2 = lists Two in
    let m01 : t.m01 ≡ u.m01 =
    same_items t.m01 u.m01 t.size lt.m01_length (lu.m01_length ∙ sym n) (λ d low high.
    each_image s t f a (λ e. item t.m01 e ≡ item u.m01 e) (λ x h. a.morphism.m01 x h ∙ sym (b.morphism.m01 x h)) d (inside d low high)) in
    let m12 : t.m12 ≡ u.m12 =
    same_items t.m12 u.m12 t.size lt.m12_length (lu.m12_length ∙ sym n) (λ d low high.
    each_image s t f a (λ e. item t.m12 e ≡ item u.m12 e) (λ x h. a.morphism.m12 x h ∙ sym (b.morphism.m12 x h)) d (inside d low high)) in
    same_fields t u n s0 s1 s2 m01 m12
