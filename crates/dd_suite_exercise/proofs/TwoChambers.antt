-- The symbols of two chambers.
use Rattle.std.proofs.Common.{◌≡◌, ◌≢◌, ℕ, zero, suc, ◌+◌, ◌*◌, ◌≤◌, ◌<◌, Bool, true, false, List, [], ◌∷◌, length, refl, sym, ◌∙◌, subst, ⊎_elim, arith}
use Rattle.std.proofs.lemmas.Bool.{cases_eq}
use Rattle.std.proofs.lemmas.Cmp.{tied_itself}
use Rattle.std.specs.declared.cmp.Ordering.TheVariants.{Greater}
use Rattle.dd_model.specs.declared.index.Index.{Index}
use Rattle.dd_model.specs.declared.index.Index.TheVariants.{Zero, One, Two}
use Rattle.dd_model.specs.declared.pair.Pair.{Pair}
use Rattle.dd_model.specs.declared.pair.Pair.TheVariants.{Tile, Vertex, Edge}
use Rattle.dd_model.specs.Symbol.{Symbol, IsTable, IsSymbol, IsInvolution, HasDegree, IsChamber, Word, item, op, operation, act}
use Rattle.dd_model.specs.Cell.{IsPeriod, IsLeastTurns, turned}
use Rattle.dd_model.specs.Connected.{Connected, IsReached}
use Rattle.dd_model.specs.Isomorphic.{IsBijection, IsIsomorphism}
use Rattle.dd_model.specs.Code.{code_cmp, Least}
use Rattle.dd_model.proofs.Codes.{code_cmp_total, same_items}
use Rattle.dd_model.proofs.Exchanges.{renumbered, renumbered_lengths, renumbered_isomorphism, renumbered_table}
use Rattle.dd_model.proofs.Fields.{same_fields}
use Rattle.dd_model.proofs.FirstVisits.{injective}
use Rattle.dd_model.proofs.FixedMaps.{same_by_fixed_map}
use Rattle.dd_model.proofs.LeastForms.{copy_is_symbol}
use Rattle.dd_model.proofs.Transport.{same_by_map}
use Rattle.dd_model.proofs.Turns.{turned-mul, IsLeastTurns-from_period}

-- an involution of two chambers: 0 fixes both, anything else exchanges them
abbrev pub flip : ℕ → List ℕ
flip zero = 1 ∷ 2 ∷ []
flip (suc k) = 2 ∷ 1 ∷ []

abbrev pub two : (x y z a b c d : ℕ) → Symbol
two x y z a b c d = record { size = 2; s0 = flip x; s1 = flip y; s2 = flip z; m01 = a ∷ b ∷ []; m12 = c ∷ d ∷ [] }

-- the turns that bring each chamber back
abbrev pub period : ℕ → ℕ → ℕ
period zero zero = 1
period zero (suc y) = 2
period (suc x) zero = 2
period (suc x) (suc y) = 1

-- what holds at both chambers holds at each
pub at_both : (P : ℕ → Type 0) → P 1 → P 2 → (d : ℕ) → (1 ≤ d) × (d ≤ 2) → P d
at_both P one two zero h = absurd (let low = h.0 in omega (arith, low))
at_both P one two (suc zero) h = one
at_both P one two (suc (suc zero)) h = two
at_both P one two (suc (suc (suc d))) h = absurd (let high = h.1 in omega (arith, high))

-- ## Tables

flipped_within : (x d : ℕ) → (1 ≤ d) × (d ≤ 2) → (1 ≤ item (flip x) d) × (item (flip x) d ≤ 2)
flipped_within zero d h = at_both (λ e. (1 ≤ item (flip zero) e) × (item (flip zero) e ≤ 2)) (omega arith, omega arith) (omega arith, omega arith) d h
flipped_within (suc x) d h = at_both (λ e. (1 ≤ item (flip (suc x)) e) × (item (flip (suc x)) e ≤ 2)) (omega arith, omega arith) (omega arith, omega arith) d h

flipped_twice : (x d : ℕ) → (1 ≤ d) × (d ≤ 2) → item (flip x) (item (flip x) d) ≡ d
flipped_twice zero d h = at_both (λ e. item (flip zero) (item (flip zero) e) ≡ e) refl refl d h
flipped_twice (suc x) d h = at_both (λ e. item (flip (suc x)) (item (flip (suc x)) e) ≡ e) refl refl d h

flip_long : (x : ℕ) → length (flip x) ≡ 2
flip_long zero = refl
flip_long (suc x) = refl

pub two_table : (x y z a b c d : ℕ) → IsTable (two x y z a b c d)
two_table x y z a b c d = record {
  chambers = omega arith;
  lengths = λ i. elim i as (λ j. length (operation (two x y z a b c d) j) ≡ 2) [ Zero ↦ flip_long x | One ↦ flip_long y | Two ↦ flip_long z ];
  m01_length = refl;
  m12_length = refl;
  involutions = λ i. elim i as (λ j. IsInvolution (two x y z a b c d) j) [
    | Zero ↦ record { within = flipped_within x; involutive = flipped_twice x }
    | One ↦ record { within = flipped_within y; involutive = flipped_twice y }
    | Two ↦ record { within = flipped_within z; involutive = flipped_twice z }
  ];
}

-- ## Turns

once : (s : Symbol) (p : Pair) → s.size ≡ 2 → turned s p 1 1 ≡ 1 → turned s p 1 2 ≡ 2 → (e : ℕ) → IsChamber s e → IsPeriod s p e 1
once s p size one other e h = record {
  positive = omega arith;
  fixed = at_both (λ d. turned s p 1 d ≡ d) one other e (h.0, let high = h.1 in omega (arith, high, size));
  least = λ k low back. low;
}

twice : (s : Symbol) (p : Pair) → s.size ≡ 2 → turned s p 1 1 ≡ 2 → turned s p 1 2 ≡ 1 → turned s p 2 1 ≡ 1 → turned s p 2 2 ≡ 2 → (e : ℕ) → IsChamber s e → IsPeriod s p e 2
twice s p size one other back_one back_other e h =
    let inside : (1 ≤ e) × (e ≤ 2) = (h.0, let high = h.1 in omega (arith, high, size)) in
    record {
      positive = omega arith;
      fixed = at_both (λ d. turned s p 2 d ≡ d) back_one back_other e inside;
      least = λ k low back. longer k low (λ is. at_both (λ d. turned s p 1 d ≡ d → ⊥) (λ f. omega (arith, f, one)) (λ f. omega (arith, f, other)) e inside (subst (λ n. turned s p n e ≡ e) is back));
    }
  where
    longer : (k : ℕ) → 1 ≤ k → (k ≡ 1 → ⊥) → 2 ≤ k
    longer zero low other = absurd (omega (arith, low))
    longer (suc zero) low other = absurd (other refl)
    longer (suc (suc k)) low other = omega arith

-- the involutions of a pair
abbrev left : Pair → ℕ → ℕ → ℕ → ℕ
left Tile x y z = x
left Vertex x y z = y
left Edge x y z = x

abbrev right : Pair → ℕ → ℕ → ℕ → ℕ
right Tile x y z = y
right Vertex x y z = z
right Edge x y z = z

period_tile : (x y z a b c d e : ℕ) → IsChamber (two x y z a b c d) e → IsPeriod (two x y z a b c d) Tile e (period x y)
period_tile zero zero z a b c d e h = once (two zero zero z a b c d) Tile refl refl refl e h
period_tile zero (suc y) z a b c d e h = twice (two zero (suc y) z a b c d) Tile refl refl refl refl refl e h
period_tile (suc x) zero z a b c d e h = twice (two (suc x) zero z a b c d) Tile refl refl refl refl refl e h
period_tile (suc x) (suc y) z a b c d e h = once (two (suc x) (suc y) z a b c d) Tile refl refl refl e h

period_vertex : (x y z a b c d e : ℕ) → IsChamber (two x y z a b c d) e → IsPeriod (two x y z a b c d) Vertex e (period y z)
period_vertex x zero zero a b c d e h = once (two x zero zero a b c d) Vertex refl refl refl e h
period_vertex x zero (suc z) a b c d e h = twice (two x zero (suc z) a b c d) Vertex refl refl refl refl refl e h
period_vertex x (suc y) zero a b c d e h = twice (two x (suc y) zero a b c d) Vertex refl refl refl refl refl e h
period_vertex x (suc y) (suc z) a b c d e h = once (two x (suc y) (suc z) a b c d) Vertex refl refl refl e h

edge_back : (x y z a b c d e : ℕ) → IsChamber (two x y z a b c d) e → turned (two x y z a b c d) Edge 2 e ≡ e
edge_back zero y zero a b c d e h = at_both (λ g. turned (two zero y zero a b c d) Edge 2 g ≡ g) refl refl e h
edge_back zero y (suc z) a b c d e h = at_both (λ g. turned (two zero y (suc z) a b c d) Edge 2 g ≡ g) refl refl e h
edge_back (suc x) y zero a b c d e h = at_both (λ g. turned (two (suc x) y zero a b c d) Edge 2 g ≡ g) refl refl e h
edge_back (suc x) y (suc z) a b c d e h = at_both (λ g. turned (two (suc x) y (suc z) a b c d) Edge 2 g ≡ g) refl refl e h

-- ## Degrees

-- The degrees of a pair at both chambers are multiples of its turns, and equal if one of its involutions exchanges the chambers.
pub record AreDegrees (x y a b : ℕ) : Type 0 where
  pub first_value : ℕ
  pub second_value : ℕ
  pub first_is : first_value * period x y ≡ a
  pub second_is : second_value * period x y ≡ b
  pub first_some : 1 ≤ a
  pub second_some : 1 ≤ b
  pub same : 1 ≤ x + y → a ≡ b

along : (x a b : ℕ) → (1 ≤ x → a ≡ b) → (e : ℕ) → (1 ≤ e) × (e ≤ 2) → item (a ∷ b ∷ []) (item (flip x) e) ≡ item (a ∷ b ∷ []) e
along zero a b same e h = at_both (λ g. item (a ∷ b ∷ []) (item (flip zero) g) ≡ item (a ∷ b ∷ []) g) refl refl e h
along (suc x) a b same e h = at_both (λ g. item (a ∷ b ∷ []) (item (flip (suc x)) g) ≡ item (a ∷ b ∷ []) g) (sym (same (omega arith))) (same (omega arith)) e h

tile_degree : (x y z a b c d e : ℕ) → AreDegrees x y a b → IsChamber (two x y z a b c d) e → HasDegree (two x y z a b c d) Tile e
tile_degree x y z a b c d e m h =
    let s = two x y z a b c d in
    let same = m.same in
    record {
      positive = at_both (λ g. 1 ≤ item (a ∷ b ∷ []) g) m.first_some m.second_some e h;
      along_first = along x a b (λ low. same (omega (arith, low))) e h;
      along_second = along y a b (λ low. same (omega (arith, low))) e h;
      turns = at_both (λ g. IsChamber s g → turned s Tile (item (a ∷ b ∷ []) g) g ≡ g)
          (λ i. subst (λ n. turned s Tile n 1 ≡ 1) m.first_is (turned-mul s Tile (period x y) 1 (period_tile x y z a b c d 1 i).fixed m.first_value))
          (λ i. subst (λ n. turned s Tile n 2 ≡ 2) m.second_is (turned-mul s Tile (period x y) 2 (period_tile x y z a b c d 2 i).fixed m.second_value))
          e h h;
    }

vertex_degree : (x y z a b c d e : ℕ) → AreDegrees y z c d → IsChamber (two x y z a b c d) e → HasDegree (two x y z a b c d) Vertex e
vertex_degree x y z a b c d e m h =
    let s = two x y z a b c d in
    let same = m.same in
    record {
      positive = at_both (λ g. 1 ≤ item (c ∷ d ∷ []) g) m.first_some m.second_some e h;
      along_first = along y c d (λ low. same (omega (arith, low))) e h;
      along_second = along z c d (λ low. same (omega (arith, low))) e h;
      turns = at_both (λ g. IsChamber s g → turned s Vertex (item (c ∷ d ∷ []) g) g ≡ g)
          (λ i. subst (λ n. turned s Vertex n 1 ≡ 1) m.first_is (turned-mul s Vertex (period y z) 1 (period_vertex x y z a b c d 1 i).fixed m.first_value))
          (λ i. subst (λ n. turned s Vertex n 2 ≡ 2) m.second_is (turned-mul s Vertex (period y z) 2 (period_vertex x y z a b c d 2 i).fixed m.second_value))
          e h h;
    }

pub two_symbol : (x y z a b c d : ℕ) → AreDegrees x y a b → AreDegrees y z c d → IsSymbol (two x y z a b c d)
two_symbol x y z a b c d tiles vertices = record {
  table = two_table x y z a b c d;
  degrees = λ p e h. elim p as (λ q. HasDegree (two x y z a b c d) q e) [
    | Tile ↦ tile_degree x y z a b c d e tiles h
    | Vertex ↦ vertex_degree x y z a b c d e vertices h
    | Edge ↦ record { positive = omega arith; along_first = refl; along_second = refl; turns = edge_back x y z a b c d e h }
  ];
}

pub turns_tile : (x y z a b c d e : ℕ) → IsChamber (two x y z a b c d) e → IsLeastTurns (two x y z a b c d) Tile e (period x y)
turns_tile x y z a b c d e h =
    let s = two x y z a b c d in IsLeastTurns-from_period s (two_table x y z a b c d).involutions Tile e (period x y) h (period_tile x y z a b c d e h)

pub turns_vertex : (x y z a b c d e : ℕ) → IsChamber (two x y z a b c d) e → IsLeastTurns (two x y z a b c d) Vertex e (period y z)
turns_vertex x y z a b c d e h =
    let s = two x y z a b c d in IsLeastTurns-from_period s (two_table x y z a b c d).involutions Vertex e (period y z) h (period_vertex x y z a b c d e h)

-- ## One piece

-- some involution exchanges the chambers
abbrev pub joined : ℕ → ℕ → ℕ → Bool
joined zero zero zero = false
joined zero zero (suc z) = true
joined zero (suc y) z = true
joined (suc x) y z = true

reached_by : (s : Symbol) (i : Index) → op s i 1 ≡ 2 → (d : ℕ) → (1 ≤ d) × (d ≤ 2) → IsReached s d
reached_by s i leads d h = at_both (IsReached s) (record { word = []; leads = refl }) (record { word = i ∷ []; leads = leads }) d h

pub two_connected : (x y z a b c d : ℕ) → joined x y z ≡ true → Connected (two x y z a b c d)
two_connected zero zero zero a b c d e = absurd (cc)
two_connected zero zero (suc z) a b c d e = reached_by (two zero zero (suc z) a b c d) Two refl
two_connected zero (suc y) z a b c d e = reached_by (two zero (suc y) z a b c d) One refl
two_connected (suc x) y z a b c d e = reached_by (two (suc x) y z a b c d) Zero refl

stays : (a b c d : ℕ) (w : Word) → act (two zero zero zero a b c d) w 1 ≡ 1
stays a b c d [] = refl
stays a b c d (Zero ∷ w) = stays a b c d w
stays a b c d (One ∷ w) = stays a b c d w
stays a b c d (Two ∷ w) = stays a b c d w

pub two_joined : (x y z a b c d : ℕ) → Connected (two x y z a b c d) → joined x y z ≡ true
two_joined zero zero zero a b c d con =
    let r = con 2 (omega arith, omega arith) in
    let e = sym (stays a b c d r.word) ∙ r.leads in absurd (omega (arith, e))
two_joined zero zero (suc z) a b c d con = refl
two_joined zero (suc y) z a b c d con = refl
two_joined (suc x) y z a b c d con = refl

-- ## The other numbering

abbrev exchange : List ℕ
exchange = 2 ∷ 1 ∷ []

exchange_bijection : IsBijection 2 exchange
exchange_bijection = record {
  images = refl;
  inverse = exchange;
  inverse_images = refl;
  left = record { within = λ d low high. at_both (λ e. (1 ≤ item exchange e) × (item exchange e ≤ 2)) (omega arith, omega arith) (omega arith, omega arith) d (low, high); undone = λ d low high. at_both (λ e. item exchange (item exchange e) ≡ e) refl refl d (low, high) };
  right = record { within = λ d low high. at_both (λ e. (1 ≤ item exchange e) × (item exchange e ≤ 2)) (omega arith, omega arith) (omega arith, omega arith) d (low, high); undone = λ d low high. at_both (λ e. item exchange (item exchange e) ≡ e) refl refl d (low, high) };
}

abbrev pub mirror : Symbol → Symbol
mirror s = renumbered s exchange exchange

-- A bijection of two chambers fixes both or exchanges them, so only one other code is to be compared.
pub two_least : (x y z a b c d : ℕ) → (let s = two x y z a b c d in code_cmp s (mirror s) ≢ Greater → Least s)
unfolding exchange_bijection
two_least x y z a b c d low t it (f, iso) =
    let s = two x y z a b c d in
    let table = two_table x y z a b c d in
    let size : t.size ≡ 2 = iso.size in
    let one : IsChamber s 1 = (omega arith, omega arith) in
    let other : IsChamber s 2 = (omega arith, omega arith) in
    let w1 = iso.morphism.within 1 one in
    let w2 = iso.morphism.within 2 other in
    let apart : item f 1 ≡ item f 2 → ⊥ = λ e. let same = injective s t f iso 1 2 one other e in omega (arith, same) in
    ⊎_elim
    (λ fixed.
    let also : item f 2 ≡ 2 = two_or f w2.0 (w2.1) size (λ e. apart (fixed ∙ sym e)) in
    let same : s ≡ t = same_by_fixed_map s t f table it.table iso (at_both (λ e. item f e ≡ e) fixed also) in
    subst (λ u. code_cmp s u ≢ Greater) same (λ e. let tied = tied_itself code_cmp_total s in (cc)))
    (λ moved.
    let to : item f 1 ≡ 2 = two_or_first f w1.0 w1.1 size moved in
    let back : item f 2 ≡ 1 = one_or f w2.0 w2.1 size (λ e. apart (to ∙ sym e)) in
    let map : f ≡ exchange =
    same_items f exchange 2 iso.bijection.images refl (λ e l h. at_both (λ g. item f g ≡ item exchange g) to back e (l, omega (arith, h))) in
    let same : mirror s ≡ t =
    same_by_map s (mirror s) t exchange (renumbered_isomorphism s exchange exchange_bijection) (subst (IsIsomorphism s t) map iso)
    (renumbered_lengths s exchange exchange)
    (record { lengths = it.table.lengths; m01_length = it.table.m01_length; m12_length = it.table.m12_length }) in
    subst (λ u. code_cmp s u ≢ Greater) same low)
    (cases_eq (item f 1) 1)
  where
    two_or : (f : List ℕ) → 1 ≤ item f 2 → item f 2 ≤ t.size → t.size ≡ 2 → (item f 2 ≡ 1 → ⊥) → item f 2 ≡ 2
    two_or f low high size other = omega (arith, low, high, size, other)

    two_or_first : (f : List ℕ) → 1 ≤ item f 1 → item f 1 ≤ t.size → t.size ≡ 2 → (item f 1 ≡ 1 → ⊥) → item f 1 ≡ 2
    two_or_first f low high size other = omega (arith, low, high, size, other)

    one_or : (f : List ℕ) → 1 ≤ item f 2 → item f 2 ≤ t.size → t.size ≡ 2 → (item f 2 ≡ 2 → ⊥) → item f 2 ≡ 1
    one_or f low high size other = omega (arith, low, high, size, other)

-- If the other code is smaller, the symbol is not least.
pub two_not_least : (x y z a b c d : ℕ) → (let s = two x y z a b c d in IsSymbol s → code_cmp s (mirror s) ≡ Greater → Least s → ⊥)
unfolding exchange_bijection
two_not_least x y z a b c d is above least =
    let s = two x y z a b c d in
    let iso = renumbered_isomorphism s exchange exchange_bijection in
    least (mirror s) (copy_is_symbol s (mirror s) is (renumbered_table s exchange is.table exchange_bijection) (exchange, iso)) (exchange, iso) above

-- ## Each symbol of two chambers is one of these

record IsListOfTwo (xs : List ℕ) : Type 0 where
  pub first : ℕ
  pub second : ℕ
  pub is : xs ≡ first ∷ second ∷ []

list_of_two : (xs : List ℕ) → length xs ≡ 2 → IsListOfTwo xs
list_of_two [] e = absurd (omega (arith, e))
list_of_two (x ∷ []) e = absurd (omega (arith, e))
list_of_two (x ∷ y ∷ []) e = record { first = x; second = y; is = refl }
list_of_two (x ∷ y ∷ z ∷ xs) e = absurd (omega (arith, e))

record IsFlip (xs : List ℕ) : Type 0 where
  pub bit : ℕ
  pub few : bit < 2
  pub is : xs ≡ flip bit

flip_of_two : (x y : ℕ) → (1 ≤ x) × (x ≤ 2) → (1 ≤ y) × (y ≤ 2) → (let xs = x ∷ y ∷ [] in item xs (item xs 1) ≡ 1 → item xs (item xs 2) ≡ 2 → IsFlip xs)
flip_of_two x y hx hy one other =
    at_both (λ u. item (u ∷ y ∷ []) (item (u ∷ y ∷ []) 1) ≡ 1 → item (u ∷ y ∷ []) (item (u ∷ y ∷ []) 2) ≡ 2 → IsFlip (u ∷ y ∷ []))
    (at_both (λ v. item (1 ∷ v ∷ []) (item (1 ∷ v ∷ []) 1) ≡ 1 → item (1 ∷ v ∷ []) (item (1 ∷ v ∷ []) 2) ≡ 2 → IsFlip (1 ∷ v ∷ []))
    (λ e f. absurd (omega (arith, f)))
    (λ e f. record { bit = 0; few = omega arith; is = refl })
    y hy)
    (at_both (λ v. item (2 ∷ v ∷ []) (item (2 ∷ v ∷ []) 1) ≡ 1 → item (2 ∷ v ∷ []) (item (2 ∷ v ∷ []) 2) ≡ 2 → IsFlip (2 ∷ v ∷ []))
    (λ e f. record { bit = 1; few = omega arith; is = refl })
    (λ e f. absurd (omega (arith, e)))
    y hy)
    x hx one other

flip_of_list : (xs : List ℕ) → IsListOfTwo xs → ((d : ℕ) → (1 ≤ d) × (d ≤ 2) → (1 ≤ item xs d) × (item xs d ≤ 2)) → ((d : ℕ) → (1 ≤ d) × (d ≤ 2) → item xs (item xs d) ≡ d) → IsFlip xs
flip_of_list xs l within back =
    let one : (1 ≤ 1) × (1 ≤ 2) = (omega arith, omega arith) in
    let other : (1 ≤ 2) × (2 ≤ 2) = (omega arith, omega arith) in
    let w = subst (λ ys. (d : ℕ) → (1 ≤ d) × (d ≤ 2) → (1 ≤ item ys d) × (item ys d ≤ 2)) l.is within in
    let b = subst (λ ys. (d : ℕ) → (1 ≤ d) × (d ≤ 2) → item ys (item ys d) ≡ d) l.is back in
    subst IsFlip (sym l.is) (flip_of_two l.first l.second (w 1 one) (w 2 other) (b 1 one) (b 2 other))

flip_of : (s : Symbol) → IsTable s → s.size ≡ 2 → (i : Index) → IsFlip (operation s i)
flip_of s is e i =
    let inside : (d : ℕ) → (1 ≤ d) × (d ≤ 2) → IsChamber s d = λ d h. (h.0, let high = h.1 in omega (arith, high, e)) in
    let v = is.involutions i in
    flip_of_list (operation s i) (list_of_two (operation s i) (is.lengths i ∙ e))
    (λ d h. let w = v.within d (inside d h) in (w.0, let high = w.1 in omega (arith, high, e)))
    (λ d h. v.involutive d (inside d h))

pub record IsTwo (s : Symbol) : Type 0 where
  pub x : ℕ
  pub y : ℕ
  pub z : ℕ
  pub a : ℕ
  pub b : ℕ
  pub c : ℕ
  pub d : ℕ
  pub x_few : x < 2
  pub y_few : y < 2
  pub z_few : z < 2
  pub is : s ≡ two x y z a b c d

pub two_shape : (s : Symbol) → IsTable s → s.size ≡ 2 → IsTwo s
two_shape s is e =
    let x = flip_of s is e Zero in
    let y = flip_of s is e One in
    let z = flip_of s is e Two in
    let m = list_of_two s.m01 (is.m01_length ∙ e) in
    let k = list_of_two s.m12 (is.m12_length ∙ e) in
    record {
      x = x.bit;
      y = y.bit;
      z = z.bit;
      a = m.first;
      b = m.second;
      c = k.first;
      d = k.second;
      x_few = x.few;
      y_few = y.few;
      z_few = z.few;
      is = same_fields s (two x.bit y.bit z.bit m.first m.second k.first k.second) e x.is y.is z.is m.is k.is;
    }
