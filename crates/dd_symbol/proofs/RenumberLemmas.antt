-- A symbol under other numbers is isomorphic, and as small.
use Rattle.std.proofs.Common.{◌≡◌, ℕ, ◌-◌, List, map, sym, ap, ◌∙◌, subst, arith}
use Rattle.std.proofs.lemmas.List.{get_or-map}
use Rattle.dd_model.specs.declared.pair.Pair.TheVariants.{Tile, Vertex}
use Rattle.dd_model.specs.declared.index.Index.{Index}
use Rattle.dd_model.specs.declared.index.Index.TheVariants.{Zero, One, Two}
use Rattle.dd_model.specs.Symbol.{Symbol, AreInvolutions, IsChamber, item, op, degree}
use Rattle.dd_model.specs.Isomorphic.{IsIsomorphism}
use Rattle.dd_model.proofs.Isomorphisms.{inverse_isomorphism}
use Rattle.dd_model.proofs.Transport.{HaveLengths, IsSymbol-along, degree-along, least_turns-along}
use Rattle.dd_model.specs.Small.{IsSmallSymbol}
use Rattle.dd_symbol.specs.Maps.{AreInverse, IsCarried}
use Rattle.dd_symbol.specs.Rows.{HasRows}
use Rattle.dd_symbol.specs.Images.{of_code, with_degrees, AreThreeInvolutions}
use Rattle.dd_symbol.proofs.TableLemmas.{op-rows, three_of_code}

pub isomorphism : (s t : Symbol) (f g : List ℕ) → AreInvolutions s → AreInverse s.size f g → t.size ≡ s.size
    → ((i : Index) (e : ℕ) → IsChamber s e → op t i e ≡ item f (op s i (item g e)))
    → ((e : ℕ) → IsChamber s e → item t.m01 e ≡ item s.m01 (item g e))
    → ((e : ℕ) → IsChamber s e → item t.m12 e ≡ item s.m12 (item g e))
    → IsIsomorphism s t f
isomorphism s t f g inv maps size ops m01 m12 = record {
  size = size;
  bijection = record { images = maps.images; inverse = g; inverse_images = maps.back_images; left = maps.left; right = maps.right };
  morphism = record {
    images = maps.images;
    within = λ d h. let w = maps.left.within d h.0 h.1 in (w.0, omega (arith, w.1, size));
    op = λ i d h. sym (ops i (item f d) (maps.left.within d h.0 h.1) ∙ ap (λ x. item f (op s i x)) (maps.left.undone d h.0 h.1));
    m01 = λ d h. m01 (item f d) (maps.left.within d h.0 h.1) ∙ ap (item s.m01) (maps.left.undone d h.0 h.1);
    m12 = λ d h. m12 (item f d) (maps.left.within d h.0 h.1) ∙ ap (item s.m12) (maps.left.undone d h.0 h.1);
  };
}

-- involutions that a map carries are involutions
pub carried_involutions : (s t : Symbol) (f g : List ℕ) → AreInvolutions s → AreInverse s.size f g → IsCarried s t f g → AreInvolutions t
carried_involutions s t f g inv maps is i = record {
  within = λ d h.
      let size = is.size in
      let e = inside d h in
      let there = maps.left.within (op s i (item g d)) ((inv i).within (item g d) e).0 ((inv i).within (item g d) e).1 in
      subst (IsChamber t) (sym (is.images i d (old d h))) (there.0, omega (arith, there.1, size));
  involutive = λ d h.
      let e = inside d h in
      let there = maps.left.within (op s i (item g d)) ((inv i).within (item g d) e).0 ((inv i).within (item g d) e).1 in
      let back : item g (op t i d) ≡ op s i (item g d) =
      ap (item g) (is.images i d (old d h)) ∙ maps.left.undone (op s i (item g d)) ((inv i).within (item g d) e).0 ((inv i).within (item g d) e).1 in
      is.images i (op t i d) (subst (IsChamber s) (sym (is.images i d (old d h))) there)
      ∙ ap (λ x. item f (op s i x)) back ∙ ap (item f) ((inv i).involutive (item g d) e) ∙ maps.right.undone d h.0 (old d h).1;
} where
  old : (d : ℕ) → IsChamber t d → IsChamber s d
  old d h = let size = is.size in (h.0, omega (arith, h.1, size))

  inside : (d : ℕ) → IsChamber t d → IsChamber s (item g d)
  inside d h = maps.right.within d h.0 (old d h).1

-- the rows that a map carries
pub carried_rows : (s : Symbol) (f g xs : List ℕ) (n : ℕ) → n ≡ s.size → HasRows (λ i e. item f (op s i (item g e))) s.size xs → IsCarried s (of_code n xs) f g
carried_rows s f g xs n size rows = record {
  size = size;
  images = λ i e h. op-rows (λ j x. item f (op s j (item g x))) n xs (subst (λ k. HasRows (λ j x. item f (op s j (item g x))) k xs) (sym size) rows) i e h.0
      (let high = h.1 in omega arith);
}

pub three_carried : (s : Symbol) (f g xs : List ℕ) (n : ℕ) → AreThreeInvolutions s → AreInverse s.size f g → n ≡ s.size
    → HasRows (λ i e. item f (op s i (item g e))) s.size xs → AreThreeInvolutions (of_code n xs)
three_carried s f g xs n three maps size rows =
    three_of_code n xs (let small = three.small in omega arith)
    (carried_involutions s (of_code n xs) f g three.involutions maps (carried_rows s f g xs n size rows))

-- a symbol with the involutions that a map carries, and the degrees in the order of the map back
pub isomorphism-carried : (s u : Symbol) (f g m01 m12 : List ℕ) → AreInvolutions s → AreInverse s.size f g → IsCarried s u f g
    → m01 ≡ map (degree s Tile) g → m12 ≡ map (degree s Vertex) g → IsIsomorphism s (with_degrees u m01 m12) f
isomorphism-carried s u f g m01 m12 inv maps carried e01 e12 =
    let long = maps.back_images in
    isomorphism s (with_degrees u m01 m12) f g inv maps carried.size
    (λ i e h. elim i as (λ j. op (with_degrees u m01 m12) j e ≡ item f (op s j (item g e))) [
      | Zero ↦ carried.images Zero e h
      | One ↦ carried.images One e h
      | Two ↦ carried.images Two e h
    ])
    (λ e h. ap (λ us. item us e) e01 ∙ get_or-map (degree s Tile) g (e - 1) 0 0 (let low = h.0 in let high = h.1 in omega arith))
    (λ e h. ap (λ us. item us e) e12 ∙ get_or-map (degree s Vertex) g (e - 1) 0 0 (let low = h.0 in let high = h.1 in omega arith))

pub small-along : (s t : Symbol) (f : List ℕ) → IsSmallSymbol s → IsIsomorphism s t f → HaveLengths t → IsSmallSymbol t
small-along s t f is iso ls =
    let it = IsSymbol-along s t f is.symbol iso ls in
    let inv = is.symbol.table.involutions in
    let back = inverse_isomorphism s t f is.symbol.table iso in
    let g = iso.bijection.inverse in
    record {
      symbol = it;
      size = let n = iso.size in let small = is.size in omega arith;
      branching = λ p e v h b.
          let there = back.morphism.within e h in
          let undone : (x : ℕ) → IsChamber t x → item f (item g x) ≡ x = λ x hx. iso_undone x hx in
          is.branching p (item g e) v there (record {
            r = b.r;
            least_turns = least_turns-along t s g f it.table.involutions inv back.morphism iso.morphism undone p e b.r h b.least_turns;
            quotient = b.quotient ∙ sym (degree-along t s g back.morphism p e h);
          });
    }
  where
    iso_undone : (x : ℕ) → IsChamber t x → item f (item iso.bijection.inverse x) ≡ x
    iso_undone x hx = iso.bijection.right.undone x hx.0 (let n = iso.size in omega (arith, hx.1))
