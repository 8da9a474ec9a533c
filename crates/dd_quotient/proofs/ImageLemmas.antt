-- Laws on minimal images.
use Rattle.std.proofs.Common.{◌≡◌, ℕ, zero, suc, ◌+◌, ◌-◌, ◌<◌, ◌≤◌, ◌⊎◌, List, [], ◌∷◌, ◌++◌, length, refl, sym, ap, ◌∙◌, subst, inl, inr, ⊎_elim, arith}
use Rattle.std.proofs.lemmas.Bool.{cases_lt}
use Rattle.std.proofs.lemmas.List.{length-append, get_or_push, get_or_append_left}
use Rattle.std.specs.List.{Contains}
use Rattle.dd_model.specs.declared.index.Index.{Index}
use Rattle.dd_model.specs.declared.pair.Pair.{Pair}
use Rattle.dd_model.specs.declared.pair.Pair.TheVariants.{Tile, Vertex, Edge}
use Rattle.dd_model.specs.Symbol.{Symbol, IsSymbol, IsChamber, AreInvolutions, item, op, act}
use Rattle.dd_model.specs.Code.{count_from}
use Rattle.dd_model.specs.Cell.{IsBranching}
use Rattle.dd_model.specs.Isomorphic.{Undoes, IsMorphism, IsIsomorphism}
use Rattle.dd_model.specs.Minimal.{Alike, Minimal}
use Rattle.dd_model.proofs.Words.{act_within}
use Rattle.dd_model.proofs.Branching.{branching_unique}
use Rattle.dd_model.proofs.Carried.{branching-along}
use Rattle.dd_model.proofs.Codes.{same_items}
use Rattle.dd_model.proofs.Counts.{length-le_from_partners}
use Rattle.dd_model.proofs.FixedMaps.{same_by_fixed_map}
use Rattle.dd_model.proofs.Isomorphisms.{identity_isomorphism}
use Rattle.dd_model.proofs.Transport.{act-along}
use Rattle.dd_model.proofs.CountFrom.{within_count, increasing-count_from, count_contains, length-count_from, item-count_from}
use Rattle.dd_quotient.specs.MinimalImage.{IsMinimalImage, IsInOrder, IsEarlier, AreAllSmall, IsFirstTooLarge}
use Rattle.dd_quotient.proofs.OntoLemmas.{each_image}

-- ## A minimal image is minimal

-- a word and then the map, at one chamber
degrees-after : (s m : Symbol) (f : List ℕ) → AreInvolutions s → IsMorphism s m f → (d : ℕ) → IsChamber s d → (w : List Index)
    → (item m.m01 (act m w (item f d)) ≡ item s.m01 (act s w d)) × (item m.m12 (act m w (item f d)) ≡ item s.m12 (act s w d))
degrees-after s m f inv mor d h w =
    let there = act_within s inv w d h in
    let e = sym (act-along s m f inv mor w d h) in
    (ap (item m.m01) e ∙ mor.m01 (act s w d) there, ap (item m.m12) e ∙ mor.m12 (act s w d) there)

-- chambers with alike images are alike
alike_from_images : (s m : Symbol) (f : List ℕ) → AreInvolutions s → IsMorphism s m f → (d e : ℕ) → IsChamber s d → IsChamber s e → Alike m (item f d) (item f e) → Alike s d e
alike_from_images s m f inv mor d e h k alike w =
    let a = degrees-after s m f inv mor d h w in
    let b = degrees-after s m f inv mor e k w in
    (sym a.0 ∙ (alike w).0 ∙ b.0, sym a.1 ∙ (alike w).1 ∙ b.1)

pub image_minimal : (s m : Symbol) (f : List ℕ) → AreInvolutions s → IsMinimalImage s m f → Minimal m
image_minimal s m f inv is d e h k alike =
    let x = is.onto d h in
    let y = is.onto e k in
    let above : Alike m (item f x.chamber) (item f y.chamber) = λ w. rw x.leads (rw y.leads (alike w)) in
    sym x.leads
    ∙ (is.alike x.chamber y.chamber x.is_chamber y.is_chamber).1 (alike_from_images s m f inv is.morphism x.chamber y.chamber x.is_chamber y.is_chamber above)
    ∙ y.leads

-- A minimal symbol is its own minimal image.
pub image_of_minimal : (s : Symbol) → IsSymbol s → Minimal s → IsMinimalImage s s (count_from 1 s.size)
image_of_minimal s is minimal =
    let own : (d : ℕ) → IsChamber s d → item (count_from 1 s.size) d ≡ d = λ d h. item-count_from s.size d h.0 h.1 in
    record {
      symbol = is;
      morphism = (identity_isomorphism s is.table).morphism;
      onto = λ e h. record { chamber = e; is_chamber = h; leads = own e h };
      alike = λ d e h k. (
        λ same w. let equal : d ≡ e = sym (own d h) ∙ same ∙ own e k in
            (ap (λ x. item s.m01 (act s w x)) equal, ap (λ x. item s.m12 (act s w x)) equal),
        λ alike. own d h ∙ minimal d e h k alike ∙ sym (own e k),
      );
    }

-- A map that moves no chamber is in order.
pub order_of_identity : (s : Symbol) → IsInOrder s (count_from 1 s.size)
order_of_identity s d e h low below =
    let own = item-count_from s.size d h.0 h.1 in
    let high = h.1 in
    record { chamber = e; low = low; before = omega arith; leads = item-count_from s.size e low (omega arith) }

-- ## Two minimal images are isomorphic

-- a list with a property at each place from 1 to n
record AreChosen (P : ℕ → ℕ → Type 0) (n : ℕ) : Type 0 where
  pub list : List ℕ
  pub whole : length list ≡ n
  pub each : (e : ℕ) → 1 ≤ e → e ≤ n → P e (item list e)

-- finitely many choices make a list
chosen : (P : ℕ → ℕ → Type 0) (n : ℕ) → ((e : ℕ) → 1 ≤ e → e ≤ n → (x : ℕ) × P e x) → AreChosen P n
chosen P zero some = record { list = []; whole = refl; each = λ e low high. absurd (omega arith) }
chosen P (suc n) some =
    let before = chosen P n (λ e low high. some e low (omega arith)) in
    let last = some (suc n) (omega arith) (omega arith) in
    let size = before.whole in
    let longer = before.list ++ last.0 ∷ [] in
    record {
      list = longer;
      whole = length-append before.list (last.0 ∷ []) ∙ ap (λ k. k + 1) size ∙ omega arith;
      each = λ e low high. ⊎_elim
          (λ early. subst (P e) (sym (get_or_append_left before.list (last.0 ∷ []) 0 (e - 1) (omega arith))) (before.each e low (omega arith)))
          (λ late.
          let here : suc n ≡ e = omega arith in
          subst (λ x. P x (item longer x)) here (subst (P (suc n)) (sym (get_or_push before.list last.0 0 (suc n - 1) (omega arith))) last.1))
          (cases_lt e (suc n));
    }

-- a chamber of s that is sent to e by f and to x by g
record IsPartner (s : Symbol) (f g : List ℕ) (e x : ℕ) : Type 0 where
  pub chamber : ℕ
  pub is_chamber : IsChamber s chamber
  pub first : item f chamber ≡ e
  pub second : item g chamber ≡ x

turn_over : (s : Symbol) (f g : List ℕ) (e x : ℕ) → IsPartner s f g e x → IsPartner s g f x e
turn_over s f g e x p = record { chamber = p.chamber; is_chamber = p.is_chamber; first = p.second; second = p.first }

-- two minimal images make the same chambers equal
partner_unique : (s m t : Symbol) (f g : List ℕ) → IsMinimalImage s m f → IsMinimalImage s t g → (e x y : ℕ) → IsPartner s f g e x → IsPartner s f g e y → x ≡ y
partner_unique s m t f g a b e x y p q =
    sym p.second
    ∙ (b.alike p.chamber q.chamber p.is_chamber q.is_chamber).1 ((a.alike p.chamber q.chamber p.is_chamber q.is_chamber).0 (p.first ∙ sym q.first))
    ∙ q.second

-- a partner of each chamber
partners : (s m t : Symbol) (f g : List ℕ) → IsMinimalImage s m f → AreChosen (IsPartner s f g) m.size
partners s m t f g a = chosen (IsPartner s f g) m.size (λ e low high.
    let x = a.onto e (low, high) in
    (item g x.chamber, record { chamber = x.chamber; is_chamber = x.is_chamber; first = x.leads; second = refl }))

member_of_count : (n x : ℕ) → Contains (count_from 1 n) x → (1 ≤ x) × (x ≤ n)
member_of_count n x there = let w = within_count 1 n x there in let high = w.1 in (w.0, omega arith)

-- a minimal image has no more chambers than another
size-le : (s m t : Symbol) (f g : List ℕ) → IsMinimalImage s m f → IsMinimalImage s t g → m.size ≤ t.size
size-le s m t f g a b =
    let long = length-le_from_partners (IsPartner s f g) (count_from 1 m.size) (count_from 1 t.size) (increasing-count_from 1 m.size)
    (λ e here.
    let h = member_of_count m.size e here in
    let x = a.onto e h in
    let w = b.morphism.within x.chamber x.is_chamber in
    (item g x.chamber, count_contains 1 t.size (item g x.chamber) w.0 (let high = w.1 in omega arith), record { chamber = x.chamber; is_chamber = x.is_chamber; first = x.leads; second = refl }))
    (λ e e' x _ _ p q. partner_unique s t m g f b a x e e' (turn_over s f g e x p) (turn_over s f g e' x q)) in
    let lm = length-count_from 1 m.size in
    let lt = length-count_from 1 t.size in
    omega arith

-- an isomorphism of two images that goes with the maps
pub record IsBetween (s m t : Symbol) (f g : List ℕ) : Type 0 where
  pub map : List ℕ
  pub isomorphism : IsIsomorphism m t map
  pub goes_with : (d : ℕ) → IsChamber s d → item map (item f d) ≡ item g d

partners_undo : (s m t : Symbol) (f g : List ℕ) → IsMinimalImage s m f → IsMinimalImage s t g → t.size ≡ m.size
    → (h : AreChosen (IsPartner s f g) m.size) (k : AreChosen (IsPartner s g f) t.size) → Undoes m.size k.list h.list
partners_undo s m t f g a b size h k =
    let there : (e : ℕ) → 1 ≤ e → e ≤ m.size → (1 ≤ item h.list e) × (item h.list e ≤ t.size) = λ e low high.
    let p = h.each e low high in
    subst (λ x. (1 ≤ x) × (x ≤ t.size)) p.second (b.morphism.within p.chamber p.is_chamber) in
    record {
      within = λ e low high. let w = there e low high in (w.0, let top = w.1 in omega arith);
      undone = λ e low high.
          let w = there e low high in
          partner_unique s t m g f b a (item h.list e) (item k.list (item h.list e)) e
          (k.each (item h.list e) w.0 w.1) (turn_over s f g e (item h.list e) (h.each e low high));
    }

pub between : (s m t : Symbol) (f g : List ℕ) → AreInvolutions s → IsMinimalImage s m f → IsMinimalImage s t g → IsBetween s m t f g
between s m t f g inv a b =
    let low = size-le s m t f g a b in
    let high = size-le s t m g f b a in
    let size : t.size ≡ m.size = omega arith in
    let h = partners s m t f g a in
    let k = partners s t m g f b in
    let goes : (d : ℕ) → IsChamber s d → item h.list (item f d) ≡ item g d = λ d c.
    let e = a.morphism.within d c in
    partner_unique s m t f g a b (item f d) (item h.list (item f d)) (item g d) (h.each (item f d) e.0 e.1)
    (record { chamber = d; is_chamber = c; first = refl; second = refl }) in
    let left = partners_undo s m t f g a b size h k in
    let right = partners_undo s t m g f b a (sym size) k h in
    record {
      map = h.list;
      goes_with = goes;
      isomorphism = record {
        size = size;
        bijection = record {
          images = h.whole;
          inverse = k.list;
          inverse_images = k.whole ∙ size;
          left = left;
          right = subst (λ n. Undoes n h.list k.list) size right;
        };
        morphism = record {
          images = h.whole;
          within = λ e c. let w = left.within e c.0 c.1 in (w.0, let top = w.1 in omega arith);
          op = λ i e c.
              let p = h.each e c.0 c.1 in
              let d = p.chamber in
              ap (λ x. item h.list (op m i x)) (sym p.first)
              ∙ ap (item h.list) (sym (a.morphism.op i d p.is_chamber))
              ∙ goes (op s i d) ((inv i).within d p.is_chamber)
              ∙ b.morphism.op i d p.is_chamber
              ∙ ap (op t i) p.second;
          m01 = λ e c.
              let p = h.each e c.0 c.1 in
              ap (item t.m01) (sym p.second) ∙ b.morphism.m01 p.chamber p.is_chamber ∙ sym (a.morphism.m01 p.chamber p.is_chamber) ∙ ap (item m.m01) p.first;
          m12 = λ e c.
              let p = h.each e c.0 c.1 in
              ap (item t.m12) (sym p.second) ∙ b.morphism.m12 p.chamber p.is_chamber ∙ sym (a.morphism.m12 p.chamber p.is_chamber) ∙ ap (item m.m12) p.first;
        };
      };
    }

-- ## Two minimal images in order are equal

-- numbers that agree so far go on with numbers of which neither is below the other
order-le : (s m t : Symbol) (f g : List ℕ) → IsMinimalImage s m f → IsMinimalImage s t g → IsInOrder s f → (d : ℕ) → IsChamber s d
    → ((x : ℕ) → 1 ≤ x → x < d → item f x ≡ item g x) → item f d ≤ item g d
order-le s m t f g a b order d h same =
    ⊎_elim
    (λ over.
    let met = order d (item g d) h (b.morphism.within d h).0 over in
    let k : IsChamber s met.chamber = (met.low, let low = met.before in let high = h.1 in omega arith) in
    let there = (b.alike met.chamber d k h).0 (sym (same met.chamber met.low met.before) ∙ met.leads) in
    let equal : item f met.chamber ≡ item f d = (a.alike met.chamber d k h).1 there in
    let leads = met.leads in
    absurd (omega arith))
    (λ under. under)
    (cases_lt (item g d) (item f d))

-- so all numbers agree
order-same : (s m t : Symbol) (f g : List ℕ) → IsMinimalImage s m f → IsMinimalImage s t g → IsInOrder s f → IsInOrder s g
    → (n : ℕ) → n ≤ s.size → (d : ℕ) → 1 ≤ d → d ≤ n → item f d ≡ item g d
order-same s m t f g a b of og zero few d low high = absurd (omega arith)
order-same s m t f g a b of og (suc n) few d low high =
    let before = order-same s m t f g a b of og n (omega arith) in
    ⊎_elim
    (λ early. before d low (omega arith))
    (λ late.
    let h : IsChamber s d = (low, omega arith) in
    let one = order-le s m t f g a b of d h (λ x from to. before x from (omega arith)) in
    let two = order-le s t m g f b a og d h (λ x from to. sym (before x from (omega arith))) in
    omega arith)
    (cases_lt d (suc n))

pub order-map : (s m t : Symbol) (f g : List ℕ) → IsMinimalImage s m f → IsMinimalImage s t g → IsInOrder s f → IsInOrder s g → f ≡ g
order-map s m t f g a b of og =
    same_items f g s.size a.morphism.images b.morphism.images (λ d low high. order-same s m t f g a b of og s.size (omega arith) d low (omega arith))

pub order-image : (s m t : Symbol) (f g : List ℕ) → AreInvolutions s → IsMinimalImage s m f → IsMinimalImage s t g → IsInOrder s f → IsInOrder s g → m ≡ t
order-image s m t f g inv a b of og =
    let way = between s m t f g inv a b in
    let same = order-map s m t f g a b of og in
    same_by_fixed_map m t way.map a.symbol.table b.symbol.table way.isomorphism (each_image s m f a.onto (λ e. item way.map e ≡ e) (λ d h.
    way.goes_with d h ∙ ap (λ xs. item xs d) (sym same)))

-- ## The first branching value over 30

-- two minimal images have the same branching values
pub branching-between : (s m t : Symbol) (f g : List ℕ) → AreInvolutions s → IsMinimalImage s m f → IsMinimalImage s t g
    → (p : Pair) (d v : ℕ) → IsChamber s d → IsBranching m p (item f d) v → IsBranching t p (item g d) v
branching-between s m t f g inv a b p d v h value =
    let way = between s m t f g inv a b in
    subst (λ x. IsBranching t p x v) (way.goes_with d h)
    (branching-along m t way.map a.symbol.table.involutions way.isomorphism p (item f d) v (a.morphism.within d h) value)

pub too_large_or_small : (s m t : Symbol) (f g : List ℕ) (v : ℕ) → AreInvolutions s → IsFirstTooLarge s m f v → IsMinimalImage s t g → AreAllSmall t → ⊥
too_large_or_small s m t f g v inv first b small =
    let value = branching-between s m t f g inv first.image b first.pair first.chamber v first.is_chamber first.branching in
    let few = small first.pair (item g first.chamber) v (b.morphism.within first.chamber first.is_chamber) value in
    let large = first.large in
    omega arith

-- of two places one is the earlier, or they are the same
places : (p q : Pair) (d e : ℕ) → (p ≡ Tile) ⊎ (p ≡ Vertex) → (q ≡ Tile) ⊎ (q ≡ Vertex)
    → (IsEarlier p d q e ⊎ IsEarlier q e p d) ⊎ ((p ≡ q) × (d ≡ e))
places Tile Tile d e _ _ =
    ⊎_elim (λ below. inl (inl below)) (λ above. ⊎_elim (λ over. inl (inr over)) (λ same. inr (refl, omega arith)) (cases_lt e d)) (cases_lt d e)
places Vertex Vertex d e _ _ =
    ⊎_elim (λ below. inl (inl below)) (λ above. ⊎_elim (λ over. inl (inr over)) (λ same. inr (refl, omega arith)) (cases_lt e d)) (cases_lt d e)
places Tile Vertex d e _ _ = inl (inl tt)
places Vertex Tile d e _ _ = inl (inr tt)
places Edge q d e none _ = ⊎_elim (λ h. absurd (cc)) (λ h. absurd (cc)) none
places Tile Edge d e _ none = ⊎_elim (λ h. absurd (cc)) (λ h. absurd (cc)) none
places Vertex Edge d e _ none = ⊎_elim (λ h. absurd (cc)) (λ h. absurd (cc)) none

-- a first value is at no earlier place than another
not_earlier : (s m t : Symbol) (f g : List ℕ) (v u : ℕ) → AreInvolutions s → (a : IsFirstTooLarge s m f v) (b : IsFirstTooLarge s t g u)
    → IsEarlier a.pair a.chamber b.pair b.chamber → ⊥
not_earlier s m t f g v u inv a b earlier =
    let value = branching-between s m t f g inv a.image b.image a.pair a.chamber v a.is_chamber a.branching in
    let few = b.first a.pair a.chamber v a.is_chamber earlier value in
    let large = a.large in
    omega arith

pub too_large_unique : (s m t : Symbol) (f g : List ℕ) (v u : ℕ) → AreInvolutions s → IsFirstTooLarge s m f v → IsFirstTooLarge s t g u → v ≡ u
too_large_unique s m t f g v u inv a b =
    ⊎_elim
    (λ other. ⊎_elim
    (λ earlier. absurd (not_earlier s m t f g v u inv a b earlier))
    (λ later. absurd (not_earlier s t m g f u v inv b a later))
    other)
    (λ same.
    let value = branching-between s m t f g inv a.image b.image a.pair a.chamber v a.is_chamber a.branching in
    branching_unique t b.pair (item g b.chamber) v u (subst (λ d. IsBranching t b.pair (item g d) v) same.1 (subst (λ p. IsBranching t p (item g a.chamber) v) same.0 value)) b.branching)
    (places a.pair b.pair a.chamber b.chamber a.tile_or_vertex b.tile_or_vertex)
