-- The form of a torus: it is one, each symmetry keeps it, and it is positive definite.
use Rattle.std.proofs.Common.{◌≡◌, ℕ, zero, suc, ◌<◌, List, [], ◌∷◌, length, map, get_or, ℤ, pos, negsuc, ◌+ℤ◌, ◌-ℤ◌, ◌*ℤ◌, ◌≤ℤ◌, ◌<ℤ◌, refl, sym, ap, ◌∙◌, subst, arith}
use Rattle.std.proofs.lemmas.Int.{ints}
use Rattle.std.specs.List.{Contains}
use Rattle.dd_model.specs.Symbol.{Symbol, AreInvolutions, IsChamber, IsSymbol, item, op, act}
use Rattle.dd_model.specs.Code.{count_from}
use Rattle.dd_model.specs.Isomorphic.{IsIsomorphism}
use Rattle.dd_model.specs.Connected.{Connected}
use Rattle.dd_model.proofs.Bijections.{after, item-after}
use Rattle.dd_model.proofs.Codes.{same_items}
use Rattle.dd_model.proofs.CountFrom.{item-count_from}
use Rattle.dd_model.proofs.Isomorphisms.{IsIsomorphism-after, identity_isomorphism}
use Rattle.dd_model.proofs.Transport.{act-along}
use Rattle.dd_model.specs.declared.index.Index.TheVariants.{Zero}
use Rattle.dd_covers.specs.Torus.{IsTorus}
use Rattle.dd_covers.proofs.Mapped.{Contains-from_map}
use Rattle.dd_lattice.specs.NetOf.{IsNet}
use Rattle.dd_lattice.specs.declared.net.Net.{Net}
use Rattle.dd_lattice.proofs.Rings.{at, nat, equal, ◌⊞◌, ◌⊟◌, ◌⊠◌}
use Rattle.dd_gram.specs.Action.{IsAction}
use Rattle.dd_gram.specs.Form.{AreSymmetries, AreActions, IsGram, square, none, plus, sum_of, carried, times}
use Rattle.dd_gram.specs.Walks.{IsWalk, sum_along, image_walk}
use Rattle.dd_gram.specs.declared.forms.Gram.{Gram}
use Rattle.dd_gram.specs.declared.forms.Matrix.{Matrix}
use Rattle.dd_gram.proofs.Actions.{read, is_read, read_acts, acts_after}
use Rattle.dd_gram.proofs.Distinct.{total, same_form, without, distinct_le, same_total, total_same, total_map, distinct_map}
use Rattle.dd_gram.proofs.Homology.{HasLoop, first_loop, second_loop}

-- ## Symmetries are told by the image of chamber 1

pub symmetry_unique : (t : Symbol) → IsSymbol t → Connected t → (f g : List ℕ) → IsIsomorphism t t f → IsIsomorphism t t g → item f 1 ≡ item g 1 → f ≡ g
symmetry_unique t symbol all f g a b same =
    let inv = symbol.table.involutions in
    let one : IsChamber t 1 = (omega arith, symbol.table.chambers) in
    same_items f g t.size a.bijection.images b.bijection.images (λ d low high.
    let there = all d (low, omega arith) in
    ap (item f) (sym there.leads) ∙ act-along t t f inv a.morphism there.word 1 one
    ∙ ap (act t there.word) same
    ∙ sym (act-along t t g inv b.morphism there.word 1 one) ∙ ap (item g) there.leads)

-- what tells f after h from g after h tells f from g
pub after_apart : (t : Symbol) (f g h : List ℕ) → IsIsomorphism t t f → IsIsomorphism t t g → IsIsomorphism t t h → after f h ≡ after g h → f ≡ g
after_apart t f g h a b c same =
    same_items f g t.size a.bijection.images b.bijection.images (λ d low high.
    let back = c.bijection.inverse in
    let w = c.bijection.right.within d low (omega arith) in
    let there : item h (item back d) ≡ d = c.bijection.right.undone d low (omega arith) in
    ap (item f) (sym there) ∙ sym (item-after f h t.size (item back d) c.bijection.images w.0 w.1) ∙ ap (λ xs. item xs (item back d)) same
    ∙ item-after g h t.size (item back d) c.bijection.images w.0 w.1 ∙ ap (item g) there)

-- ## Forms carried by a matrix

carried_plus : (m : Matrix) (g h : Gram) → carried m (plus g h) ≡ plus (carried m g) (carried m h)
carried_plus m g h = same_form (carried m (plus g h)) (plus (carried m g) (carried m h)) (both m.xx m.yx m.xx m.yx g.a g.b g.c h.a h.b h.c) (both m.xx m.yx m.xy m.yy g.a g.b g.c h.a h.b h.c) (both m.xy m.yy m.xy m.yy g.a g.b g.c h.a h.b h.c)
  where
    both : (p q r s a b c a' b' c' : ℤ) → p *ℤ ((a +ℤ a') *ℤ r +ℤ (b +ℤ b') *ℤ s) +ℤ q *ℤ ((b +ℤ b') *ℤ r +ℤ (c +ℤ c') *ℤ s)
        ≡ (p *ℤ (a *ℤ r +ℤ b *ℤ s) +ℤ q *ℤ (b *ℤ r +ℤ c *ℤ s)) +ℤ (p *ℤ (a' *ℤ r +ℤ b' *ℤ s) +ℤ q *ℤ (b' *ℤ r +ℤ c' *ℤ s))
    both p q r s a b c a' b' c' =
        equal
        ((at p ⊠ (((at a ⊞ at a') ⊠ at r) ⊞ ((at b ⊞ at b') ⊠ at s))) ⊞ (at q ⊠ (((at b ⊞ at b') ⊠ at r) ⊞ ((at c ⊞ at c') ⊠ at s))))
        (((at p ⊠ ((at a ⊠ at r) ⊞ (at b ⊠ at s))) ⊞ (at q ⊠ ((at b ⊠ at r) ⊞ (at c ⊠ at s)))) ⊞ ((at p ⊠ ((at a' ⊠ at r) ⊞ (at b' ⊠ at s))) ⊞ (at q ⊠ ((at b' ⊠ at r) ⊞ (at c' ⊠ at s)))))
        (omega arith)

carried_square : (m n : Matrix) → carried n (square m) ≡ square (times m n)
carried_square m n = same_form (carried n (square m)) (square (times m n)) (one m.xx m.xy m.yx m.yy n.xx n.yx n.xx n.yx) (one m.xx m.xy m.yx m.yy n.xx n.yx n.xy n.yy) (one m.xx m.xy m.yx m.yy n.xy n.yy n.xy n.yy)
  where
    one : (a b c d p q r s : ℤ) → p *ℤ ((a *ℤ a +ℤ c *ℤ c) *ℤ r +ℤ (a *ℤ b +ℤ c *ℤ d) *ℤ s) +ℤ q *ℤ ((a *ℤ b +ℤ c *ℤ d) *ℤ r +ℤ (b *ℤ b +ℤ d *ℤ d) *ℤ s)
        ≡ (a *ℤ p +ℤ b *ℤ q) *ℤ (a *ℤ r +ℤ b *ℤ s) +ℤ (c *ℤ p +ℤ d *ℤ q) *ℤ (c *ℤ r +ℤ d *ℤ s)
    one a b c d p q r s =
        equal
        ((at p ⊠ ((((at a ⊠ at a) ⊞ (at c ⊠ at c)) ⊠ at r) ⊞ (((at a ⊠ at b) ⊞ (at c ⊠ at d)) ⊠ at s))) ⊞ (at q ⊠ ((((at a ⊠ at b) ⊞ (at c ⊠ at d)) ⊠ at r) ⊞ (((at b ⊠ at b) ⊞ (at d ⊠ at d)) ⊠ at s))))
        ((((at a ⊠ at p) ⊞ (at b ⊠ at q)) ⊠ ((at a ⊠ at r) ⊞ (at b ⊠ at s))) ⊞ (((at c ⊠ at p) ⊞ (at d ⊠ at q)) ⊠ ((at c ⊠ at r) ⊞ (at d ⊠ at s))))
        (omega arith)

carried_none : (m : Matrix) → carried m none ≡ none
carried_none m = same_form (carried m none) none (nothing m.xx m.yx m.xx m.yx) (nothing m.xx m.yx m.xy m.yy) (nothing m.xy m.yy m.xy m.yy)
  where
    nothing : (p q r s : ℤ) → p *ℤ (pos 0 *ℤ r +ℤ pos 0 *ℤ s) +ℤ q *ℤ (pos 0 *ℤ r +ℤ pos 0 *ℤ s) ≡ pos 0
    nothing p q r s = equal ((at p ⊠ ((nat 0 ⊠ at r) ⊞ (nat 0 ⊠ at s))) ⊞ (at q ⊠ ((nat 0 ⊠ at r) ⊞ (nat 0 ⊠ at s)))) (nat 0) (omega arith)

carried_total : {A : Type 0} (m : Matrix) (g : A → Gram) (xs : List A) → carried m (total g xs) ≡ total (λ x. carried m (g x)) xs
carried_total m g [] = carried_none m
carried_total m g (x ∷ xs) = carried_plus m (g x) (total g xs) ∙ ap (plus (carried m (g x))) (carried_total m g xs)

-- ## The form of a torus

module _ (t : Symbol) (torus : IsTorus t) (net : Net) (is : IsNet t net) where
  abbrev inv : AreInvolutions t
  inv = torus.symbol.table.involutions

  pub one_loop : HasLoop t torus net is (pos 1) (pos 0)
  one_loop = first_loop t torus net is

  pub two_loop : HasLoop t torus net is (pos 0) (pos 1)
  two_loop = second_loop t torus net is

  -- the matrix of each symmetry, and its square
  abbrev pub M : List ℕ → Matrix
  M = read t torus net is one_loop.walk two_loop.walk one_loop.is_loop two_loop.is_loop

  abbrev pub S : List ℕ → Gram
  S f = square (M f)

  is_M : (f : List ℕ) (m : Matrix) → IsAction t f m → m ≡ M f
  is_M = is_read t torus net is one_loop.walk two_loop.walk one_loop.is_loop two_loop.is_loop

  M_acts : (f : List ℕ) → IsIsomorphism t t f → IsAction t f (M f)
  M_acts = read_acts t torus net is one_loop.walk two_loop.walk one_loop.is_loop two_loop.is_loop

  pub sum_is : (fs : List (List ℕ)) (ms : List Matrix) → AreActions t fs ms → sum_of ms ≡ total S fs
  sum_is [] [] acts = refl
  sum_is [] (m ∷ ms) acts = absurd acts
  sum_is (f ∷ fs) [] acts = absurd acts
  sum_is (f ∷ fs) (m ∷ ms) acts = (λ i. plus (square (is_M f m acts.0 i)) (sum_is fs ms acts.1 i))

  pub unique_sum : (fs gs : List (List ℕ)) → AreSymmetries t fs → AreSymmetries t gs → total S fs ≡ total S gs
  unique_sum fs gs a b =
      let to = λ (f : List ℕ) (here : Contains fs f). (b.members f).1 ((a.members f).0 here) in
      let from = λ (f : List ℕ) (here : Contains gs f). (a.members f).1 ((b.members f).0 here) in
      let less = distinct_le fs gs a.distinct to in
      let more = distinct_le gs fs b.distinct from in
      same_total S fs gs a.distinct to (omega arith)

  -- A symmetry permutes the symmetries.
  kept : (fs : List (List ℕ)) → AreSymmetries t fs → (h : List ℕ) (n : Matrix) → IsAction t h n → carried n (total S fs) ≡ total S fs
  kept fs are h n acts =
      let each = λ (f : List ℕ) (here : Contains fs f).
      let iso = (are.members f).0 here in
      carried_square (M f) n ∙ ap square (is_M (after f h) (times (M f) n) (acts_after t torus net is f h (M f) n (M_acts f iso) acts)) in
      let others = map (λ f. after f h) fs in
      let distinct = distinct_map (λ f. after f h) fs are.distinct (λ f g hf hg same. after_apart t f g h ((are.members f).0 hf) ((are.members g).0 hg) acts.isomorphism same) in
      let within = λ (z : List ℕ) (here : Contains others z).
      let from = Contains-from_map (λ f. after f h) fs z here in
      subst (Contains fs) from.2 ((are.members (after from.0 h)).1 (IsIsomorphism-after t t t h from.0 torus.symbol.table acts.isomorphism ((are.members from.0).0 from.1))) in
      carried_total n S fs ∙ total_same (λ f. carried n (S f)) (λ f. S (after f h)) fs each ∙ sym (total_map S (λ f. after f h) fs)
      ∙ same_total S others fs distinct within (same_length (λ f. after f h) fs)
    where
      same_length : {A B : Type 0} (f : A → B) (xs : List A) → length (map f xs) ≡ length xs
      same_length f [] = refl
      same_length f (x ∷ xs) = ap suc (same_length f xs)

  pub form_kept_here : (h : List ℕ) (n : Matrix) (g : Gram) → IsGram t g → IsAction t h n → carried n g ≡ g
  form_kept_here h n g gram acts =
      let e = gram.sum ∙ sum_is gram.symmetries gram.matrices gram.are_actions in
      ap (carried n) e ∙ kept gram.symmetries gram.are_symmetries h n acts ∙ sym e

  -- ## It is positive definite

  abbrev value : Gram → ℤ → ℤ → ℤ
  value g u v = (g.a *ℤ (u *ℤ u) +ℤ g.b *ℤ (u *ℤ v +ℤ u *ℤ v)) +ℤ g.c *ℤ (v *ℤ v)

  abbrev IsPositive : Gram → Type 0
  IsPositive g = (u v : ℤ) → pos 0 ≤ℤ value g u v

  square_positive : (z : ℤ) → pos 0 ≤ℤ (z *ℤ z)
  square_positive (pos n) = omega (arith, ints)
  square_positive (negsuc n) = omega (arith, ints)

  positive_square : (m : Matrix) → IsPositive (square m)
  positive_square m u v =
      let x = m.xx *ℤ u +ℤ m.xy *ℤ v in
      let y = m.yx *ℤ u +ℤ m.yy *ℤ v in
      let p = square_positive x in
      let q = square_positive y in
      let both : value (square m) u v ≡ x *ℤ x +ℤ y *ℤ y = parts m.xx m.xy m.yx m.yy u v in
      subst (λ z. pos 0 ≤ℤ z) (sym both) (sum (x *ℤ x) (y *ℤ y) p q)
    where
      sum : (a b : ℤ) → pos 0 ≤ℤ a → pos 0 ≤ℤ b → pos 0 ≤ℤ (a +ℤ b)
      sum a b p q = omega (arith, ints)

      parts : (a b c d u v : ℤ) → ((a *ℤ a +ℤ c *ℤ c) *ℤ (u *ℤ u) +ℤ (a *ℤ b +ℤ c *ℤ d) *ℤ (u *ℤ v +ℤ u *ℤ v)) +ℤ (b *ℤ b +ℤ d *ℤ d) *ℤ (v *ℤ v)
          ≡ (a *ℤ u +ℤ b *ℤ v) *ℤ (a *ℤ u +ℤ b *ℤ v) +ℤ (c *ℤ u +ℤ d *ℤ v) *ℤ (c *ℤ u +ℤ d *ℤ v)
      parts a b c d u v =
          equal
          (((((at a ⊠ at a) ⊞ (at c ⊠ at c)) ⊠ (at u ⊠ at u)) ⊞ (((at a ⊠ at b) ⊞ (at c ⊠ at d)) ⊠ ((at u ⊠ at v) ⊞ (at u ⊠ at v)))) ⊞ (((at b ⊠ at b) ⊞ (at d ⊠ at d)) ⊠ (at v ⊠ at v)))
          ((((at a ⊠ at u) ⊞ (at b ⊠ at v)) ⊠ ((at a ⊠ at u) ⊞ (at b ⊠ at v))) ⊞ (((at c ⊠ at u) ⊞ (at d ⊠ at v)) ⊠ ((at c ⊠ at u) ⊞ (at d ⊠ at v))))
          (omega arith)

  positive_plus : (g h : Gram) → IsPositive g → IsPositive h → IsPositive (plus g h)
  positive_plus g h a b u v =
      let p = a u v in
      let q = b u v in
      subst (λ z. pos 0 ≤ℤ z) (sym (spread g.a g.b g.c h.a h.b h.c (u *ℤ u) (u *ℤ v +ℤ u *ℤ v) (v *ℤ v))) (sum (value g u v) (value h u v) p q)
    where
      sum : (a b : ℤ) → pos 0 ≤ℤ a → pos 0 ≤ℤ b → pos 0 ≤ℤ (a +ℤ b)
      sum a b p q = omega (arith, ints)

      spread : (a b c d e f x y z : ℤ) → ((a +ℤ d) *ℤ x +ℤ (b +ℤ e) *ℤ y) +ℤ (c +ℤ f) *ℤ z ≡ ((a *ℤ x +ℤ b *ℤ y) +ℤ c *ℤ z) +ℤ ((d *ℤ x +ℤ e *ℤ y) +ℤ f *ℤ z)
      spread a b c d e f x y z =
          equal ((((at a ⊞ at d) ⊠ at x) ⊞ ((at b ⊞ at e) ⊠ at y)) ⊞ ((at c ⊞ at f) ⊠ at z)) ((((at a ⊠ at x) ⊞ (at b ⊠ at y)) ⊞ (at c ⊠ at z)) ⊞ (((at d ⊠ at x) ⊞ (at e ⊠ at y)) ⊞ (at f ⊠ at z))) (omega arith)

  positive_none : IsPositive none
  positive_none u v = let e = zero_times (u *ℤ u) (u *ℤ v +ℤ u *ℤ v) (v *ℤ v) in omega (arith, ints)
    where
      zero_times : (x y z : ℤ) → (pos 0 *ℤ x +ℤ pos 0 *ℤ y) +ℤ pos 0 *ℤ z ≡ pos 0
      zero_times x y z = equal (((nat 0 ⊠ at x) ⊞ (nat 0 ⊠ at y)) ⊞ (nat 0 ⊠ at z)) (nat 0) (omega arith)

  positive_total : (fs : List (List ℕ)) → IsPositive (total S fs)
  positive_total [] = positive_none
  positive_total (f ∷ fs) = positive_plus (S f) (total S fs) (positive_square (M f)) (positive_total fs)

  abbrev own : List ℕ
  own = count_from 1 t.size

  still : (x : ℕ → ℤ) (a b : ℕ) (walk : List ℕ) → IsWalk t a walk b → sum_along x (image_walk own walk) ≡ sum_along x walk
  still x a b [] goes = refl
  still x a b (d ∷ ds) goes =
      let here = ap x (item-count_from t.size d goes.0.0 goes.0.1) in
      let rest = still x (op t Zero d) b ds goes.2 in
      λ i. here i +ℤ rest i

  -- no motion acts by the unit matrix
  own_square : S own ≡ record { a = pos 1; b = pos 0; c = pos 1 }
  own_square =
      let c1 = one_loop.is_loop.closed in
      let c2 = two_loop.is_loop.closed in
      let xx = still is.first c1.start c1.start one_loop.walk c1.goes ∙ one_loop.is_loop.along_x in
      let yx = still is.second c1.start c1.start one_loop.walk c1.goes ∙ one_loop.is_loop.along_y in
      let xy = still is.first c2.start c2.start two_loop.walk c2.goes ∙ two_loop.is_loop.along_x in
      let yy = still is.second c2.start c2.start two_loop.walk c2.goes ∙ two_loop.is_loop.along_y in
      λ i. square (record { xx = xx i; xy = xy i; yx = yx i; yy = yy i })

  pub record IsOneMore (g : Gram) : Type 0 where
    pub rest : Gram
    pub positive : IsPositive rest
    pub sum : g ≡ plus (record { a = pos 1; b = pos 0; c = pos 1 }) rest

  one_more : (g : Gram) → IsGram t g → IsOneMore g
  one_more g gram =
      let fs = gram.symmetries in
      let w = without fs own ((gram.are_symmetries.members own).1 (identity_isomorphism t torus.symbol.table)) in
      record {
        rest = total S w.rest;
        positive = positive_total w.rest;
        sum = gram.sum ∙ sum_is fs gram.matrices gram.are_actions ∙ w.sum S ∙ ap (λ s. plus s (total S w.rest)) own_square;
      }

  pub positive_here : (g : Gram) → IsGram t g → pos 0 <ℤ g.a
  positive_here g gram =
      let m = one_more g gram in
      let at_1 = m.positive (pos 1) (pos 0) in
      let e = ap (λ (h : Gram). h.a) m.sum in
      let plain = simple m.rest.a m.rest.b m.rest.c in
      omega (arith, ints)
    where
      simple : (a b c : ℤ) → (a *ℤ (pos 1 *ℤ pos 1) +ℤ b *ℤ (pos 1 *ℤ pos 0 +ℤ pos 1 *ℤ pos 0)) +ℤ c *ℤ (pos 0 *ℤ pos 0) ≡ a
      simple a b c = equal (((at a ⊠ (nat 1 ⊠ nat 1)) ⊞ (at b ⊠ ((nat 1 ⊠ nat 0) ⊞ (nat 1 ⊠ nat 0)))) ⊞ (at c ⊠ (nat 0 ⊠ nat 0))) (at a) (omega arith)

  pub definite_here : (g : Gram) → IsGram t g → (g.b *ℤ g.b) <ℤ (g.a *ℤ g.c)
  definite_here g gram =
      let m = one_more g gram in
      let p = m.rest.a in
      let q = m.rest.b in
      let r = m.rest.c in
      let a = pos 1 +ℤ p in
      let c = pos 1 +ℤ r in
      let ea = ap (λ (h : Gram). h.a) m.sum in
      let eb : g.b ≡ q = ap (λ (h : Gram). h.b) m.sum ∙ plain q in
      let ec = ap (λ (h : Gram). h.c) m.sum in
      let some = positive_here g gram in
      let here = m.positive q (pos 0 -ℤ a) in
      let turned = rearranged p q r in
      let sizes = square_positive q in
      let own_size = square_positive a in
      let positive_a : pos 0 <ℤ a = subst (λ z. pos 0 <ℤ z) ea some in
      let product : pos 0 <ℤ (a *ℤ (a *ℤ c -ℤ q *ℤ q)) = above a q (a *ℤ (a *ℤ c -ℤ q *ℤ q)) positive_a sizes (subst (λ z. pos 0 ≤ℤ z) turned here) in
      let difference = positive_factor a (a *ℤ c -ℤ q *ℤ q) positive_a product in
      let less : (q *ℤ q) <ℤ (a *ℤ c) = more (q *ℤ q) (a *ℤ c) difference in
      subst (λ z. (z *ℤ z) <ℤ (g.a *ℤ g.c)) (sym eb) (subst (λ z. (q *ℤ q) <ℤ (z *ℤ g.c)) (sym ea) (subst (λ z. (q *ℤ q) <ℤ (a *ℤ z)) (sym ec) less))
    where
      plain : (q : ℤ) → pos 0 +ℤ q ≡ q
      plain q = omega (arith, ints)

      rearranged : (p q r : ℤ) → (p *ℤ (q *ℤ q) +ℤ q *ℤ (q *ℤ (pos 0 -ℤ (pos 1 +ℤ p)) +ℤ q *ℤ (pos 0 -ℤ (pos 1 +ℤ p)))) +ℤ r *ℤ ((pos 0 -ℤ (pos 1 +ℤ p)) *ℤ (pos 0 -ℤ (pos 1 +ℤ p)))
          ≡ ((pos 1 +ℤ p) *ℤ ((pos 1 +ℤ p) *ℤ (pos 1 +ℤ r) -ℤ q *ℤ q) -ℤ q *ℤ q) -ℤ (pos 1 +ℤ p) *ℤ (pos 1 +ℤ p)
      rearranged p q r =
          equal
          (((at p ⊠ (at q ⊠ at q)) ⊞ (at q ⊠ ((at q ⊠ (nat 0 ⊟ (nat 1 ⊞ at p))) ⊞ (at q ⊠ (nat 0 ⊟ (nat 1 ⊞ at p)))))) ⊞ (at r ⊠ ((nat 0 ⊟ (nat 1 ⊞ at p)) ⊠ (nat 0 ⊟ (nat 1 ⊞ at p)))))
          ((((nat 1 ⊞ at p) ⊠ (((nat 1 ⊞ at p) ⊠ (nat 1 ⊞ at r)) ⊟ (at q ⊠ at q))) ⊟ (at q ⊠ at q)) ⊟ ((nat 1 ⊞ at p) ⊠ (nat 1 ⊞ at p)))
          (omega arith)

      above : (a q z : ℤ) → pos 0 <ℤ a → pos 0 ≤ℤ (q *ℤ q) → pos 0 ≤ℤ ((z -ℤ q *ℤ q) -ℤ a *ℤ a) → pos 0 <ℤ z
      above a q z some size here = let own_size = square_above a some in omega (arith, ints)
        where
          square_above : (a : ℤ) → pos 0 <ℤ a → pos 0 <ℤ (a *ℤ a)
          square_above (pos zero) h = omega (arith, ints)
          square_above (pos (suc n)) h = omega (arith, ints)
          square_above (negsuc n) h = omega (arith, ints)

      positive_factor : (a z : ℤ) → pos 0 <ℤ a → pos 0 <ℤ (a *ℤ z) → pos 0 <ℤ z
      positive_factor (pos n) (pos zero) h k = let e = zero_right (pos n) in omega (arith, ints)
        where
          zero_right : (a : ℤ) → a *ℤ pos 0 ≡ pos 0
          zero_right a = equal (at a ⊠ nat 0) (nat 0) (omega arith)
      positive_factor (pos n) (pos (suc m)) h k = omega (arith, ints)
      positive_factor (pos n) (negsuc m) h k = omega (arith, ints)
      positive_factor (negsuc n) z h k = omega (arith, ints)

      more : (a b : ℤ) → pos 0 <ℤ (b -ℤ a) → a <ℤ b
      more a b h = omega (arith, ints)

-- ## The laws

pub form_kept : (t : Symbol) (f : List ℕ) (m : Matrix) (g : Gram) → IsGram t g → IsAction t f m → carried m g ≡ g
form_kept t f m g gram acts = form_kept_here t acts.torus acts.net acts.is_net f m g gram acts

-- some symmetry has a matrix, and with it a net
some_action : (t : Symbol) → IsTorus t → (fs : List (List ℕ)) (ms : List Matrix) → AreActions t fs ms → (f : List ℕ) → Contains fs f → (m : Matrix) × IsAction t f m
some_action t torus fs ms acts f here = at_place fs ms acts here.0 here.1 here.2
  where
    at_place : (fs : List (List ℕ)) (ms : List Matrix) → AreActions t fs ms → (k : ℕ) → k < length fs → get_or fs k f ≡ f → (m : Matrix) × IsAction t f m
    at_place [] ms acts k low at = absurd (omega arith)
    at_place (g ∷ fs) [] acts k low at = absurd acts
    at_place (g ∷ fs) (m ∷ ms) acts zero low at = (m, subst (λ h. IsAction t h m) at acts.0)
    at_place (g ∷ fs) (m ∷ ms) acts (suc k) low at = at_place fs ms acts.1 k (omega arith) at

own_action : (t : Symbol) → IsTorus t → (g : Gram) → IsGram t g → (m : Matrix) × IsAction t (count_from 1 t.size) m
own_action t torus g gram = some_action t torus gram.symmetries gram.matrices gram.are_actions (count_from 1 t.size) ((gram.are_symmetries.members (count_from 1 t.size)).1 (identity_isomorphism t torus.symbol.table))

pub form_unique : (t : Symbol) (g h : Gram) → IsTorus t → IsGram t g → IsGram t h → g ≡ h
form_unique t g h torus a b =
    let acts = (own_action t torus g a).1 in
    a.sum ∙ sum_is t torus acts.net acts.is_net a.symmetries a.matrices a.are_actions
    ∙ unique_sum t torus acts.net acts.is_net a.symmetries b.symmetries a.are_symmetries b.are_symmetries
    ∙ sym (b.sum ∙ sum_is t torus acts.net acts.is_net b.symmetries b.matrices b.are_actions)

pub form_positive : (t : Symbol) (g : Gram) → IsTorus t → IsGram t g → pos 0 <ℤ g.a
form_positive t g torus gram = let acts = (own_action t torus g gram).1 in positive_here t torus acts.net acts.is_net g gram

pub form_definite : (t : Symbol) (g : Gram) → IsTorus t → IsGram t g → (g.b *ℤ g.b) <ℤ (g.a *ℤ g.c)
form_definite t g torus gram = let acts = (own_action t torus g gram).1 in definite_here t torus acts.net acts.is_net g gram
