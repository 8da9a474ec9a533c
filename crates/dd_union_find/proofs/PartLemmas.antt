-- Nodes are joined, part by part.
use Rattle.std.proofs.Common.{◌≡◌, ◌≢◌, ℕ, zero, suc, ◌+◌, ◌-◌, ◌<◌, ◌≤◌, ◌⊎◌, List, [], ◌∷◌, ◌++◌, length, get_or, set, refl, sym, ap, ◌∙◌, subst, ⊎_elim, arith}
use Rattle.std.proofs.lemmas.Bool.{cases_lt, cases_eq}
use Rattle.std.proofs.lemmas.List.{get_or-set_same, get_or-set_other, length-set}
use Rattle.dd_union_find.specs.Parts.{IsFalling, IsLevel, AreInOnePart, HaveSameParts, AreJoinedAt, AreJoinedAlong}

-- ## The head of a part

abbrev climb : List ℕ → ℕ → ℕ → ℕ
climb above zero n = n
climb above (suc k) n = climb above k (get_or above n 0)

-- who climbs as many steps as its number is at the head
abbrev root : List ℕ → ℕ → ℕ
root above n = climb above n n

stays : (above : List ℕ) (k n : ℕ) → get_or above n 0 ≡ n → climb above k n ≡ n
stays above zero n at = refl
stays above (suc k) n at = ap (climb above k) at ∙ stays above k n at

-- further steps lead nowhere
enough : (above : List ℕ) → IsFalling above → (k n : ℕ) → n ≤ k → climb above (suc k) n ≡ climb above k n
enough above falls zero n low =
    let down = falls n in
    let top : n ≡ 0 = omega arith in
    omega arith
enough above falls (suc k) n low =
    let down = falls n in
    ⊎_elim
    (λ at. stays above (suc (suc k)) n at ∙ sym (stays above (suc k) n at))
    (λ moves. enough above falls k (get_or above n 0) (omega arith))
    (cases_eq (get_or above n 0) n)

steps_more : (above : List ℕ) → IsFalling above → (j n : ℕ) → climb above (j + n) n ≡ root above n
steps_more above falls zero n = ap (λ k. climb above k n) (let e : 0 + n ≡ n = omega arith in e)
steps_more above falls (suc j) n =
    ap (λ k. climb above k n) (let e : suc j + n ≡ suc (j + n) = omega arith in e) ∙ enough above falls (j + n) n (omega arith) ∙ steps_more above falls j n

root_above : (above : List ℕ) → IsFalling above → (n : ℕ) → root above (get_or above n 0) ≡ root above n
root_above above falls n = by_number n refl where
  by_number : (m : ℕ) → m ≡ n → root above (get_or above n 0) ≡ root above n
  by_number zero e =
      let down = falls n in
      ap (root above) (let same : get_or above n 0 ≡ n = omega arith in same)
  by_number (suc m) e =
      let down = falls n in
      ⊎_elim
      (λ at. ap (root above) at)
      (λ moves.
      let j = m - get_or above n 0 in
      let is : j + get_or above n 0 ≡ m = omega arith in
      sym (steps_more above falls j (get_or above n 0)) ∙ ap (λ k. climb above k (get_or above n 0)) is ∙ ap (λ k. climb above k n) e)
      (cases_eq (get_or above n 0) n)

root_level : (above : List ℕ) → IsFalling above → IsLevel above (root above)
root_level above falls n inside = root_above above falls n

root_of_head : (above : List ℕ) (n : ℕ) → get_or above n 0 ≡ n → root above n ≡ n
root_of_head above n at = stays above n n at

-- ## Each node a part of its own

pub beyond : (above : List ℕ) (n : ℕ) → length above ≤ n → get_or above n 0 ≡ 0
beyond [] n high = refl
beyond (x ∷ above) zero high = absurd (omega arith)
beyond (x ∷ above) (suc n) high = beyond above n (omega arith)

-- ## A node is put below another one

put_falls : (above : List ℕ) (p q : ℕ) → IsFalling above → p < length above → q ≤ p → IsFalling (set above p q)
put_falls above p q falls inside low n =
    ⊎_elim
    (λ same. let e = ap (λ m. get_or (set above p q) m 0) same ∙ get_or-set_same above p q 0 inside in omega arith)
    (λ other. let e = get_or-set_other above p n q 0 other in let down = falls n in omega arith)
    (cases_eq n p)

-- level there, if the two nodes have one value
put_level : (above : List ℕ) (p q : ℕ) (h : ℕ → ℕ) → p < length above → h q ≡ h p → IsLevel above h → IsLevel (set above p q) h
put_level above p q h inside same level n low =
    ⊎_elim
    (λ e. ap h (ap (λ m. get_or (set above p q) m 0) e ∙ get_or-set_same above p q 0 inside) ∙ same ∙ ap h (sym e))
    (λ other. ap h (get_or-set_other above p n q 0 other) ∙ level n (let long = length-set above p q in omega arith))
    (cases_eq n p)

-- level before, if the node's old value is that of the one above
put_before : (above : List ℕ) (p q : ℕ) (h : ℕ → ℕ) → h (get_or above p 0) ≡ h p → IsLevel (set above p q) h → IsLevel above h
put_before above p q h same level n low =
    ⊎_elim
    (λ e. ap (λ m. h (get_or above m 0)) e ∙ same ∙ ap h (sym e))
    (λ other. ap h (sym (get_or-set_other above p n q 0 other)) ∙ level n (let long = length-set above p q in omega arith))
    (cases_eq n p)

put_value : (above : List ℕ) (p q : ℕ) (h : ℕ → ℕ) → p < length above → IsLevel (set above p q) h → h q ≡ h p
put_value above p q h inside level = ap h (sym (get_or-set_same above p q 0 inside)) ∙ level p (let long = length-set above p q in omega arith)

-- ## Half way up

module _ (above : List ℕ) (falls : IsFalling above) (p : ℕ) (inside : p < length above) where
  abbrev up : ℕ
  up = get_or above p 0

  abbrev twice : ℕ
  twice = get_or above up 0

  pub twice_low : (twice ≤ up) × (up ≤ p)
  twice_low = (falls up, falls p)

  pub halved_falls : IsFalling (set above p twice)
  halved_falls = let low = twice_low in put_falls above p twice falls inside (omega (arith, low.0, low.1))

  pub halved_value : (h : ℕ → ℕ) → IsLevel above h → h twice ≡ h p
  halved_value h level = let low = twice_low in level up (omega (arith, low.1)) ∙ level p inside

  pub halved_parts : HaveSameParts above (set above p twice)
  halved_parts = record {
    lengths = length-set above p twice;
    to = λ h level. put_level above p twice h inside (halved_value h level) level;
    from = λ h level. ⊎_elim
        (λ at. put_before above p twice h (ap h at) level)
        (λ moves.
        let low = twice_low in
        let there : h twice ≡ h up = ap h (sym (get_or-set_other above p up twice 0 moves)) ∙ level up (let long = length-set above p twice in omega (arith, low.1)) in
        put_before above p twice h (sym there ∙ put_value above p twice h inside level) level)
        (cases_eq up p);
  }

  pub halved_heads : up ≢ p → (n : ℕ) → get_or above n 0 ≡ n → get_or (set above p twice) n 0 ≡ n
  halved_heads moves n head = get_or-set_other above p n twice 0 (λ e. moves (subst (λ m. get_or above m 0 ≡ m) e head)) ∙ head

pub same_parts : (above : List ℕ) → HaveSameParts above above
same_parts above = record { lengths = refl; to = λ h level. level; from = λ h level. level }

pub parts_along : (one two three : List ℕ) → HaveSameParts one two → HaveSameParts two three → HaveSameParts one three
parts_along one two three a b = record {
  lengths = b.lengths ∙ a.lengths;
  to = λ h level. b.to h (a.to h level);
  from = λ h level. a.from h (b.from h level);
}

-- ## Two parts

-- the greater and the smaller of two numbers
abbrev pub AreOrdered : ℕ → ℕ → ℕ → ℕ → Type 0
AreOrdered a b high low = (low ≤ high) × (((high ≡ a) × (low ≡ b)) ⊎ ((high ≡ b) × (low ≡ a)))

module _ (zeroth first second : List ℕ) (one : HaveSameParts zeroth first) (two : HaveSameParts first second) (a b x y : ℕ)
    (from_a : AreInOnePart zeroth x a) (from_b : AreInOnePart first y b) (falls : IsFalling second) (head_x : get_or second x 0 ≡ x) (head_y : get_or second y 0 ≡ y) where
  values : (h : ℕ → ℕ) → IsLevel zeroth h → (h x ≡ h a) × (h y ≡ h b)
  values h level = (from_a h level, from_b h (one.to h level))

  pub two_parts : x ≢ y → AreInOnePart zeroth a b → ⊥
  two_parts differ same =
      let h = root second in
      let level = one.from h (two.from h (root_level second falls)) in
      let v = values h level in
      differ (sym (root_of_head second x head_x) ∙ v.0 ∙ same h level ∙ sym v.1 ∙ root_of_head second y head_y)

  pub one_part : x ≡ y → AreInOnePart zeroth a b
  one_part same h level = let v = values h level in sym v.0 ∙ ap h same ∙ v.1

  module _ (high low : ℕ) (ordered : AreOrdered x y high low) (inside : high < length second) where
    head_high : get_or second high 0 ≡ high
    head_high = ⊎_elim (λ e. subst (λ n. get_or second n 0 ≡ n) (sym e.0) head_x) (λ e. subst (λ n. get_or second n 0 ≡ n) (sym e.0) head_y) ordered.1

    one_value : (h : ℕ → ℕ) → h x ≡ h y → h low ≡ h high
    one_value h same = ⊎_elim (λ e. ap h e.1 ∙ sym same ∙ ap h (sym e.0)) (λ e. ap h e.1 ∙ same ∙ ap h (sym e.0)) ordered.1

    back_value : (h : ℕ → ℕ) → h low ≡ h high → h x ≡ h y
    back_value h same = ⊎_elim (λ e. ap h (sym e.0) ∙ sym same ∙ ap h e.1) (λ e. ap h (sym e.1) ∙ same ∙ ap h e.0) ordered.1

    before : (h : ℕ → ℕ) → IsLevel (set second high low) h → IsLevel zeroth h
    before h level = one.from h (two.from h (put_before second high low h (ap h head_high) level))

    pub are_joined : AreJoinedAt zeroth a b (set second high low)
    are_joined = record {
      lengths = length-set second high low ∙ two.lengths ∙ one.lengths;
      to = λ h level same.
          let v = values h level in
          put_level second high low h inside (one_value h (v.0 ∙ same ∙ sym v.1)) (two.to h (one.to h level));
      from = before;
      joined = λ h level.
          let v = values h (before h level) in
          sym v.0 ∙ back_value h (put_value second high low h inside level) ∙ v.1;
    }

-- ## The smallest node of a part

climb_low : (above : List ℕ) → IsFalling above → (k n : ℕ) → climb above k n ≤ n
climb_low above falls zero n = omega arith
climb_low above falls (suc k) n =
    let down = falls n in
    let low = climb_low above falls k (get_or above n 0) in
    omega arith

-- no node of a head's part is smaller
pub head_smallest : (above : List ℕ) → IsFalling above → (p : ℕ) → get_or above p 0 ≡ p → (n : ℕ) → n < p → AreInOnePart above n p → ⊥
head_smallest above falls p head n less same =
    let low = climb_low above falls n n in
    let e : root above n ≡ p = same (root above) (root_level above falls) ∙ root_of_head above p head in
    omega arith

-- above a node that is no head there is a smaller one
pub smaller_above : (above : List ℕ) → IsFalling above → (p : ℕ) → p < length above → get_or above p 0 ≢ p → (n : ℕ) × (n < p) × AreInOnePart above n p
smaller_above above falls p inside moves =
    let down = falls p in
    (get_or above p 0, omega arith, λ h level. level p inside)

-- ## Two lists

pub joined_one_more : (old now new ones others : List ℕ) (n : ℕ) → AreJoinedAlong old ones others n now → AreJoinedAt now (get_or ones n 0) (get_or others n 0) new → AreJoinedAlong old ones others (n + 1) new
joined_one_more old now new ones others n before step = record {
  lengths = step.lengths ∙ before.lengths;
  to = λ h level same. step.to h (before.to h level (λ k low. same k (omega arith))) (same n (omega arith));
  from = λ h level. before.from h (step.from h level);
  joined = λ k low. ⊎_elim
      (λ early h level. before.joined k early h (step.from h level))
      (λ late. let e : n ≡ k = omega arith in subst (λ j. AreInOnePart new (get_or ones j 0) (get_or others j 0)) e step.joined)
      (cases_lt k n);
}
