-- The two sheets of a symbol are oriented, and of one piece unless the symbol is oriented.
use Rattle.std.proofs.Common.{◌≡◌, ℕ, zero, suc, ◌+◌, ◌-◌, ◌*◌, ◌%◌, ◌<◌, ◌≤◌, ◌⊎◌, Bool, true, false, not, leb, List, [], ◌∷◌, ◌++◌, length, map, replicate, refl, sym, ap, ◌∙◌, subst, inl, inr, ⊎_elim, arith}
use Rattle.std.proofs.lemmas.Bool.{cases_Bool, le-leb, lt-leb, false_from_ne_true}
use Rattle.std.proofs.lemmas.List.{get_or-map, length-replicate}
use Rattle.dd_model.specs.declared.index.Index.{Index}
use Rattle.dd_model.specs.declared.pair.Pair.{Pair}
use Rattle.dd_model.specs.Symbol.{Symbol, AreInvolutions, IsChamber, IsSymbol, Word, item, op, act, power, turn, degree}
use Rattle.dd_model.specs.Code.{chambers, count_from}
use Rattle.dd_model.specs.Connected.{IsReached, Connected}
use Rattle.dd_model.specs.Small.{IsSmallSymbol}
use Rattle.dd_model.specs.Isomorphic.{IsMorphism}
use Rattle.dd_model.proofs.CountFrom.{length-count_from, item-count_from}
use Rattle.dd_model.proofs.Words.{act-append, act_within, backwards, act-backwards}
use Rattle.dd_model.proofs.Lists.{ones_at}
use Rattle.dd_cells.specs.Orientation.{IsOriented, color}
use Rattle.dd_covers.specs.TorusCover.{sum_along}
use Rattle.dd_covers.specs.Sheets.{sheets_of, below_sheets}
use Rattle.dd_covers.specs.Shifts.{shifts_by, shift, AreOnes, AreBelow}
use Rattle.dd_covers.specs.declared.shifts.Shifts.{Shifts}
use Rattle.dd_symbol.specs.Building.{IsConnectedSymbol}
use Rattle.dd_cells.proofs.ColoringLemmas.{by_index}
use Rattle.dd_covers.specs.OrientedCover.{next_sheet, two_sheets}
use Rattle.dd_covers.proofs.Trees.{Step, is_met, IsWhole, whole_tree, met_along, met_first, reached_from_met}
use Rattle.dd_covers.proofs.SheetLemmas.{AreJoining, in_sheets, op_in, act_in, mod_sum, mod_round, sheet_below, symbol-sheets, morphism-sheets, shifts_same}
use Rattle.dd_covers.proofs.BelowLemmas.{small_above}

-- ## Colors told by a function

pub color_of : (c : ℕ → Bool) (n d : ℕ) → 1 ≤ d → d ≤ n → color (map c (count_from 1 n)) d ≡ c d
color_of c n d low high =
    let inside : d - 1 < length (count_from 1 n) = let e = length-count_from 1 n in omega arith in
    get_or-map c (count_from 1 n) (d - 1) 0 false inside ∙ ap c (item-count_from n d low high)

no_change : (b : Bool) → b ≡ not b → ⊥
no_change true e = cc
no_change false e = cc

-- a symbol is oriented where a function tells two colors that each involution exchanges
pub oriented_by : (s : Symbol) → AreInvolutions s → (c : ℕ → Bool) → ((i : Index) (d : ℕ) → IsChamber s d → c (op s i d) ≡ not (c d)) → IsOriented s
oriented_by s inv c exchanged = record {
  free = λ i d h fixed. no_change (c d) (sym (ap c fixed) ∙ exchanged i d h);
  colors = map c (chambers s);
  exchanged = λ i d h.
      let there = (inv i).within d h in
      color_of c s.size (op s i d) there.0 there.1 ∙ exchanged i d h ∙ ap not (sym (color_of c s.size d h.0 h.1));
}

-- ## Two sheets are a symbol

pub twice : (s : Symbol) (p : Pair) (m d : ℕ) → sum_along s next_sheet (power (turn p) m) d ≡ 2 * m
twice s p zero d = refl
twice s p (suc m) d = let rest = twice s p m (act s (turn p) d) in omega arith

pub even : (m : ℕ) → (2 * m) % 2 ≡ 0
even m = grind arith

joining_two : (s : Symbol) → AreJoining s 2 next_sheet
joining_two s = record {
  some = omega arith;
  undone = λ i d h. refl;
  round = λ p d h. ap (λ z. z % 2) (twice s p (degree s p d) d) ∙ even (degree s p d);
}

pub symbol_of_two : (s : Symbol) → IsSymbol s → IsSymbol (two_sheets s)
symbol_of_two s is = symbol-sheets s is 2 next_sheet (joining_two s)

pub small_of_two : (s : Symbol) → IsSmallSymbol s → s.size ≤ 8192 → IsSmallSymbol (two_sheets s)
small_of_two s is few =
    small_above (two_sheets s) s (below_sheets s 2) (symbol_of_two s is.symbol) is (morphism-sheets s is.symbol 2 next_sheet) (omega arith)

-- ## They are oriented

sheet_colors : (s : Symbol) → AreInvolutions s → (i : Index) (d a : ℕ) → IsChamber s d → a < 2
    → leb (op (two_sheets s) i (d + a * s.size)) s.size ≡ not (leb (d + a * s.size) s.size)
sheet_colors s inv i d zero h below =
    let there = (inv i).within d h in
    let e : op s i d + 1 * s.size ≡ op s i d + s.size = omega arith in
    ap (λ z. leb z s.size) (op_in s 2 next_sheet i d 0 h below ∙ e)
    ∙ lt-leb (op s i d + s.size) s.size (omega (arith, there.0))
    ∙ ap not (sym (le-leb (d + 0 * s.size) s.size (omega (arith, h.1))))
sheet_colors s inv i d (suc zero) h below =
    let there = (inv i).within d h in
    let e : op s i d + 0 * s.size ≡ op s i d = omega arith in
    ap (λ z. leb z s.size) (op_in s 2 next_sheet i d 1 h below ∙ e)
    ∙ le-leb (op s i d) s.size there.1
    ∙ ap not (sym (lt-leb (d + 1 * s.size) s.size (omega (arith, h.0))))
sheet_colors s inv i d (suc (suc a)) h below = absurd (omega arith)

pub two_are_oriented : (s : Symbol) → IsSymbol s → IsOriented (two_sheets s)
two_are_oriented s is =
    oriented_by (two_sheets s) (symbol_of_two s is).table.involutions (λ e. leb e s.size)
    (λ i e h. in_sheets s 2 (λ c. leb (op (two_sheets s) i c) s.size ≡ not (leb c s.size)) (λ d a. sheet_colors s is.table.involutions i d a) e h.0 h.1)

-- ## They are of one piece, or the symbol is oriented

-- a word that leads between two chambers
pub record Leads (s : Symbol) (d e : ℕ) : Type 0 where
  pub word : Word
  pub leads : act s word d ≡ e

pub leads_between : (s : Symbol) → AreInvolutions s → Connected s → (d e : ℕ) → IsChamber s d → IsChamber s e → Leads s d e
leads_between s inv all d e hd he =
    let a = all d hd in
    let b = all e he in
    let one : IsChamber s 1 = (omega arith, omega (arith, hd.0, hd.1)) in
    record {
      word = backwards a.word ++ b.word;
      leads = act-append s (backwards a.word) b.word d
          ∙ ap (act s b.word) (ap (act s (backwards a.word)) (sym a.leads) ∙ act-backwards s inv a.word 1 one)
          ∙ b.leads;
    }

-- a chamber is met in one of the two sheets
met_in_one : (s : Symbol) → AreInvolutions s → Connected s → 1 ≤ s.size → (xs : List Step) → IsWhole (two_sheets s) xs → (d : ℕ) → IsChamber s d
    → (is_met xs (d + 0 * s.size) ≡ true) ⊎ (is_met xs (d + 1 * s.size) ≡ true)
met_in_one s inv all some xs whole d h =
    let there = all d h in
    let start : 1 + 0 * s.size ≡ 1 = omega arith in
    let b = (0 + sum_along s next_sheet there.word 1) % 2 in
    let along = act_in s inv 2 next_sheet there.word 1 0 (omega arith, some) (omega arith) in
    let met = met_along (two_sheets s) xs whole there.word (1 + 0 * s.size) (subst (λ z. is_met xs z ≡ true) (sym start) (met_first xs)) in
    let at : is_met xs (d + b * s.size) ≡ true = subst (λ z. is_met xs z ≡ true) (along ∙ ap (λ z. z + b * s.size) there.leads) met in
    which b (sheet_below 0 (sum_along s next_sheet there.word 1) 2 (omega arith)) at where
      which : (b : ℕ) → b < 2 → is_met xs (d + b * s.size) ≡ true → (is_met xs (d + 0 * s.size) ≡ true) ⊎ (is_met xs (d + 1 * s.size) ≡ true)
      which zero below m = inl m
      which (suc zero) below m = inr m
      which (suc (suc b)) below m = absurd (omega arith)

-- where one chamber is met in both sheets, all are
met_in_both : (s : Symbol) → AreInvolutions s → Connected s → (xs : List Step) → IsWhole (two_sheets s) xs → (c : ℕ) → IsChamber s c
    → ((a : ℕ) → a < 2 → is_met xs (c + a * s.size) ≡ true) → (d a : ℕ) → IsChamber s d → a < 2 → is_met xs (d + a * s.size) ≡ true
met_in_both s inv all xs whole c hc both d a h below =
    let there = leads_between s inv all c d hc h in
    let sum = sum_along s next_sheet there.word c in
    let b = (a + sum) % 2 in
    let inside = sheet_below a sum 2 below in
    let along = act_in s inv 2 next_sheet there.word c b hc inside in
    let met = met_along (two_sheets s) xs whole there.word (c + b * s.size) (both b inside) in
    let e : a + sum + sum ≡ a + 2 * sum = omega arith in
    let back : (b + sum) % 2 ≡ a = mod_sum (a + sum) sum 2 ∙ ap (λ z. z % 2) e ∙ mod_round a (2 * sum) 2 below (even sum) in
    subst (λ z. is_met xs z ≡ true) (along ∙ ap (λ z. z + (b + sum) % 2 * s.size) there.leads ∙ ap (λ z. d + z * s.size) back) met

-- Where something is not met, the sheet in which a chamber is met tells two colors.
met_colors : (s : Symbol) → AreInvolutions s → Connected s → 1 ≤ s.size → (xs : List Step) → IsWhole (two_sheets s) xs
    → ((d : ℕ) → IsChamber s d → is_met xs (d + 0 * s.size) ≡ true → is_met xs (d + 1 * s.size) ≡ true → ⊥)
    → (i : Index) (d : ℕ) → IsChamber s d → is_met xs (op s i d + 0 * s.size) ≡ not (is_met xs (d + 0 * s.size))
met_colors s inv all some xs whole apart i d h =
    let t = two_sheets s in
    let there = (inv i).within d h in
    ⊎_elim
    (λ here.
    let beside : is_met xs (op s i d + 1 * s.size) ≡ true =
    subst (λ z. is_met xs z ≡ true) (op_in s 2 next_sheet i d 0 h (omega arith)) (whole.closed (d + 0 * s.size) i here) in
    false_from_ne_true (is_met xs (op s i d + 0 * s.size)) (λ both. apart (op s i d) there both beside) ∙ ap not (sym here))
    (λ other.
    let above : is_met xs (d + 1 * s.size) ≡ true =
    ⊎_elim (λ here. absurd (cc)) (λ m. m) (met_in_one s inv all some xs whole d h) in
    subst (λ z. is_met xs z ≡ true) (op_in s 2 next_sheet i d 1 h (omega arith)) (whole.closed (d + 1 * s.size) i above)
    ∙ ap not (sym other))
    (cases_Bool (is_met xs (d + 0 * s.size)))

oriented_if_not_met : (s : Symbol) → AreInvolutions s → Connected s → 1 ≤ s.size → (xs : List Step) → IsWhole (two_sheets s) xs
    → (e : ℕ) → IsChamber (two_sheets s) e → is_met xs e ≡ false → IsOriented s
oriented_if_not_met s inv all some xs whole e h out =
    let apart : (d : ℕ) → IsChamber s d → is_met xs (d + 0 * s.size) ≡ true → is_met xs (d + 1 * s.size) ≡ true → ⊥ = λ d hd one two.
    let met : is_met xs e ≡ true =
    in_sheets s 2 (λ c. is_met xs c ≡ true) (λ c a hc below. met_in_both s inv all xs whole d hd (both d one two) c a hc below) e h.0 h.1 in
    absurd (cc) in
    oriented_by s inv (λ d. is_met xs (d + 0 * s.size)) (met_colors s inv all some xs whole apart) where
      both : (d : ℕ) → is_met xs (d + 0 * s.size) ≡ true → is_met xs (d + 1 * s.size) ≡ true → (a : ℕ) → a < 2 → is_met xs (d + a * s.size) ≡ true
      both d one two zero below = one
      both d one two (suc zero) below = two
      both d one two (suc (suc a)) below = absurd (omega arith)

pub two_are_connected : (s : Symbol) → IsSymbol s → Connected s → ¬ IsOriented s → Connected (two_sheets s)
two_are_connected s is all not_oriented e h =
    let t = two_sheets s in
    let it = symbol_of_two s is in
    let tree = whole_tree t it.table.involutions it.table.chambers in
    ⊎_elim
    (λ met. reached_from_met t tree.steps it.table.involutions tree.whole.tree e met)
    (λ out. absurd (not_oriented (oriented_if_not_met s is.table.involutions all is.table.chambers tree.steps tree.whole e h out)))
    (cases_Bool (is_met tree.steps e))

-- ## Whether a symbol is oriented can be decided

odd_after : (n : ℕ) → n % 2 ≡ 0 → (1 + n) % 2 ≡ 1
odd_after n even = grind arith

even_after : (n : ℕ) → n % 2 ≡ 1 → (1 + n) % 2 ≡ 0
even_after n odd = grind arith

not_not : (b : Bool) → not (not b) ≡ b
not_not true = refl
not_not false = refl

-- A walk ends at the color of its start after an even number of steps, and else at the other color.
color_along : (s : Symbol) → AreInvolutions s → (oriented : IsOriented s) (w : Word) (d : ℕ) → IsChamber s d
    → ((sum_along s next_sheet w d % 2 ≡ 0) × (color oriented.colors (act s w d) ≡ color oriented.colors d))
    ⊎ ((sum_along s next_sheet w d % 2 ≡ 1) × (color oriented.colors (act s w d) ≡ not (color oriented.colors d)))
color_along s inv oriented [] d h = inl (refl, refl)
color_along s inv oriented (i ∷ w) d h =
    let sum = sum_along s next_sheet w (op s i d) in
    ⊎_elim
    (λ even. inr (odd_after sum even.0, even.1 ∙ oriented.exchanged i d h))
    (λ odd. inl (even_after sum odd.0, odd.1 ∙ ap not (oriented.exchanged i d h) ∙ not_not (color oriented.colors d)))
    (color_along s inv oriented w (op s i d) ((inv i).within d h))

-- In an oriented symbol no walk leads from chamber 1 to the same chamber of the other sheet.
apart_if_oriented : (s : Symbol) → IsSymbol s → IsOriented s → IsReached (two_sheets s) (1 + 1 * s.size) → ⊥
apart_if_oriented s is oriented there =
    let inv = is.table.involutions in
    let one : IsChamber s 1 = (omega arith, is.table.chambers) in
    let end = act s there.word 1 in
    let sum = sum_along s next_sheet there.word 1 in
    let inside = act_within s inv there.word 1 one in
    let start : 1 + 0 * s.size ≡ 1 = omega arith in
    let plain : 0 + sum ≡ sum = omega arith in
    let at : end + sum % 2 * s.size ≡ 1 + 1 * s.size =
    ap (λ z. end + z % 2 * s.size) (sym plain) ∙ sym (act_in s inv 2 next_sheet there.word 1 0 one (omega arith))
    ∙ ap (act (two_sheets s) there.word) start ∙ there.leads in
    ⊎_elim
    (λ even.
    let far : end + 0 * s.size ≡ 1 + 1 * s.size = ap (λ z. end + z * s.size) (sym even.0) ∙ at in
    absurd (omega (arith, inside.1)))
    (λ odd.
    let far : end + 1 * s.size ≡ 1 + 1 * s.size = ap (λ z. end + z * s.size) (sym odd.0) ∙ at in
    let same : end ≡ 1 = omega arith in
    no_change (color oriented.colors 1) (ap (color oriented.colors) (sym same) ∙ odd.1))
    (color_along s inv oriented there.word 1 one)

pub decide_oriented : (s : Symbol) → IsSymbol s → Connected s → IsOriented s ⊎ (¬ IsOriented s)
decide_oriented s is all =
    let t = two_sheets s in
    let it = symbol_of_two s is in
    let tree = whole_tree t it.table.involutions it.table.chambers in
    let e = 1 + 1 * s.size in
    let some = is.table.chambers in
    let h : (1 ≤ e) × (e ≤ 2 * s.size) = (omega arith, omega arith) in
    ⊎_elim
    (λ met. inr (λ oriented. apart_if_oriented s is oriented (reached_from_met t tree.steps it.table.involutions tree.whole.tree e met)))
    (λ out. inl (oriented_if_not_met s is.table.involutions all is.table.chambers tree.steps tree.whole e h out))
    (cases_Bool (is_met tree.steps e))

-- ## Shifts that are kept as ones

pub are_ones : (s : Symbol) (x : Shifts) (n : ℕ) → n ≡ s.size → x.x0.items ≡ replicate n 1 → x.x1.items ≡ replicate n 1 → x.x2.items ≡ replicate n 1 → AreOnes s x
are_ones s x n size a b c =
    let ones : (i : Index) → shifts_by x i ≡ replicate n 1 = by_index (λ i. shifts_by x i ≡ replicate n 1) a b c in
    record {
      lengths = λ i. ap length (ones i) ∙ length-replicate n 1 ∙ size;
      each = λ i d h. ap (λ xs. item xs d) (ones i) ∙ ones_at n d h.0 (omega (arith, h.1));
    }

pub below_two : (s : Symbol) (x : Shifts) → AreOnes s x → AreBelow s 2 x
below_two s x ones = record { lengths = ones.lengths; below = λ i d h. let e = ones.each i d h in omega arith }

pub two_by_ones : (s : Symbol) (x : Shifts) → AreOnes s x → sheets_of s 2 (shift x) ≡ two_sheets s
two_by_ones s x ones = shifts_same s 2 (shift x) next_sheet ones.each

pub connected_sheets : (s : Symbol) → IsSmallSymbol s → Connected s → s.size ≤ 8192 → ¬ IsOriented s → IsConnectedSymbol (two_sheets s)
connected_sheets s is all few not_oriented =
    record { symbol = small_of_two s is few; connected = two_are_connected s is.symbol all not_oriented }

pub morphism_of_two : (s : Symbol) → IsSymbol s → IsMorphism (two_sheets s) s (below_sheets s 2)
morphism_of_two s is = morphism-sheets s is 2 next_sheet
