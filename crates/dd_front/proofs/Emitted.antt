-- What is emitted of the first entry.
use Rattle.std.proofs.Common.{◌≡◌, ℕ, ◌+◌, ◌<◌, Option, Some, None, IfNone, IfSome, List, ◌∷◌, ◌++◌, length, get_or, take, drop, refl, sym, ap, ◌∙◌, subst, arith}
use Rattle.std.proofs.lemmas.List.{length-take, drop_more, take-append-drop}
use Rattle.dd_model.specs.Symbol.{Symbol}
use Rattle.dd_model.specs.Lists.{IsWithout}
use Rattle.dd_model.specs.Position.{IsBefore}
use Rattle.dd_model.proofs.Without.{without_unique, without_all}
use Rattle.dd_model.proofs.Lists.{each_of}
use Rattle.dd_front.specs.declared.entry.Entry.{Entry}
use Rattle.dd_front.specs.Machine.{Machine}
use Rattle.dd_front.specs.Allowed.{HasFirst, MayPart}
use Rattle.dd_front.specs.Step.{Emits, EmitsPart, at_symbol}
use Rattle.dd_front.specs.Taken.{BeginsDone, BeginsNotDone, IsLeft, HaveSmallCodes, IsPositionIn}
use Rattle.dd_front.specs.Invariant.{AreInOrder}
use Rattle.dd_front.proofs.Replaced.{all-map}
use Rattle.dd_front.proofs.SmallCodes.{small_code}
use Rattle.dd_model.specs.Code.{code}
use Rattle.dd_model.specs.Request.{IsValid}
use Rattle.dd_model.specs.Wanted.{IsMember}
use Rattle.std.specs.List.{AllByRecursion}
use Rattle.dd_model.specs.declared.jobs.Position.{Position}
use Rattle.dd_front.proofs.Telling.{first_of, begins_of, one_first}

pub emits_from : (f g : Machine) (es rest : List Entry) (list : List Symbol) (k : ℕ) → es ≡ f.entries → BeginsDone es list rest → IsWithout (IsBefore f.from) list (drop k list)
    → g ≡ record f { entries = rest; lines = f.lines + length (drop k list) } → Emits f g (drop k list)
emits_from f g es rest list k e begins without after = record {
  list = list;
  first = record { number = begins.number; job = begins.job; rest = rest; entries = sym e ∙ begins.entries };
  not_before = without;
  after = after;
}

-- the same, told of machines that are equal
pub emits_where : {m f g : Machine} (rest : List Entry) (list emitted : List Symbol) (k lines : ℕ) → m ≡ f → BeginsDone m.entries list rest → IsWithout (IsBefore m.from) list (drop k list)
    → emitted ≡ drop k list → lines ≡ m.lines + length emitted → g ≡ record m { entries = rest; lines = lines } → Emits f g emitted
emits_where {m} {f} {g} rest list emitted k lines same begins without is counted after =
    let count : lines ≡ m.lines + length (drop k list) = counted ∙ ap (λ ss. m.lines + length ss) is in
    let e : g ≡ record m { entries = rest; lines = m.lines + length (drop k list) } = subst (λ n. g ≡ record m { entries = rest; lines = n }) count after in
    subst (λ n. Emits n g emitted) same (subst (Emits m g) (sym is) (emits_from m g m.entries rest list k refl begins without e))

-- no entry is first and done where the entries do not begin so
pub none_first : (f : Machine) (es : List Entry) → es ≡ f.entries → BeginsNotDone es → (list : List Symbol) → ¬ HasFirst f list
none_first f es e not list first = not list first.rest (begins_of f es list e first)

-- an emission that is allowed has members
pub emitted_where : (f g : Machine) (found : Option (List Symbol)) → IfNone found ((list : List Symbol) → ¬ HasFirst f list) → IfSome found (λ list. Emits f g list)
    → (list : List Symbol) × HasFirst f list → (emitted : List Symbol) × Emits f g emitted
emitted_where f g None none some first = absurd (none first.0 first.1)
emitted_where f g (Some list) none some first = (list, some)

-- the members that are left
pub left_of : (f : Machine) (es rest : List Entry) (list left : List Symbol) (k : ℕ) → es ≡ f.entries → BeginsDone es list rest → IsWithout (IsBefore f.from) list (drop k list)
    → AreInOrder f.request list → IsValid f.request → left ≡ drop k list → IsLeft f left
left_of f es rest list left k e begins without order valid is =
    let each = all-map (IsMember f.request) (λ s. AllByRecursion (λ n. n < 256) (code s)) list (λ s member. small_code f.request s valid member) order.members in
    record {
      list = list;
      first = first_of f es list rest e begins;
      not_before = subst (IsWithout (IsBefore f.from) list) (sym is) without;
      small = subst HaveSmallCodes (sym is) (without_all (IsBefore f.from) (λ s. AllByRecursion (λ n. n < 256) (code s)) list (drop k list) without each);
    }

pub part_room : (f : Machine) (left : List Symbol) (count : ℕ) → IsLeft f left → MayPart f count → count < length left
part_room f left count is may =
    let same : may.list ≡ is.list = one_first f may.list is.list may.done is.first in
    let later : may.later ≡ left = without_unique (IsBefore f.from) is.list may.later left (subst (λ ss. IsWithout (IsBefore f.from) ss may.later) same may.not_before) is.not_before in
    let more = may.more in
    omega (arith, ap length later)

pub parts_from : (f g : Machine) (left part : List Symbol) (next : Symbol) (count : ℕ) → IsLeft f left → count < length left → next ≡ get_or left count next → part ≡ take count left
    → g ≡ record f { from = at_symbol next; lines = f.lines + count } → EmitsPart f count g part
parts_from f g left part next count is low read taken after = record {
  list = is.list;
  first = is.first;
  next = next;
  rest = drop (count + 1) left;
  not_before =
      let parts : part ++ next ∷ drop (count + 1) left ≡ left =
      ap (λ ss. ss ++ next ∷ drop (count + 1) left) taken
      ∙ ap (λ s. take count left ++ s ∷ drop (count + 1) left) read
      ∙ ap (λ ss. take count left ++ ss) (sym (drop_more left count next low)) ∙ take-append-drop count left in
      subst (IsWithout (IsBefore f.from) is.list) (sym parts) is.not_before;
  count = ap length taken ∙ simp length-take (omega arith);
  after = after;
}

-- the code of one of them has small numbers
pub small_at : (left : List Symbol) (i : ℕ) (s : Symbol) → HaveSmallCodes left → i < length left → s ≡ get_or left i s → AllByRecursion (λ n. n < 256) (code s)
small_at left i s small low read = each_of (λ t. AllByRecursion (λ n. n < 256) (code t)) left s small (i, low, sym read)

-- the same, told of a machine that is equal
pub left_where : {m f : Machine} (rest : List Entry) (list left : List Symbol) (k : ℕ) → m ≡ f → BeginsDone m.entries list rest → IsWithout (IsBefore m.from) list (drop k list)
    → AreInOrder m.request list → IsValid m.request → left ≡ drop k list → IsLeft f left
left_where {m} {f} rest list left k same begins without order valid is =
    subst (λ n. IsLeft n left) same (left_of m m.entries rest list left k refl begins without order valid is)

-- a part of what is left, told of machines that are equal
pub parts_where : {m f g : Machine} (left part : List Symbol) (from : Position) (count lines : ℕ) → m ≡ f → IsLeft f left → MayPart f count → IsPositionIn left count from
    → part ≡ take count left → lines ≡ m.lines + count → g ≡ record m { from = from; lines = lines } → EmitsPart f count g part
parts_where {m} {f} {g} left part from count lines same is may at taken counted after =
    let P : Machine → Type 0 = λ n. IsLeft n left → MayPart n count → EmitsPart n count g part in
    let there : P m = λ left_is may_part.
    let e : g ≡ record m { from = at_symbol at.member; lines = lines } = subst (λ p. g ≡ record m { from = p; lines = lines }) at.is after in
    let e' : g ≡ record m { from = at_symbol at.member; lines = m.lines + count } = subst (λ n. g ≡ record m { from = at_symbol at.member; lines = n }) counted e in
    parts_from m g left part at.member count left_is (part_room m left count left_is may_part) at.read taken e' in
    subst P same there is may
