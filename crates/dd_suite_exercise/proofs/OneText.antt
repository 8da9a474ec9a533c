-- An exercise has one text at most.
use Rattle.std.proofs.Common.{◌≡◌, ℕ, ◌+◌, List, [], ◌∷◌, length, Some, refl, sym, ap, ◌∙◌, subst, arith, inl, inr}
use Rattle.std.specs.List.{AllByRecursion, sum_by}
use Rattle.dd_model.specs.Symbol.{Symbol, IsSymbol, IsTable}
use Rattle.dd_model.specs.Flat.{Flat}
use Rattle.dd_model.specs.Code.{IsLeastForm}
use Rattle.dd_model.specs.Isomorphic.{IsIsomorphism}
use Rattle.dd_model.specs.Reading.{IsReadable}
use Rattle.dd_model.proofs.Isomorphisms.{Isomorphic-trans}
use Rattle.dd_covers.proofs.TorusCovers.{torus_above}
use Rattle.dd_suite_commands.specs.declared.commands.SymbolCommand.{SymbolCommand}
use Rattle.dd_suite_commands.specs.declared.commands.SymbolCommand.TheVariants as command
use Rattle.dd_suite_commands.specs.Made.{IsMade}
use Rattle.dd_suite_commands.specs.Totals.{totals_of}
use Rattle.dd_suite_commands.proofs.InfoLemmas.{group_once}
use Rattle.dd_suite_commands.proofs.MadeOnce.{cover_table, made_once}
use Rattle.dd_suite_exercise.specs.declared.coverings.Covering.{Covering}
use Rattle.dd_suite_exercise.specs.declared.coverings.Covering.TheVariants as covering
use Rattle.dd_suite_exercise.specs.Choices.{change_at, changed, covering_at, IsCoverBy}
use Rattle.dd_suite_exercise.specs.Counting.{AreNew, AreGroups}
use Rattle.dd_suite_exercise.specs.Exercise.{tally_text, IsExerciseText}
use Rattle.dd_suite_exercise.specs.Items.{drawn, IsItem, after_item, AreItems}
use Rattle.dd_suite_exercise.specs.Seeds.{AreSeeds}
use Rattle.dd_suite_exercise.proofs.ChangeLemmas.{changed_twice, base_readable}
use Rattle.dd_suite_exercise.proofs.SeedLemmas.{one_list_of_seeds, seed_base}

-- the least form of a renumbered symbol is that of the symbol
form_before : (s t form : Symbol) (f : List ℕ) → IsTable s → IsIsomorphism s t f → IsLeastForm t form → IsLeastForm s form
form_before s t form f table iso least = record {
  symbol = least.symbol;
  renumbering = Isomorphic-trans s t form table (f, iso) least.renumbering;
  least = least.least;
}

-- the command that makes the least form of the same cover
command_of : Covering → SymbolCommand
command_of covering.Nothing = command.Canon
command_of covering.Oriented = command.Oriented
command_of covering.Torus = command.Torus

made_by : (c : Covering) (s cover form : Symbol) → IsReadable s → Flat s → IsCoverBy c s cover → (IsTable cover → IsLeastForm cover form) → IsMade (command_of c) s form
unfolding command_of
made_by covering.Nothing s cover form readable flat is least = subst (λ t. IsLeastForm t form) is (least (subst IsTable (sym is) readable.symbol.symbol.table))
made_by covering.Oriented s cover form readable flat is least =
    record { cover = cover; below = is.0; is_cover = is.1; least = least (cover_table s cover is.0 readable is.1) }
made_by covering.Torus s cover form readable flat is least =
    let torus = torus_above s cover is.0 readable.symbol.symbol readable.connected flat is.1 in
    record { flat = flat; cover = cover; below = is.0; is_cover = is.1; least = least torus.symbol.table }

same_some : (s t : Symbol) → Some s ≡ Some t → s ≡ t
same_some s t e = cc

-- the symbol that is covered
base_of : ℕ → Symbol → Symbol
base_of z seed = changed (change_at (drawn z 2 5)) (changed (change_at (drawn z 1 5)) seed)

item_made : (seeds : List Symbol) (z : ℕ) (form : Symbol) → AreSeeds seeds → (is : IsItem seeds z form) → IsMade (command_of (covering_at (drawn z 3 3))) (base_of z is.covers.seed) form
unfolding base_of
item_made seeds z form a is =
    let base = changed_twice (change_at (drawn z 1 5)) (change_at (drawn z 2 5)) is.covers.seed (seed_base seeds (drawn z 0 (length seeds)) is.covers.seed a is.covers.picked) in
    made_by (covering_at (drawn z 3 3)) (base_of z is.covers.seed) is.cover form (base_readable 32 _ (omega arith) base) base.flat is.covers.is_cover
    (λ table. form_before is.cover is.renumbered form _ table is.renumbers is.least)

pub item_once : (seeds : List Symbol) (z : ℕ) (s t : Symbol) → AreSeeds seeds → IsItem seeds z s → IsItem seeds z t → s ≡ t
unfolding base_of
item_once seeds z s t a x y =
    let command = command_of (covering_at (drawn z 3 3)) in
    let same : y.covers.seed ≡ x.covers.seed = same_some y.covers.seed x.covers.seed (sym y.covers.picked ∙ x.covers.picked) in
    let base = changed_twice (change_at (drawn z 1 5)) (change_at (drawn z 2 5)) x.covers.seed (seed_base seeds (drawn z 0 (length seeds)) x.covers.seed a x.covers.picked) in
    made_once command (base_of z x.covers.seed) s t (base_readable 32 _ (omega arith) base) (item_made seeds z s a x)
    (subst (λ seed. IsMade command (base_of z seed) t) same (item_made seeds z t a y))

items_once : (seeds : List Symbol) (z : ℕ) (ss ts : List Symbol) → AreSeeds seeds → length ss ≡ length ts → AreItems seeds z ss → AreItems seeds z ts → ss ≡ ts
items_once seeds z [] [] a e x y = refl
items_once seeds z [] (t ∷ ts) a e x y = absurd (omega (arith, e))
items_once seeds z (s ∷ ss) [] a e x y = absurd (omega (arith, e))
items_once seeds z (s ∷ ss) (t ∷ ts) a e x y =
    let first = item_once seeds z s t a x.0 y.0 in
    let rest = items_once seeds (after_item z s) ss ts a (omega (arith, e)) x.1 (subst (λ u. AreItems seeds (after_item z u) ts) (sym first) y.1) in
    ap (λ u. u ∷ ss) first ∙ ap (λ us. t ∷ us) rest

items_symbols : (seeds : List Symbol) (z : ℕ) (ss : List Symbol) → AreItems seeds z ss → AllByRecursion IsSymbol ss
items_symbols seeds z [] x = tt
items_symbols seeds z (s ∷ ss) x = (x.0.least.symbol, items_symbols seeds (after_item z s) ss x.1)

new_once : (before ss : List Symbol) (m n : ℕ) → AreNew before ss m → AreNew before ss n → m ≡ n
new_once before [] m n a b = a ∙ sym b
new_once before (s ∷ ss) m n (inl a) (inl b) = new_once (s ∷ before) ss m n a.1 b.1
new_once before (s ∷ ss) m n (inl a) (inr b) = absurd (b.0 a.0)
new_once before (s ∷ ss) m n (inr a) (inl b) = absurd (a.0 b.0)
new_once before (s ∷ ss) m n (inr a) (inr b) = a.2 ∙ ap (λ k. k + 1) (new_once (s ∷ before) ss a.1 b.1 a.3 b.3) ∙ sym b.2

groups_once : (ss : List Symbol) (gs hs : List (List ℕ)) → AllByRecursion IsSymbol ss → AreGroups ss gs → AreGroups ss hs → gs ≡ hs
groups_once [] [] [] all a b = refl
groups_once [] [] (h ∷ hs) all a b = absurd b
groups_once [] (g ∷ gs) hs all a b = absurd a
groups_once (s ∷ ss) [] hs all a b = absurd a
groups_once (s ∷ ss) (g ∷ gs) [] all a b = absurd b
groups_once (s ∷ ss) (g ∷ gs) (h ∷ hs) all a b =
    ap (λ x. x ∷ gs) (group_once s g h all.0 a.0 b.0) ∙ ap (λ xs. h ∷ xs) (groups_once ss gs hs all.1 a.1 b.1)

pub text_once : (start count : ℕ) (a b : List ℕ) → IsExerciseText start count a → IsExerciseText start count b → a ≡ b
text_once start count a b x y =
    let seeds = one_list_of_seeds y.seeds x.seeds y.are_seeds x.are_seeds in
    let forms : y.forms ≡ x.forms =
    items_once x.seeds start y.forms x.forms x.are_seeds (y.number ∙ sym x.number) (subst (λ ss. AreItems ss start y.forms) seeds y.are_items) x.are_items in
    let classes : y.classes ≡ x.classes = new_once [] x.forms y.classes x.classes (subst (λ ss. AreNew [] ss y.classes) forms y.are_different) x.are_different in
    let groups : y.groups ≡ x.groups =
    groups_once x.forms y.groups x.groups (items_symbols x.seeds start x.forms x.are_items) (subst (λ ss. AreGroups ss y.groups) forms y.are_groups) x.are_groups in
    x.is_text ∙ ap (λ ss. tally_text count (sum_by (λ s. s.size) ss) x.classes (totals_of x.groups)) (sym forms)
    ∙ ap (λ n. tally_text count (sum_by (λ s. s.size) y.forms) n (totals_of x.groups)) (sym classes)
    ∙ ap (λ gs. tally_text count (sum_by (λ s. s.size) y.forms) y.classes (totals_of gs)) (sym groups) ∙ sym y.is_text
