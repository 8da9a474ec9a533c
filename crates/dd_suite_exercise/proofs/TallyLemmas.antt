-- What a tally tells of the items so far.
use Rattle.std.proofs.Common.{◌≡◌, ◌≤◌, ◌<◌, ℕ, ◌+◌, ◌*◌, List, [], ◌∷◌, ◌++◌, length, refl, sym, ap, ◌∙◌, subst, length-append, arith}
use Rattle.std.specs.List.{AllByRecursion, sum_by}
use Rattle.std.proofs.lemmas.List.{length-map}
use Rattle.std.proofs.lemmas.List.Sums.{sum_by-append}
use Rattle.dd_model.specs.Symbol.{Symbol}
use Rattle.dd_model.specs.Line.{IsLine}
use Rattle.dd_model.specs.Small.{IsSmallSymbol}
use Rattle.dd_suite_commands.specs.Info.{IsGroup}
use Rattle.dd_suite_commands.specs.Totals.{counted, counted_in, first_seen, times, totals_of}
use Rattle.dd_suite_commands.proofs.TotalsLemmas.{totals_few, totals_more}
use Rattle.dd_suite_exercise.specs.declared.tallies.Tally.{Tally}
use Rattle.dd_suite_exercise.specs.Counting.{AreDifferent, AreGroups}
use Rattle.dd_suite_exercise.specs.Exercise.{tally_text, IsExerciseText}
use Rattle.dd_suite_exercise.specs.Items.{IsItem, AreItems, after_item, after_items}
use Rattle.dd_suite_exercise.specs.Seeds.{AreSeeds}
use Rattle.dd_suite_exercise.specs.Tallies.{IsShort, CountsOne}
use Rattle.dd_suite_exercise.proofs.DifferentLemmas.{AreTheirLines, new_by_lines}
use Rattle.dd_suite_exercise.proofs.ItemLemmas.{items_more, after_more}

lines_more : (ss : List Symbol) (ls : List (List ℕ)) (s : Symbol) (l : List ℕ) → AreTheirLines ss ls → IsLine 1 s l → AreTheirLines (ss ++ s ∷ []) (ls ++ l ∷ [])
lines_more [] [] s l a is = (is, tt)
lines_more [] (k ∷ ls) s l a is = absurd a
lines_more (t ∷ ss) [] s l a is = absurd a
lines_more (t ∷ ss) (k ∷ ls) s l a is = (a.0, lines_more ss ls s l a.1 is)

lines_length : (ss : List Symbol) (ls : List (List ℕ)) → AreTheirLines ss ls → length ls ≡ length ss
lines_length [] [] a = refl
lines_length [] (k ∷ ls) a = absurd a
lines_length (t ∷ ss) [] a = absurd a
lines_length (t ∷ ss) (k ∷ ls) a = let rest = lines_length ss ls a.1 in omega (arith, rest)

groups_more : (ss : List Symbol) (gs : List (List ℕ)) (s : Symbol) (g : List ℕ) → AreGroups ss gs → IsGroup s g → AreGroups (ss ++ s ∷ []) (gs ++ g ∷ [])
groups_more [] [] s g a is = (is, tt)
groups_more [] (h ∷ gs) s g a is = absurd a
groups_more (t ∷ ss) [] s g a is = absurd a
groups_more (t ∷ ss) (h ∷ gs) s g a is = (a.0, groups_more ss gs s g a.1 is)

groups_length : (ss : List Symbol) (gs : List (List ℕ)) → AreGroups ss gs → length gs ≡ length ss
groups_length [] [] a = refl
groups_length [] (h ∷ gs) a = absurd a
groups_length (t ∷ ss) [] a = absurd a
groups_length (t ∷ ss) (h ∷ gs) a = let rest = groups_length ss gs a.1 in omega (arith, rest)

all_more : (ss : List Symbol) (s : Symbol) → AllByRecursion IsSmallSymbol ss → IsSmallSymbol s → AllByRecursion IsSmallSymbol (ss ++ s ∷ [])
all_more [] s all is = (is, tt)
all_more (t ∷ ss) s all is = (all.0, all_more ss s all.1 is)

-- Items were made so far from a number on, which stand in the tally. (Memory is wanting long before a count comes near its end.)
pub record IsTold (seeds : List Symbol) (start count number : ℕ) (t : Tally) : Type 0 where
  pub forms : List Symbol
  pub count_is : length forms ≡ count
  pub are_items : AreItems seeds start forms
  pub number_is : number ≡ after_items start forms
  pub small : AllByRecursion IsSmallSymbol forms
  pub chambers : t.chambers ≡ sum_by (λ s. s.size) forms
  pub bound : t.chambers ≤ 16384 * count
  pub lines : List (List ℕ)
  pub are_lines : AreTheirLines forms lines
  pub classes : counted_in t.classes ≡ totals_of lines
  pub groups : List (List ℕ)
  pub are_groups : AreGroups forms groups
  pub names : counted_in t.groups ≡ totals_of groups

pub none_told : (seeds : List Symbol) (start number : ℕ) (t : Tally) → number ≡ start → t.chambers ≡ 0 → counted_in t.classes ≡ [] → counted_in t.groups ≡ []
    → IsTold seeds start 0 number t
none_told seeds start number t at chambers classes groups = record {
  forms = [];
  count_is = refl;
  are_items = tt;
  number_is = at;
  small = tt;
  chambers = chambers;
  bound = omega (arith, chambers);
  lines = [];
  are_lines = tt;
  classes = classes;
  groups = [];
  are_groups = tt;
  names = groups;
}

pub told_short : (seeds : List Symbol) (start count number : ℕ) (t : Tally) → count ≤ 10000 → IsTold seeds start count number t → IsShort t
told_short seeds start count number t few told =
    let long = told.count_is in
    let lines = lines_length told.forms told.lines told.are_lines in
    let groups = groups_length told.forms told.groups told.are_groups in
    let bound = told.bound in
    record {
      chambers = omega (arith, few, bound);
      classes = subst (AllByRecursion (λ (e : List ℕ × ℕ). e.1 < 1000000000)) (sym told.classes) (totals_few told.lines (omega (arith, few, long, lines)));
      groups = subst (AllByRecursion (λ (e : List ℕ × ℕ). e.1 < 1000000000)) (sym told.names) (totals_few told.groups (omega (arith, few, long, groups)));
    }

pub one_more_told : (seeds : List Symbol) (start count number next : ℕ) (old new : Tally) (s : Symbol) → IsTold seeds start count number old → IsItem seeds number s
    → next ≡ after_item number s → IsSmallSymbol s → CountsOne s old new → IsTold seeds start (count + 1) next new
one_more_told seeds start count number next old new s told is at small counts =
    let long = told.count_is in
    let size = small.size in
    let bound = told.bound in
    let chambers = counts.chambers in
    let one : sum_by (λ (t : Symbol). t.size) (s ∷ []) ≡ s.size = omega arith in
    record {
      forms = told.forms ++ s ∷ [];
      count_is = length-append told.forms (s ∷ []) ∙ ap (λ n. n + 1) long;
      are_items = items_more seeds start told.forms s told.are_items (subst (λ z. IsItem seeds z s) told.number_is is);
      number_is = at ∙ ap (λ z. after_item z s) told.number_is ∙ sym (after_more start told.forms s);
      small = all_more told.forms s told.small small;
      chambers = chambers ∙ ap (λ n. n + s.size) told.chambers ∙ ap (λ n. sum_by (λ (t : Symbol). t.size) told.forms + n) (sym one) ∙ sym (sum_by-append (λ (t : Symbol). t.size) told.forms (s ∷ []));
      bound = omega (arith, bound, size, chambers);
      lines = told.lines ++ counts.line ∷ [];
      are_lines = lines_more told.forms told.lines s counts.line told.are_lines counts.is_line;
      classes = counts.classes ∙ ap (λ es. counted es counts.line) told.classes ∙ totals_more told.lines counts.line;
      groups = told.groups ++ counts.group ∷ [];
      are_groups = groups_more told.forms told.groups s counts.group told.are_groups counts.is_group;
      names = counts.groups ∙ ap (λ es. counted es counts.group) told.names ∙ totals_more told.groups counts.group;
    }

-- the text of the tally is that of the exercise
pub told_text : (seeds : List Symbol) (start count number : ℕ) (t : Tally) (text : List ℕ) → AreSeeds seeds → IsTold seeds start count number t
    → text ≡ tally_text count t.chambers (length (counted_in t.classes)) (counted_in t.groups) → IsExerciseText start count text
told_text seeds start count number t text a told is = record {
  seeds = seeds;
  are_seeds = a;
  forms = told.forms;
  number = told.count_is;
  are_items = told.are_items;
  classes = length (counted_in t.classes);
  are_different = subst (AreDifferent told.forms) (sym (ap length told.classes ∙ length-map (first_seen [] told.lines) (λ g. (g, times g told.lines))))
      (new_by_lines [] told.forms [] told.lines tt told.are_lines tt told.small);
  groups = told.groups;
  are_groups = told.are_groups;
  is_text = is ∙ ap (λ n. tally_text count n (length (counted_in t.classes)) (counted_in t.groups)) told.chambers
      ∙ ap (tally_text count (sum_by (λ s. s.size) told.forms) (length (counted_in t.classes))) told.names;
}
