-- So many items exist, whatever number they begin with.
use Rattle.std.proofs.Common.{◌≡◌, ℕ, zero, suc, List, [], ◌∷◌, get_or, length, refl, ap}
use Rattle.std.specs.List.{AllByRecursion}
use Rattle.std.proofs.lemmas.List.{get_or_default}
use Rattle.dd_model.specs.Symbol.{Symbol, IsSymbol}
use Rattle.dd_model.specs.Connected.{Connected}
use Rattle.dd_model.specs.Worked.{squares}
use Rattle.dd_model.proofs.Exchanges.{renumbered, renumbered_isomorphism, renumbered_table}
use Rattle.dd_model.proofs.LeastForms.{copy_is_symbol, symbol_form_exists}
use Rattle.dd_model.proofs.Transport.{Connected-along}
use Rattle.dd_covers.proofs.TorusCovers.{middle_of, torus_above, torus_cover_exists}
use Rattle.dd_suite_exercise.specs.declared.coverings.Covering.{Covering}
use Rattle.dd_suite_exercise.specs.declared.coverings.Covering.TheVariants as covering
use Rattle.dd_suite_exercise.specs.Draws.{after_draws}
use Rattle.dd_suite_exercise.specs.Choices.{change_at, changed, covering_at, IsCoverBy}
use Rattle.dd_suite_exercise.specs.Items.{drawn, IsCover, IsItem, AreItems, after_item}
use Rattle.dd_suite_exercise.specs.Renumbering.{renumbering}
use Rattle.dd_suite_exercise.specs.Seeds.{AreSeeds}
use Rattle.dd_suite_exercise.proofs.ChangeLemmas.{changed_twice}
use Rattle.dd_suite_exercise.proofs.CoverLemmas.{picked}
use Rattle.dd_suite_exercise.proofs.ExchangeLemmas.{answer_below, renumbering_bijection}
use Rattle.dd_suite_exercise.proofs.SeedLemmas.{IsBase, seed_base, some_seeds}

-- ## Covers

record HasCoverBy (c : Covering) (s : Symbol) : Type 0 where
  pub cover : Symbol
  pub is : IsCoverBy c s cover
  pub symbol : IsSymbol cover
  pub connected : Connected cover

cover_by : (c : Covering) (n : ℕ) (s : Symbol) → IsBase n s → HasCoverBy c s
cover_by covering.Nothing n s b = record { cover = s; is = refl; symbol = b.accepted.symbol.symbol; connected = b.accepted.connected }
cover_by covering.Oriented n s b =
    let is = b.accepted.symbol.symbol in
    let t = (torus_cover_exists s is b.accepted.connected b.flat).is in
    let m = middle_of s t.middle t.lower is b.accepted.connected t.oriented in
    record { cover = t.middle; is = (t.lower, t.oriented); symbol = m.symbol; connected = m.connected }
cover_by covering.Torus n s b =
    let is = b.accepted.symbol.symbol in
    let t = torus_cover_exists s is b.accepted.connected b.flat in
    let torus = torus_above s t.cover t.below is b.accepted.connected b.flat t.is in
    record { cover = t.cover; is = (t.below, t.is); symbol = torus.symbol; connected = torus.connected }

record HasCover (seeds : List Symbol) (z : ℕ) : Type 0 where
  pub cover : Symbol
  pub is : IsCover seeds z cover
  pub symbol : IsSymbol cover
  pub connected : Connected cover

cover_exists : (seeds : List Symbol) (z : ℕ) → AreSeeds seeds → HasCover seeds z
cover_exists seeds z a =
    let place = drawn z 0 (length seeds) in
    let within = answer_below z (length seeds) (some_seeds seeds a) in
    let seed = get_or seeds place squares in
    let at = picked seeds place seed within (get_or_default seeds place squares seed within) in
    let base = changed_twice (change_at (drawn z 1 5)) (change_at (drawn z 2 5)) seed (seed_base seeds place seed a at) in
    let c = cover_by (covering_at (drawn z 3 3)) 32 (changed (change_at (drawn z 2 5)) (changed (change_at (drawn z 1 5)) seed)) base in
    record { cover = c.cover; is = record { seed = seed; picked = at; is_cover = c.is }; symbol = c.symbol; connected = c.connected }

-- ## Items

record HasItem (seeds : List Symbol) (z : ℕ) : Type 0 where
  pub form : Symbol
  pub is : IsItem seeds z form

item_exists : (seeds : List Symbol) (z : ℕ) → AreSeeds seeds → HasItem seeds z
item_exists seeds z a =
    let c = cover_exists seeds z a in
    let list = renumbering c.cover.size (after_draws 4 z) in
    let b = renumbering_bijection c.cover.size (after_draws 4 z) c.symbol.table.chambers in
    let t = renumbered c.cover list b.inverse in
    let iso = renumbered_isomorphism c.cover list b in
    let is = copy_is_symbol c.cover t c.symbol (renumbered_table c.cover list c.symbol.table b) (list, iso) in
    let form = symbol_form_exists t is (Connected-along c.cover t list c.symbol.table iso c.connected) in
    record { form = form.0; is = record { cover = c.cover; covers = c.is; renumbered = t; renumbers = iso; least = form.1 } }

pub record HasItems (seeds : List Symbol) (z count : ℕ) : Type 0 where
  pub forms : List Symbol
  pub number : length forms ≡ count
  pub are : AreItems seeds z forms
  pub symbols : AllByRecursion IsSymbol forms

pub items_exist : (seeds : List Symbol) (z count : ℕ) → AreSeeds seeds → HasItems seeds z count
items_exist seeds z zero a = record { forms = []; number = refl; are = tt; symbols = tt }
items_exist seeds z (suc count) a =
    let first = item_exists seeds z a in
    let rest = items_exist seeds (after_item z first.form) count a in
    record {
      forms = first.form ∷ rest.forms;
      number = ap suc rest.number;
      are = (first.is, rest.are);
      symbols = (first.is.least.symbol, rest.symbols);
    }
