-- Each request has a catalogue, and each position its text.
use Rattle.std.proofs.Common.{ℕ, ◌+◌, List, [], ◌∷◌, ◌++◌, refl, inr, ⊎_elim}
use Rattle.std.specs.List.{AllByRecursion}
use Rattle.dd_model.specs.declared.jobs.Position.{Position}
use Rattle.dd_model.specs.declared.pair.Pair.TheVariants.{Tile, Vertex}
use Rattle.dd_model.specs.declared.requests.Request.{Request}
use Rattle.dd_model.specs.Symbol.{Symbol, IsTable}
use Rattle.dd_model.specs.Lists.{IsWithout}
use Rattle.dd_model.specs.Line.{IsLine, text_of}
use Rattle.dd_model.specs.Position.{IsBefore}
use Rattle.dd_model.specs.Text.{AreLines, IsText}
use Rattle.dd_model.specs.Wanted.{IsMember, IsCatalogue}
use Rattle.dd_model.proofs.CellLists.{cells_exist}
use Rattle.dd_model.proofs.CellSearch.{Decided}
use Rattle.dd_model.proofs.Lists.{all_from_members}
use Rattle.dd_model.proofs.Positions.{before_or_not}
use Rattle.dd_model.proofs.Without.{without_first, without_there}
use Rattle.dd_quotient.proofs.Candidates.{candidates, members_are_candidates}
use Rattle.dd_quotient.proofs.Members.{decide_member}
use Rattle.dd_quotient.proofs.Sorted.{chosen}

pub catalogue_exists : (q : Request) → (ss : List Symbol) × IsCatalogue q ss
catalogue_exists q =
    let found = chosen (IsMember q) (decide_member q) (λ s member. member.wanted.symbol.table) (candidates q) in (
      found.0,
      record {
        ascending = found.1.ascending;
        members = λ s. (found.1.holds s, λ member. found.1.all s (members_are_candidates q s member) member);
      },
    )

-- what is left of a list is told by a test
without_some : {A : Type 0} (P : A → Type 0) → ((x : A) → Decided (P x)) → (xs : List A) → (ys : List A) × IsWithout P xs ys
without_some P decide [] = ([], tt)
without_some P decide (x ∷ xs) =
    let rest = without_some P decide xs in
    ⊎_elim (λ holds. (rest.0, without_first P x xs rest.0 holds rest.1)) (λ not. (x ∷ rest.0, inr (not, refl, rest.1))) (decide x)

line_exists : (k : ℕ) (s : Symbol) → IsTable s → (line : List ℕ) × IsLine k s line
line_exists k s is =
    let tiles = cells_exist s is.involutions Tile in
    let vertices = cells_exist s is.involutions Vertex in
    (text_of k s tiles.0 vertices.0, record { tiles = tiles.0; vertices = vertices.0; are_tiles = tiles.1; are_vertices = vertices.1; text = refl })

lines_exist : (k : ℕ) (ss : List Symbol) → AllByRecursion IsTable ss → (bytes : List ℕ) × AreLines k ss bytes
lines_exist k [] all = ([], refl)
lines_exist k (s ∷ ss) all =
    let line = line_exists (k + 1) s all.0 in
    let rest = lines_exist (k + 1) ss all.1 in
    (line.0 ++ rest.0, (line.0, rest.0, line.1, rest.1, refl))

pub text_exists : (q : Request) (at : Position) (count : ℕ) → (bytes : List ℕ) × IsText q at count bytes
text_exists q at count =
    let members = catalogue_exists q in
    let later = without_some (IsBefore at) (before_or_not at) members.0 in
    let lines = lines_exist count later.0 (all_from_members IsTable later.0 (λ s there.
    let member = (members.1.members s).0 (without_there (IsBefore at) members.0 later.0 s later.1 there).0 in
    member.wanted.symbol.table)) in (
      lines.0,
      record { members = members.0; catalogue = members.1; later = later.0; not_before = later.1; lines = lines.1 },
    )
