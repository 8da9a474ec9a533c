-- The files of all shards merge to the text of the catalogue.
use Rattle.std.proofs.Common.{◌↔◌, ℕ, ◌≤◌, List, [], ◌∷◌, subst, arith}
use Rattle.std.specs.List.{AllByRecursion, Contains}
use Rattle.dd_model.specs.Symbol.{Symbol, IsSymbol, IsChamber}
use Rattle.dd_model.specs.Cell.{IsBranching}
use Rattle.dd_model.specs.Request.{IsValid}
use Rattle.dd_model.specs.Reading.{IsReadable, Reads}
use Rattle.dd_model.specs.Text.{AreLines, IsText, beginning}
use Rattle.dd_model.specs.Wanted.{IsMember, IsCatalogue}
use Rattle.dd_model.specs.declared.jobs.Job.{Job}
use Rattle.dd_model.specs.declared.pair.Pair.{Pair}
use Rattle.dd_model.specs.declared.requests.Request.{Request}
use Rattle.dd_model.proofs.Lists.{each_of, all_from_members}
use Rattle.dd_model.proofs.ReadingRows.{reads_once}
use Rattle.dd_model.proofs.Texts.{all_from_beginning}
use Rattle.dd_model.proofs.Without.{without_unique}
use Rattle.dd_model.proofs.WrittenLines.{read_back}
use Rattle.dd_model.specs.Lists.{IsWithout}
use Rattle.dd_model.specs.Position.{IsBefore}
use Rattle.dd_front_jobs.specs.Opening.{IsOpening}
use Rattle.dd_front_jobs.specs.Shards.{IsShardText, AreShardMembers}
use Rattle.dd_front_jobs.specs.declared.shards.Shard.{Shard}
use Rattle.dd_crystal.proofs.CrystalLaw.{crystal_law}
use Rattle.dd_shard.specs.ShardLists.{AreAllShards, AreListsOfShards}
use Rattle.dd_shard.proofs.ShardsMerged.{shards_mergeable, merged_catalogue}
use Rattle.dd_shard.proofs.AscendingLists.{none_out_of_order}
use Rattle.dd_suite_commands.specs.declared.merge_refusal.MergeRefusal.{MergeRefusal}
use Rattle.dd_suite_commands.specs.declared.merge_refusal.MergeRefusal.TheVariants.{File, NotAscending, Doubled}
use Rattle.dd_suite_commands.specs.Merges.{AreRead, IsMergedText, IsMergeRefusal}
use Rattle.dd_suite_commands.specs.ShardFiles.{AreTextsOfShards}
use Rattle.dd_suite_commands.proofs.LineLengths.{IsFew, few_lines}
use Rattle.dd_suite_commands.proofs.MergedTexts.{read_at}

-- ## Members of a catalogue are symbols that files may have

module _ (q : Request) (valid : IsValid q) (s : Symbol) (member : IsMember q s) where
  few_chambers : s.size ≤ 36
  few_chambers = let chambers = member.wanted.chambers in let most = valid.chambers.1 in omega arith

  low_branching : (p : Pair) (d v : ℕ) → IsChamber s d → IsBranching s p d v → v ≤ 30
  low_branching p d v chamber is =
      each_of (λ n. n ≤ 30) (1 ∷ 2 ∷ 3 ∷ 4 ∷ 6 ∷ []) v (omega arith, (omega arith, (omega arith, (omega arith, (omega arith, tt)))))
      (crystal_law s member.wanted.symbol member.wanted.connected member.wanted.flat p d v chamber is)

  readable : IsReadable s
  readable = record {
    symbol = record { symbol = member.wanted.symbol; size = let few = few_chambers in omega arith; branching = low_branching };
    connected = member.wanted.connected;
    size = let few = few_chambers in omega arith;
  }

  is_few : IsFew s
  is_few = record { symbol = member.wanted.symbol; size = few_chambers }

-- ## A file of a shard

-- from the beginning on the text has the lines of all members
lines_of_all : (members later : List Symbol) (bytes : List ℕ) (c : ℕ) → AllByRecursion IsSymbol members → IsWithout (IsBefore beginning) members later → AreLines c later bytes → AreLines c members bytes
lines_of_all members later bytes c symbols none lines =
    subst (λ ss. AreLines c ss bytes) (without_unique (IsBefore beginning) members later members none (all_from_beginning members symbols)) lines

shard_list : (q : Request) (shard : Shard) (file : List ℕ) (list : List Symbol) → IsValid q → IsShardText q shard beginning 0 file → Reads file list → AreShardMembers q shard list
shard_list q shard file list valid text read =
    let member = λ (s : Symbol) (there : Contains text.members s). ((text.are_members.members s).0 there).under.member in
    let lines = lines_of_all text.members text.later file 0 (all_from_members IsSymbol text.members (λ s there. (member s there).wanted.symbol)) text.not_before text.lines in
    let few = few_lines text.members file lines (all_from_members IsFew text.members (λ s there. is_few q valid s (member s there))) read.short in
    let own = read_back 0 text.members file lines (all_from_members IsReadable text.members (λ s there. readable q valid s (member s there))) (omega arith) few read.short in
    subst (AreShardMembers q shard) (reads_once file text.members list own read) text.are_members

pub shard_lists : (q : Request) (shards : List Shard) (files : List (List ℕ)) (lists : List (List Symbol)) → IsValid q → AreTextsOfShards q shards files → AreRead files lists → AreListsOfShards q shards lists
shard_lists q [] [] [] valid texts read = tt
shard_lists q [] [] (l ∷ lists) valid texts read = absurd read
shard_lists q [] (f ∷ files) lists valid texts read = absurd texts
shard_lists q (s ∷ shards) [] lists valid texts read = absurd texts
shard_lists q (s ∷ shards) (f ∷ files) [] valid texts read = absurd read
shard_lists q (s ∷ shards) (f ∷ files) (l ∷ lists) valid texts read = (shard_list q s f l valid texts.0 read.0, shard_lists q shards files lists valid texts.1 read.1)

-- ## The merge

pub shards_not_refused : (q : Request) (count : ℕ) (shards : List Shard) (files : List (List ℕ)) (lists : List (List Symbol)) → IsValid q → AreAllShards count shards
    → AreTextsOfShards q shards files → AreRead files lists → (r : MergeRefusal) → IsMergeRefusal files r → ⊥
shards_not_refused q count shards files lists valid all texts read (File n fault) r =
    let own = read_at files lists r.is_file.place r.file read r.is_file.within r.is_file.is in
    r.faulty.none own.0 own.1
shards_not_refused q count shards files lists valid all texts read (NotAscending n symbol) r =
    let up = shards_mergeable q count shards r.lists all (shard_lists q shards files r.lists valid texts r.read) in
    none_out_of_order r.lists n symbol up.ascending r.fault.holds
shards_not_refused q count shards files lists valid all texts read (Doubled n symbol) r =
    let up = shards_mergeable q count shards r.lists all (shard_lists q shards files r.lists valid texts r.read) in
    up.apart n symbol r.fault.first.holds

text_of_catalogue : (q : Request) (members : List Symbol) (text : List ℕ) → IsCatalogue q members → AreLines 0 members text → IsText q beginning 0 text
text_of_catalogue q members text is lines = record {
  members = members;
  catalogue = is;
  later = members;
  not_before = all_from_beginning members (all_from_members IsSymbol members (λ s there. ((is.members s).0 there).wanted.symbol));
  lines = lines;
}

pub shards_text : (q : Request) (opening : List Job) (count : ℕ) (shards : List Shard) (files : List (List ℕ)) (lists : List (List Symbol)) → IsValid q → IsOpening q opening → 1 ≤ count → count ≤ 8
    → AreAllShards count shards → AreTextsOfShards q shards files → AreRead files lists → (text : List ℕ) → IsMergedText files text ↔ IsText q beginning 0 text
shards_text q opening count shards files lists valid is some few all texts read text = (
  (λ merged.
      let own = shard_lists q shards files merged.lists valid texts merged.read in
      text_of_catalogue q merged.members text ((merged_catalogue q opening count shards merged.lists is some few all own merged.members).0 merged.merged) merged.lines),
  (λ whole.
      let own = shard_lists q shards files lists valid texts read in
      record {
        lists = lists;
        read = read;
        mergeable = shards_mergeable q count shards lists all own;
        members = whole.members;
        merged = (merged_catalogue q opening count shards lists is some few all own whole.members).1 whole.catalogue;
        lines = lines_of_all whole.members whole.later text 0
            (all_from_members IsSymbol whole.members (λ s there. ((whole.catalogue.members s).0 there).wanted.symbol)) whole.not_before whole.lines;
      }),
)
