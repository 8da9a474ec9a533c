-- Lists of the members of all shards have no symbol in common, and all members of the catalogue.
use Rattle.std.proofs.Common.{◌≡◌, ◌≢◌, ◌↔◌, ℕ, zero, suc, ◌<◌, ◌≤◌, List, [], ◌∷◌, length, get_or, refl, sym, ◌∙◌, subst, arith}
use Rattle.std.specs.List.{AllByRecursion, Contains}
use Rattle.dd_model.specs.Symbol.{Symbol}
use Rattle.dd_model.specs.Wanted.{IsAscending, IsMember, IsCatalogue}
use Rattle.dd_model.specs.declared.jobs.Job.{Job}
use Rattle.dd_model.specs.declared.requests.Request.{Request}
use Rattle.dd_model.proofs.Lists.{each_of}
use Rattle.dd_front_jobs.specs.Opening.{IsOpening}
use Rattle.dd_front_jobs.specs.Shards.{IsShardJob, IsShardMember, AreShardMembers}
use Rattle.dd_front_jobs.specs.declared.shards.Shard.{Shard}
use Rattle.dd_front_jobs.proofs.OpeningLaws.{covered_once, opening_covers}
use Rattle.dd_front_jobs.proofs.PortionLaws.{shard_job}
use Rattle.dd_front_jobs.proofs.ShardLaws.{one_shard, some_shard}
use Rattle.dd_shard.specs.Merging.{AreMergeable, IsInSome, IsMerged}
use Rattle.dd_shard.specs.ShardLists.{AreDifferent, AreAllShards, AreListsOfShards}

-- the shard of a list at a place
record HasShard (q : Request) (shards : List Shard) (k : ℕ) (list : List Symbol) : Type 0 where
  pub shard : Shard
  pub within : k < length shards
  pub is : get_or shards k shard ≡ shard
  pub members : AreShardMembers q shard list

shard_at : (q : Request) (shards : List Shard) (lists : List (List Symbol)) (k : ℕ) (list : List Symbol) → AreListsOfShards q shards lists → k < length lists → get_or lists k list ≡ list
    → HasShard q shards k list
shard_at q shards [] k list are low is = absurd (omega arith)
shard_at q [] (l ∷ lists) k list are low is = absurd are
shard_at q (shard ∷ shards) (l ∷ lists) zero list are low is = record { shard = shard; within = omega arith; is = refl; members = subst (AreShardMembers q shard) is are.0 }
shard_at q (shard ∷ shards) (l ∷ lists) (suc k) list are low is =
    let rest = shard_at q shards lists k list are.1 (omega arith) is in
    record { shard = rest.shard; within = let inside = rest.within in omega arith; is = rest.is; members = rest.members }

-- the list of a shard
record HasList (q : Request) (lists : List (List Symbol)) (shard : Shard) : Type 0 where
  pub list : List Symbol
  pub among : Contains lists list
  pub members : AreShardMembers q shard list

list_of : (q : Request) (shards : List Shard) (lists : List (List Symbol)) (shard : Shard) (k : ℕ) → AreListsOfShards q shards lists → k < length shards → get_or shards k shard ≡ shard → HasList q lists shard
list_of q [] lists shard k are low is = absurd (omega arith)
list_of q (s ∷ shards) [] shard k are low is = absurd are
list_of q (s ∷ shards) (l ∷ lists) shard zero are low is = record { list = l; among = (zero, omega arith, refl); members = subst (λ t. AreShardMembers q t l) is are.0 }
list_of q (s ∷ shards) (l ∷ lists) shard (suc k) are low is =
    let rest = list_of q shards lists shard k are.1 (omega arith) is in
    record { list = rest.list; among = (suc rest.among.0, (let inside = rest.among.1 in omega arith), rest.among.2); members = rest.members }

lists_ascend : (q : Request) (shards : List Shard) (lists : List (List Symbol)) → AreListsOfShards q shards lists → AllByRecursion IsAscending lists
lists_ascend q [] [] are = tt
lists_ascend q [] (l ∷ lists) are = absurd are
lists_ascend q (s ∷ shards) [] are = absurd are
lists_ascend q (s ∷ shards) (l ∷ lists) are = (are.0.ascending, lists_ascend q shards lists are.1)

different_at : (shards : List Shard) (i j : ℕ) (a b : Shard) → AreDifferent shards → i < j → j < length shards → get_or shards i a ≡ a → get_or shards j b ≡ b → a ≡ b → ⊥
different_at [] i j a b all less low is it same = absurd (omega arith)
different_at (s ∷ shards) i zero a b all less low is it same = absurd (omega arith)
different_at (s ∷ shards) zero (suc j) a b all less low is it same =
    each_of (λ other. s ≢ other) shards b all.0 (j, omega arith, it) (is ∙ same)
different_at (s ∷ shards) (suc i) (suc j) a b all less low is it same = different_at shards i j a b all.1 (omega arith) (omega arith) is it same

count_at : (count : ℕ) (shards : List Shard) (k : ℕ) (a : Shard) → AllByRecursion (λ shard. shard.count ≡ count) shards → k < length shards → get_or shards k a ≡ a → a.count ≡ count
count_at count shards k a all low is = each_of (λ shard. shard.count ≡ count) shards a all (k, low, is)

-- a symbol is a member of one shard
one_shard_of : (q : Request) (a b : Shard) (s : Symbol) → a.count ≡ b.count → IsShardMember q a s → IsShardMember q b s → a ≡ b
one_shard_of q a b s same x y =
    let job : x.job ≡ y.job = covered_once q s x.job y.job (shard_job q a x.job x.of_shard) (shard_job q b y.job y.of_shard) x.under.size y.under.size x.under.begins y.under.begins in
    one_shard q a b y.job same (subst (IsShardJob q a) job x.of_shard) y.of_shard

pub shards_mergeable : (q : Request) (count : ℕ) (shards : List Shard) (lists : List (List Symbol)) → AreAllShards count shards → AreListsOfShards q shards lists → AreMergeable lists
shards_mergeable q count shards lists all are = record {
  ascending = lists_ascend q shards lists are;
  apart = λ file n double.
      let one = double.here.is_list in
      let other = double.there.is_list in
      let here = shard_at q shards lists one.place double.here.list are one.within one.is in
      let there = shard_at q shards lists other.place double.there.list are other.within other.is in
      let before : other.place < one.place = omega (arith, one.number, other.number, double.before) in
      let count_here = count_at count shards one.place here.shard all.counts here.within here.is in
      let count_there = count_at count shards other.place there.shard all.counts there.within there.is in
      let symbol = double.here.is_symbol in
      let again = double.there.is_symbol in
      let own = (here.members.members double.symbol).0 (symbol.place, symbol.within, symbol.is) in
      let early = (there.members.members double.symbol).0 (again.place, again.within, again.is) in
      different_at shards other.place one.place there.shard here.shard all.different before here.within there.is here.is
      (one_shard_of q there.shard here.shard double.symbol (count_there ∙ sym count_here) early own);
}

-- the symbols of the lists are the members of the catalogue
in_catalogue : (q : Request) (shards : List Shard) (lists : List (List Symbol)) (s : Symbol) → AreListsOfShards q shards lists → IsInSome lists s → IsMember q s
in_catalogue q shards lists s are is =
    let own = shard_at q shards lists is.among.0 is.list are is.among.1 is.among.2 in
    ((own.members.members s).0 is.there).under.member

in_lists : (q : Request) (opening : List Job) (count : ℕ) (shards : List Shard) (lists : List (List Symbol)) (s : Symbol) → IsOpening q opening → 1 ≤ count → count ≤ 8
    → AreAllShards count shards → AreListsOfShards q shards lists → IsMember q s → IsInSome lists s
in_lists q opening count shards lists s is some few all are member =
    let under = opening_covers q opening s is member in
    let shard = some_shard q opening count under.job is some few under.listed in
    let at = all.all shard.0 shard.1 in
    let own = list_of q shards lists shard.0 at.0 are at.1 at.2 in
    record { list = own.list; among = own.among; there = (own.members.members s).1 (record { job = under.job; of_shard = shard.2; under = under.under }) }

pub merged_catalogue : (q : Request) (opening : List Job) (count : ℕ) (shards : List Shard) (lists : List (List Symbol)) → IsOpening q opening → 1 ≤ count → count ≤ 8
    → AreAllShards count shards → AreListsOfShards q shards lists → (members : List Symbol) → IsMerged lists members ↔ IsCatalogue q members
merged_catalogue q opening count shards lists is some few all are members = (
  (λ merged. record {
    ascending = merged.ascending;
    members = λ s. (
      (λ there. in_catalogue q shards lists s are ((merged.members s).0 there)),
      (λ member. (merged.members s).1 (in_lists q opening count shards lists s is some few all are member)),
    );
  }),
  (λ catalogue. record {
    ascending = catalogue.ascending;
    members = λ s. (
      (λ there. in_lists q opening count shards lists s is some few all are ((catalogue.members s).0 there)),
      (λ inside. (catalogue.members s).1 (in_catalogue q shards lists s are inside)),
    );
  }),
)
