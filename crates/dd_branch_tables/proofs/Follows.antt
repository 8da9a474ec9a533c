-- A table that is filled number by number follows the prefix.
use Rattle.std.proofs.Common.{◌≡◌, ℕ, ◌+◌, ◌*◌, ◌/◌, ◌%◌, ◌<◌, List, [], ◌∷◌, ◌++◌, length, sym, ◌∙◌, subst, arith}
use Rattle.dd_model.specs.declared.index.Index.{Index}
use Rattle.dd_model.specs.declared.pair.Pair.TheVariants.{Edge}
use Rattle.dd_model.specs.declared.requests.Request.{Request}
use Rattle.dd_model.specs.Symbol.{Symbol, op}
use Rattle.dd_model.specs.Wanted.{IsMember}
use Rattle.dd_model.proofs.LeastForms.{least_as_table}
use Rattle.dd_front_jobs.specs.Orderly.{IsOrderly}
use Rattle.dd_front_jobs.specs.Under.{IsUnder, HasNothingUnder, Follows}
use Rattle.dd_branch_tables.specs.Rows.{Rows, partial_of, Learns, Excludes, Commutes}
use Rattle.dd_front_jobs.proofs.Places.{code_at}
use Rattle.dd_branch_tables.proofs.Prefixes.{shortened}
use Rattle.dd_model.specs.Indices.{index_at}

-- a member of a catalogue is orderly
pub member_orderly : (q : Request) (s : Symbol) → IsMember q s → IsOrderly s
member_orderly q s member =
    let is = member.wanted.symbol in
    record { table = is.table; connected = member.wanted.connected; commuting = λ d h. is.degrees Edge d h; least = least_as_table s is member.least }

-- Nothing is known of an empty table.
pub follows_none : (W : Symbol → Type 0) (n : ℕ) (partial : Symbol) → partial.size ≡ n → ((i : Index) (d : ℕ) → op partial i d ≡ 0) → Follows W n [] partial
follows_none W n partial size none s under = record {
  table = under.orderly.table;
  connected = under.orderly.connected;
  size = under.size ∙ sym size;
  images = λ i d some. absurd (some (none i d));
}

-- what is put in at the place after a prefix
abbrev pub Puts : ℕ → ℕ → Symbol → Type 0
Puts t k s = Commutes s × (op s (index_at (t % 3)) (1 + t / 3) ≡ k)

has_next : (W : Symbol → Type 0) (n : ℕ) (prefix : List ℕ) (k t : ℕ) (s : Symbol) → t ≡ length prefix → length prefix < 3 * n → IsUnder W n (prefix ++ k ∷ []) s → Puts t k s
has_next W n prefix k t s at low under =
    let u = shortened W n prefix k s under in
    let size = under.size in
    let place = code_at s (length prefix) (omega arith) in
    (under.orderly.commuting, subst (λ j. op s (index_at (j % 3)) (1 + j / 3) ≡ k) (sym at) (sym place ∙ u.1))

-- the table of the longer prefix
pub follows_put : (W : Symbol → Type 0) (n : ℕ) (prefix : List ℕ) (k t : ℕ) (old new : Rows) → t ≡ length prefix → length prefix < 3 * n → Follows W n prefix (partial_of old) → Learns (Puts t k) old new
    → Follows W n (prefix ++ k ∷ []) (partial_of new)
follows_put W n prefix k t old new at low follows learns s under =
    learns.completes s (follows s (shortened W n prefix k s under).0) (has_next W n prefix k t s at low under)

-- Where the number cannot be put in, nothing is under the longer prefix.
pub none_put : (W : Symbol → Type 0) (n : ℕ) (prefix : List ℕ) (k t : ℕ) (old : Rows) → t ≡ length prefix → length prefix < 3 * n → Follows W n prefix (partial_of old) → Excludes (Puts t k) old
    → HasNothingUnder W n (prefix ++ k ∷ [])
none_put W n prefix k t old at low follows excludes s under =
    excludes s (follows s (shortened W n prefix k s under).0) (has_next W n prefix k t s at low under)
