-- The steps of a walk over tables.
use Rattle.std.proofs.Common.{◌≡◌, ◌≢◌, Option, Some, None, MatchOption, ℕ, ◌*◌, ◌<◌, List, [], ◌∷◌, ◌++◌, length, get_or, refl, sym, ap, ◌∙◌, subst, inr, arith}
use Rattle.std.proofs.lemmas.List.{ext_get_or, get_or_append_left, append_assoc}
use Rattle.std.specs.Ordering.{nat_cmp}
use Rattle.std.specs.Cmp.Lexicographic.{slice_cmp}
use Rattle.std.specs.declared.cmp.Ordering.TheVariants.{Less}
use Rattle.dd_model.specs.declared.pair.Pair.TheVariants.{Edge}
use Rattle.dd_model.specs.Symbol.{Symbol}
use Rattle.dd_model.specs.Lists.{Begins}
use Rattle.dd_model.specs.Code.{code, all_images}
use Rattle.dd_model.specs.declared.jobs.Job.{Job}
use Rattle.dd_model.specs.declared.requests.Request.{Request}
use Rattle.dd_model.proofs.Codes.{length-flat_images}
use Rattle.dd_model.proofs.LeastForms.{not_above}
use Rattle.dd_front_jobs.specs.Orderly.{IsOrderly}
use Rattle.dd_branch_tables.specs.Stem.{Any}
use Rattle.dd_branch_tables.specs.Table.{IsTableOf}
use Rattle.dd_model.specs.Involutions.{HaveSameInvolutions}
use Rattle.dd_front_jobs.specs.Under.{IsUnder, HasNothingUnder}
use Rattle.dd_branch_tables.specs.Walk.{IsSought, IsListed, IsNext, HasNoneLeft}
use Rattle.dd_model.proofs.Ascending.{begins_at}
use Rattle.dd_branch_tables.proofs.TableFronts.{front_same}
use Rattle.dd_branch_tables.proofs.Unbranched.{unbranched_unique}

-- ## The images of a table, of all its code

-- what stands before the degrees
pub front_at : (s : Symbol) (u : ℕ) → u < 3 * s.size → get_or (code s) u 0 ≡ get_or (all_images s) u 0
front_at s u low =
    let size : length (all_images s) ≡ 3 * s.size = length-flat_images s 1 s.size in
    ap (λ xs. get_or xs u 0) (append_assoc (all_images s) s.m01 s.m12) ∙ get_or_append_left (all_images s) (s.m01 ++ s.m12) 0 u (omega arith)

pub front_is : (s : Symbol) (numbers : List ℕ) → length numbers ≡ 3 * s.size → Begins numbers (code s) → all_images s ≡ numbers
front_is s numbers whole begins =
    let size : length (all_images s) ≡ 3 * s.size = length-flat_images s 1 s.size in
    ext_get_or 0 (all_images s) numbers (omega arith) (λ u low. sym (front_at s u (omega arith)) ∙ begins_at numbers (code s) u begins (omega arith))

-- ## Listed tables and prefixes

pub begins_appended : (xs ys : List ℕ) → Begins xs (xs ++ ys)
begins_appended [] ys = tt
begins_appended (x ∷ xs) ys = (refl, begins_appended xs ys)

pub listed_orderly : (q : Request) (job : Job) (s : Symbol) → IsListed q job s → IsOrderly s
listed_orderly q job s is = record { table = is.symbol.table; connected = is.connected; commuting = λ d h. is.symbol.degrees Edge d h; least = is.sought.least }

pub listed_under : (q : Request) (job : Job) (s : Symbol) → IsListed q job s → IsUnder Any job.size job.prefix s
listed_under q job s is = record { wanted = tt; orderly = listed_orderly q job s is; size = is.size; begins = is.begins }

-- where nothing is under a prefix, no table is listed
pub none_listed : (q : Request) (job : Job) (bound : List ℕ) → HasNothingUnder Any job.size job.prefix → HasNoneLeft q job bound
none_listed q job bound dead s is past = dead s (listed_under q job s is)

-- ## Whole prefixes

-- what is read at a whole prefix
pub record IsRead (job : Job) (t : Symbol) : Type 0 where
  pub whole : length job.prefix ≡ 3 * job.size
  pub table : IsTableOf job.size job.prefix t

-- it is the one table there
pub only_read : (q : Request) (job : Job) (s t : Symbol) → IsRead job t → IsListed q job s → s ≡ t
only_read q job s t read is =
    let size : s.size ≡ t.size = is.size ∙ sym read.table.size in
    let whole : length job.prefix ≡ 3 * t.size = read.whole ∙ ap (λ n. 3 * n) (sym read.table.size) in
    let back : HaveSameInvolutions s t = front_same t s job.prefix read.table.bare.symbol.table is.symbol.table (sym size) (whole ∙ ap (λ n. 3 * n) (sym size)) is.begins read.table.begins in
    unbranched_unique s t is.symbol read.table.bare.symbol is.unbranched read.table.bare.unbranched back

past_is : (job : Job) (t : Symbol) (bound : List ℕ) → length job.prefix ≡ 3 * job.size → t.size ≡ job.size → Begins job.prefix (code t) → slice_cmp nat_cmp bound (all_images t) ≡ slice_cmp nat_cmp bound job.prefix
past_is job t bound whole size begins = ap (slice_cmp nat_cmp bound) (front_is t job.prefix (whole ∙ ap (λ n. 3 * n) (sym size)) begins)

pub next_read : (q : Request) (job : Job) (bound : List ℕ) (t : Symbol) → IsRead job t → IsSought q t → slice_cmp nat_cmp bound job.prefix ≡ Less → IsNext q job bound t
next_read q job bound t read sought past = record {
  listed = record { symbol = read.table.bare.symbol; connected = read.table.bare.connected; unbranched = read.table.bare.unbranched; sought = sought; size = read.table.size; begins = read.table.begins };
  past = past_is job t bound read.whole read.table.size read.table.begins ∙ past;
  first = λ s is later. not_above t s (inr (sym (only_read q job s t read is)));
}

pub none_past : (q : Request) (job : Job) (bound : List ℕ) → length job.prefix ≡ 3 * job.size → slice_cmp nat_cmp bound job.prefix ≢ Less → HasNoneLeft q job bound
none_past q job bound whole before s is past = before (sym (past_is job s bound whole is.size is.begins) ∙ past)

pub none_sought : (q : Request) (job : Job) (bound : List ℕ) (t : Symbol) → IsRead job t → (IsSought q t → ⊥) → HasNoneLeft q job bound
none_sought q job bound t read other s is past = other (subst (IsSought q) (only_read q job s t read is) is.sought)

-- what an option with a value says, and one without
pub with_some : {A : Type 0} (o : Option A) (P : Type 0) (Q : A → Type 0) (x : A) → o ≡ Some x → MatchOption o P Q → Q x
with_some o P Q x is says = subst (λ p. MatchOption p P Q) is says

pub with_none : {A : Type 0} (o : Option A) (P : Type 0) (Q : A → Type 0) → o ≡ None → MatchOption o P Q → P
with_none o P Q is says = subst (λ p. MatchOption p P Q) is says
