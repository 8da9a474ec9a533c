-- Where a run may stop, a catalogue may go on.
use Rattle.std.proofs.Common.{◌≡◌, ℕ, ◌+◌, ◌-◌, ◌*◌, ◌<◌, ◌≤◌, min, List, ◌++◌, length, take, take_all, get_or, Some, sym, ap, ◌∙◌, subst, inl, inr, arith}
use Rattle.std.proofs.lemmas.List.{append_assoc, length-append, get_or-append-add}
use Rattle.std.proofs.lemmas.List.Elements.{Contains-get_or}
use Rattle.std.specs.List.{AllByRecursion}
use Rattle.dd_model.specs.Symbol.{Symbol, item}
use Rattle.dd_model.specs.Code.{code, all_images}
use Rattle.dd_model.specs.Allowed.{IsIn}
use Rattle.dd_model.specs.Request.{IsValid}
use Rattle.dd_model.specs.Wanted.{IsMember}
use Rattle.dd_model.specs.Jobs.{IsMemberUnder}
use Rattle.dd_model.specs.declared.allowed.Allowed.{Allowed}
use Rattle.dd_model.specs.declared.jobs.Job.{Job}
use Rattle.dd_model.specs.declared.jobs.Position.{Position}
use Rattle.dd_model.specs.declared.jobs.Position.TheVariants.{At, End}
use Rattle.dd_model.specs.declared.pair.Pair.TheVariants.{Tile, Vertex}
use Rattle.dd_model.specs.declared.requests.Request.{Request}
use Rattle.dd_model.proofs.AllDegrees.{listed_item}
use Rattle.dd_model.proofs.Ascending.{all-append}
use Rattle.dd_model.proofs.Codes.{length-code, length-flat_images}
use Rattle.dd_model.proofs.Lists.{all_from_members, each_of}
use Rattle.dd_model.proofs.AllowedLemmas.{in_small}
use Rattle.dd_front_jobs.specs.declared.shards.Shard.{Shard}
use Rattle.dd_front_jobs.specs.Opening.{IsOpeningJob}
use Rattle.dd_front_jobs.specs.Shards.{IsShardJob}
use Rattle.dd_front_jobs.specs.declared.portions.Portion.{Portion}
use Rattle.dd_front_jobs.proofs.PortionLaws.{shard_job, portion_job, portion_member}
use Rattle.dd_front_jobs.proofs.Growth.{begins_take}
use Rattle.dd_front_jobs.proofs.OpeningLaws.{covered}
use Rattle.dd_front_jobs.proofs.Places.{chamber_at}
use Rattle.dd_check.specs.Places.{opening_job, IsWholePlace, IsPlace}
use Rattle.dd_check.specs.Ranges.{IsFromTo, IsJobInRange, IsInRange}
use Rattle.dd_check.specs.ChainPuts.{IsStop}
use Rattle.dd_check.specs.ShardChecks.{IsShardPlace}

-- the size and the code of a symbol
abbrev whole_job : Symbol → Job
whole_job s = record { size = s.size; prefix = code s }

-- the job that a member is under is the first numbers of its code
first_numbers : (q : Request) (s : Symbol) (job : Job) → IsOpeningJob q job → IsMemberUnder q job s → job ≡ opening_job (whole_job s)
first_numbers q s job is under =
    let size : job.size ≡ s.size = sym under.size in
    let prefix : job.prefix ≡ take (min (3 * s.size) 9) (code s) =
    sym (begins_take job.prefix (code s) under.begins) ∙ ap (λ n. take n (code s)) (is.numbers ∙ ap (λ n. min (3 * n) 9) size) in
    λ i. record { size = size i; prefix = prefix i }

-- its first numbers are a job of the opening
whole_place : (q : Request) (s : Symbol) → IsMember q s → IsWholePlace q (whole_job s)
whole_place q s member =
    let c = covered q s member.wanted.symbol member.wanted.connected member.least member.wanted.chambers in
    let same = first_numbers q s c.job c.opening (record { member = member; size = c.size; begins = c.begins }) in
    record { whole = length-code s member.wanted.symbol.table; begins = subst (IsOpeningJob q) same c.opening }

pub stop_place : (p : Portion) (at : Position) → IsStop p at → IsPlace p.request at
stop_place p End stop = tt
stop_place p (At job) (inl of_portion) = inl (portion_job p job of_portion)
stop_place p (At job) (inr m) = inr (subst (IsWholePlace p.request) (sym m.job_is) (whole_place p.request m.next (portion_member p m.next m.member)))

-- a job of the opening is its own first numbers
own_numbers : (q : Request) (job : Job) → IsOpeningJob q job → job ≡ opening_job job
own_numbers q job is =
    let all = is.numbers in
    let prefix : job.prefix ≡ take (min (3 * job.size) 9) job.prefix = sym (take_all (min (3 * job.size) 9) job.prefix (omega (arith, all))) in
    λ i. record { size = job.size; prefix = prefix i }

pub stop_in_shard : (q : Request) (shard : Shard) (at : Position) → IsStop (record { request = q; shard = Some shard }) at → IsShardPlace q shard at
stop_in_shard q shard End stop = tt
stop_in_shard q shard (At job) (inl of_shard) = subst (IsShardJob q shard) (own_numbers q job (shard_job q shard job of_shard)) of_shard
stop_in_shard q shard (At job) (inr m) =
    let same = first_numbers q m.next m.member.job (shard_job q shard m.member.job m.member.of_shard) m.member.under in
    subst (λ j. IsShardJob q shard (opening_job j)) (sym m.job_is) (subst (IsShardJob q shard) same m.member.of_shard)

degrees_in : (a : Allowed) (xs : List ℕ) (n : ℕ) → length xs ≡ n → ((d : ℕ) → (1 ≤ d) × (d ≤ n) → IsIn a (item xs d) × (1 ≤ item xs d)) → AllByRecursion (IsFromTo 1 216) xs
degrees_in a xs n long each = all_from_members (IsFromTo 1 216) xs (λ x there.
    let d = listed_item xs n x long there in
    let both = each d.0 (d.1, d.2) in
    (subst (λ m. 1 ≤ m) d.3 both.1, in_small a x (subst (IsIn a) d.3 both.0)))

degrees_of : (q : Request) (s : Symbol) → IsMember q s → AllByRecursion (IsFromTo 1 216) (s.m01 ++ s.m12)
degrees_of q s member =
    let wanted = member.wanted in
    let table = wanted.symbol.table in
    all-append (IsFromTo 1 216) s.m01 s.m12
    (degrees_in q.faces s.m01 s.size table.m01_length (λ d chamber. (wanted.faces d chamber, (wanted.symbol.degrees Tile d chamber).positive)))
    (degrees_in q.degrees s.m12 s.size table.m12_length (λ d chamber. (wanted.degrees d chamber, (wanted.symbol.degrees Vertex d chamber).positive)))

-- what stands in a code after the images
degree_at : (q : Request) (s : Symbol) → IsMember q s → (t : ℕ) → t < length (code s) → 3 * s.size ≤ t → IsFromTo 1 216 (get_or (code s) t 0)
degree_at q s member t low high =
    let grouped : code s ≡ all_images s ++ (s.m01 ++ s.m12) = append_assoc (all_images s) s.m01 s.m12 in
    let images : length (all_images s) ≡ 3 * s.size = length-flat_images s 1 s.size in
    let rest = length-append (all_images s) (s.m01 ++ s.m12) in
    let long : length (code s) ≡ length (all_images s ++ (s.m01 ++ s.m12)) = ap (λ xs. length xs) grouped in
    let place : t ≡ length (all_images s) + (t - 3 * s.size) = omega (arith, images, high) in
    let same : get_or (code s) t 0 ≡ get_or (s.m01 ++ s.m12) (t - 3 * s.size) 0 =
    ap (λ xs. get_or xs t 0) grouped ∙ ap (λ j. get_or (all_images s ++ (s.m01 ++ s.m12)) j 0) place ∙ get_or-append-add (all_images s) (s.m01 ++ s.m12) (t - 3 * s.size) 0 in
    let inside : t - 3 * s.size < length (s.m01 ++ s.m12) = omega (arith, images, high, low, rest, long) in
    subst (IsFromTo 1 216) (sym same)
    (each_of (IsFromTo 1 216) (s.m01 ++ s.m12) (get_or (s.m01 ++ s.m12) (t - 3 * s.size) 0) (degrees_of q s member) (Contains-get_or (s.m01 ++ s.m12) (t - 3 * s.size) 0 inside))

whole_range : (q : Request) (s : Symbol) → IsValid q → IsMember q s → IsJobInRange q.chambers (whole_job s)
whole_range q s valid member =
    let table = member.wanted.symbol.table in
    let few = member.wanted.chambers in
    let most = valid.chambers.1 in
    let long = length-code s table in
    let short : length (code s) ≤ 180 = omega (arith, long, few, most) in
    record {
      size = (table.chambers, few);
      few = short;
      numbers = record { images = λ t low image. chamber_at s table t image; degrees = degree_at q s member };
    }

pub stop_range : (p : Portion) → IsValid p.request → (at : Position) → IsStop p at → IsInRange p.request.chambers at
stop_range p valid End stop = tt
stop_range p valid (At job) (inl of_portion) =
    let opening = portion_job p job of_portion in
    let long = opening.numbers in
    record {
      size = opening.size;
      few = omega (arith, long);
      numbers = record {
        images = λ t low image. opening.first_visit.within t low;
        degrees = λ t low high. absurd (omega (arith, long, low, high));
      };
    }
stop_range p valid (At job) (inr m) = subst (IsJobInRange p.request.chambers) (sym m.job_is) (whole_range p.request m.next valid (portion_member p m.next m.member))
