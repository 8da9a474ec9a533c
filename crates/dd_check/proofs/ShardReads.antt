-- Which texts begin with the line of a shard.
use Rattle.std.proofs.Common.{◌≡◌, ◌≢◌, ◌↔◌, IsTrue, ℕ, zero, suc, ◌+◌, ◌-◌, ◌*◌, ◌<◌, ◌≤◌, min, Bool, Result, Ok, ⊎_elim, List, [], ◌∷◌, ◌++◌, length, get_or, take, drop, append_assoc, refl, sym, ap, ◌∙◌, subst, inl, inr, arith}
use Rattle.std.proofs.lemmas.Bool.{cases_lt}
use Rattle.std.proofs.lemmas.List.{append_cancel_left, take_all}
use Rattle.std.proofs.Math.Seq.{take-length, take-suc}
use Rattle.std.proofs.lemmas.List.Elements.{Contains-append_cases}
use Rattle.std.specs.Prelude.{codes, decimal, IfOk}
use Rattle.std.specs.Fmt.{digits}
use Rattle.std.specs.List.{join_with_byte, Contains}
use Rattle.dd_model.specs.Request.{IsValid}
use Rattle.dd_model.specs.declared.jobs.Job.{Job}
use Rattle.dd_model.specs.declared.requests.Request.{Request}
use Rattle.dd_model.proofs.Lists.{Contains-head, Contains-later, Contains-one}
use Rattle.dd_front_jobs.specs.declared.shards.Shard.{Shard}
use Rattle.dd_front_jobs.specs.Shards.{IsShardJob, IsShardOpening}
use Rattle.dd_check.specs.declared.checkpoint.Checkpoint.{Checkpoint}
use Rattle.dd_check.specs.declared.faults.CheckFault.{CheckFault}
use Rattle.dd_check.specs.Texts.{Text}
use Rattle.dd_check.specs.Accepted.{IsCheckpointText}
use Rattle.dd_check.specs.Places.{opening_job}
use Rattle.dd_check.specs.ShardChecks.{shard_line}
use Rattle.dd_check.specs.ShardFaults.{shard_words, IsRest}

-- a number of one digit
one_digit : (n : ℕ) → n < 10 → decimal n ≡ (48 + n) ∷ []
unfolding digits
one_digit zero low = refl
one_digit (suc zero) low = refl
one_digit (suc (suc zero)) low = refl
one_digit (suc (suc (suc zero))) low = refl
one_digit (suc (suc (suc (suc zero)))) low = refl
one_digit (suc (suc (suc (suc (suc zero))))) low = refl
one_digit (suc (suc (suc (suc (suc (suc zero)))))) low = refl
one_digit (suc (suc (suc (suc (suc (suc (suc zero))))))) low = refl
one_digit (suc (suc (suc (suc (suc (suc (suc (suc zero)))))))) low = refl
one_digit (suc (suc (suc (suc (suc (suc (suc (suc (suc zero))))))))) low = refl
one_digit (suc (suc (suc (suc (suc (suc (suc (suc (suc (suc n)))))))))) low = absurd (omega (arith, low))

abbrev line_words : Shard → Text
line_words shard = join_with_byte 32 (codes "dressline" ∷ codes "shard" ∷ decimal shard.index ∷ decimal shard.count ∷ [])

abbrev number_bytes : Shard → Text → Text
number_bytes shard rest = (48 + shard.index) ∷ 32 ∷ (48 + shard.count) ∷ 10 ∷ rest

-- the line of a shard, byte by byte
line_bytes : (shard : Shard) (rest : Text) → shard_line shard ++ rest ≡ shard_words ++ number_bytes shard rest
line_bytes shard rest =
    let few = shard.few in
    let within = shard.within in
    let index = one_digit shard.index (omega (arith, few, within)) in
    let count = one_digit shard.count (omega (arith, few)) in
    let words : line_words shard ≡ shard_words ++ (48 + shard.index) ∷ 32 ∷ (48 + shard.count) ∷ [] = λ i. shard_words ++ (index i ++ 32 ∷ count i) in
    append_assoc (line_words shard) (10 ∷ []) rest ∙ ap (λ ws. ws ++ 10 ∷ rest) words

pub line_length : (shard : Shard) (rest : Text) → length (shard_line shard ++ rest) ≡ 20 + length rest
line_length shard rest = let n = ap length (line_bytes shard rest) in omega (arith, n)

pub rest_after : (shard : Shard) (xs rest : Text) → IsRest shard (shard_words ++ xs) rest → xs ≡ number_bytes shard rest
rest_after shard xs rest is = append_cancel_left shard_words xs (number_bytes shard rest) (is ∙ line_bytes shard rest)

pub after_rest : (shard : Shard) (xs rest : Text) → xs ≡ number_bytes shard rest → IsRest shard (shard_words ++ xs) rest
after_rest shard xs rest is = ap (λ ys. shard_words ++ ys) is ∙ sym (line_bytes shard rest)

-- four bytes and what comes after them
pub four_bytes : (xs : Text) → 4 ≤ length xs → (d0 d1 d2 d3 : ℕ) → xs ≡ get_or xs 0 d0 ∷ get_or xs 1 d1 ∷ get_or xs 2 d2 ∷ get_or xs 3 d3 ∷ take (length xs - 4) (drop 4 xs)
four_bytes (a ∷ b ∷ c ∷ d ∷ xs) low d0 d1 d2 d3 =
    let e : length (a ∷ b ∷ c ∷ d ∷ xs) - 4 ≡ length xs = omega arith in
    ap (λ ys. a ∷ b ∷ c ∷ d ∷ ys) (sym (ap (λ n. take n xs) e ∙ take-length xs))
four_bytes [] low d0 d1 d2 d3 = absurd (omega arith)
four_bytes (a ∷ []) low d0 d1 d2 d3 = absurd (omega arith)
four_bytes (a ∷ b ∷ []) low d0 d1 d2 d3 = absurd (omega arith)
four_bytes (a ∷ b ∷ c ∷ []) low d0 d1 d2 d3 = absurd (omega arith)

-- ## Jobs of a shard

-- a job is not among some, nor is it the next one
pub none_more : (jobs : List Job) (k : ℕ) (d x : Job) → k < length jobs → (Contains (take k jobs) x → ⊥) → get_or jobs k d ≢ x → Contains (take (k + 1) jobs) x → ⊥
none_more jobs k d x low none other there =
    let e : k + 1 ≡ suc k = omega arith in
    let parts : take (k + 1) jobs ≡ take k jobs ++ get_or jobs k d ∷ [] = ap (λ n. take n jobs) e ∙ take-suc jobs k d low in
    ⊎_elim none (λ last. other (Contains-one (get_or jobs k d) x last))
    (Contains-append_cases (take k jobs) (get_or jobs k d ∷ []) x (subst (λ xs. Contains xs x) parts there))

pub none_at_all : (jobs : List Job) (k : ℕ) (x : Job) → length jobs ≤ k → (Contains (take k jobs) x → ⊥) → Contains jobs x → ⊥
none_at_all jobs k x all none there = none (subst (λ xs. Contains xs x) (sym (take_all k jobs all)) there)

pub one_listed : (jobs : List Job) (k : ℕ) (d x : Job) → k < length jobs → get_or jobs k d ≡ x → Contains jobs x
one_listed [] k d x low e = absurd (omega arith)
one_listed (j ∷ jobs) zero d x low e = subst (Contains (j ∷ jobs)) e (Contains-head j jobs)
one_listed (j ∷ jobs) (suc k) d x low e = Contains-later j x jobs (one_listed jobs k d x (omega arith) e)

-- no more than there are
take_most : (k : ℕ) (xs : List ℕ) → take (min k (length xs)) xs ≡ take k xs
take_most k xs = ⊎_elim
    (λ (high : length xs < k). let e : min k (length xs) ≡ length xs = omega (arith, high) in ap (λ n. take n xs) e ∙ take-length xs ∙ sym (take_all k xs (omega (arith, high))))
    (λ (low : k ≤ length xs). let e : min k (length xs) ≡ k = omega (arith, low) in ap (λ n. take n xs) e)
    (cases_lt (length xs) k)

pub first_numbers : (n k : ℕ) (xs ys : List ℕ) → n ≡ min k (length xs) → xs ≡ ys → take n xs ≡ take k ys
first_numbers n k xs ys e same = ap (λ m. take m xs) e ∙ take_most k xs ∙ ap (take k) same

-- the list of a shard's jobs tells which jobs are the shard's
pub listed_jobs : (q : Request) (shard : Shard) (job : Job) (answer : Bool) (xs ys : List Job) (numbers : List ℕ) → xs ≡ ys → numbers ≡ take (min (3 * job.size) 9) job.prefix
    → IsShardOpening q shard ys → (IsTrue answer ↔ Contains xs (record { size = job.size; prefix = numbers })) → IsTrue answer ↔ IsShardJob q shard (opening_job job)
listed_jobs q shard job answer xs ys numbers same first all told =
    let members = all.members (opening_job job) in
    let here = subst (λ zs. IsTrue answer ↔ Contains zs (opening_job job)) same
    (subst (λ ns. IsTrue answer ↔ Contains xs (record { size = job.size; prefix = ns })) first told) in
    (λ t. members.0 (here.0 t), λ is. here.1 (members.1 is))

-- ## Faults

pub valid_check : (text : Text) (c : Checkpoint) → IsCheckpointText text c → IsValid c.request
valid_check text c (inl new) = new.stands.valid
valid_check text c (inr old) = old.stands.valid

pub valid_read : (r : Result Checkpoint CheckFault) (text : Text) (c : Checkpoint) → r ≡ Ok c → IfOk r (IsCheckpointText text) → IsValid c.request
valid_read r text c e h = valid_check text c (subst (λ z. IfOk z (IsCheckpointText text)) e h)
