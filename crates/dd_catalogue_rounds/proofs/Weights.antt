-- What is left to do, as a number that falls with each round and with each split.
use Rattle.std.proofs.Common.{◌≡◌, ℕ, zero, suc, ◌+◌, ◌*◌, ◌-◌, ◌^◌, ◌<◌, ◌≤◌, List, [], ◌∷◌, ◌++◌, length, drop, ap, ◌∙◌, subst, arith}
use Rattle.std.proofs.lemmas.List.{length_push}
use Rattle.std.specs.List.{AllByRecursion}
use Rattle.dd_model.specs.Jobs.{IsJobOf}
use Rattle.dd_model.specs.Request.{IsValid}
use Rattle.dd_model.specs.declared.jobs.Job.{Job}
use Rattle.dd_model.specs.declared.requests.Request.{Request}
use Rattle.dd_model.proofs.Lists.{all_from_members}
use Rattle.dd_front.specs.Machine.{Machine, jobs_of}
use Rattle.dd_front.specs.Rounds.{open_jobs}
use Rattle.dd_board.specs.Desk.{AreJobsOf}
use Rattle.dd_pages_and_checkpoints.specs.Rounds.{AreOpen, IsRoundDone}
use Rattle.dd_catalogue_rounds.specs.Splits.{IsSplit}
use Rattle.dd_catalogue_rounds.proofs.RoundEntries.{waiting_all, after_round, length_jobs}

-- the weight of a job whose prefix has so many numbers: more than that of all its children
abbrev pub weight_at : ℕ → ℕ
weight_at numbers = 256 ^ (110 - numbers)

-- the weight of all of these jobs
abbrev pub weighed : List Job → ℕ
weighed [] = 0
weighed (job ∷ jobs) = weight_at (length job.prefix) + weighed jobs

some_weight : (n : ℕ) → 1 ≤ 256 ^ n
some_weight zero = omega arith
some_weight (suc n) = let some = some_weight n in omega (arith, some)

positive : (n : ℕ) → 1 ≤ weight_at n
positive n = some_weight (110 - n)

weighed-append : (xs ys : List Job) → weighed (xs ++ ys) ≡ weighed xs + weighed ys
weighed-append [] ys = omega arith
weighed-append (x ∷ xs) ys = let rest = weighed-append xs ys in omega (arith, rest)

-- jobs of one length
weighed_alike : (n : ℕ) (xs : List Job) → AllByRecursion (λ (x : Job). length x.prefix ≡ n) xs → weighed xs ≡ length xs * weight_at n
weighed_alike n [] all = omega arith
weighed_alike n (x ∷ xs) all = let rest = weighed_alike n xs all.1 in let own = ap weight_at all.0 in omega (arith, rest, own)

longer : (n : ℕ) → n < 110 → weight_at n ≡ 256 * weight_at (n + 1)
longer n low =
    ap (λ k. 256 ^ k) next ∙ one_more (110 - (n + 1))
  where
    next : 110 - n ≡ suc (110 - (n + 1))
    next = omega (arith, low)

    one_more : (k : ℕ) → 256 ^ suc k ≡ 256 * 256 ^ k
    one_more k = omega arith

-- a job weighs more than its children
pub lighter_split : (q : Request) (f g : Machine) → IsValid q → AreJobsOf q (jobs_of f.entries) → AreOpen f.entries → IsSplit q f g → weighed (open_jobs g.entries) < weighed (open_jobs f.entries)
lighter_split q f g valid jobs opens split =
    let job = split.first.job in
    let open_now : AreOpen g.entries = split.opens (subst AreOpen split.parts opens).1 in
    let own : IsJobOf q job = (subst (λ es. AreJobsOf q (jobs_of es)) split.parts jobs).0 in
    let shorter = split.are.shorter in
    let small = own.small in
    let most = valid.chambers.1 in
    let n = length job.prefix in
    let low : n < 110 = omega (arith, shorter, small, most) in
    let w = weight_at (n + 1) in
    let some = positive (n + 1) in
    let is = split.are.extensions.extend in
    let alike = weighed_alike (n + 1) split.children
    (all_from_members (λ (x : Job). length x.prefix ≡ n + 1) split.children (λ c there. let e = is c there in ap (λ (x : Job). length x.prefix) e.1 ∙ length_push job.prefix e.0)) in
    let few = split.few in
    let many : length split.children * w ≤ 255 * w = times_low (length split.children) 255 w few in
    let old : weighed (open_jobs f.entries) ≡ weight_at n + weighed (jobs_of split.rest) = ap weighed (waiting_all f.entries opens ∙ ap jobs_of split.parts) in
    let new : weighed (open_jobs g.entries) ≡ weighed split.children + weighed (jobs_of split.rest) = ap weighed (waiting_all g.entries open_now ∙ split.jobs) ∙ weighed-append split.children (jobs_of split.rest) in
    let whole = longer n low in
    omega (arith, alike, many, old, new, whole, some)
  where
    times_low : (a b w : ℕ) → a ≤ b → a * w ≤ b * w
    times_low zero b w low = omega arith
    times_low (suc a) zero w low = absurd (omega (arith, low))
    times_low (suc a) (suc b) w low = let rest = times_low a b w (omega (arith, low)) in omega (arith, rest)

weighed_less : (k : ℕ) (xs : List Job) → weighed (drop k xs) ≤ weighed xs
weighed_less zero [] = omega arith
weighed_less zero (x ∷ xs) = omega arith
weighed_less (suc k) [] = omega arith
weighed_less (suc k) (x ∷ xs) =
    let rest : weighed (drop k xs) ≤ weighed xs = weighed_less k xs in
    omega (arith, rest)

weighed_fewer : (k : ℕ) (xs : List Job) → 1 ≤ k → k ≤ length xs → weighed (drop k xs) < weighed xs
weighed_fewer zero xs some enough = absurd (omega (arith, some))
weighed_fewer (suc k) [] some enough = absurd (omega (arith, enough))
weighed_fewer (suc k) (x ∷ xs) some enough =
    let rest = weighed_less k xs in
    let own = positive (length x.prefix) in
    omega (arith, rest, own)

-- less is left after a round
pub lighter_round : (most : ℕ) (f g : Machine) → IsRoundDone most f g → AreOpen f.entries → weighed (open_jobs g.entries) < weighed (open_jobs f.entries)
lighter_round most f g round opens =
    let k = round.count in
    let after : open_jobs g.entries ≡ drop k (jobs_of f.entries) = after_round most f g round opens in
    let all = waiting_all f.entries opens in
    let long = length_jobs f.entries in
    let enough = round.may.enough in
    let less = weighed_fewer k (jobs_of f.entries) round.some (omega (arith, long, enough)) in
    let one = ap weighed after in
    let two = ap weighed all in
    omega (arith, less, one, two)
