-- Jobs whose numbers stand one after the other.
use Rattle.std.proofs.Common.{◌≡◌, ℕ, suc, ◌+◌, ◌≤◌, ◌<◌, List, [], ◌∷◌, ◌++◌, length, take, drop, get_or, sym, ap, ◌∙◌, arith}
use Rattle.std.proofs.Math.Seq.{drop-cons}
use Rattle.std.proofs.lemmas.List.{take-append-le, drop-append-le, length-drop, length-append, take_all, append_assoc}
use Rattle.dd_model.specs.declared.jobs.Job.{Job}
use Rattle.dd_front.specs.declared.opening.PackedJob.{PackedJob}
use Rattle.dd_front.specs.Opening.{unpacked, together}

abbrev pub job_of : ℕ → List ℕ → Job
job_of size prefix = record { size = size; prefix = prefix }

together_push : (ps : List PackedJob) (p : PackedJob) → together (ps ++ p ∷ []) ≡ together ps + p.count
together_push [] p = omega arith
together_push (c ∷ ps) p = omega (arith, together_push ps p)

take_own : (xs ys : List ℕ) (k : ℕ) → length xs ≡ 0 → k ≡ length ys → take k (xs ++ ys) ≡ ys
take_own [] ys k none long = take_all k ys (omega (arith, long))
take_own (x ∷ xs) ys k none long = absurd (omega (arith, none))

-- one more job at the end
pub unpacked_push : (ps : List PackedJob) (xs ys : List ℕ) (p : PackedJob) → together ps ≡ length xs → p.count ≡ length ys
    → unpacked (ps ++ p ∷ []) (xs ++ ys) ≡ unpacked ps xs ++ job_of p.size ys ∷ []
unpacked_push [] xs ys p whole long = ap (λ q. job_of p.size q ∷ []) (take_own xs ys p.count (sym whole) long)
unpacked_push (c ∷ ps) xs ys p whole long =
    let low : c.count ≤ length xs = omega (arith, whole) in
    let later : together ps ≡ length (drop c.count xs) = omega (arith, whole, length-drop c.count xs) in
    ap (λ q. job_of c.size q ∷ unpacked (ps ++ p ∷ []) (drop c.count (xs ++ ys))) (take-append-le c.count xs ys low)
    ∙ ap (λ zs. job_of c.size (take c.count xs) ∷ unpacked (ps ++ p ∷ []) zs) (drop-append-le c.count xs ys low)
    ∙ ap (λ js. job_of c.size (take c.count xs) ∷ js) (unpacked_push ps (drop c.count xs) ys p later long)

pub packed_push : (ps : List PackedJob) (xs ys : List ℕ) (p : PackedJob) → together ps ≡ length xs → p.count ≡ length ys → together (ps ++ p ∷ []) ≡ length (xs ++ ys)
packed_push ps xs ys p whole long = omega (arith, together_push ps p, whole, long, length-append xs ys)

-- what is read of some jobs, and what is left of them
pub record IsReading (ps : List PackedJob) (all : List Job) (at : ℕ) (jobs : List Job) (left : List ℕ) : Type 0 where
  pub whole : jobs ++ unpacked (drop at ps) left ≡ all
  pub packed : together (drop at ps) ≡ length left

next_one : (ps : List PackedJob) (at : ℕ) (p : PackedJob) → at < length ps → p ≡ get_or ps at p → drop at ps ≡ p ∷ drop (suc at) ps
next_one ps at p low is = drop-cons ps at p low ∙ ap (λ c. c ∷ drop (suc at) ps) (sym is)

-- one more job is read
pub read_more : (ps : List PackedJob) (all : List Job) (at : ℕ) (jobs now : List Job) (left : List ℕ) (p : PackedJob) → IsReading ps all at jobs left → at < length ps → p ≡ get_or ps at p
    → now ≡ jobs ++ job_of p.size (take p.count left) ∷ [] → IsReading ps all (suc at) now (drop p.count left)
read_more ps all at jobs now left p is low here more =
    let next = next_one ps at p low here in
    let own = job_of p.size (take p.count left) in
    let rest = unpacked (drop (suc at) ps) (drop p.count left) in
    let opened : unpacked (drop at ps) left ≡ own ∷ rest = ap (λ ds. unpacked ds left) next in
    let sum = ap together next in
    record {
      whole = ap (λ js. js ++ rest) more ∙ append_assoc jobs (own ∷ []) rest ∙ ap (λ js. jobs ++ js) (sym opened) ∙ is.whole;
      packed = omega (arith, is.packed, sum, length-drop p.count left);
    }
