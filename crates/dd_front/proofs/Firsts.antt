-- The first open jobs.
use Rattle.std.proofs.Common.{◌≡◌, ◌≢◌, ℕ, suc, ◌+◌, ◌-◌, ◌<◌, List, [], ◌∷◌, ◌++◌, length, get_or, take, drop, refl, sym, ap, ◌∙◌, arith}
use Rattle.std.proofs.lemmas.List.{append_assoc, length_push, drop_more, take-append-drop}
use Rattle.std.specs.List.{AllByRecursion}
use Rattle.dd_model.specs.declared.jobs.Job.{Job}
use Rattle.dd_front.specs.declared.entry.Entry.{Entry}
use Rattle.dd_front.specs.declared.entry.State.{State}
use Rattle.dd_front.specs.declared.entry.State.TheVariants.{Open, Out, Done}
use Rattle.dd_front.specs.Rounds.{job_if_open, open_jobs, IsFirstOpen}

not_open : (state : State) (job : Job) → state ≢ Open → job_if_open state job ≡ []
not_open Open job not = absurd (not refl)
not_open Out job not = refl
not_open (Done list) job not = refl

opened_at : (es : List Entry) (i : ℕ) (e : Entry) → i < length es → e ≡ get_or es i e → open_jobs (drop i es) ≡ job_if_open e.state e.job ++ open_jobs (drop (i + 1) es)
opened_at es i e low read = ap open_jobs (drop_more es i e low ∙ ap (λ x. x ∷ drop (i + 1) es) (sym read))

-- the entry at hand is open
pub one_more : (jobs now : List Job) (most : ℕ) (es : List Entry) (i : ℕ) (e : Entry) → i < length es → e ≡ get_or es i e → length jobs < most → e.state ≡ Open → now ≡ jobs ++ e.job ∷ []
    → now ++ take (most - length now) (open_jobs (drop (i + 1) es)) ≡ jobs ++ take (most - length jobs) (open_jobs (drop i es))
one_more jobs now most es i e low read room is longer =
    let rest = open_jobs (drop (i + 1) es) in
    let front : open_jobs (drop i es) ≡ e.job ∷ rest = opened_at es i e low read ∙ ap (λ s. job_if_open s e.job ++ rest) is in
    let left : most - length jobs ≡ suc (most - length now) = omega (arith, ap length longer, length_push jobs e.job) in
    ap (λ js. js ++ take (most - length now) rest) longer
    ∙ append_assoc jobs (e.job ∷ []) (take (most - length now) rest)
    ∙ sym (ap (λ js. jobs ++ take (most - length jobs) js) front ∙ ap (λ n. jobs ++ take n (e.job ∷ rest)) left)

-- it is not
pub none_more : (jobs : List Job) (most : ℕ) (es : List Entry) (i : ℕ) (e : Entry) → i < length es → e ≡ get_or es i e → e.state ≢ Open
    → jobs ++ take (most - length jobs) (open_jobs (drop (i + 1) es)) ≡ jobs ++ take (most - length jobs) (open_jobs (drop i es))
none_more jobs most es i e low read not =
    let rest = open_jobs (drop (i + 1) es) in
    ap (λ js. jobs ++ take (most - length jobs) js) (sym (opened_at es i e low read ∙ ap (λ js. js ++ rest) (not_open e.state e.job not)))

-- the entry at a place is open, and none before it
pub first_open_at : (es : List Entry) (i : ℕ) (e : Entry) → i < length es → e ≡ get_or es i e → AllByRecursion (λ d. d.state ≢ Open) (take i es) → e.state ≡ Open → IsFirstOpen es e
first_open_at es i e low read none waits = record {
  before = take i es;
  after = drop (i + 1) es;
  parts = sym (take-append-drop i es) ∙ ap (λ ds. take i es ++ ds) (drop_more es i e low ∙ ap (λ x. x ∷ drop (i + 1) es) (sym read));
  none = none;
  waits = waits;
}
