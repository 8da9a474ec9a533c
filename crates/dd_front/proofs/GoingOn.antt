-- Jobs go on where the symbols emitted end: at the opening, and after each way in which either changes.
use Rattle.std.proofs.Common.{◌⊎◌, List, [], ◌∷◌, ◌++◌, length, get_or, refl, sym, ◌∙◌, subst, inl, inr, ⊎_elim, arith}
use Rattle.std.proofs.lemmas.List.Elements.{Contains-append_right, Contains-append_left, Contains-append_cases}
use Rattle.std.specs.List.{Contains}
use Rattle.dd_model.specs.Symbol.{Symbol, IsTable}
use Rattle.dd_model.specs.Code.{code, IsBelow}
use Rattle.dd_model.specs.Lists.{IsWithout}
use Rattle.dd_model.specs.Position.{IsBefore, IsWhollyBefore}
use Rattle.dd_model.specs.Wanted.{IsAscending}
use Rattle.dd_model.specs.Jobs.{AreAscendingJobs, AreApart, IsMemberUnder, AreMembersUnder, AreChildren, extended}
use Rattle.dd_model.specs.Joined.{IsUnderOne, IsPartBelow}
use Rattle.dd_model.specs.declared.requests.Request.{Request}
use Rattle.dd_model.specs.declared.jobs.Job.{Job}
use Rattle.dd_model.specs.declared.jobs.Position.{Position}
use Rattle.dd_model.proofs.Codes.{length-code}
use Rattle.dd_model.proofs.Lists.{Contains-none, Contains-head, Contains-later, Contains-cases, each_of}
use Rattle.dd_model.proofs.Orders.{not_below_itself, not_below_both}
use Rattle.dd_model.proofs.Ascending.{ascending-append, begins_itself, begins_through, begins_more}
use Rattle.dd_model.proofs.Pairs.{ArePairs, pairs_front, pairs_back, pairs_across, ascending_pairs, pairs_ascending, part_pairs, pairs_ascending_jobs, pairs_apart}
use Rattle.dd_model.proofs.Without.{without_there, without_kept, without_pairs}
use Rattle.dd_model.proofs.Positions.{below_over, before_or_not, before_symbol, below_symbol, before_under, before_longer, under_before_later, under_below, under_wholly_before}
use Rattle.dd_model.proofs.JoinedLists.{first_parts}
use Rattle.dd_front.specs.Step.{at_symbol}
use Rattle.dd_front.specs.Covered.{IsLater, IsBetween}
use Rattle.dd_front.specs.Absorbed.{Extends}
use Rattle.dd_front.proofs.Splitting.{child_extends, children_pairs}
use Rattle.dd_front.specs.Held.{IsPast, IsFurther, GoOn}
use Rattle.dd_front.proofs.Standing.{inside}

table_under : (q : Request) (job : Job) (s : Symbol) → IsMemberUnder q job s → IsTable s
table_under q job s under = under.member.wanted.symbol.table

-- ## At the opening

pub go_on_first : (q : Request) (jobs : List Job) (at : Position) → AreAscendingJobs jobs → AreApart jobs → GoOn q jobs at jobs at []
go_on_first q jobs at ascending apart = record {
  ascending_jobs = ascending;
  apart = apart;
  extend = λ job there. (job, there, record { size = refl; begins = begins_itself job.prefix });
  further = λ s member before. before;
  ascending = tt;
  emitted = λ s there. absurd (Contains-none s there);
  complete = λ s later. inr later;
}

-- ## Children in the place of a job

-- a member under a job is under one of its children
pub under_child : (q : Request) (job : Job) (cs : List Job) (s : Symbol) → AreChildren q job cs → IsMemberUnder q job s → IsUnderOne q cs s
under_child q job cs s children under =
    let k = get_or (code s) (length job.prefix) 0 in
    let shorter = children.shorter in
    let size = under.size in
    let whole = length-code s (table_under q job s under) in
    let longer : IsMemberUnder q (extended job k) s
    = record { member = under.member; size = under.size; begins = begins_more job.prefix (code s) k (omega arith) under.begins refl } in
    ⊎_elim
    (λ there. record { job = extended job k; listed = there; under = longer })
    (λ none. absurd (none s longer))
    (children.extensions.complete k)

module _ (q : Request) (opening : List Job) (at from : Position) (out : List Symbol) (front back cs : List Job) (job : Job) (go : GoOn q opening at (front ++ job ∷ back) from out) (children : AreChildren q job cs) where
  child_of : (c : Job) → Contains cs c → Extends c job
  child_of c there = child_extends job c (children.extensions.extend c there)

  split_pairs : ArePairs IsPartBelow (front ++ (cs ++ back))
  split_pairs = children_pairs q front back cs job (part_pairs (front ++ job ∷ back) go.ascending_jobs go.apart) children

  -- each of the jobs after a split is one of those before it, or a child
  split_from : (k : Job) → Contains (front ++ (cs ++ back)) k → Contains (front ++ job ∷ back) k ⊎ Contains cs k
  split_from k there =
      ⊎_elim
      (λ early. inl (Contains-append_left front (job ∷ back) k early))
      (λ late. ⊎_elim
      (λ child. inr child)
      (λ later. inl (Contains-append_right front (job ∷ back) k (Contains-later job k back later)))
      (Contains-append_cases cs back k late))
      (Contains-append_cases front (cs ++ back) k there)

  in_the_middle : Contains (front ++ job ∷ back) job
  in_the_middle = Contains-append_right front (job ∷ back) job (Contains-head job back)

  split_later : (s : Symbol) → IsUnderOne q (front ++ job ∷ back) s → IsUnderOne q (front ++ (cs ++ back)) s
  split_later s under =
      ⊎_elim
      (λ early. record { job = under.job; listed = Contains-append_left front (cs ++ back) under.job early; under = under.under })
      (λ late. ⊎_elim
      (λ here.
      let child = under_child q job cs s children (subst (λ j. IsMemberUnder q j s) (sym here) under.under) in
      record { job = child.job; listed = Contains-append_right front (cs ++ back) child.job (Contains-append_left cs back child.job child.listed); under = child.under })
      (λ later. record { job = under.job; listed = Contains-append_right front (cs ++ back) under.job (Contains-append_right cs back under.job later); under = under.under })
      (Contains-cases job under.job back late))
      (Contains-append_cases front (job ∷ back) under.job under.listed)

  split_past : (s : Symbol) → IsPast (front ++ job ∷ back) from s → IsPast (front ++ (cs ++ back)) from s
  split_past s (inl before) = inl before
  split_past s (inr each) = inr (λ k there. ⊎_elim
      (λ old. each k old)
      (λ child. let e = child_of k child in before_longer job k s e.size e.begins (each job in_the_middle))
      (split_from k there))

  pub go_on_split : GoOn q opening at (front ++ (cs ++ back)) from out
  go_on_split = record {
    ascending_jobs = pairs_ascending_jobs (front ++ (cs ++ back)) split_pairs;
    apart = pairs_apart (front ++ (cs ++ back)) split_pairs;
    extend = λ k there. ⊎_elim
        (λ old. go.extend k old)
        (λ child.
        let e = child_of k child in
        let whole = go.extend job in_the_middle in
        (whole.0, whole.1, record { size = e.size ∙ whole.2.size; begins = begins_through whole.0.prefix job.prefix k.prefix whole.2.begins e.begins }))
        (split_from k there);
    further = go.further;
    ascending = go.ascending;
    emitted = λ s there. let e = go.emitted s there in (e.0, split_past s e.1);
    complete = λ s later. ⊎_elim
        (λ there. inl there)
        (λ left. inr (record { under = split_later s left.under; later = left.later }))
        (go.complete s later);
  }

-- ## Members of the first job are emitted

module _ (q : Request) (opening : List Job) (at from : Position) (out : List Symbol) (j : Job) (js : List Job) (go : GoOn q opening at (j ∷ js) from out) (list later : List Symbol) (are : AreMembersUnder q j list) (without : IsWithout (IsBefore from) list later) where
  -- what is not before `from` is under the first job
  later_under : (s : Symbol) → Contains later s → IsMemberUnder q j s
  later_under s there = (are.members s).0 (without_there (IsBefore from) list later s without there).0

  later_not : (s : Symbol) → Contains later s → IsBefore from s → ⊥
  later_not s there = (without_there (IsBefore from) list later s without there).1

  later_kept : (s : Symbol) → IsMemberUnder q j s → (IsBefore from s → ⊥) → Contains later s
  later_kept s under not = without_kept (IsBefore from) list later s without ((are.members s).1 under) not

  later_pairs : ArePairs IsBelow later
  later_pairs = without_pairs (IsBefore from) IsBelow list later without (ascending_pairs list are.ascending)

  -- and comes after all that was emitted
  out_below : (s t : Symbol) → Contains out s → Contains later t → IsBelow s t
  out_below s t hs ht =
      let e = go.emitted s hs in
      let under = later_under t ht in
      ⊎_elim
      (λ before. below_over from s t (table_under q e.0.under.job s e.0.under.under) (table_under q j t under) before (later_not t ht))
      (λ each. before_under q j s t (each j (Contains-head j js)) under)
      e.1

  later_of_opening : (s : Symbol) → Contains later s → IsLater q opening at s
  later_of_opening s there =
      let under = later_under s there in record {
        under = inside q opening at (j ∷ js) from out go s (record { job = j; listed = Contains-head j js; under = under });
        later = λ before. later_not s there (go.further s under.member before);
      }

  pub go_on_emit : GoOn q opening at js from (out ++ later)
  go_on_emit = record {
    ascending_jobs = go.ascending_jobs.1;
    apart = go.apart.1;
    extend = λ k there. go.extend k (Contains-later j k js there);
    further = go.further;
    ascending = ascending-append out later go.ascending (pairs_ascending later later_pairs) out_below;
    emitted = λ s there. ⊎_elim
        (λ early. let e = go.emitted s early in (e.0, ⊎_elim (λ before. inl before) (λ each. inr (λ k hk. each k (Contains-later j k js hk))) e.1))
        (λ late. (later_of_opening s late, inr (λ k hk. under_before_later q j k s (first_parts j k js go.ascending_jobs go.apart hk) (later_under s late))))
        (Contains-append_cases out later s there);
    complete = λ s is. ⊎_elim
        (λ there. inl (Contains-append_left out later s there))
        (λ left. ⊎_elim
        (λ first. inl (Contains-append_right out later s (later_kept s (subst (λ k. IsMemberUnder q k s) (sym first) left.under.under) left.later)))
        (λ further. inr (record { under = record { job = left.under.job; listed = further; under = left.under.under }; later = left.later }))
        (Contains-cases j left.under.job js left.under.listed))
        (go.complete s is);
  }

module _ (q : Request) (opening : List Job) (at from : Position) (out : List Symbol) (j : Job) (js : List Job) (go : GoOn q opening at (j ∷ js) from out) (list emitted rest : List Symbol) (next : Symbol) (are : AreMembersUnder q j list) (without : IsWithout (IsBefore from) list (emitted ++ next ∷ rest)) where
  among : (s : Symbol) → Contains emitted s → Contains (emitted ++ next ∷ rest) s
  among s there = Contains-append_left emitted (next ∷ rest) s there

  next_there : Contains (emitted ++ next ∷ rest) next
  next_there = Contains-append_right emitted (next ∷ rest) next (Contains-head next rest)

  next_under : IsMemberUnder q j next
  next_under = later_under q opening at from out j js go list (emitted ++ next ∷ rest) are without next next_there

  part_pairs_left : ArePairs IsBelow (emitted ++ next ∷ rest)
  part_pairs_left = later_pairs q opening at from out j js go list (emitted ++ next ∷ rest) are without

  -- what is before `from` is before the next member
  on_to_next : (s : Symbol) → IsTable s → IsBefore from s → IsBefore (at_symbol next) s
  on_to_next s is before =
      let table = table_under q j next next_under in
      before_symbol s next is table (below_over from s next is table before (later_not q opening at from out j js go list (emitted ++ next ∷ rest) are without next next_there))

  emitted_before_next : (s : Symbol) → Contains emitted s → IsBefore (at_symbol next) s
  emitted_before_next s there =
      let under = later_under q opening at from out j js go list (emitted ++ next ∷ rest) are without s (among s there) in
      before_symbol s next (table_under q j s under) (table_under q j next next_under) (pairs_across IsBelow emitted (next ∷ rest) part_pairs_left s next there (Contains-head next rest))

  -- what is left and before the next member is emitted
  emitted_if_below : (s : Symbol) → IsLater q (j ∷ js) from s → IsBelow s next → Contains emitted s
  emitted_if_below s left below =
      ⊎_elim
      (λ first.
      let under = subst (λ k. IsMemberUnder q k s) (sym first) left.under.under in
      ⊎_elim
      (λ there. there)
      (λ past. absurd (⊎_elim
      (λ same. not_below_itself next (subst (λ z. IsBelow z next) (sym same) below))
      (λ after. not_below_both s next below (each_of (IsBelow next) rest s (pairs_back IsBelow emitted (next ∷ rest) part_pairs_left).0 after))
      (Contains-cases next s rest past)))
      (Contains-append_cases emitted (next ∷ rest) s (later_kept q opening at from out j js go list (emitted ++ next ∷ rest) are without s under left.later)))
      (λ further.
      let part = first_parts j left.under.job js go.ascending_jobs go.apart further in
      absurd (not_below_both s next below (under_below q j left.under.job next s part next_under left.under.under)))
      (Contains-cases j left.under.job js left.under.listed)

  pub go_on_part : GoOn q opening at (j ∷ js) (at_symbol next) (out ++ emitted)
  go_on_part = record {
    ascending_jobs = go.ascending_jobs;
    apart = go.apart;
    extend = go.extend;
    further = λ s member before. on_to_next s member.wanted.symbol.table (go.further s member before);
    ascending = ascending-append out emitted go.ascending (pairs_ascending emitted (pairs_front IsBelow emitted (next ∷ rest) part_pairs_left)) (λ s t hs ht.
        out_below q opening at from out j js go list (emitted ++ next ∷ rest) are without s t hs (among t ht));
    emitted = λ s there. ⊎_elim
        (λ early.
        let e = go.emitted s early in
        (e.0, ⊎_elim (λ before. inl (on_to_next s (table_under q e.0.under.job s e.0.under.under) before)) (λ each. inr each) e.1))
        (λ late. (later_of_opening q opening at from out j js go list (emitted ++ next ∷ rest) are without s (among s late), inl (emitted_before_next s late)))
        (Contains-append_cases out emitted s there);
    complete = λ s is. ⊎_elim
        (λ there. inl (Contains-append_left out emitted s there))
        (λ left. ⊎_elim
        (λ before. inl (Contains-append_right out emitted s (emitted_if_below s left (below_symbol s next before))))
        (λ not. inr (record { under = left.under; later = not }))
        (before_or_not (at_symbol next) s))
        (go.complete s is);
  }

-- ## Back to what was saved

pub go_on_again : (q : Request) (opening jobs : List Job) (at saved : Position) (out : List Symbol) → AreAscendingJobs opening → AreApart opening → IsWithout (IsWhollyBefore saved) opening jobs
    → IsFurther q at saved → IsAscending out → ((s : Symbol) → Contains out s → IsBetween q opening at saved s) → ((s : Symbol) → IsBetween q opening at saved s → Contains out s) → GoOn q opening at jobs saved out
go_on_again q opening jobs at saved out ascending apart remaining further order between complete =
    let pairs = without_pairs (IsWhollyBefore saved) IsPartBelow opening jobs remaining (part_pairs opening ascending apart) in
    record {
      ascending_jobs = pairs_ascending_jobs jobs pairs;
      apart = pairs_apart jobs pairs;
      extend = λ job there. (job, (without_there (IsWhollyBefore saved) opening jobs job remaining there).0, record { size = refl; begins = begins_itself job.prefix });
      further = further;
      ascending = order;
      emitted = λ s there. let b = between s there in (b.from, inl b.before);
      complete = λ s later. ⊎_elim
          (λ before. inl (complete s (record { from = later; before = before })))
          (λ not.
          let job = later.under.job in
          let kept = without_kept (IsWhollyBefore saved) opening jobs job remaining later.under.listed (λ wholly. not (under_wholly_before q saved job s wholly later.under.under)) in
          inr (record { under = record { job = job; listed = kept; under = later.under.under }; later = not }))
          (before_or_not saved s);
    }
