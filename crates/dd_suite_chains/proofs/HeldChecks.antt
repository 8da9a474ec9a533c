-- What the name of a chain holds is the text of a checkpoint that one of its calls has put.
use Rattle.std.proofs.Common.{◌≡◌, ◌⊎◌, ℕ, ◌+◌, ◌<◌, List, [], ◌∷◌, ◌++◌, take, length, Option, Some, None, inl, inr, ⊎_elim, refl, sym, ap, ◌∙◌, subst, arith}
use Rattle.std.proofs.lemmas.List.{length-append}
use Rattle.std.proofs.lemmas.List.Elements.{Contains-append_cases}
use Rattle.std.specs.List.{AllByRecursion, Contains}
use Rattle.dd_model.specs.Symbol.{Symbol}
use Rattle.dd_model.specs.Request.{IsValid}
use Rattle.dd_model.specs.Code.{IsBelow}
use Rattle.dd_model.specs.Text.{beginning}
use Rattle.dd_model.specs.Wanted.{IsCatalogue, IsMember}
use Rattle.dd_model.specs.Position.{IsBefore}
use Rattle.dd_model.specs.declared.jobs.Job.{Job}
use Rattle.dd_model.specs.declared.jobs.Position.{Position}
use Rattle.dd_model.specs.declared.jobs.Position.TheVariants.{At, End}
use Rattle.dd_model.specs.declared.requests.Request.{Request}
use Rattle.dd_model.proofs.Lists.{all_from_members}
use Rattle.dd_model.proofs.Orders.{not_below_itself}
use Rattle.dd_model.proofs.Positions.{before_or_not, below_over, below_symbol}
use Rattle.dd_model.proofs.Texts.{nothing_before}
use Rattle.dd_model.proofs.AscendingFronts.{begins_with}
use Rattle.dd_check.specs.declared.checkpoint.Checkpoint.{Checkpoint}
use Rattle.dd_check.specs.declared.faults.ShardFault.{ShardFault}
use Rattle.dd_check.specs.Accepted.{IsCheckpointText}
use Rattle.dd_check.specs.Checks.{IsCheckText}
use Rattle.dd_check.specs.ShardFaults.{HasKindFault}
use Rattle.dd_check.proofs.KindFaults.{no_kind_fault}
use Rattle.dd_check.proofs.Exclusion.{one_checkpoint}
use Rattle.dd_check.proofs.ShortTexts.{written_reads_back}
use Rattle.dd_check.specs.Between.{IsMemberBetween, AreLinesBetween}
use Rattle.dd_front_jobs.specs.Portions.{whole}
use Rattle.dd_check.specs.declared.checkpoint.ResumeKind.TheVariants.{Catalogues}
use Rattle.dd_check.specs.Calls.{Begin, Resume, Call}
use Rattle.dd_check.specs.ShardChecks.{IsSavedText}
use Rattle.dd_check.specs.Clauses.{MeetsClauses}
use Rattle.dd_check.specs.ChainPuts.{DoCountsFit, IsStop, IsNextMember}
use Rattle.dd_check.specs.ChainStarts.{Holds, Start, next_start, Starts, StartsAt}
use Rattle.dd_check.proofs.ChainParts.{catalogue_next}
use Rattle.dd_check.proofs.LinesUpTo.{no_lines, joined_between}
use Rattle.dd_check.proofs.ReadingBack.{IsWritten, reads_or_not}
use Rattle.dd_check.proofs.ChainStops.{stop_place, stop_range}
use Rattle.dd_suite_tasks.proofs.HeldTexts.{some_injective}
use Rattle.dd_suite_chains.specs.Sentences.{HoldsOutOfRange}

-- a run of the request begins after so many lines as there are before its position
pub record IsUpTo (q : Request) (s : Start) : Type 0 where
  pub portion : s.portion ≡ whole q
  pub bytes : List ℕ
  pub lines : AreLinesBetween (whole q) beginning s.at 0 s.lines bytes

-- the text of a checkpoint that a call of the chain has put
pub record HoldsPut (q : Request) (held : Option (List ℕ)) : Type 0 where
  pub check : Checkpoint
  pub text : List ℕ
  pub held_is : held ≡ Some text
  pub is_text : IsCheckText check text
  pub fit : DoCountsFit check
  pub stop : IsStop (whole q) check.at
  pub upto : IsUpTo q (next_start None check)

-- nothing, or such a text
abbrev pub IsHeld : Request → Option (List ℕ) → Type 0
IsHeld q held = (held ≡ None) ⊎ HoldsPut q held

none_some : (x : List ℕ) → None ≡ Some x → ⊥
none_some x e = cc

written : (q : Request) (held : Option (List ℕ)) → IsValid q → (p : HoldsPut q held) → IsWritten p.check p.text
written q held valid p =
    let own : IsValid p.check.request = subst (λ r. IsValid r.request) (sym p.upto.portion) valid in
    let stop : IsStop (whole p.check.request) p.check.at = subst (λ r. IsStop r p.check.at) (sym p.upto.portion) p.stop in
    record { check = p.is_text; fit = p.fit; valid = own; range = stop_range (whole p.check.request) own p.check.at stop; place = stop_place (whole p.check.request) p.check.at stop }

-- a checkpoint text that is held is the one that was put
same_check : (q : Request) (held : Option (List ℕ)) (c : Checkpoint) → IsValid q → (p : HoldsPut q held) → Holds None held c → p.check ≡ c
same_check q held c valid p is =
    let accepted : IsCheckpointText p.text c = subst (λ t. IsCheckpointText t c) (some_injective is.text p.text (sym is.held_is ∙ p.held_is)) is.accepted in
    ⊎_elim
    (λ own. one_checkpoint p.text p.check c own accepted)
    (λ never. absurd (never c accepted))
    (reads_or_not p.check p.text (written q held valid p))

pub starts_first : (q : Request) (name : List ℕ) (held : Option (List ℕ)) (s : Start) → Starts (Begin (whole q) (Some name)) held s → IsUpTo q s
starts_first q name held s starts = subst (IsUpTo q) (sym starts) (record { portion = refl; bytes = []; lines = no_lines (whole q) beginning 0 })

pub starts_later : (q : Request) (name : List ℕ) (held : Option (List ℕ)) (s : Start) → IsValid q → IsHeld q held → Starts (Resume Catalogues name) held s → IsUpTo q s
starts_later q name held s valid (inl none) starts = let next = catalogue_next held s starts in absurd (none_some next.1.text (sym none ∙ next.1.held_is))
starts_later q name held s valid (inr p) starts =
    let next = catalogue_next held s starts in
    let same : next_start None p.check ≡ s = ap (next_start None) (same_check q held next.0 valid p next.1) ∙ sym next.2 in
    subst (IsUpTo q) same p.upto

-- after a call the name holds what it held, or what the call has put
pub held_after_call : (q : Request) (call : Call) → MeetsClauses call → ((s : Start) → StartsAt call s → IsUpTo q s) → IsHeld q call.before → IsHeld q call.after
held_after_call q call meets upto held =
    ⊎_elim
    (λ same. subst (IsHeld q) (sym same) held)
    (λ puts.
    let s = puts.start in
    let c = puts.check in
    let u = upto s puts.starts in
    let put = puts.put in
    inr (record {
      check = c;
      text = put.text;
      held_is = put.held;
      is_text = subst (λ r. IsSavedText r.shard c put.text) u.portion put.is_text;
      fit = put.fit;
      stop = subst (λ r. IsStop r c.at) u.portion put.stop;
      upto = record {
        portion = ap whole (put.request ∙ ap (λ r. r.request) u.portion);
        bytes = u.bytes ++ take c.bytes call.output;
        lines = joined_between (whole q) beginning s.at c.at 0 s.lines c.lines u.bytes (take c.bytes call.output) u.lines
            (subst (λ r. AreLinesBetween r s.at c.at s.lines c.lines (take c.bytes call.output)) u.portion put.written);
      };
    }))
    meets.held

-- where what is held has a fault as a checkpoint, a number is out of range
pub out_of_range : (q : Request) (held : Option (List ℕ)) (bytes : List ℕ) (fault : ShardFault) → IsValid q → IsHeld q held → held ≡ Some bytes → HasKindFault Catalogues bytes fault → HoldsOutOfRange held
out_of_range q held bytes fault valid (inl none) is faulty = absurd (none_some bytes (sym none ∙ is))
out_of_range q held bytes fault valid (inr p) is faulty =
    let w = written q held valid p in
    record {
      check = p.check;
      text = p.text;
      held_is = p.held_is;
      is_text = p.is_text;
      out = λ counts.
          no_kind_fault None p.text p.check fault (written_reads_back p.check p.text w.check counts w.valid w.range w.place)
          (subst (λ t. HasKindFault Catalogues t fault) (some_injective bytes p.text (sym is ∙ p.held_is)) faulty);
    }

-- ## Where lines are left

not_empty : (rest : List Symbol) (s : Symbol) → Contains rest s → 0 < length rest
not_empty [] s there = absurd (let low = there.1 in omega (arith, low))
not_empty (r ∷ rest) s there = omega arith

-- where one more member follows, there are more members than lines before it
pub more_members : (q : Request) (at : Position) (l : ℕ) (bytes : List ℕ) (members : List Symbol) → AreLinesBetween (whole q) beginning at 0 l bytes → IsNextMember (whole q) at → IsCatalogue q members → l < length members
more_members q End l bytes members lines next is = absurd next
more_members q (At job) l bytes members lines next is =
    let all : length members ≡ length lines.members + length parts.0 = ap (λ ss. length ss) parts.1 ∙ length-append lines.members parts.0 in
    let count = lines.count in
    let rest = some in
    omega (arith, rest, all, count)
  where
    inside : (s : Symbol) → Contains lines.members s → IsMemberBetween (whole q) beginning (At job) s
    inside s there = (lines.between.members s).0 there

    after : (s : Symbol) → IsMember q s → Contains lines.members s ⊎ AllByRecursion (λ m. IsBelow m s) lines.members
    after s member =
        ⊎_elim
        (λ before. inl ((lines.between.members s).1 (record { member = member; later = nothing_before s member.wanted.symbol; earlier = before })))
        (λ not. inr (all_from_members (λ m. IsBelow m s) lines.members (λ m there.
        let p = inside m there in
        below_over (At job) m s p.member.wanted.symbol.table member.wanted.symbol.table p.earlier not)))
        (before_or_not (At job) s)

    parts : (rest : List Symbol) × (members ≡ lines.members ++ rest)
    parts =
        begins_with lines.members members lines.between.ascending is.ascending
        (λ s there. (is.members s).1 (inside s there).member) (λ s there. after s ((is.members s).0 there))

    not_among : Contains lines.members next.next → ⊥
    not_among early = not_below_itself next.next (below_symbol next.next next.next (subst (λ (j : Job). IsBefore (At j) next.next) next.job_is (inside next.next early).earlier))

    some : 0 < length parts.0
    some =
        ⊎_elim
        (λ early. absurd (not_among early))
        (λ late. not_empty parts.0 next.next late)
        (Contains-append_cases lines.members parts.0 next.next (subst (λ ss. Contains ss next.next) parts.1 ((is.members next.next).1 next.member)))
