-- What a run has written.
use Rattle.std.proofs.Common.{◌≡◌, ◌⊎◌, ℕ, ◌≤◌, List, [], ◌++◌, Bool, true, false, MatchBool, Option, length, length-append, inl, inr, ⊎_elim, refl, sym, ap, ◌∙◌, subst, arith, append_assoc}
use Rattle.std.proofs.lemmas.List.{append-nil}
use Rattle.std.specs.Io.KnownBytes.{Appends}
use Rattle.std.specs.List.{Contains}
use Rattle.std.specs.Prelude.{if◌then◌else◌}
use Rattle.dd_model.specs.Symbol.{Symbol}
use Rattle.dd_model.specs.Code.{IsBelow}
use Rattle.dd_model.specs.Lists.{Begins}
use Rattle.dd_model.specs.Position.{IsBefore}
use Rattle.dd_model.specs.Text.{AreLines}
use Rattle.dd_model.specs.Joined.{IsUnderOne}
use Rattle.dd_front_jobs.specs.declared.portions.Portion.{Portion}
use Rattle.dd_front_jobs.specs.Portions.{IsPortionMember, IsPortionText}
use Rattle.dd_front_jobs.proofs.PortionLaws.{portion_member, portion_symbol}
use Rattle.dd_model.specs.declared.jobs.Job.{Job}
use Rattle.dd_model.specs.declared.jobs.Position.{Position}
use Rattle.dd_model.specs.declared.jobs.Position.TheVariants.{End}
use Rattle.dd_model.proofs.Ascending.{begins_append}
use Rattle.dd_model.proofs.Lists.{all_from_members}
use Rattle.dd_model.proofs.Positions.{before_or_not, before_symbol, below_over}
use Rattle.dd_model.proofs.Texts.{split_lines, lines_unique}
use Rattle.dd_model.proofs.Options.{some_same}
use Rattle.dd_front.specs.Held.{IsHeld}
use Rattle.dd_front.specs.Machine.{Machine, StandsAt, jobs_of}
use Rattle.dd_front.specs.Step.{at_symbol}
use Rattle.dd_front.proofs.Holding.{held_covered}
use Rattle.dd_front.proofs.Standing.{stands_once, stands_somewhere, jobs_stand, before_stands}
use Rattle.dd_model.proofs.AscendingFronts.{begins_with}
use Rattle.dd_ports.proofs.Growth.{Appends_trans}
use Rattle.dd_check.specs.Between.{AreMembersBetween, AreLinesBetween, IsNoEarlier}
use Rattle.dd_check.specs.ChainStarts.{Start}
use Rattle.dd_check.proofs.ChainRests.{text_is_rest}
use Rattle.dd_pages_and_checkpoints.specs.Pages.{HasLines, IsEmpty, IsFrontOut}
use Rattle.dd_pages_and_checkpoints.proofs.PageLemmas.{all_written}
use Rattle.dd_catalogue_rounds.specs.Ways.{Way, IsFull}
use Rattle.dd_catalogue_rounds.specs.Outs.{IsPartOut}
use Rattle.dd_pages_and_checkpoints.specs.Runs.{IsPause, IsBeforePause, IsLimit, WritesRest, WritesUpTo, Finishes}
use Rattle.dd_pages_and_checkpoints.specs.Outputs.{IsShown}
use Rattle.dd_pages_and_checkpoints.specs.declared.finish.Finish.TheVariants.{Paused, CutShort}
use Rattle.dd_pages_and_checkpoints.specs.declared.limit.Limit.{Limit}
use Rattle.dd_pages_and_checkpoints.specs.declared.pages.Page.{Page}
use Rattle.dd_catalogue_rounds.specs.Works.{AreWithin, CoverRest}

-- ## What a machine has emitted

-- It is the members between the start and where the machine stands.
pub held_between : (q : Portion) (at p : Position) (jobs : List Job) (f : Machine) (out : List Symbol) → AreWithin q jobs → CoverRest q at jobs → IsHeld q.request jobs at f out → StandsAt f.from f.entries p
    → AreMembersBetween q at p out
held_between q at p jobs f out work covers held stands =
    let covered = held_covered q.request jobs at f out held in
    let same : covered.stands ≡ p = stands_once f.from covered.stands p f.entries covered.stands_at stands in
    record {
      ascending = covered.ascending;
      members = λ s. (
        (λ there. let between = (covered.emitted s).0 there in record { member = work.members s between.from.under; later = between.from.later; earlier = subst (λ z. IsBefore z s) same between.before }),
        (λ is. (covered.emitted s).1 (record { from = record { under = covers s is.member is.later; later = is.later }; before = subst (λ z. IsBefore z s) (sym same) is.earlier })),
      );
    }

pub held_no_earlier : (q : Portion) (at p : Position) (jobs : List Job) (f : Machine) (out : List Symbol) → IsHeld q.request jobs at f out → StandsAt f.from f.entries p → IsNoEarlier q at p
held_no_earlier q at p jobs f out held stands s member before =
    before_stands f.from p (jobs_of f.entries) s (jobs_stand f.from p f.entries stands) (held.go_on.further s (portion_member q s member) before)

-- the members up to a position begin with those up to an earlier one
first_members : (q : Portion) (at p r : Position) (ss ts : List Symbol) → AreMembersBetween q at p ss → AreMembersBetween q at r ts → IsNoEarlier q p r → (rest : List Symbol) × (ts ≡ ss ++ rest)
first_members q at p r ss ts early late order =
    begins_with ss ts early.ascending late.ascending
    (λ s there. let own = (early.members s).0 there in (late.members s).1 (record { member = own.member; later = own.later; earlier = order s own.member own.earlier }))
    (λ t there.
    let own = (late.members t).0 there in
    ⊎_elim
    (λ before. inl ((early.members t).1 (record { member = own.member; later = own.later; earlier = before })))
    (λ not. inr (all_from_members (λ m. IsBelow m t) ss (λ m among.
    let other = (early.members m).0 among in
    below_over p m t (portion_symbol q m other.member).table (portion_symbol q t own.member).table other.earlier not)))
    (before_or_not p t))

-- a text of more lines begins with what went out
text_begins : (k : ℕ) (shown later more ts : List Symbol) (output rest text : List ℕ) → ts ≡ (shown ++ later) ++ more → AreLines k shown (output ++ rest) → AreLines k ts text
    → (z : List ℕ) × (text ≡ output ++ z)
text_begins k shown later more ts output rest text parts lines all =
    let split = split_lines k shown (later ++ more) text (subst (λ us. AreLines k us text) (parts ∙ append_assoc shown later more) all) in
    let same : split.0 ≡ output ++ rest = lines_unique k shown split.0 (output ++ rest) split.2 lines in
    (rest ++ split.1, split.4 ∙ ap (λ xs. xs ++ split.1) same ∙ append_assoc output rest split.1)

-- ## What went out

pub record WentOut (w : Way) (old now : Option (List ℕ)) (output : List ℕ) : Type 0 where
  pub appended : Appends old now output
  pub front : (text : List ℕ) → IsPortionText w.start.portion w.start.at w.start.lines text → Begins output text
  pub shown : (m : Symbol) → IsPortionMember w.start.portion m → (¬ IsBefore w.start.at m) → IsShown w.start output m → IsBefore w.since m ⊎ IsUnderOne w.start.portion.request w.round m

pub went_out : (w : Way) (old now : Option (List ℕ)) (part : IsPartOut w now) → Appends old w.known w.base → WentOut w old now (w.base ++ part.out.written)
went_out w old now part before = record {
  appended = Appends_trans old w.known now w.base part.out.written (w.base ++ part.out.written) before part.out.appended refl;
  front = λ text is.
      let rest = text_is_rest q at k text is in
      let first = first_members q at p End part.members rest.1.members between rest.1.between (λ s member early. tt) in
      let begins = text_begins k out.shown out.later first.0 rest.1.members (w.base ++ out.written) out.rest text (first.1 ∙ ap (λ ss. ss ++ first.0) out.parts) out.lines rest.1.lines in
      subst (Begins (w.base ++ out.written)) (sym begins.1) (begins_append (w.base ++ out.written) begins.0);
  shown = λ m member later is. part.recent m (among m member later is);
}
  where
    q : Portion
    q = w.start.portion

    at : Position
    at = w.start.at

    k : ℕ
    k = w.start.lines

    out : IsFrontOut w.start.lines w.base w.known now part.members
    out = part.out

    where_it : (p : Position) × StandsAt part.machine.from part.machine.entries p
    where_it = stands_somewhere part.machine.from part.machine.entries

    p : Position
    p = where_it.0

    between : AreMembersBetween w.start.portion w.start.at p part.members
    between = held_between w.start.portion w.start.at p w.jobs part.machine part.members part.work part.covers part.held where_it.1

    among : (m : Symbol) → IsPortionMember w.start.portion m → (¬ IsBefore w.start.at m) → IsShown w.start (w.base ++ part.out.written) m → Contains part.members m
    among m member later is =
        ⊎_elim
        (λ before. (between.members m).1 (record { member = member; later = later; earlier = before }))
        (λ not.
        let order : IsNoEarlier w.start.portion p (at_symbol m) = λ s other early.
        let one = (portion_symbol q s other).table in
        let two = (portion_symbol q m member).table in
        before_symbol s m one two (below_over p s m one two early not) in
        let first = first_members w.start.portion w.start.at p (at_symbol m) part.members is.lines.members between is.lines.between order in
        let begins = text_begins w.start.lines out.shown out.later first.0 is.lines.members (w.base ++ out.written) out.rest is.before (first.1 ∙ ap (λ ss. ss ++ first.0) out.parts) out.lines is.lines.lines in
        let size = ap length begins.1 ∙ length-append (w.base ++ out.written) begins.0 in
        let shorter = is.shorter in
        absurd (omega (arith, size, shorter)))
        (before_or_not p m)

-- where nothing is collected, what was written are the lines up to where the machine stands
pub lines_between : (w : Way) (now : Option (List ℕ)) (page : Page) (f : Machine) (members : List Symbol) (p : Position) → AreWithin w.start.portion w.jobs → CoverRest w.start.portion w.start.at w.jobs
    → IsHeld w.start.portion.request w.jobs w.start.at f members → (has : HasLines w.start.lines w.base w.known now page members) → IsEmpty page → StandsAt f.from f.entries p
    → AreLinesBetween w.start.portion w.start.at p w.start.lines page.count (w.base ++ has.written)
lines_between w now page f members p work covers held has empty stands = record {
  members = members;
  between = held_between w.start.portion w.start.at p w.jobs f members work covers held stands;
  no_earlier = held_no_earlier w.start.portion w.start.at p w.jobs f members held stands;
  count = has.count;
  lines = all_written w.start.lines w.base w.known now page members empty has;
}

-- a member whose line is in the lines up to a position, in whole or in part, is before it
pub shown_earlier : (s : Start) (p : Position) (n : ℕ) (output : List ℕ) → AreLinesBetween s.portion s.at p s.lines n output → (m : Symbol) → IsPortionMember s.portion m → IsShown s output m → IsBefore p m
shown_earlier s p n output lines m member is =
    ⊎_elim
    (λ before. before)
    (λ not.
    let order : IsNoEarlier s.portion p (at_symbol m) = λ x other early.
    let one = (portion_symbol s.portion x other).table in
    let two = (portion_symbol s.portion m member).table in
    before_symbol x m one two (below_over p x m one two early not) in
    let first = first_members s.portion s.at p (at_symbol m) lines.members is.lines.members lines.between is.lines.between order in
    let begins = text_begins s.lines lines.members [] first.0 is.lines.members output [] is.before (first.1 ∙ ap (λ ss. ss ++ first.0) (sym (append-nil lines.members)))
    (subst (AreLines s.lines lines.members) (sym (append-nil output)) lines.lines) is.lines.lines in
    let size = ap length begins.1 ∙ length-append output begins.0 in
    let shorter = is.shorter in
    absurd (omega (arith, size, shorter)))
    (before_or_not p m)

-- ## Ends of the run's own

pub finish_whole : (s : Start) (pause : Option ℕ) (limit : Limit) (count : ℕ) (output : List ℕ) → IsLimit s.lines pause limit → AreLinesBetween s.portion s.at End s.lines count output → count ≤ limit.last
    → WritesRest s pause output
finish_whole s pause limit count output is lines low = go limit.pauses is
  where
    go : (b : Bool) → MatchBool b (IsPause s.lines pause limit.last) (IsBeforePause s.lines pause limit.last) → WritesRest s pause output
    go true p = record {
      count = count;
      written = lines;
      within = let within = p.within in omega (arith, within, low);
      few = λ n asked. let same = some_same p.lines n (sym p.asked ∙ asked) in let last = p.last_is in omega (arith, same, last, low);
    }
    go false p = record {
      count = count;
      written = lines;
      within = let most = p.most in omega (arith, most, low);
      few = λ n asked. let later = p.later n asked in let most = p.most in omega (arith, later, most, low);
    }

pub finish_full : (s : Start) (pause : Option ℕ) (limit : Limit) (output : List ℕ) → IsLimit s.lines pause limit → WritesUpTo s limit.last output
    → Finishes s pause output (if limit.pauses then Paused else CutShort)
finish_full s pause limit output is lines = go limit.pauses is
  where
    go : (b : Bool) → MatchBool b (IsPause s.lines pause limit.last) (IsBeforePause s.lines pause limit.last) → Finishes s pause output (if b then Paused else CutShort)
    go true p = record { last = limit.last; pause_is = p; lines = lines }
    go false p = record { before_pause = subst (IsBeforePause s.lines pause) p.most p; lines = subst (λ n. WritesUpTo s n output) p.most lines }

-- a machine that is full has written the lines up to the last one, and there is one more
pub full_lines : (w : Way) (now : Option (List ℕ)) (page : Page) (last : ℕ) (f : Machine) (full : IsFull w now page last f) → IsEmpty page → WritesUpTo w.start last (w.base ++ full.lines.written)
full_lines w now page last f full empty = record {
  at = at_symbol full.next;
  written = subst (λ n. AreLinesBetween w.start.portion w.start.at (at_symbol full.next) w.start.lines n (w.base ++ full.lines.written)) full.count
      (lines_between w now page f full.members (at_symbol full.next) full.work full.covers full.held full.lines empty full.stands);
  next = record { next = full.next; member = full.member; job_is = refl };
}

-- no line before the run is after its last line
pub limit_above : (before : ℕ) (pause : Option ℕ) (limit : Limit) → IsLimit before pause limit → before ≤ 1000000000000000000 → before ≤ limit.last
limit_above before pause limit is low = go limit.pauses is
  where
    go : (b : Bool) → MatchBool b (IsPause before pause limit.last) (IsBeforePause before pause limit.last) → before ≤ limit.last
    go true p = let last = p.last_is in omega (arith, last)
    go false p = let most = p.most in omega (arith, most, low)

pub limit_most : (before : ℕ) (pause : Option ℕ) (limit : Limit) → IsLimit before pause limit → limit.last ≤ 1000000000000000000
limit_most before pause limit is = go limit.pauses is
  where
    go : (b : Bool) → MatchBool b (IsPause before pause limit.last) (IsBeforePause before pause limit.last) → limit.last ≤ 1000000000000000000
    go true p = p.within
    go false p = let most = p.most in omega (arith, most)
