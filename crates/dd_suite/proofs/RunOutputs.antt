-- What a run has written is a front of its text.
use Rattle.std.proofs.Common.{◌≡◌, ℕ, ◌≤◌, List, None, Some, Option, Result, Ok, IfOk, length, drop, sym, subst, arith, inl, inr}
use Rattle.std.specs.Io.KnownBytes.{Appends}
use Rattle.dd_model.specs.Symbol.{Symbol}
use Rattle.dd_front_jobs.specs.declared.portions.Portion.{Portion}
use Rattle.dd_front_jobs.specs.Portions.{ArePortionMembers, IsPortionText}
use Rattle.dd_front_jobs.proofs.PortionLaws.{members_unique}
use Rattle.dd_model.proofs.SmallerPlaces.{begins_is_front}
use Rattle.dd_ports.specs.Grows.{GrowsByPrefix}
use Rattle.dd_check.specs.Calls.{Task, Begin, Resume}
use Rattle.dd_check.specs.ChainStarts.{Start, first_start}
use Rattle.dd_check.proofs.LinesUpTo.{whole_text, whole_members}
use Rattle.dd_pages_and_checkpoints.specs.Outputs.{IsOutput}
use Rattle.dd_pages_and_checkpoints.specs.MostLines.{most_lines}
use Rattle.dd_pages_and_checkpoints.specs.Runs.{Finishes, WritesRest}
use Rattle.dd_pages_and_checkpoints.specs.declared.fault.RunFault.{RunFault}
use Rattle.dd_pages_and_checkpoints.specs.declared.finish.Finish.{Finish}
use Rattle.dd_pages_and_checkpoints.specs.declared.finish.Finish.TheVariants as finish
use Rattle.dd_suite_tasks.specs.Beginnings.{BeginsAt}
use Rattle.dd_suite_tasks.specs.Outside.{Before, After}
use Rattle.dd_suite_tasks.specs.Output.{AppendsOutput}
use Rattle.dd_suite_tasks.specs.Runs.{Runs}
use Rattle.dd_suite_tasks.specs.Words.{AskForRun}

pub output_of : (name : Option (List ℕ)) (s : Start) (round : ℕ) (pause : Option ℕ) (before : Before) (after : After) (r : Result Finish RunFault) → Runs name s round pause before after r
    → (output : List ℕ) × IsOutput s pause before.written after.written r output
output_of None s round pause before after r h = (h.output, h.is_output)
output_of (Some name) s round pause before after r h = (h.run.output, h.run.is_output)

pub front_prefix : (s : Start) (pause : Option ℕ) (old new : Option (List ℕ)) (r : Result Finish RunFault) (output text : List ℕ) → IsOutput s pause old new r output
    → IsPortionText s.portion s.at s.lines text → GrowsByPrefix old new text
front_prefix s pause old new r output text is of = (output, drop (length output) text, sym (begins_is_front output text (is.front text of)), is.appended)

-- a run that wrote all lines has written the whole output of its words
pub whole_of_task : (words : List (List ℕ)) (task : Task) (round : ℕ) (pause : Option ℕ) (s : Start) (before : Before) (after : After) (output : List ℕ)
    → AskForRun words (record { task = task; round = round; pause = pause }) → BeginsAt task before.tells before.held s → WritesRest s pause output
    → Appends before.written after.written output → AppendsOutput words before.tells before.held before.written after.written
whole_of_task words (Begin q name) round pause s before after output asked begins rest appended =
    let own : WritesRest (first_start q) pause output = subst (λ t. WritesRest t pause output) begins rest in
    record {
      bytes = output;
      output = inl (record { portion = q; asked = record { name = name; round = round; pause = pause; run = asked }; text = whole_text q own.count output own.written });
      appended = appended;
    }
whole_of_task words (Resume kind name) round pause s before after output asked begins rest appended =
    record {
      bytes = output;
      output = inr (inl (record {
        kind = kind;
        name = name;
        asked = record { round = round; pause = pause; run = asked };
        start = s;
        begins = begins;
        last = rest.count;
        lines = rest.written;
        within = rest.within;
      }));
      appended = appended;
    }

-- a portion of lines that were written has no more members than lines may be
pub few_members : (q : Portion) (pause : Option ℕ) (output : List ℕ) (members : List Symbol) → WritesRest (first_start q) pause output → ArePortionMembers q members → length members ≤ most_lines
few_members q pause output members rest is =
    let count = rest.written.count in
    let within = rest.within in
    let few : length rest.written.members ≤ most_lines = omega (arith, count, within) in
    subst (λ ss. length ss ≤ most_lines) (members_unique q rest.written.members members (whole_members q rest.count output rest.written) is) few

-- at the end of a run that wrote all lines
pub rest_written : (s : Start) (pause : Option ℕ) (old new : Option (List ℕ)) (r : Result Finish RunFault) (output : List ℕ) → r ≡ Ok finish.Whole → IsOutput s pause old new r output → WritesRest s pause output
rest_written s pause old new r output e is = subst (λ x. IfOk x (Finishes s pause output)) e is.finishes
