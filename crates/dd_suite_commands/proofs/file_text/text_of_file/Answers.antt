use Rattle.std.proofs.Common.{sym, subst}
use Rattle.dd_suite_commands.specs.Faults.{IsCommandFault}
use Rattle.dd_suite_commands.proofs.FileTexts.{stop_of_fault}
use Rattle.dd_suite_commands.proofs.file_text.text_of_file.Goals as goal

pub returns-in-Err : goal.returns-in-Err
returns-in-Err c = record {
  text = tt;
  why = subst (λ why. IsCommandFault c.args.command why c.args.bytes.now) (sym c.fault_of.ensures)
      (stop_of_fault c.args.command c.in-Err.fault.why c.in-Err.fault c.args.bytes.now
      (λ other. record {
        none = λ symbols reads. other (c.in-Err.ensures.spelled symbols reads);
        first = c.in-Err.ensures.why;
        no_memory = other;
      }));
}
