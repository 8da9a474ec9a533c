use Rattle.std.proofs.Common.{refl}
use Rattle.dd_suite_commands.proofs.merged.read_numbered.Goals as goal

pub returns-in_default : goal.returns-in_default
returns-in_default c = record {
  read = tt;
  why = (
    refl,
    record {
      none = λ symbols reads. c.in_default.not-Memory (c.in-Err.ensures.spelled symbols reads);
      first = c.in-Err.ensures.why;
      no_memory = c.in_default.not-Memory;
    },
  );
}
