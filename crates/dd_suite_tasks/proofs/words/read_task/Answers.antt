use Rattle.std.proofs.Common.{map, Err, ap}
use Rattle.std.specs.Rc.{rc_str_bytes}
use Rattle.dd_suite_tasks.proofs.Requests.{none_taken}
use Rattle.dd_suite_tasks.proofs.words.read_task.Goals as goal

pub returns-in-Ok : goal.returns-in-Ok
returns-in-Ok c = record { command = c.in-Ok.command; asked = c.in-Ok.ensures.command; task_is = c.task_of.ensures }

pub returns-in-Err-NotTaken : goal.returns-in-Err-NotTaken
returns-in-Err-NotTaken c = none_taken (map rc_str_bytes c.args.words.now) (c.in-Err-NotTaken.ensures.not_taken (ap Err c.in-Err-NotTaken.field-0-is))
