use Rattle.dd_check.specs.Texts.{texts}
use Rattle.dd_check.specs.Faults.{IsOldLineFault}
use Rattle.dd_check.specs.Lines.{IsToldFault}
use Rattle.dd_check.proofs.RowFaults.{handed_on}
use Rattle.dd_check.proofs.CheckFaults.{old_run_fault, old_limits_fault, old_count_fault, old_bytes_fault, old_place_fault, old_longer_fault}
use Rattle.dd_check.proofs.checkpoint_reader.read_old_lines.Goals as goal

pub returns-in_err-run-clause-fault : goal.returns-in_err-run-clause-fault
returns-in_err-run-clause-fault c =
    handed_on c.from_residual.result (IsToldFault (IsOldLineFault (texts c.args.lines.now))) c.in_err-run.field-0.0 c.from_residual.ensures.1
    (λ told. old_run_fault (texts c.args.lines.now) c.in_err-run.field-0.0 (c.in_err-run.ensures.fault told))

pub returns-in_err-limits-clause-fault : goal.returns-in_err-limits-clause-fault
returns-in_err-limits-clause-fault c =
    handed_on c.from_residual-in_err-limits.result (IsToldFault (IsOldLineFault (texts c.args.lines.now))) c.in_err-limits.field-0.0 c.from_residual-in_err-limits.ensures.1
    (λ told. old_limits_fault (texts c.args.lines.now) c.in_err-limits.field-0.0 c.in_ok-run.run' c.in_ok-run.ensures.told (c.in_err-limits.ensures.fault told))

pub returns-in_err-count-clause-fault : goal.returns-in_err-count-clause-fault
returns-in_err-count-clause-fault c =
    handed_on c.from_residual-in_err-count.result (IsToldFault (IsOldLineFault (texts c.args.lines.now))) c.in_err-count.field-0.0 c.from_residual-in_err-count.ensures.1
    (λ told. old_count_fault (texts c.args.lines.now) c.in_err-count.field-0.0 c.in_ok-run.run' c.in_ok-limits.limits c.in_ok-run.ensures.told c.in_ok-limits.ensures.told (c.in_err-count.ensures.fault told))

pub returns-in_err-bytes-clause-fault : goal.returns-in_err-bytes-clause-fault
returns-in_err-bytes-clause-fault c =
    handed_on c.from_residual-in_err-bytes.result (IsToldFault (IsOldLineFault (texts c.args.lines.now))) c.in_err-bytes.field-0.0 c.from_residual-in_err-bytes.ensures.1
    (λ told. old_bytes_fault (texts c.args.lines.now) c.in_err-bytes.field-0.0 c.in_ok-run.run' c.in_ok-limits.limits c.in_ok-count.count c.in_ok-run.ensures.told c.in_ok-limits.ensures.told c.in_ok-count.ensures.told (c.in_err-bytes.ensures.fault told))

pub returns-in_err-at-clause-fault : goal.returns-in_err-at-clause-fault
returns-in_err-at-clause-fault c =
    handed_on c.from_residual-in_err-at.result (IsToldFault (IsOldLineFault (texts c.args.lines.now))) c.in_err-at.field-0.0 c.from_residual-in_err-at.ensures.1
    (λ told. old_place_fault (texts c.args.lines.now) c.in_err-at.field-0.0 c.in_ok-run.run' c.in_ok-limits.limits c.in_ok-count.count c.in_ok-bytes.bytes c.in_ok-run.ensures.told c.in_ok-limits.ensures.told c.in_ok-count.ensures.told c.in_ok-bytes.ensures.told (c.in_err-at.ensures.fault told))

pub returns-in_err-end_at-clause-fault : goal.returns-in_err-end_at-clause-fault
returns-in_err-end_at-clause-fault c =
    handed_on c.from_residual-in_err-end_at.result (IsToldFault (IsOldLineFault (texts c.args.lines.now))) c.in_err-end_at.field-0.0 c.from_residual-in_err-end_at.ensures.1
    (λ told. old_longer_fault (texts c.args.lines.now) c.in_err-end_at.field-0.0 c.in_ok-run.run' c.in_ok-limits.limits c.in_ok-count.count c.in_ok-bytes.bytes c.in_ok-at.at c.in_ok-run.ensures.told c.in_ok-limits.ensures.told c.in_ok-count.ensures.told c.in_ok-bytes.ensures.told c.in_ok-at.ensures.told (c.in_err-end_at.ensures.longer))

pub returns-clause-told : goal.returns-clause-told
returns-clause-told c = record {
  face = c.in_ok-limits.limits.least_face;
  degree = c.in_ok-limits.limits.least_degree;
  run = c.in_ok-run.ensures.told;
  limits = c.in_ok-limits.ensures.told;
  face_set = c.least.ensures;
  degree_set = c.least-2.ensures;
  count = rw c.from.ensures c.in_ok-count.ensures.told;
  bytes = rw c.from-2.ensures c.in_ok-bytes.ensures.told;
  at = c.in_ok-at.ensures.told;
  end = c.in_ok-end_at.ensures.end;
}
