use Rattle.dd_check.specs.Texts.{texts}
use Rattle.dd_check.specs.Faults.{IsLineFault}
use Rattle.dd_check.specs.Lines.{IsToldFault}
use Rattle.dd_check.proofs.RowFaults.{handed_on}
use Rattle.dd_check.proofs.CheckFaults.{run_fault, limits_fault, faces_fault, degrees_fault, count_fault, bytes_fault, place_fault, longer_fault}
use Rattle.dd_check.proofs.checkpoint_reader.read_lines.Goals as goal

pub returns-in_err-run-clause-fault : goal.returns-in_err-run-clause-fault
returns-in_err-run-clause-fault c =
    handed_on c.from_residual.result (IsToldFault (IsLineFault (texts c.args.lines.now))) c.in_err-run.field-0.0 c.from_residual.ensures.1
    (λ told. run_fault (texts c.args.lines.now) c.in_err-run.field-0.0 (c.in_err-run.ensures.fault told))

pub returns-in_err-limits-clause-fault : goal.returns-in_err-limits-clause-fault
returns-in_err-limits-clause-fault c =
    handed_on c.from_residual-in_err-limits.result (IsToldFault (IsLineFault (texts c.args.lines.now))) c.in_err-limits.field-0.0 c.from_residual-in_err-limits.ensures.1
    (λ told. limits_fault (texts c.args.lines.now) c.in_err-limits.field-0.0 c.in_ok-run.run' c.in_ok-run.ensures.told (c.in_err-limits.ensures.fault told))

pub returns-in_err-faces-clause-fault : goal.returns-in_err-faces-clause-fault
returns-in_err-faces-clause-fault c =
    handed_on c.from_residual-in_err-faces.result (IsToldFault (IsLineFault (texts c.args.lines.now))) c.in_err-faces.field-0.0 c.from_residual-in_err-faces.ensures.1
    (λ told. faces_fault (texts c.args.lines.now) c.in_err-faces.field-0.0 c.in_ok-run.run' c.in_ok-limits.limits c.in_ok-run.ensures.told c.in_ok-limits.ensures.told (c.in_err-faces.ensures.fault told))

pub returns-in_err-degrees-clause-fault : goal.returns-in_err-degrees-clause-fault
returns-in_err-degrees-clause-fault c =
    handed_on c.from_residual-in_err-degrees.result (IsToldFault (IsLineFault (texts c.args.lines.now))) c.in_err-degrees.field-0.0 c.from_residual-in_err-degrees.ensures.1
    (λ told. degrees_fault (texts c.args.lines.now) c.in_err-degrees.field-0.0 c.in_ok-run.run' c.in_ok-limits.limits c.in_ok-faces.faces c.in_ok-run.ensures.told c.in_ok-limits.ensures.told c.in_ok-faces.ensures.told (c.in_err-degrees.ensures.fault told))

pub returns-in_err-count-clause-fault : goal.returns-in_err-count-clause-fault
returns-in_err-count-clause-fault c =
    handed_on c.from_residual-in_err-count.result (IsToldFault (IsLineFault (texts c.args.lines.now))) c.in_err-count.field-0.0 c.from_residual-in_err-count.ensures.1
    (λ told. count_fault (texts c.args.lines.now) c.in_err-count.field-0.0 c.in_ok-limits.limits
    (record { run = c.in_ok-run.run'; faces = c.in_ok-faces.faces; degrees = c.in_ok-degrees.degrees; run_told = c.in_ok-run.ensures.told; limits_told = c.in_ok-limits.ensures.told; faces_told = c.in_ok-faces.ensures.told; degrees_told = c.in_ok-degrees.ensures.told }) (c.in_err-count.ensures.fault told))

pub returns-in_err-bytes-clause-fault : goal.returns-in_err-bytes-clause-fault
returns-in_err-bytes-clause-fault c =
    handed_on c.from_residual-in_err-bytes.result (IsToldFault (IsLineFault (texts c.args.lines.now))) c.in_err-bytes.field-0.0 c.from_residual-in_err-bytes.ensures.1
    (λ told. bytes_fault (texts c.args.lines.now) c.in_err-bytes.field-0.0 c.in_ok-limits.limits c.in_ok-count.count
    (record { run = c.in_ok-run.run'; faces = c.in_ok-faces.faces; degrees = c.in_ok-degrees.degrees; run_told = c.in_ok-run.ensures.told; limits_told = c.in_ok-limits.ensures.told; faces_told = c.in_ok-faces.ensures.told; degrees_told = c.in_ok-degrees.ensures.told }) c.in_ok-count.ensures.told (c.in_err-bytes.ensures.fault told))

pub returns-in_err-at-clause-fault : goal.returns-in_err-at-clause-fault
returns-in_err-at-clause-fault c =
    handed_on c.from_residual-in_err-at.result (IsToldFault (IsLineFault (texts c.args.lines.now))) c.in_err-at.field-0.0 c.from_residual-in_err-at.ensures.1
    (λ told. place_fault (texts c.args.lines.now) c.in_err-at.field-0.0 c.in_ok-limits.limits c.in_ok-count.count c.in_ok-bytes.bytes
    (record { run = c.in_ok-run.run'; faces = c.in_ok-faces.faces; degrees = c.in_ok-degrees.degrees; run_told = c.in_ok-run.ensures.told; limits_told = c.in_ok-limits.ensures.told; faces_told = c.in_ok-faces.ensures.told; degrees_told = c.in_ok-degrees.ensures.told }) c.in_ok-count.ensures.told c.in_ok-bytes.ensures.told (c.in_err-at.ensures.fault told))

pub returns-in_err-end_at-clause-fault : goal.returns-in_err-end_at-clause-fault
returns-in_err-end_at-clause-fault c =
    handed_on c.from_residual-in_err-end_at.result (IsToldFault (IsLineFault (texts c.args.lines.now))) c.in_err-end_at.field-0.0 c.from_residual-in_err-end_at.ensures.1
    (λ told. longer_fault (texts c.args.lines.now) c.in_err-end_at.field-0.0 c.in_ok-limits.limits c.in_ok-count.count c.in_ok-bytes.bytes c.in_ok-at.at
    (record { run = c.in_ok-run.run'; faces = c.in_ok-faces.faces; degrees = c.in_ok-degrees.degrees; run_told = c.in_ok-run.ensures.told; limits_told = c.in_ok-limits.ensures.told; faces_told = c.in_ok-faces.ensures.told; degrees_told = c.in_ok-degrees.ensures.told }) c.in_ok-count.ensures.told c.in_ok-bytes.ensures.told c.in_ok-at.ensures.told (c.in_err-end_at.ensures.longer))

pub returns-clause-told : goal.returns-clause-told
returns-clause-told c = record {
  run = c.in_ok-run.ensures.told;
  limits = c.in_ok-limits.ensures.told;
  faces = c.in_ok-faces.ensures.told;
  degrees = c.in_ok-degrees.ensures.told;
  count = rw c.from.ensures c.in_ok-count.ensures.told;
  bytes = rw c.from-2.ensures c.in_ok-bytes.ensures.told;
  at = c.in_ok-at.ensures.told;
  end = c.in_ok-end_at.ensures.end;
}
