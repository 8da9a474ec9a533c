use Rattle.dd_symbol.specs.Table.{symbol_of}
use Rattle.dd_symbol.specs.Refusals.{IsFault}
use Rattle.dd_symbol.proofs.TableLemmas.{with_same}
use Rattle.dd_symbol.proofs.RefusalLemmas.{handed_on, fault_of_involutions}
use Rattle.dd_symbol.proofs.code_table.CodeTable.check_involutions.Goals as goal

pub returns-in_err-check_commuting-clause-why : goal.returns-in_err-check_commuting-clause-why
returns-in_err-check_commuting-clause-why c =
    let s = symbol_of c.args.self.now in
    handed_on c.from_residual.result (IsFault s) c.in_err-check_commuting.field-0.0 c.from_residual.ensures.1
    (fault_of_involutions s s (with_same s s.m01 s.m12) c.in_err-check_commuting.field-0.0 c.in_err-check_commuting.ensures.why)

pub returns-in_err-check_connected-clause-why : goal.returns-in_err-check_connected-clause-why
returns-in_err-check_connected-clause-why c =
    let s = symbol_of c.args.self.now in
    handed_on c.from_residual-in_err-check_connected.result (IsFault s) c.in_err-check_connected.field-0.0 c.from_residual-in_err-check_connected.ensures.1
    (fault_of_involutions s s (with_same s s.m01 s.m12) c.in_err-check_connected.field-0.0 c.in_err-check_connected.ensures.why)

pub returns-clause-connected : goal.returns-clause-connected
returns-clause-connected c = record {
  involutions = c.args.self.now.three.involutions;
  commuting = c.in_ok-check_commuting.ensures.commuting;
  connected = c.in_ok-check_connected.ensures.connected;
}
