use Rattle.std.proofs.Common.{◌∙◌, subst}
use Rattle.std.proofs.lemmas.Result.{err_from_is_err_and}
use Rattle.dd_text.specs.Reader.{cursor_of}
use Rattle.dd_text.specs.TextFaults.{IsTextFault}
use Rattle.dd_text.proofs.ItemReads.{advanced, fault_in_text, symbol_if, fault_if}
use Rattle.dd_text.proofs.file_reader.read_symbol.Goals as goal

pub returns-in_err-text-clause-why : goal.returns-in_err-text-clause-why
returns-in_err-text-clause-why c =
    let p = err_from_is_err_and c.from_residual.result c.from_residual.ensures.1 in
    let here = c.advance.ensures ∙ advanced (cursor_of c.args.reader.now) c.requires.after c.requires.begins in
    rw (p.1, p.2) (fault_in_text (cursor_of c.args.reader.now) c.requires.after _ _ c.requires.begins
    (subst (λ z. IsTextFault z c.in_err-text.field-0.0.why c.in_err-text.field-0.0.at) here c.in_err-text.ensures.why))

pub returns-clause-ok : goal.returns-clause-ok
returns-clause-ok c =
    let here = c.advance.ensures ∙ advanced (cursor_of c.args.reader.now) c.requires.after c.requires.begins in
    symbol_if (cursor_of c.args.reader.now) (cursor_of c.advance.new.self) (cursor_of c.text.new.self) c.requires.after c.in_ok-text.text c.symbol_of.result
    c.requires.begins here c.in_ok-text.ensures.ok c.symbol_of.ensures.tells c.symbol_of.ensures.readable

pub returns-clause-why : goal.returns-clause-why
returns-clause-why c =
    let here = c.advance.ensures ∙ advanced (cursor_of c.args.reader.now) c.requires.after c.requires.begins in
    fault_if (cursor_of c.args.reader.now) (cursor_of c.advance.new.self) (cursor_of c.text.new.self) c.requires.after c.in_ok-text.text c.at-at.result c.symbol_of.result
    c.requires.begins here c.in_ok-text.ensures.ok c.at-at.ensures c.symbol_of.ensures.why
