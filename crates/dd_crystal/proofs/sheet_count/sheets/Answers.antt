use Rattle.dd_crystal.proofs.Fewest.{cover_sheets, sheets_fewest}
use Rattle.dd_crystal.proofs.sheet_count.sheets.Goals as goal

pub returns-clause-cover : goal.returns-clause-cover
returns-clause-cover c t below cover =
    cover_sheets c.args.s.now t below c.in_ok-torus_sheets.field-0 c.symbol-symbol.ensures.symbol.symbol c.symbol-symbol.ensures.connected
    (c.is_flat.ensures.0 c.if-not-is_flat.false) c.in_ok-torus_sheets.ensures cover

pub returns-clause-fewest : goal.returns-clause-fewest
returns-clause-fewest c t below m torus morphism sheets =
    sheets_fewest c.args.s.now t below c.in_ok-torus_sheets.field-0 m c.symbol-symbol.ensures.symbol.symbol c.symbol-symbol.ensures.connected
    c.in_ok-torus_sheets.ensures torus morphism sheets
