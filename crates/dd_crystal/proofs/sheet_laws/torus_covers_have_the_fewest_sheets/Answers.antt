use Rattle.dd_crystal.proofs.Fewest.{cover_sheets, sheets_divide, cover_fewest}
use Rattle.dd_crystal.proofs.sheet_laws.torus_covers_have_the_fewest_sheets.Goals as goal

pub returns-clause-cover : goal.returns-clause-cover
returns-clause-cover c = cover_sheets

pub returns-clause-multiple : goal.returns-clause-multiple
returns-clause-multiple c = sheets_divide

pub returns-clause-fewest : goal.returns-clause-fewest
returns-clause-fewest c = cover_fewest
