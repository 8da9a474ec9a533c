use Rattle.dd_crystal.proofs.Fibers.{sheet_number}
use Rattle.dd_crystal.proofs.sheet_laws.morphisms_have_sheets.Goals as goal

pub returns : goal.returns
returns c s t below table connected above m = sheet_number s t table connected above below m
