use Rattle.dd_check.proofs.Exclusion.{no_fault}
use Rattle.dd_check.proofs.laws.a_faulty_text_tells_no_checkpoint.Goals as goal

pub returns : goal.returns
returns c text d fault h is = no_fault text d fault is h
