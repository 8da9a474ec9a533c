use Rattle.dd_gram.proofs.OneFrame.{own_frame_once}
use Rattle.dd_gram.proofs.laws.a_form_gives_one_frame.Goals as goal

pub returns : goal.returns
returns c g f h positive x y = own_frame_once g f h positive x y
