use Rattle.dd_covers.proofs.EvenLemmas.{even_euler}
use Rattle.dd_covers.proofs.euler_laws.oriented_symbols_have_even_euler_numbers.Goals as goal

pub returns : goal.returns
returns c = even_euler
