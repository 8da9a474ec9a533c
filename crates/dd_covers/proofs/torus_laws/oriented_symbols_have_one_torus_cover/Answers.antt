use Rattle.dd_covers.proofs.Uniqueness.{shifts_unique, one_cover, one_below}
use Rattle.dd_covers.proofs.torus_laws.oriented_symbols_have_one_torus_cover.Goals as goal

pub returns-clause-shifts : goal.returns-clause-shifts
returns-clause-shifts c s k x y is all a b = shifts_unique s is all k x y a b

pub returns-clause-cover : goal.returns-clause-cover
returns-clause-cover c = one_cover

pub returns-clause-below : goal.returns-clause-below
returns-clause-below c = one_below
