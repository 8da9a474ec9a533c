-- The text of a refusal.
use Rattle.std.specs.Prelude.{ℕ, List, ◌++◌, codes, decimal}
use Rattle.dd_model.specs.Names.{pair_name}
use Rattle.dd_symbol.specs.declared.refusals.Refusal.{Refusal}
use Rattle.dd_symbol.specs.declared.refusals.Refusal.TheVariants.{Empty, TooManyChambers, OpRange, NotInvolution, NotCommuting, NotConnected, DegreeZero, DegreeVaries, NotMultiple, BranchingTooLarge, Memory}

-- why lists are no symbol
abbrev pub refusal_text : Refusal → List ℕ
refusal_text Empty = codes "empty"
refusal_text (TooManyChambers n) = codes "too many chambers " ++ decimal n
refusal_text (OpRange i c) = codes "image " ++ decimal c
refusal_text (NotInvolution i c) = codes "no involution " ++ decimal c
refusal_text (NotCommuting c) = codes "not commuting " ++ decimal c
refusal_text (NotConnected c) = codes "not connected " ++ decimal c
refusal_text (DegreeZero p c) = codes "degree zero " ++ (pair_name p ++ (codes " " ++ decimal c))
refusal_text (DegreeVaries p c) = codes "degree varies " ++ (pair_name p ++ (codes " " ++ decimal c))
refusal_text (NotMultiple p c r m) = codes "not multiple " ++ (pair_name p ++ (codes " " ++ (decimal c ++ (codes " r " ++ (decimal r ++ (codes " m " ++ decimal m))))))
refusal_text (BranchingTooLarge p c v) = codes "branching too large " ++ (pair_name p ++ (codes " " ++ (decimal c ++ (codes " v " ++ decimal v))))
refusal_text Memory = codes "out of memory"
