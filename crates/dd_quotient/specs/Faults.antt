-- Why a symbol has no minimal image that is kept.
use Rattle.dd_model.specs.Symbol.{Symbol}
use Rattle.dd_quotient.specs.MinimalImage.{HasTooLarge}
use Rattle.dd_quotient.specs.declared.images.MinimalFault.{MinimalFault}
use Rattle.dd_quotient.specs.declared.images.MinimalFault.TheVariants.{BranchingTooLarge, Memory}

-- What a fault says: the first branching value that is over 30. Want of memory says nothing.
abbrev pub IsMinimalFault : Symbol → MinimalFault → Type 0
IsMinimalFault s (BranchingTooLarge v) = HasTooLarge s v
IsMinimalFault s Memory = Unit {0}
