-- Reduced words: two equal neighbours are struck, and 2 0 is written as 0 2.
use Rattle.std.specs.Prelude.{ℕ, [], ◌∷◌, Option, Some, None}
use Rattle.dd_model.specs.Symbol.{Word}
use Rattle.dd_model.specs.declared.index.Index.{Index}
use Rattle.dd_model.specs.declared.index.Index.TheVariants.{Zero, One, Two}
use Rattle.dd_template.specs.Table.{Table, move}

-- a letter before a word, the two struck where they are equal
abbrev pub strike : Index → Word → Word
strike i [] = i ∷ []
strike Zero (Zero ∷ w) = w
strike Zero (One ∷ w) = Zero ∷ One ∷ w
strike Zero (Two ∷ w) = Zero ∷ Two ∷ w
strike One (Zero ∷ w) = One ∷ Zero ∷ w
strike One (One ∷ w) = w
strike One (Two ∷ w) = One ∷ Two ∷ w
strike Two (Zero ∷ w) = Two ∷ Zero ∷ w
strike Two (One ∷ w) = Two ∷ One ∷ w
strike Two (Two ∷ w) = w

-- a letter before a reduced word, reduced: 2 goes behind a 0
abbrev pub put : Index → Word → Word
put Zero w = strike Zero w
put One w = strike One w
put Two [] = Two ∷ []
put Two (Zero ∷ w) = Zero ∷ strike Two w
put Two (One ∷ w) = Two ∷ One ∷ w
put Two (Two ∷ w) = w

-- a word, reduced
abbrev pub reduced : Word → Word
reduced [] = []
reduced (i ∷ w) = put i (reduced w)

-- two letters that may stand side by side in a reduced word
abbrev pub MayFollow : Index → Index → Type 0
MayFollow Zero Zero = ⊥
MayFollow Zero One = Unit {0}
MayFollow Zero Two = Unit {0}
MayFollow One Zero = Unit {0}
MayFollow One One = ⊥
MayFollow One Two = Unit {0}
MayFollow Two Zero = ⊥
MayFollow Two One = Unit {0}
MayFollow Two Two = ⊥

-- no two neighbours are equal, and none are 2 0
abbrev pub IsReduced : Word → Type 0
IsReduced [] = Unit {0}
IsReduced (i ∷ []) = Unit {0}
IsReduced (i ∷ j ∷ w) = MayFollow i j × IsReduced (j ∷ w)

-- the letter of a move before a reduced word
abbrev pub put_move : Option Index → Word → Word
put_move None w = w
put_move (Some i) w = put i w

-- The involutions of the moves of a word before a reduced word, reduced: as maps are composed, that of the last move stands first.
abbrev pub carried : Table → Word → ℕ → Word → Word
carried t [] x w = w
carried t (i ∷ u) x w = carried t u (move t i x).to (put_move (move t i x).by w)
