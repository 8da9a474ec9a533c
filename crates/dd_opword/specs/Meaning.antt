-- What a word of operations means.
use Rattle.std.specs.Prelude.{◌≡◌, ℕ, ◌*◌, ◌<◌, ◌≤◌, List, [], ◌∷◌, IfOk, IfErr, OnOk}
use Rattle.std.specs.declared.result.Result.{Result}
use Rattle.dd_model.specs.Small.{IsSmallSymbol}
use Rattle.dd_model.specs.Symbol.{Symbol}
use Rattle.dd_template.specs.Table.{Table}
use Rattle.dd_template.specs.Applying.{IsFaultOf}
use Rattle.dd_template.specs.Made.{made}
use Rattle.dd_template.specs.Named.{dual, ambo, truncate, chamfer}
use Rattle.dd_template.specs.declared.application.ApplyFault.{ApplyFault}
use Rattle.dd_template.specs.declared.application.ApplyFault.TheVariants.{TooManyChambers, Memory}
use Rattle.dd_opword.specs.declared.letters.Letter.{Letter}
use Rattle.dd_opword.specs.declared.letters.Letter.TheVariants.{Dual, Ambo, Truncate, Chamfer}
use Rattle.dd_opword.specs.declared.words.OpWord.{OpWord}
use Rattle.dd_opword.specs.Words.{letters_of}

-- the table of a letter
abbrev pub table_of_letter : Letter → Table
table_of_letter Dual = dual
table_of_letter Ambo = ambo
table_of_letter Truncate = truncate
table_of_letter Chamfer = chamfer

-- What letters make of a symbol. The last letter is done first.
abbrev pub meaning : List Letter → Symbol → Symbol
meaning [] s = s
meaning (l ∷ ls) s = made (table_of_letter l) (meaning ls s)

-- the product of the numbers of parts
abbrev pub parts_of : List Letter → ℕ
parts_of [] = 1
parts_of (l ∷ ls) = (table_of_letter l).parts * parts_of ls

-- A fault: the symbol has n chambers, and what the word makes of it would have over 1,024; or it would not, and
-- memory was wanting.
abbrev pub IsWordFault : OpWord → Symbol → ApplyFault → Type 0
IsWordFault w s (TooManyChambers n) = (n ≡ s.size) × (1024 < s.size * parts_of (letters_of w))
IsWordFault w s Memory = s.size * parts_of (letters_of w) ≤ 1024

-- what is returned for a table and a symbol: what the table makes of the symbol, or why nothing is made
pub record IsMadeBy (t : Table) (s : Symbol) (result : Result Symbol ApplyFault) : Type 0 where
  pub made : IfOk result (λ derived. derived ≡ made t s)
  pub within : OnOk result (s.size * t.parts ≤ 1024)
  pub why : IfErr result (λ why. IsFaultOf t s why)
  pub small : IsSmallSymbol s
