-- The word of an array whose last letter is the first of the word.
use Rattle.std.specs.Prelude.{ℕ, zero, suc, List, [], ◌∷◌, slice_index_or}
use Rattle.dd_model.specs.Symbol.{Word}
use Rattle.dd_model.specs.declared.index.Index.{Index}
use Rattle.dd_model.specs.declared.index.Index.TheVariants.{Zero}
use Rattle.dd_template.specs.declared.words.Letters.{Letters}

-- the first n letters of a list, the last of them first
abbrev pub backwards : List Index → ℕ → Word
backwards letters zero = []
backwards letters (suc n) = slice_index_or letters n Zero ∷ backwards letters n

-- the word of an array of letters
abbrev pub word_of : Letters → Word
word_of w = backwards w.letters w.count
