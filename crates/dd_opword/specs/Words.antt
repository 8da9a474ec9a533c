-- Words of one to three letters, each of which stands for an operation.
use Rattle.std.specs.Prelude.{◌≡◌, ℕ, List, [], ◌∷◌}
use Rattle.dd_opword.specs.declared.letters.Letter.{Letter}
use Rattle.dd_opword.specs.declared.letters.Letter.TheVariants.{Dual, Ambo, Truncate, Chamfer}
use Rattle.dd_opword.specs.declared.words.OpWord.{OpWord}
use Rattle.dd_opword.specs.declared.words.OpWord.TheVariants.{One, Two, Three}

-- the byte of a letter: d, a, t or c
abbrev pub byte_of : Letter → ℕ
byte_of Dual = 100
byte_of Ambo = 97
byte_of Truncate = 116
byte_of Chamfer = 99

-- the bytes of letters
abbrev pub bytes_of : List Letter → List ℕ
bytes_of [] = []
bytes_of (l ∷ ls) = byte_of l ∷ bytes_of ls

-- the letters of a word, from left to right
abbrev pub letters_of : OpWord → List Letter
letters_of (One x) = x ∷ []
letters_of (Two x y) = x ∷ y ∷ []
letters_of (Three x y z) = x ∷ y ∷ z ∷ []

-- the text is the bytes of the letters of the word
abbrev pub IsSpelled : List ℕ → OpWord → Type 0
IsSpelled text w = text ≡ bytes_of (letters_of w)
