-- A text spells one word of operations at most.
use Rattle.std.proofs.Common.{◌≡◌, ℕ, cond, List, [], ◌∷◌, refl, sym, ap, ◌∙◌}
use Rattle.std.specs.Prelude.{◌==◌}
use Rattle.dd_opword.specs.declared.letters.Letter.{Letter}
use Rattle.dd_opword.specs.declared.letters.Letter.TheVariants.{Dual, Ambo, Truncate, Chamfer}
use Rattle.dd_opword.specs.declared.words.OpWord.{OpWord}
use Rattle.dd_opword.specs.declared.words.OpWord.TheVariants.{One, Two, Three}
use Rattle.dd_opword.specs.Words.{byte_of, bytes_of, letters_of, IsSpelled}

-- the letter of a byte
abbrev letter_of : ℕ → Letter
letter_of b = cond (b == 100) Dual (cond (b == 97) Ambo (cond (b == 116) Truncate Chamfer))

letter_told : (l : Letter) → letter_of (byte_of l) ≡ l
letter_told Dual = refl
letter_told Ambo = refl
letter_told Truncate = refl
letter_told Chamfer = refl

-- the word of a text
abbrev word_of : List ℕ → OpWord
word_of (x ∷ y ∷ z ∷ bs) = Three (letter_of x) (letter_of y) (letter_of z)
word_of (x ∷ y ∷ []) = Two (letter_of x) (letter_of y)
word_of (x ∷ []) = One (letter_of x)
word_of [] = One Dual

word_told : (w : OpWord) → word_of (bytes_of (letters_of w)) ≡ w
word_told (One x) = ap One (letter_told x)
word_told (Two x y) = λ i. Two (letter_told x i) (letter_told y i)
word_told (Three x y z) = λ i. Three (letter_told x i) (letter_told y i) (letter_told z i)

pub one_op_word : (text : List ℕ) (w v : OpWord) → IsSpelled text w → IsSpelled text v → w ≡ v
one_op_word text w v a b = sym (word_told w) ∙ ap word_of (sym a ∙ b) ∙ word_told v
