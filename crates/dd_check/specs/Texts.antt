-- Texts that are parted at a byte: lines, words, and the items of a set.
use Rattle.std.specs.Prelude.{ℕ, List, ◌++◌, ◌==◌, map, codes}
use Rattle.std.specs.List.{flat_map, join_with_byte, slice_split}
use Rattle.std.specs.Borrow.{Bor}

-- the bytes of a word, a line or a whole text
abbrev pub Text : Type 0
Text = List ℕ

-- what stands between the places of a byte
abbrev pub parts_of : ℕ → Text → List Text
parts_of separator = slice_split (λ byte. byte == separator)

-- the lines of a text, each ended by a line feed, and last what stands after the last line feed
abbrev pub lines_of : Text → List Text
lines_of = parts_of 10

-- the words of a line, with one space between two of them
abbrev pub words_of : Text → List Text
words_of = parts_of 32

-- words with one space between two of them, and a line feed
abbrev pub line_text : List Text → Text
line_text words = join_with_byte 32 words ++ codes "\n"

-- lines, each by its words
abbrev pub page : List (List Text) → Text
page = flat_map line_text

-- the texts that references lead to
abbrev pub texts : List (Bor Text) → List Text
texts = map (λ text. text.now)
