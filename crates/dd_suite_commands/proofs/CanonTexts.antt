-- What `canon` writes of two files is the same exactly where their symbols are isomorphic in turn.
use Rattle.std.proofs.Common.{◌≡◌, ℕ, ◌+◌, ◌<◌, ◌^◌, List, [], ◌∷◌, length, refl, sym, ap, ◌∙◌, subst, arith}
use Rattle.std.specs.List.{AllByRecursion}
use Rattle.dd_model.specs.Symbol.{Symbol}
use Rattle.dd_model.specs.Isomorphic.{HaveLengths}
use Rattle.dd_model.specs.Small.{IsSmallSymbol}
use Rattle.dd_model.specs.Code.{IsLeastForm}
use Rattle.dd_model.specs.Text.{AreLines}
use Rattle.dd_model.specs.Reading.{IsReadable, Reads}
use Rattle.dd_model.proofs.LeastForms.{same_least_forms}
use Rattle.dd_model.proofs.LinesDetermined.{lines_determine}
use Rattle.dd_model.proofs.ReadingRows.{reads_once}
use Rattle.dd_model.proofs.Texts.{lines_unique}
use Rattle.dd_symbol.proofs.RenumberLemmas.{small-along}
use Rattle.dd_suite_commands.specs.declared.commands.FileCommand.{FileCommand}
use Rattle.dd_suite_commands.specs.declared.commands.FileCommand.TheVariants.{Symbols}
use Rattle.dd_suite_commands.specs.declared.commands.SymbolCommand.TheVariants.{Canon}
use Rattle.dd_suite_commands.specs.Files.{IsTextOf, IsFileText}
use Rattle.dd_suite_commands.specs.InTurn.{AreInTurn, AreIsomorphicInTurn}
use Rattle.dd_suite_commands.proofs.InTurnLemmas.{in_turn_length}
use Rattle.dd_suite_commands.proofs.FileTexts.{file_text_unique}

-- the least form of a small symbol is small
form_small : (s x : Symbol) → IsSmallSymbol s → IsLeastForm s x → IsSmallSymbol x
form_small s x small form =
    let table = form.symbol.table in
    let lengths : HaveLengths x = record { lengths = table.lengths; m01_length = table.m01_length; m12_length = table.m12_length } in
    small-along s x form.renumbering.0 small form.renumbering.1 lengths

forms_small : (ss xs : List Symbol) → AllByRecursion IsReadable ss → AreInTurn IsLeastForm ss xs → AllByRecursion IsSmallSymbol xs
forms_small [] [] readable a = tt
forms_small [] (x ∷ xs) readable a = absurd a
forms_small (s ∷ ss) [] readable a = absurd a
forms_small (s ∷ ss) (x ∷ xs) readable a = (form_small s x readable.0.symbol a.0, forms_small ss xs readable.1 a.1)

-- symbols that are isomorphic in turn have the same least forms
same_forms : (ss ts xs ys : List Symbol) → AllByRecursion IsReadable ss → AllByRecursion IsReadable ts → AreInTurn IsLeastForm ss xs → AreInTurn IsLeastForm ts ys → AreIsomorphicInTurn ss ts → xs ≡ ys
same_forms [] [] [] [] rs rt a b iso = refl
same_forms [] [] [] (y ∷ ys) rs rt a b iso = absurd b
same_forms [] [] (x ∷ xs) ys rs rt a b iso = absurd a
same_forms [] (t ∷ ts) xs ys rs rt a b iso = absurd iso
same_forms (s ∷ ss) [] xs ys rs rt a b iso = absurd iso
same_forms (s ∷ ss) (t ∷ ts) [] ys rs rt a b iso = absurd a
same_forms (s ∷ ss) (t ∷ ts) (x ∷ xs) [] rs rt a b iso = absurd b
same_forms (s ∷ ss) (t ∷ ts) (x ∷ xs) (y ∷ ys) rs rt a b iso =
    let first : x ≡ y = (same_least_forms s t x y rs.0.symbol.symbol rt.0.symbol.symbol a.0 b.0).1 iso.0 in
    ap (λ u. u ∷ xs) first ∙ ap (λ us. y ∷ us) (same_forms ss ts xs ys rs.1 rt.1 a.1 b.1 iso.1)

-- symbols with the same least forms are isomorphic in turn
in_turn_from_forms : (ss ts xs : List Symbol) → AllByRecursion IsReadable ss → AllByRecursion IsReadable ts → AreInTurn IsLeastForm ss xs → AreInTurn IsLeastForm ts xs → AreIsomorphicInTurn ss ts
in_turn_from_forms [] [] xs rs rt a b = tt
in_turn_from_forms [] (t ∷ ts) [] rs rt a b = absurd b
in_turn_from_forms [] (t ∷ ts) (x ∷ xs) rs rt a b = absurd a
in_turn_from_forms (s ∷ ss) [] [] rs rt a b = absurd a
in_turn_from_forms (s ∷ ss) [] (x ∷ xs) rs rt a b = absurd b
in_turn_from_forms (s ∷ ss) (t ∷ ts) [] rs rt a b = absurd a
in_turn_from_forms (s ∷ ss) (t ∷ ts) (x ∷ xs) rs rt a b =
    ((same_least_forms s t x x rs.0.symbol.symbol rt.0.symbol.symbol a.0 b.0).0 refl, in_turn_from_forms ss ts xs rs.1 rt.1 a.1 b.1)

-- a text of a file is made of the symbols that the file spells
lines_of_spelled : (command : FileCommand) (bytes text : List ℕ) (ss : List Symbol) → Reads bytes ss → IsFileText command bytes text → IsTextOf command ss text
lines_of_spelled command bytes text ss reads is = subst (λ us. IsTextOf command us text) (reads_once bytes is.symbols ss is.reads reads) is.written

pub canon_equal : (a b x y : List ℕ) (ss ts : List Symbol) → Reads a ss → Reads b ts → IsFileText (Symbols Canon) a x → IsFileText (Symbols Canon) b y → AreIsomorphicInTurn ss ts → x ≡ y
canon_equal a b x y ss ts reads reads' is is' iso =
    let here = lines_of_spelled (Symbols Canon) a x ss reads is in
    let there = lines_of_spelled (Symbols Canon) b y ts reads' is' in
    let same : here.made ≡ there.made = same_forms ss ts here.made there.made reads.row.readable reads'.row.readable here.are_made there.are_made iso in
    lines_unique 0 there.made x y (subst (λ us. AreLines 0 us x) same here.lines) there.lines

-- the count of the least forms of a file's symbols is short in decimal digits
few_forms : (bytes : List ℕ) (ss xs : List Symbol) → Reads bytes ss → AreInTurn IsLeastForm ss xs → 0 + length xs < 10 ^ 64
few_forms bytes ss xs reads a =
    let count = in_turn_length IsLeastForm ss xs a in
    let few = reads.few in
    omega arith

pub canon_apart : (a b x y : List ℕ) (ss ts : List Symbol) → Reads a ss → Reads b ts → IsFileText (Symbols Canon) a x → IsFileText (Symbols Canon) b y → x ≡ y → AreIsomorphicInTurn ss ts
canon_apart a b x y ss ts reads reads' is is' texts =
    let here = lines_of_spelled (Symbols Canon) a x ss reads is in
    let there = lines_of_spelled (Symbols Canon) b y ts reads' is' in
    let rs = reads.row.readable in
    let rt = reads'.row.readable in
    let same : here.made ≡ there.made =
    lines_determine 0 here.made there.made x (few_forms a ss here.made reads here.are_made) (few_forms b ts there.made reads' there.are_made)
    (forms_small ss here.made rs here.are_made) (forms_small ts there.made rt there.are_made) here.lines (subst (AreLines 0 there.made) (sym texts) there.lines) in
    in_turn_from_forms ss ts there.made rs rt (subst (AreInTurn IsLeastForm ss) same here.are_made) there.are_made

pub text_once : (command : FileCommand) (a x y : List ℕ) → IsFileText command a x → IsFileText command a y → x ≡ y
text_once = file_text_unique
