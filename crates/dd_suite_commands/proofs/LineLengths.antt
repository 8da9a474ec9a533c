-- Lines have so many bytes that a file has no more lines than symbols that it may have.
use Rattle.std.proofs.Common.{◌≡◌, ℕ, zero, suc, ◌+◌, ◌*◌, ◌/◌, ◌^◌, ◌<◌, ◌≤◌, Bool, true, false, cond, List, [], ◌∷◌, ◌++◌, codes, decimal, map, length, length-append, rules, tests, refl, sym, ap, ◌∙◌, subst, arith}
use Rattle.std.specs.Prelude.{filter, nat_le}
use Rattle.std.specs.List.{AllByRecursion, flat_map}
use Rattle.std.proofs.lemmas.Fmt.{decimal_nonempty, decimal_step}
use Rattle.dd_model.specs.Symbol.{Symbol, IsSymbol, op, item}
use Rattle.dd_model.specs.Line.{IsLine, spaced, told_images, after_space, text_of}
use Rattle.dd_model.specs.Text.{AreLines}
use Rattle.dd_model.specs.Code.{count_from}
use Rattle.dd_model.specs.declared.index.Index.{Index}
use Rattle.dd_model.specs.declared.index.Index.TheVariants.{Zero, One, Two}

plus : (xs ys : List ℕ) (m n : ℕ) → m ≤ length xs → n ≤ length ys → m + n ≤ length (xs ++ ys)
plus xs ys m n a b = let e = length-append xs ys in omega (arith, e, a, b)

-- a symbol of few chambers
pub record IsFew (s : Symbol) : Type 0 where
  pub symbol : IsSymbol s
  pub size : s.size ≤ 36

some_told : (s : Symbol) (i : Index) → IsFew s → 1 ≤ length (spaced (told_images s i))
some_told s i few = go s.size refl
  where
    image : (1 ≤ op s i 1) × (op s i 1 ≤ s.size)
    image = let chambers = few.symbol.table.chambers in (few.symbol.table.involutions i).within 1 (omega arith, omega arith)

    digits : 1 ≤ length (decimal (op s i 1))
    digits = let some = decimal_nonempty (op s i 1) (let high = image.1 in let most = few.size in omega arith) in omega arith

    first : (n : ℕ) (b : Bool) → b ≡ true → 1 ≤ length (spaced (map (op s i) (cond b (1 ∷ filter (λ d. nat_le d (op s i d)) (count_from 2 n)) (filter (λ d. nat_le d (op s i d)) (count_from 2 n)))))
    first n true e = plus (decimal (op s i 1)) (flat_map after_space (map (op s i) (filter (λ d. nat_le d (op s i d)) (count_from 2 n)))) 1 0 digits (omega arith)
    first n false e = absurd (cc)

    test : nat_le 1 (op s i 1) ≡ true
    test = let low = image.0 in search (rules, tests)

    go : (n : ℕ) → s.size ≡ n → 1 ≤ length (spaced (told_images s i))
    go zero e = let some = few.symbol.table.chambers in absurd (omega arith)
    go (suc n) e = subst (λ m. 1 ≤ length (spaced (map (op s i) (filter (λ d. nat_le d (op s i d)) (count_from 1 m))))) (sym e) (first n (nat_le 1 (op s i 1)) test)

-- a line with a number of some digits
line_long : (k digits : ℕ) (s : Symbol) (line : List ℕ) → IsLine k s line → IsFew s → digits ≤ length (decimal k) → 15 + digits ≤ length line
line_long k digits s line is few long = subst (λ bytes. 15 + digits ≤ length bytes) (sym is.text) whole
  where
    whole : 15 + digits ≤ length (text_of k s is.tiles is.vertices)
    whole =
        let size : 1 ≤ length (decimal s.size) = (let some = decimal_nonempty s.size (let most = few.size in omega arith) in omega arith) in
        let z = some_told s Zero few in
        let o = some_told s One few in
        let t = some_told s Two few in
        let x0 : List ℕ = codes "<1." ++ decimal k in
        let a0 = plus (codes "<1.") (decimal k) 3 digits (omega arith) long in
        let x1 : List ℕ = x0 ++ codes ":" in
        let a1 = plus x0 (codes ":") (3 + digits) 1 a0 (omega arith) in
        let x2 : List ℕ = x1 ++ decimal s.size in
        let a2 = plus x1 (decimal s.size) (3 + digits + 1) 1 a1 size in
        let x3 : List ℕ = x2 ++ codes ":" in
        let a3 = plus x2 (codes ":") (3 + digits + 1 + 1) 1 a2 (omega arith) in
        let x4 : List ℕ = x3 ++ spaced (told_images s Zero) in
        let a4 = plus x3 (spaced (told_images s Zero)) (3 + digits + 1 + 1 + 1) 1 a3 z in
        let x5 : List ℕ = x4 ++ codes "," in
        let a5 = plus x4 (codes ",") (3 + digits + 1 + 1 + 1 + 1) 1 a4 (omega arith) in
        let x6 : List ℕ = x5 ++ spaced (told_images s One) in
        let a6 = plus x5 (spaced (told_images s One)) (3 + digits + 1 + 1 + 1 + 1 + 1) 1 a5 o in
        let x7 : List ℕ = x6 ++ codes "," in
        let a7 = plus x6 (codes ",") (3 + digits + 1 + 1 + 1 + 1 + 1 + 1) 1 a6 (omega arith) in
        let x8 : List ℕ = x7 ++ spaced (told_images s Two) in
        let a8 = plus x7 (spaced (told_images s Two)) (3 + digits + 1 + 1 + 1 + 1 + 1 + 1 + 1) 1 a7 t in
        let x9 : List ℕ = x8 ++ codes ":" in
        let a9 = plus x8 (codes ":") (3 + digits + 1 + 1 + 1 + 1 + 1 + 1 + 1 + 1) 1 a8 (omega arith) in
        let x10 : List ℕ = x9 ++ spaced (map (item s.m01) is.tiles) in
        let a10 = plus x9 (spaced (map (item s.m01) is.tiles)) (3 + digits + 1 + 1 + 1 + 1 + 1 + 1 + 1 + 1 + 1) 0 a9 (omega arith) in
        let x11 : List ℕ = x10 ++ codes "," in
        let a11 = plus x10 (codes ",") (3 + digits + 1 + 1 + 1 + 1 + 1 + 1 + 1 + 1 + 1 + 0) 1 a10 (omega arith) in
        let x12 : List ℕ = x11 ++ spaced (map (item s.m12) is.vertices) in
        let a12 = plus x11 (spaced (map (item s.m12) is.vertices)) (3 + digits + 1 + 1 + 1 + 1 + 1 + 1 + 1 + 1 + 1 + 0 + 1) 0 a11 (omega arith) in
        let a13 = plus x12 (codes ">\n") (3 + digits + 1 + 1 + 1 + 1 + 1 + 1 + 1 + 1 + 1 + 0 + 1 + 0) 2 a12 (omega arith) in
        omega (arith, a13)

two_digits : (k : ℕ) → 10 ≤ k → k < 2 ^ 64 → 2 ≤ length (decimal k)
two_digits k low high =
    let some = decimal_nonempty (k / 10) (let less : k / 10 ≤ k = omega arith in omega arith) in
    subst (λ d. 2 ≤ length d) (sym (decimal_step k low high)) (plus (decimal (k / 10)) _ 1 1 (omega arith) (omega arith))

-- with no look at numbers
lines_some : (k : ℕ) (ss : List Symbol) (bytes : List ℕ) → AreLines k ss bytes → AllByRecursion IsFew ss → 15 * length ss ≤ length bytes
lines_some k [] bytes lines few = omega arith
lines_some k (s ∷ ss) bytes lines few =
    let one = line_long (k + 1) 0 s lines.0 lines.2 few.0 (omega arith) in
    let rest = lines_some (k + 1) ss lines.1 lines.3 few.1 in
    let all = ap length lines.4 ∙ length-append lines.0 lines.1 in
    omega (arith, one, rest, all)

-- from number 10 on
lines_late : (k : ℕ) (ss : List Symbol) (bytes : List ℕ) → AreLines k ss bytes → AllByRecursion IsFew ss → 9 ≤ k → k + length ss < 2 ^ 64 → 17 * length ss ≤ length bytes
lines_late k [] bytes lines few low high = omega arith
lines_late k (s ∷ ss) bytes lines few low high =
    let one = line_long (k + 1) 2 s lines.0 lines.2 few.0 (two_digits (k + 1) (omega arith) (omega arith)) in
    let rest = lines_late (k + 1) ss lines.1 lines.3 few.1 (omega arith) (omega arith) in
    let all = ap length lines.4 ∙ length-append lines.0 lines.1 in
    omega (arith, one, rest, all)

-- up to there each line has 15 bytes or more
lines_early : (n k : ℕ) (ss : List Symbol) (bytes : List ℕ) → AreLines k ss bytes → AllByRecursion IsFew ss → n + k ≡ 9 → k + length ss < 2 ^ 64 → 17 * length ss ≤ length bytes + 2 * n
lines_early zero k ss bytes lines few e high = let late = lines_late k ss bytes lines few (omega arith) high in omega arith
lines_early (suc n) k [] bytes lines few e high = omega arith
lines_early (suc n) k (s ∷ ss) bytes lines few e high =
    let one = line_long (k + 1) 0 s lines.0 lines.2 few.0 (omega arith) in
    let rest = lines_early n (k + 1) ss lines.1 lines.3 few.1 (omega arith) (omega arith) in
    let all = ap length lines.4 ∙ length-append lines.0 lines.1 in
    omega (arith, one, rest, all)

-- a file of lines has at most a million
pub few_lines : (ss : List Symbol) (bytes : List ℕ) → AreLines 0 ss bytes → AllByRecursion IsFew ss → length bytes ≤ 16777216 → length ss ≤ 1000000
few_lines ss bytes lines few short =
    let some = lines_some 0 ss bytes lines few in
    let more = lines_early 9 0 ss bytes lines few refl (omega arith) in
    omega arith
