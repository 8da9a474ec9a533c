-- Lines that are written are read back.
use Rattle.std.proofs.Common.{◌≡◌, ℕ, zero, suc, ◌+◌, ◌*◌, ◌<◌, ◌≤◌, Bool, true, false, cond, List, [], ◌∷◌, ◌++◌, length, Some, None, refl, sym, ap, ◌∙◌, subst, arith, append_assoc}
use Rattle.std.specs.Prelude.{codes, decimal, map, filter, nat_le}
use Rattle.std.specs.List.{AllByRecursion, Contains}
use Rattle.dd_model.specs.declared.index.Index.{Index}
use Rattle.dd_model.specs.declared.index.Index.TheVariants.{Zero, One, Two}
use Rattle.dd_model.specs.declared.pair.Pair.{Pair}
use Rattle.dd_model.specs.declared.pair.Pair.TheVariants.{Tile, Vertex}
use Rattle.dd_model.specs.declared.tokens.Part.TheVariants.{Sign, Number}
use Rattle.dd_model.specs.declared.tokens.Placed.{Placed}
use Rattle.dd_model.specs.Symbol.{Symbol, IsChamber, item, op, degree}
use Rattle.dd_model.specs.Cell.{AreCells}
use Rattle.dd_model.specs.Code.{count_from}
use Rattle.dd_model.specs.Line.{spaced, told_images, IsLine}
use Rattle.dd_model.specs.Text.{AreLines}
use Rattle.dd_model.specs.Parts.{Cursor, first_part, after_part, Spells}
use Rattle.dd_model.specs.Spelling.{Shape, number_part, sign_part, with_list}
use Rattle.dd_model.specs.Reading.{Item, Blank, Spelling, AreItems, symbols_of, IsSpellingTo, IsReadable, start, Reads}
use Rattle.dd_model.proofs.Branching.{branching_exists}
use Rattle.dd_model.proofs.CellWalks.{in_cell-refl}
use Rattle.dd_model.proofs.Turns.{period_bound}
use Rattle.dd_model.proofs.Lists.{Contains-head, Contains-later}
use Rattle.dd_model.proofs.WrittenNumbers.{number_read, then_number, IsMark, then_sign, IsShort, list_read}
use Rattle.std.proofs.lemmas.List.{append-nil}

mark_44 : IsMark 44
mark_44 = record { blank = refl; digit = refl }

mark_58 : IsMark 58
mark_58 = record { blank = refl; digit = refl }

mark_62 : IsMark 62
mark_62 = record { blank = refl; digit = refl }

-- ---- numbers of a symbol are short

all_kept : (P : ℕ → Type 0) (f : ℕ → ℕ) (b : Bool) (x : ℕ) (ys : List ℕ) → P (f x) → AllByRecursion P (map f ys) → AllByRecursion P (map f (cond b (x ∷ ys) ys))
all_kept P f true x ys h a = (h, a)
all_kept P f false x ys h a = a

all_filtered : (P : ℕ → Type 0) (f : ℕ → ℕ) (p : ℕ → Bool) (k m : ℕ) → ((d : ℕ) → k ≤ d → d < k + m → P (f d)) → AllByRecursion P (map f (filter p (count_from k m)))
all_filtered P f p k zero h = tt
all_filtered P f p k (suc m) h = all_kept P f (p k) k (filter p (count_from (k + 1) m)) (h k (omega arith) (omega arith)) (all_filtered P f p (k + 1) m (λ d low high. h d (omega arith) (omega arith)))

short_images : (s : Symbol) → IsReadable s → (i : Index) → AllByRecursion IsShort (told_images s i)
short_images s r i =
    all_filtered IsShort (op s i) (λ d. nat_le d (op s i d)) 1 s.size (λ d low high.
    let w = (r.symbol.symbol.table.involutions i).within d (omega arith, omega arith) in let few = r.size in omega (arith, w.1))

degree_bound : (v r m : ℕ) → v ≤ 30 → r ≤ 1024 → v * r ≡ m → m < 1000000000
degree_bound v r m a b e = grind arith

short_degree : (s : Symbol) → IsReadable s → (p : Pair) (d : ℕ) → IsChamber s d → IsShort (degree s p d)
short_degree s r p d h =
    let b = branching_exists s r.symbol.symbol p d h in
    let turns = b.1.least_turns in
    let small = r.symbol.branching p d b.0 h b.1 in
    let few = r.size in
    let bound = period_bound s r.symbol.symbol.table.involutions p d b.1.r h (λ k low lt fixed. let least = turns.least k d low (in_cell-refl s p d) fixed in omega arith) in
    degree_bound b.0 b.1.r (degree s p d) small (omega arith) b.1.quotient

all_contained : (P : ℕ → Type 0) (f : ℕ → ℕ) (xs : List ℕ) → ((x : ℕ) → Contains xs x → P (f x)) → AllByRecursion P (map f xs)
all_contained P f [] h = tt
all_contained P f (x ∷ xs) h = (h x (Contains-head x xs), all_contained P f xs (λ y there. h y (Contains-later x y xs there)))

short_degrees : (s : Symbol) → IsReadable s → (p : Pair) (ds : List ℕ) → AreCells s p ds → AllByRecursion IsShort (map (degree s p) ds)
short_degrees s r p ds are = all_contained IsShort (degree s p) ds (λ d here. short_degree s r p d ((are.members d).0 here).0)

-- ---- one line

-- a line, and what comes after it
abbrev text_then : ℕ → ℕ → List ℕ → List ℕ → List ℕ → List ℕ → List ℕ → List ℕ → List ℕ
text_then k n a b c d e rest = decimal k ++ 58 ∷ (decimal n ++ 58 ∷ (spaced a ++ 44 ∷ (spaced b ++ 44 ∷ (spaced c ++ 58 ∷ (spaced d ++ 44 ∷ (spaced e ++ 62 ∷ 10 ∷ rest))))))

nested : (k n a b c d e rest : List ℕ)
    → (codes "<1." ++ k ++ codes ":" ++ n ++ codes ":" ++ a ++ codes "," ++ b ++ codes "," ++ c ++ codes ":" ++ d ++ codes "," ++ e ++ codes ">\n") ++ rest
    ≡ 60 ∷ 49 ∷ 46 ∷ (k ++ 58 ∷ (n ++ 58 ∷ (a ++ 44 ∷ (b ++ 44 ∷ (c ++ 58 ∷ (d ++ 44 ∷ (e ++ 62 ∷ 10 ∷ rest)))))))
nested k n a b c d e rest = simp append_assoc

-- a line is a spelling, a line feed, and then the text goes on
record ReadsLine (at : ℕ) (text : List ℕ) (s : Symbol) (rest : List ℕ) : Type 0 where
  pub shape : Shape
  pub to : ℕ
  pub spelling : IsSpellingTo (record { at = at; rest = text }) shape s (record { at = to; rest = 10 ∷ rest })

-- the head begins with 1 and a dot
then_head : (at : ℕ) (text : List ℕ) (ps : List Placed) (d : Cursor) → Spells (record { at = at + 1 + 1; rest = text }) ps d
    → Spells (record { at = at; rest = 49 ∷ 46 ∷ text }) (record { at = at; part = Number 1 } ∷ record { at = at + 1; part = Sign 46 } ∷ ps) d
unfolding first_part after_part
then_head at text ps d a = (refl, (refl, a))

line_read : (at k : ℕ) (s : Symbol) (tiles vertices rest : List ℕ) → IsShort k → IsReadable s → AreCells s Tile tiles → AreCells s Vertex vertices
    → ReadsLine at (60 ∷ 49 ∷ 46 ∷ text_then k s.size (told_images s Zero) (told_images s One) (told_images s Two) (map (item s.m01) tiles) (map (item s.m12) vertices) rest) s rest
line_read at k s tiles vertices rest small r are_tiles are_vertices =
    let a = told_images s Zero in
    let b = told_images s One in
    let c = told_images s Two in
    let d = map (item s.m01) tiles in
    let e = map (item s.m12) vertices in
    let n = s.size in
    let few = r.size in
    let t5 = spaced e ++ 62 ∷ 10 ∷ rest in
    let t4 = spaced d ++ 44 ∷ t5 in
    let t3 = spaced c ++ 58 ∷ t4 in
    let t2 = spaced b ++ 44 ∷ t3 in
    let t1 = spaced a ++ 44 ∷ t2 in
    let t0 = decimal n ++ 58 ∷ t1 in
    let p = at + 1 + 1 + 1 in
    let rk = number_read p k 58 t0 small refl in
    let q = p + length (decimal k) in
    let rn = number_read (q + 1) n 58 t1 (omega arith) refl in
    let o = q + 1 + length (decimal n) in
    let l0 = list_read (o + 1) a 44 t2 mark_44 (short_images s r Zero) in
    let l1 = list_read l0.to b 44 t3 mark_44 (short_images s r One) in
    let l2 = list_read l1.to c 58 t4 mark_58 (short_images s r Two) in
    let l3 = list_read l2.to d 44 t5 mark_44 (short_degrees s r Tile tiles are_tiles) in
    let l4 = list_read l3.to e 62 (10 ∷ rest) mark_62 (short_degrees s r Vertex vertices are_vertices) in
    let end : Cursor = record { at = l4.to; rest = 10 ∷ rest } in
    let x : Shape = record {
      head = Some (record { first = record { at = at + 1; value = 1 }; dot = at + 1 + 1; second = record { at = rk.place; value = k }; colon = q });
      size = record { at = rn.place; value = n };
      dimension = None;
      colon = o;
      s0 = l0.list;
      s1 = l1.list;
      s2 = l2.list;
      m01 = l3.list;
      m12 = l4.list;
    } in
    let p4 = with_list l4.list 62 [] in
    let p3 = with_list l3.list 44 p4 in
    let p2 = with_list l2.list 58 p3 in
    let p1 = with_list l1.list 44 p2 in
    let p0 = with_list l0.list 44 p1 in
    let pn = number_part (record { at = rn.place; value = n }) ∷ sign_part 58 o ∷ p0 in
    let lists = l0.spells p1 end (l1.spells p2 end (l2.spells p3 end (l3.spells p4 end (l4.spells [] end refl)))) in
    let sized : Spells (record { at = q + 1; rest = t0 }) pn end = then_number (q + 1) n o t0 (58 ∷ t1) rn (sign_part 58 o ∷ p0) end (then_sign o 58 t1 mark_58 p0 end lists) in
    let headed = then_number p k q (decimal k ++ 58 ∷ t0) (58 ∷ t0) rk (sign_part 58 q ∷ pn) end (then_sign q 58 t0 mark_58 pn end sized) in
    record {
      shape = x;
      to = l4.to;
      spelling = record {
        after = 49 ∷ 46 ∷ (decimal k ++ 58 ∷ t0);
        begins = refl;
        spells = then_head (at + 1) (decimal k ++ 58 ∷ t0) (number_part (record { at = rk.place; value = k }) ∷ sign_part 58 q ∷ pn) end headed;
        plane = record { some = r.symbol.symbol.table.chambers; few = few; two = tt };
        tells = record {
          size = refl;
          s0 = l0.values_are;
          s1 = l1.values_are;
          s2 = l2.values_are;
          tiles = tiles;
          are_tiles = are_tiles;
          m01 = l3.values_are;
          vertices = vertices;
          are_vertices = are_vertices;
          m12 = l4.values_are;
        };
      };
    }

-- ---- all lines

record ReadsLines (at : ℕ) (bytes : List ℕ) (ss : List Symbol) : Type 0 where
  pub items : List Item
  pub to : ℕ
  pub row : AreItems (record { at = at; rest = bytes }) items (record { at = to; rest = [] })
  pub symbols : symbols_of items ≡ ss

lines_read : (at k : ℕ) (ss : List Symbol) (bytes : List ℕ) → AreLines k ss bytes → AllByRecursion IsReadable ss → k + length ss < 1000000000 → ReadsLines at bytes ss
lines_read at k [] bytes a r few = record { items = []; to = at; row = ap (λ z. record { at = at; rest = z }) a; symbols = refl }
lines_read at k (s ∷ ss) bytes (line, rest, is, later, e) r few =
    let text = text_then (k + 1) s.size (told_images s Zero) (told_images s One) (told_images s Two) (map (item s.m01) is.tiles) (map (item s.m12) is.vertices) in
    let one = line_read at (k + 1) s is.tiles is.vertices rest (omega arith) r.0 is.are_tiles is.are_vertices in
    let others = lines_read (one.to + 1) (k + 1) ss rest later r.1 (omega arith) in
    let whole : bytes ≡ 60 ∷ 49 ∷ 46 ∷ text rest =
    e ∙ ap (λ z. z ++ rest) is.text
    ∙ nested (decimal (k + 1)) (decimal s.size) (spaced (told_images s Zero)) (spaced (told_images s One)) (spaced (told_images s Two)) (spaced (map (item s.m01) is.tiles)) (spaced (map (item s.m12) is.vertices)) rest in
    record {
      items = Spelling one.shape s ∷ Blank ∷ others.items;
      to = others.to;
      row = subst (λ z. AreItems (record { at = at; rest = z }) (Spelling one.shape s ∷ Blank ∷ others.items) (record { at = others.to; rest = [] })) (sym whole) (
        record { at = one.to; rest = 10 ∷ rest },
        one.spelling,
        (record { at = one.to + 1; rest = rest }, record { byte = 10; after = rest; begins = refl; blank = refl; to = refl }, others.row),
      );
      symbols = ap (λ zs. s ∷ zs) others.symbols;
    }

pub read_back : (k : ℕ) (ss : List Symbol) (bytes : List ℕ) → AreLines k ss bytes → AllByRecursion IsReadable ss → k + length ss < 1000000000
    → length ss ≤ 1000000 → length bytes ≤ 16777216 → Reads bytes ss
read_back k ss bytes lines r few count short =
    let all = lines_read 0 k ss bytes lines r few in
    record {
      short = short;
      end = record { at = all.to; rest = [] };
      row = record { items = all.items; row = all.row; symbols = all.symbols; readable = r };
      whole = refl;
      few = count;
    }

pub line_back : (k : ℕ) (s : Symbol) (line : List ℕ) → IsLine k s line → IsReadable s → k < 1000000000 → length line ≤ 16777216 → Reads line (s ∷ [])
line_back k s line is r small short =
    let one = line_read 0 k s is.tiles is.vertices [] small r is.are_tiles is.are_vertices in
    let whole =
    sym (append-nil line) ∙ ap (λ z. z ++ []) is.text
    ∙ nested (decimal k) (decimal s.size) (spaced (told_images s Zero)) (spaced (told_images s One)) (spaced (told_images s Two)) (spaced (map (item s.m01) is.tiles)) (spaced (map (item s.m12) is.vertices)) [] in
    let end : Cursor = record { at = one.to + 1; rest = [] } in
    record {
      short = short;
      end = end;
      row = record {
        items = Spelling one.shape s ∷ Blank ∷ [];
        row = subst (λ z. AreItems (start z) (Spelling one.shape s ∷ Blank ∷ []) end) (sym whole)
            (record { at = one.to; rest = 10 ∷ [] }, one.spelling, (end, record { byte = 10; after = []; begins = refl; blank = refl; to = refl }, refl));
        symbols = refl;
        readable = (r, tt);
      };
      whole = refl;
      few = omega arith;
    }
