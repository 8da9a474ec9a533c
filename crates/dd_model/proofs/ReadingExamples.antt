-- Two files, and what they spell.
use Rattle.std.proofs.Common.{◌≡◌, ℕ, zero, suc, ◌*◌, ◌≤◌, [], ◌∷◌, length, Some, None, refl, sym, ◌∙◌, subst, arith}
use Rattle.std.specs.Prelude.{codes}
use Rattle.std.specs.List.{Contains}
use Rattle.dd_model.specs.declared.pair.Pair.{Pair}
use Rattle.dd_model.specs.declared.pair.Pair.TheVariants.{Tile, Vertex, Edge}
use Rattle.dd_model.specs.declared.index.Index.TheVariants.{Zero, One, Two}
use Rattle.dd_model.specs.Symbol.{Symbol, IsTable, IsSymbol, IsChamber, HasDegree, op, operation, degree, act, Word}
use Rattle.dd_model.specs.Cell.{IsLeastOfCell, AreCells}
use Rattle.dd_model.specs.Parts.{first_part, after_part}
use Rattle.dd_model.specs.Spelling.{Shape}
use Rattle.dd_model.specs.Reading.{Blank, Comment, Spelling, IsSpellingTo, IsReadable, Reads}

pub comments : Reads (codes "# a\n# b\n") []
comments = record {
  short = omega arith;
  end = record { at = 8; rest = [] };
  row = record {
    items = Comment ∷ Blank ∷ Comment ∷ Blank ∷ [];
    row = (record { at = 3; rest = codes "\n# b\n" }, record { after = codes " a\n# b\n"; begins = refl; to = refl }, (record { at = 4; rest = codes "# b\n" }, record { byte = 10; after = codes "# b\n"; begins = refl; blank = refl; to = refl }, (record { at = 7; rest = codes "\n" }, record { after = codes " b\n"; begins = refl; to = refl }, (record { at = 8; rest = [] }, record { byte = 10; after = []; begins = refl; blank = refl; to = refl }, refl))));
    symbols = refl;
    readable = tt;
  };
  whole = refl;
  few = omega arith;
}

-- one chamber, tiles of degree 3 and vertices of degree 6
abbrev pub triangles : Symbol
triangles = record { size = 1; s0 = 1 ∷ []; s1 = 1 ∷ []; s2 = 1 ∷ []; m01 = 3 ∷ []; m12 = 6 ∷ [] }

one : (d : ℕ) → IsChamber triangles d → 1 ≡ d
one d h = omega arith

is_table : IsTable triangles
is_table = record {
  chambers = omega arith;
  lengths = λ i. elim i as (λ j. length (operation triangles j) ≡ 1) [ Zero ↦ refl | One ↦ refl | Two ↦ refl ];
  m01_length = refl;
  m12_length = refl;
  involutions = λ i. record {
    within = λ d h. subst (λ x. IsChamber triangles (op triangles i x)) (one d h) (elim i as (λ j. IsChamber triangles (op triangles j 1)) [ Zero ↦ (omega arith, omega arith) | One ↦ (omega arith, omega arith) | Two ↦ (omega arith, omega arith) ]);
    involutive = λ d h. subst (λ x. op triangles i (op triangles i x) ≡ x) (one d h) (elim i as (λ j. op triangles j (op triangles j 1) ≡ 1) [ Zero ↦ refl | One ↦ refl | Two ↦ refl ]);
  };
}

is_symbol : IsSymbol triangles
is_symbol = record {
  table = is_table;
  degrees = λ p d h. subst (HasDegree triangles p) (one d h) (elim p as (λ q. HasDegree triangles q 1) [
    | Tile ↦ record { positive = omega arith; along_first = refl; along_second = refl; turns = refl }
    | Vertex ↦ record { positive = omega arith; along_first = refl; along_second = refl; turns = refl }
    | Edge ↦ record { positive = omega arith; along_first = refl; along_second = refl; turns = refl }
  ]);
}

small_degree : (p : Pair) → degree triangles p 1 ≤ 30
small_degree p = elim p as (λ q. degree triangles q 1 ≤ 30) [ Tile ↦ omega arith | Vertex ↦ omega arith | Edge ↦ omega arith ]

quotient_le : (v r m : ℕ) → 1 ≤ r → v * r ≡ m → m ≤ 30 → v ≤ 30
quotient_le v r m pos e small = grind arith

readable : IsReadable triangles
readable = record {
  symbol = record {
    symbol = is_symbol;
    size = omega arith;
    branching = λ p d v h b. quotient_le v b.r (degree triangles p d) b.least_turns.positive b.quotient (subst (λ x. degree triangles p x ≤ 30) (one d h) (small_degree p));
  };
  connected = λ d h. record { word = []; leads = one d h };
  size = omega arith;
}

-- no word leads away from the one chamber
stays : (w : Word) → act triangles w 1 ≡ 1
stays [] = refl
stays (Zero ∷ w) = stays w
stays (One ∷ w) = stays w
stays (Two ∷ w) = stays w

only_cell : (p : Pair) (d : ℕ) → Contains (1 ∷ []) d → IsLeastOfCell triangles p d
only_cell p d (zero, h, e) = subst (IsLeastOfCell triangles p) e ((omega arith, omega arith), λ x c. let f : 1 ≡ x = sym (stays c.word) ∙ c.leads in omega arith)
only_cell p d (suc k, h, e) = absurd (omega arith)

first_cell : (d : ℕ) → 1 ≡ d → Contains (1 ∷ []) d
first_cell d e = subst (Contains (1 ∷ [])) e (zero, omega arith, refl)

cells : (p : Pair) → AreCells triangles p (1 ∷ [])
cells p = record {
  ascending = λ k h. absurd (omega arith);
  members = λ d. (λ here. only_cell p d here, λ l. first_cell d (one d l.0));
}

abbrev shape : Shape
shape = record {
  head = None;
  size = record { at = 15; value = 1 };
  dimension = Some (record { at = 17; value = 2 });
  colon = 18;
  s0 = record { numbers = record { at = 19; value = 1 } ∷ []; end = 20 };
  s1 = record { numbers = record { at = 23; value = 1 } ∷ []; end = 24 };
  s2 = record { numbers = record { at = 25; value = 1 } ∷ []; end = 26 };
  m01 = record { numbers = record { at = 27; value = 3 } ∷ []; end = 28 };
  m12 = record { numbers = record { at = 29; value = 6 } ∷ []; end = 30 };
}

spelling : IsSpellingTo (record { at = 14; rest = codes "<1 2:1,\n 1,1:3,6>  # triangular\n" }) shape triangles (record { at = 31; rest = codes "  # triangular\n" })
unfolding first_part after_part
spelling = record {
  after = codes "1 2:1,\n 1,1:3,6>  # triangular\n";
  begins = refl;
  spells = (refl, (refl, (refl, (refl, (refl, (refl, (refl, (refl, (refl, (refl, (refl, (refl, (refl, refl)))))))))))));
  plane = record { some = omega arith; few = omega arith; two = refl };
  tells = record { size = refl; s0 = refl; s1 = refl; s2 = refl; tiles = 1 ∷ []; are_tiles = cells Tile; m01 = refl; vertices = 1 ∷ []; are_vertices = cells Vertex; m12 = refl };
}

pub one_symbol : Reads (codes "# one chamber\n<1 2:1,\n 1,1:3,6>  # triangular\n") (triangles ∷ [])
one_symbol = record {
  short = omega arith;
  end = record { at = 46; rest = [] };
  row = record {
    items = Comment ∷ Blank ∷ Spelling shape triangles ∷ Blank ∷ Blank ∷ Comment ∷ Blank ∷ [];
    row = (record { at = 13; rest = codes "\n<1 2:1,\n 1,1:3,6>  # triangular\n" }, record { after = codes " one chamber\n<1 2:1,\n 1,1:3,6>  # triangular\n"; begins = refl; to = refl }, (record { at = 14; rest = codes "<1 2:1,\n 1,1:3,6>  # triangular\n" }, record { byte = 10; after = codes "<1 2:1,\n 1,1:3,6>  # triangular\n"; begins = refl; blank = refl; to = refl }, (record { at = 31; rest = codes "  # triangular\n" }, spelling, (record { at = 32; rest = codes " # triangular\n" }, record { byte = 32; after = codes " # triangular\n"; begins = refl; blank = refl; to = refl }, (record { at = 33; rest = codes "# triangular\n" }, record { byte = 32; after = codes "# triangular\n"; begins = refl; blank = refl; to = refl }, (record { at = 45; rest = codes "\n" }, record { after = codes " triangular\n"; begins = refl; to = refl }, (record { at = 46; rest = [] }, record { byte = 10; after = []; begins = refl; blank = refl; to = refl }, refl)))))));
    symbols = refl;
    readable = (readable, tt);
  };
  whole = refl;
  few = omega arith;
}
