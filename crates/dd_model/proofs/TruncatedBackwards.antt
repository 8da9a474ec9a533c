-- The tiling by squares and octagons with its chambers numbered backwards.
use Rattle.std.proofs.Common.{◌≡◌, ℕ, ◌≤◌, List, [], ◌∷◌, length, refl, arith}
use Rattle.dd_model.specs.declared.index.Index.{Index}
use Rattle.dd_model.specs.declared.index.Index.TheVariants.{Zero, One, Two}
use Rattle.dd_model.specs.Symbol.{IsSymbol, item, op, operation}
use Rattle.dd_model.specs.Connected.{Connected}
use Rattle.dd_model.specs.Isomorphic.{Undoes, IsIsomorphism, Isomorphic}
use Rattle.dd_model.specs.Code.{Least}
use Rattle.dd_model.specs.Flat.{Flat}
use Rattle.dd_model.specs.Worked.{truncated_squares, truncated_squares_backwards}
use Rattle.dd_model.proofs.Isomorphisms.{Isomorphic-sym}
use Rattle.dd_model.proofs.Transport.{IsSymbol-along, Connected-along}
use Rattle.dd_model.proofs.Truncated.{is_table, is_symbol as truncated_symbol, connected as truncated_connected}
use Rattle.dd_model.proofs.Numbers.{by_three}

abbrev turned_round : List ℕ
turned_round = 3 ∷ 2 ∷ 1 ∷ []

inside : (d : ℕ) → 1 ≤ d → d ≤ 3 → (1 ≤ item turned_round d) × (item turned_round d ≤ 3)
inside = by_three (λ d. (1 ≤ item turned_round d) × (item turned_round d ≤ 3)) (omega arith, omega arith) (omega arith, omega arith) (omega arith, omega arith)

undoes : Undoes 3 turned_round turned_round
undoes = record { within = inside; undone = by_three (λ d. item turned_round (item turned_round d) ≡ d) refl refl refl }

carried : (i : Index) (d : ℕ) → 1 ≤ d → d ≤ 3 → item turned_round (op truncated_squares i d) ≡ op truncated_squares_backwards i (item turned_round d)
carried i = by_three (λ d. item turned_round (op truncated_squares i d) ≡ op truncated_squares_backwards i (item turned_round d))
    (elim i as (λ j. item turned_round (op truncated_squares j 1) ≡ op truncated_squares_backwards j 3) [ Zero ↦ refl | One ↦ refl | Two ↦ refl ])
    (elim i as (λ j. item turned_round (op truncated_squares j 2) ≡ op truncated_squares_backwards j 2) [ Zero ↦ refl | One ↦ refl | Two ↦ refl ])
    (elim i as (λ j. item turned_round (op truncated_squares j 3) ≡ op truncated_squares_backwards j 1) [ Zero ↦ refl | One ↦ refl | Two ↦ refl ])

isomorphism : IsIsomorphism truncated_squares truncated_squares_backwards turned_round
isomorphism = record {
  size = refl;
  bijection = record { images = refl; inverse = turned_round; inverse_images = refl; left = undoes; right = undoes };
  morphism = record {
    images = refl;
    within = λ d h. inside d h.0 h.1;
    op = λ i d h. carried i d h.0 h.1;
    m01 = λ d h. by_three (λ d. item truncated_squares_backwards.m01 (item turned_round d) ≡ item truncated_squares.m01 d) refl refl refl d h.0 h.1;
    m12 = λ d h. by_three (λ d. item truncated_squares_backwards.m12 (item turned_round d) ≡ item truncated_squares.m12 d) refl refl refl d h.0 h.1;
  };
}

pub is_symbol : IsSymbol truncated_squares_backwards
is_symbol = IsSymbol-along truncated_squares truncated_squares_backwards turned_round truncated_symbol isomorphism (record {
  lengths = λ i. elim i as (λ j. length (operation truncated_squares_backwards j) ≡ 3) [ Zero ↦ refl | One ↦ refl | Two ↦ refl ];
  m01_length = refl;
  m12_length = refl;
})

pub connected : Connected truncated_squares_backwards
connected = Connected-along truncated_squares truncated_squares_backwards turned_round is_table isomorphism truncated_connected

pub flat : Flat truncated_squares_backwards
flat = refl

pub isomorphic : Isomorphic truncated_squares_backwards truncated_squares
isomorphic = Isomorphic-sym truncated_squares truncated_squares_backwards is_table (turned_round, isomorphism)

pub not_least : Least truncated_squares_backwards → ⊥
not_least least = least truncated_squares truncated_symbol isomorphic refl
