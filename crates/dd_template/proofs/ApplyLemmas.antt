-- What is written of the symbol that a table makes.
use Rattle.std.proofs.Common.{◌≡◌, ℕ, ◌+◌, ◌*◌, ◌≤◌, List, [], ◌∷◌, ◌++◌, map, length, sym, ap, ◌∙◌, subst, arith}
use Rattle.std.proofs.lemmas.List.{append_assoc, append-nil, map-append}
use Rattle.std.proofs.lemmas.List.Concat.{flat_map-append}
use Rattle.std.proofs.lemmas.Nat.{mul-le}
use Rattle.std.specs.List.{flat_map}
use Rattle.dd_model.specs.declared.index.Index.TheVariants.{Zero}
use Rattle.dd_model.specs.declared.pair.Pair.{Pair}
use Rattle.dd_model.specs.Symbol.{Symbol, IsChamber, degree}
use Rattle.dd_model.specs.Connected.{Connected}
use Rattle.dd_model.specs.Small.{IsSmallSymbol}
use Rattle.dd_model.specs.Code.{count_from}
use Rattle.dd_model.proofs.Branching.{branching_exists}
use Rattle.dd_model.proofs.CellWalks.{has_period}
use Rattle.dd_model.proofs.Turns.{IsLeastTurns-from_period, least_turns_unique}
use Rattle.dd_model.proofs.CountFrom.{count_from-more}
use Rattle.dd_symbol.specs.Building.{listed, IsAccepted}
use Rattle.dd_template.specs.Table.{Table}
use Rattle.dd_template.specs.Made.{made}
use Rattle.dd_template.specs.Lawful.{IsLawful}
use Rattle.dd_template.proofs.MadeSymbols.{made_table}
use Rattle.dd_template.proofs.MadeConnected.{made_connected}
use Rattle.dd_template.proofs.MadeBranching.{made_small}

-- ## Numbers that fit

-- the degrees of a small symbol
pub degree_bound : (s : Symbol) → IsSmallSymbol s → (p : Pair) (d : ℕ) → IsChamber s d → degree s p d ≤ 491520
degree_bound s small p d h =
    let inv = small.symbol.table.involutions in
    let value = branching_exists s small.symbol p d h in
    let b = value.1 in
    let period = has_period s inv p d h in
    let same : b.r ≡ period.r = least_turns_unique s p d b.r period.r b.least_turns (IsLeastTurns-from_period s inv p d period.r h period.period) in
    let v = small.branching p d value.0 h b in
    let size = small.size in
    let bound = period.bound in
    let r : b.r ≤ 16384 = omega arith in
    let l = mul-le value.0 b.r 30 16384 v r in
    let e = b.quotient in
    omega arith

pub product_bound : (c m : ℕ) → c ≤ 64 → m ≤ 491520 → c * m ≤ 31457280
product_bound c m a b = mul-le c m 64 491520 a b

-- ## One more

-- one part more of a chamber
pub one_part_more : (before after : List ℕ) (g : ℕ → ℕ) (k y : ℕ) → after ≡ before ++ map g (count_from 0 k) → y ≡ g k → after ++ y ∷ [] ≡ before ++ map g (count_from 0 (k + 1))
one_part_more before after g k y was here =
    let zero_more : 0 + k ≡ k = omega arith in
    let more : map g (count_from 0 (k + 1)) ≡ map g (count_from 0 k) ++ g k ∷ [] =
    ap (map g) (count_from-more 0 k ∙ ap (λ m. count_from 0 k ++ m ∷ []) zero_more) ∙ map-append g (count_from 0 k) (k ∷ []) in
    ap (λ xs. xs ++ y ∷ []) was
    ∙ append_assoc before (map g (count_from 0 k)) (y ∷ [])
    ∙ ap (λ z. before ++ (map g (count_from 0 k) ++ z ∷ [])) here
    ∙ ap (λ xs. before ++ xs) (sym more)

-- one chamber more
pub one_chamber_more : (before after : List ℕ) (g : ℕ → List ℕ) (k : ℕ) → before ≡ flat_map g (count_from 1 k) → after ≡ before ++ g (k + 1) → after ≡ flat_map g (count_from 1 (k + 1))
one_chamber_more before after g k was here =
    let same : 1 + k ≡ k + 1 = omega arith in
    let more : flat_map g (count_from 1 (k + 1)) ≡ flat_map g (count_from 1 k) ++ (g (k + 1) ++ []) =
    ap (flat_map g) (count_from-more 1 k ∙ ap (λ m. count_from 1 k ++ m ∷ []) same) ∙ flat_map-append g (count_from 1 k) ((k + 1) ∷ []) in
    here
    ∙ ap (λ xs. xs ++ g (k + 1)) was
    ∙ ap (λ xs. flat_map g (count_from 1 k) ++ xs) (sym (append-nil (g (k + 1))))
    ∙ sym more

-- ## What is built

-- five lists that are those of what a lawful table makes
pub listed-made : {t : Table} {s u : Symbol} {s0 s1 s2 m01 m12 : List ℕ} → IsLawful t → IsSmallSymbol s → u ≡ s
    → s0 ≡ (made t u).s0 → s1 ≡ (made t u).s1 → s2 ≡ (made t u).s2 → m01 ≡ (made t s).m01 → m12 ≡ (made t s).m12
    → listed s0 s1 s2 m01 m12 ≡ made t s
listed-made {t} {s} {u} {s0} {s1} {s2} {m01} {m12} lawful small same a b c d e =
    let table = made_table t s lawful.lists.some lawful.moves.undone small.symbol.table in
    let as0 = a ∙ ap (λ v. (made t v).s0) same in
    let as1 = b ∙ ap (λ v. (made t v).s1) same in
    let as2 = c ∙ ap (λ v. (made t v).s2) same in
    let size : length s0 ≡ s.size * t.parts = ap length as0 ∙ table.lengths Zero in
    λ i. record { size = size i; s0 = as0 i; s1 = as1 i; s2 = as2 i; m01 = d i; m12 = e i }

-- what a lawful table makes of a connected symbol is accepted
pub accepted-made : (t : Table) (s u : Symbol) → IsLawful t → IsSmallSymbol s → Connected s → s.size * t.parts ≤ 1024 → u ≡ made t s → IsAccepted 1024 u
accepted-made t s u lawful small connected size e =
    subst (IsAccepted 1024) (sym e)
    (record {
      symbol = made_small t s lawful small (omega arith);
      connected = made_connected t s lawful small.symbol connected;
      within = size;
    })
