-- A prefix that grows by the numbers that are known already.
use Rattle.std.proofs.Common.{◌≡◌, ◌≢◌, ℕ, ◌+◌, ◌*◌, ◌<◌, ◌≤◌, [], ◌∷◌, ◌++◌, length, get_or, take, refl, sym, ap, ◌∙◌, subst, arith}
use Rattle.std.proofs.lemmas.List.{length_push, take_all, take-append-le}
use Rattle.dd_model.specs.Symbol.{Symbol}
use Rattle.dd_model.specs.Lists.{Begins}
use Rattle.dd_model.specs.Code.{code}
use Rattle.dd_branch_tables.specs.Rows.{partial_of, IsReady, HasNumberAt}
use Rattle.dd_branch_tables.specs.Commuting.{IsCommuting}
use Rattle.dd_front_jobs.specs.Under.{IsUnder, Follows}
use Rattle.dd_branch_tables.specs.Stem.{Any, IsStem, HasAbsorbed, prefix_of, size_of}
use Rattle.dd_branch_tables.specs.declared.stem.Stem.{Stem}
use Rattle.dd_branch_tables.proofs.Prefixes.{extended, shortened}
use Rattle.dd_branch_tables.proofs.Stems.{each_longer, known_next}

pub absorbed_none : (stem : Stem) → HasAbsorbed stem stem
absorbed_none stem = record {
  rows = refl;
  longer = omega arith;
  front = take_all (length (prefix_of stem)) (prefix_of stem) (omega arith);
  begins = λ s under. under.begins;
}

-- the stem with one number more, which was known
pub record IsKnownPut (mid new : Stem) (e : ℕ) : Type 0 where
  pub room : length (prefix_of mid) < 3 * size_of mid
  pub known : HasNumberAt (length (prefix_of mid)) e (partial_of mid.rows)
  pub some : e ≢ 0
  pub rows : new.rows ≡ mid.rows
  pub longer : prefix_of new ≡ prefix_of mid ++ e ∷ []

pub known_put_stem : (mid new : Stem) (e : ℕ) → IsStem mid → IsKnownPut mid new e → IsStem new
known_put_stem mid new e is put =
    let room = put.room in
    let size : size_of new ≡ size_of mid = ap (λ r. r.size) put.rows in
    let count : length (prefix_of new) ≡ length (prefix_of mid) + 1 = ap length put.longer ∙ length_push (prefix_of mid) e in
    let front : Follows Any (size_of mid) (prefix_of mid ++ e ∷ []) (partial_of mid.rows) = λ s under. is.follows s (shortened Any (size_of mid) (prefix_of mid) e s under).0 in
    let one = subst (λ xs. Follows Any (size_of mid) xs (partial_of mid.rows)) (sym put.longer) front in
    let some = put.some in
    record {
      ready = subst IsReady (sym put.rows) is.ready;
      commuting = subst (λ r. IsCommuting (partial_of r)) (sym put.rows) is.commuting;
      short = omega arith;
      follows = subst (λ r. Follows Any r.size (prefix_of new) (partial_of r)) (sym put.rows) one;
      told = each_longer (λ u x. HasNumberAt u x (partial_of new.rows)) (prefix_of mid) (prefix_of new) e put.longer
          (λ u before. subst (λ r. HasNumberAt u (get_or (prefix_of mid) u 0) (partial_of r)) (sym put.rows) (is.told u before))
          (subst (λ r. HasNumberAt (length (prefix_of mid)) e (partial_of r)) (sym put.rows) put.known);
      positive = each_longer (λ u x. 1 ≤ x) (prefix_of mid) (prefix_of new) e put.longer is.positive (omega arith);
    }

pub absorbed_more : (old mid new : Stem) (e : ℕ) → IsStem mid → HasAbsorbed old mid → IsKnownPut mid new e → HasAbsorbed old new
absorbed_more old mid new e is absorbed put =
    let size : size_of mid ≡ size_of old = ap (λ r. r.size) absorbed.rows in
    let room = put.room in
    let longer = absorbed.longer in
    let count : length (prefix_of new) ≡ length (prefix_of mid) + 1 = ap length put.longer ∙ length_push (prefix_of mid) e in
    record {
      rows = put.rows ∙ absorbed.rows;
      longer = omega arith;
      front = ap (take (length (prefix_of old))) put.longer ∙ take-append-le (length (prefix_of old)) (prefix_of mid) (e ∷ []) (omega arith) ∙ absorbed.front;
      begins = λ s under.
          let here : IsUnder Any (size_of mid) (prefix_of mid) s = record { wanted = tt; orderly = under.orderly; size = under.size ∙ sym size; begins = absorbed.begins s under } in
          let next = known_next mid e is room (sym put.known) put.some s here in
          subst (λ xs. Begins xs (code s)) (sym put.longer) (extended Any (size_of mid) (prefix_of mid) e s (omega arith) here next).begins;
    }

-- what is under the longer prefix
pub absorbed_under : (W : Symbol → Type 0) (old new : Stem) → HasAbsorbed old new → (s : Symbol) → IsUnder W (size_of old) (prefix_of old) s → IsUnder W (size_of old) (prefix_of new) s
absorbed_under W old new absorbed s under =
    record { wanted = under.wanted; orderly = under.orderly; size = under.size; begins = absorbed.begins s (record { wanted = tt; orderly = under.orderly; size = under.size; begins = under.begins }) }
