-- What a hand has stolen after one theft more.
use Rattle.std.proofs.Common.{◌≡◌, ℕ, zero, suc, ◌+◌, ◌<◌, Option, Some, None, MatchOption, List, [], ◌∷◌, length, map, sum_by, slice_get, slice_set, slice_index_or, sym, ◌∙◌, ap, arith}
use Rattle.dd_model.proofs.Lists.{map_set_same}
use Rattle.dd_model.proofs.Options.{some_same}
use Rattle.dd_front.specs.declared.naming.Naming.{Ghosts}
use Rattle.dd_steal_deques.specs.declared.way.Way.{Way}
use Rattle.dd_steal_deques.specs.Ends.{way_taken, way_number}
use Rattle.dd_steal_deques.specs.Hands.{way_theft}
use Rattle.dd_steal_deques.specs.Places.{StealsFrom}
use Rattle.dd_steal_deques.proofs.Changed.{got_within, map_get, sum_set}

-- what is seen of the item at a place
pub seen_at : {A B : Type 0} (f : A → B) (xs : List A) (i : ℕ) (x : A) (b : B) → slice_get (map f xs) i ≡ Some b → x ≡ slice_index_or xs i x → f x ≡ b
seen_at f xs i x b got at = some_same (f x) b (sym (map_get f xs i x (got_within f xs i b got) at) ∙ got)

module _ {N : Type 0} {names : Ghosts N} where
  -- the way at a place took one ticket more
  pub one_more : (ways : List (Way N names)) (i from : ℕ) (old new : Way N names) → i < length ways → old ≡ slice_index_or ways i old → way_number old ≡ from
      → way_number new ≡ way_number old → way_taken new ≡ way_taken old + 1 → StealsFrom from (map way_theft ways) (map way_theft (slice_set ways i new))
  one_more [] i from old new low at is same more = absurd (omega (arith, low))
  one_more (way ∷ ways) zero from old new low at is same more = record {
    before = [];
    taken = way_taken old;
    later = map way_theft ways;
    old_is = ap (λ t. t ∷ map way_theft ways) (sym (ap way_theft at) ∙ (λ i. record { from = is i; taken = way_taken old }));
    new_is = ap (λ t. t ∷ map way_theft ways) (λ i. record { from = (same ∙ is) i; taken = more i });
  }
  one_more (way ∷ ways) (suc i) from old new low at is same more =
      let rest = one_more ways i from old new (omega (arith, low)) at is same more in
      record {
        before = way_theft way ∷ rest.before;
        taken = rest.taken;
        later = rest.later;
        old_is = ap (λ ts. way_theft way ∷ ts) rest.old_is;
        new_is = ap (λ ts. way_theft way ∷ ts) rest.new_is;
      }

  -- the way of a number took one ticket more, or none
  pub thefts_by : {X : Type 0} (found : Option X) (ways : List (Way N names)) (i from : ℕ) (old new : Way N names) → slice_get (map way_number ways) i ≡ Some from → old ≡ slice_index_or ways i old
      → way_number new ≡ way_number old → MatchOption found (way_taken new ≡ way_taken old) (λ x. way_taken new ≡ way_taken old + 1)
      → MatchOption found (map way_theft (slice_set ways i new) ≡ map way_theft ways) (λ x. StealsFrom from (map way_theft ways) (map way_theft (slice_set ways i new)))
  thefts_by None ways i from old new got at same taken = map_set_same way_theft ways i old new at (λ j. record { from = same j; taken = taken j })
  thefts_by (Some x) ways i from old new got at same taken =
      one_more ways i from old new (got_within way_number ways i from got) at (seen_at way_number ways i old from got at) same taken

  pub stolen_by : {X : Type 0} (found : Option X) (ways : List (Way N names)) (i from : ℕ) (old new : Way N names) → slice_get (map way_number ways) i ≡ Some from → old ≡ slice_index_or ways i old
      → MatchOption found (way_taken new ≡ way_taken old) (λ x. way_taken new ≡ way_taken old + 1)
      → MatchOption found (sum_by way_taken (slice_set ways i new) ≡ sum_by way_taken ways) (λ x. sum_by way_taken (slice_set ways i new) ≡ sum_by way_taken ways + 1)
  stolen_by None ways i from old new got at taken =
      let sum = sum_set way_taken ways i old new (got_within way_number ways i from got) at in omega (arith, sum, taken)
  stolen_by (Some x) ways i from old new got at taken =
      let sum = sum_set way_taken ways i old new (got_within way_number ways i from got) at in omega (arith, sum, taken)
