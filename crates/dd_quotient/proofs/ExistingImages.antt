-- Each symbol has a minimal image: its classes of alike chambers, numbered by their least chambers.
use Rattle.std.proofs.Common.{◌≡◌, ℕ, zero, suc, ◌+◌, ◌-◌, ◌≤◌, List, [], ◌∷◌, ◌++◌, length, map, refl, ◌∙◌, subst, ⊎_elim, arith}
use Rattle.std.proofs.lemmas.Bool.{cases_eq}
use Rattle.std.proofs.lemmas.List.{length-map}
use Rattle.dd_model.specs.declared.index.Index.TheVariants.{Zero, One, Two}
use Rattle.dd_model.specs.declared.pair.Pair.TheVariants.{Tile, Vertex}
use Rattle.dd_model.specs.Symbol.{Symbol, IsSymbol, IsChamber, item}
use Rattle.dd_model.specs.Code.{count_from}
use Rattle.dd_model.proofs.CountFrom.{length-count_from, item-map-count_from}
use Rattle.dd_quotient.specs.Alike.{AreAlikeClasses}
use Rattle.dd_quotient.specs.MinimalImage.{IsMinimalImage, IsInOrder}
use Rattle.dd_quotient.specs.Ranks.{HaveLeaders, AreRanks, AreValues, image_of, degree_of}
use Rattle.dd_quotient.proofs.NumberedLemmas.{made_from_values, made_image, made_in_order}
use Rattle.dd_quotient.proofs.RankLemmas.{rank_of_leader, rank_of_other}
use Rattle.dd_quotient.proofs.LeastClasses.{alike_classes_exist}

leaders_of : (s : Symbol) (c : List ℕ) → AreAlikeClasses s c → HaveLeaders c
leaders_of s c a = record {
  low = λ d low high. (a.within d (chamber d low high)).0;
  high = λ d low high. a.least d d (chamber d low high) (chamber d low high) (λ w. (refl, refl));
  own = λ d low high. let h = chamber d low high in (a.alike (item c d) d (a.within d h) h).1 (a.member d h);
}
  where
    chamber : (d : ℕ) → 1 ≤ d → d ≤ length c → IsChamber s d
    chamber d low high = let size = a.images in (low, omega arith)

-- the ranks of the first chambers
record HaveRanks (c : List ℕ) (k : ℕ) : Type 0 where
  pub leaders : List ℕ
  pub ranks : List ℕ
  pub are_ranks : AreRanks c leaders ranks k

ranks_exist : (c : List ℕ) → HaveLeaders c → (k : ℕ) → k ≤ length c → HaveRanks c k
ranks_exist c led zero few = record {
  leaders = [];
  ranks = [];
  are_ranks = record {
    whole = refl;
    few = omega arith;
    within = λ d low high. absurd (omega arith);
    own_class = λ d low high. absurd (omega arith);
    low = λ e h. let low = h.0 in let high = h.1 in absurd (omega arith);
    high = λ e h. let low = h.0 in let high = h.1 in absurd (omega arith);
    own_rank = λ e h. let low = h.0 in let high = h.1 in absurd (omega arith);
    ascending = λ e f h k up. let low = h.0 in let high = h.1 in absurd (omega arith);
  };
}
ranks_exist c led (suc k) few =
    let before = ranks_exist c led k (omega arith) in
    let place : k ≡ suc k - 1 = omega arith in
    let ranks : AreRanks c before.leaders before.ranks (suc k - 1) = subst (AreRanks c before.leaders before.ranks) place before.are_ranks in
    ⊎_elim
    (λ leads. record { leaders = before.leaders ++ suc k ∷ []; ranks = before.ranks ++ (length before.leaders + 1) ∷ []; are_ranks = rank_of_leader c before.leaders before.ranks (suc k) (omega arith) leads ranks })
    (λ other. record { leaders = before.leaders; ranks = before.ranks ++ item before.ranks (item c (suc k)) ∷ []; are_ranks = rank_of_other c before.leaders before.ranks (suc k) led (omega arith) few other ranks })
    (cases_eq (item c (suc k)) (suc k))

values : (h : ℕ → ℕ) (k : ℕ) → AreValues h k (map h (count_from 1 k))
values h k = record { whole = length-map (count_from 1 k) h ∙ length-count_from 1 k; each = item-map-count_from h k }

pub image_exists : (s : Symbol) → IsSymbol s → (m : Symbol) × (f : List ℕ) × IsMinimalImage s m f × IsInOrder s f
image_exists s is =
    let c = alike_classes_exist s is.table.involutions in
    let all = ranks_exist c.0 (leaders_of s c.0 c.1) (length c.0) (omega arith) in
    let n = length all.leaders in
    let made = made_from_values {s = s} refl c.1 refl all.are_ranks refl refl
    (values (image_of s all.leaders all.ranks Zero) n) (values (image_of s all.leaders all.ranks One) n) (values (image_of s all.leaders all.ranks Two) n)
    (values (degree_of s all.leaders Tile) n) (values (degree_of s all.leaders Vertex) n) in
    (_, all.ranks, made_image s c.0 all.leaders all.ranks _ is made, made_in_order s c.0 all.leaders all.ranks _ made)
