use Rattle.std.proofs.Common.{◌≡◌, ◌+◌, [], ◌∷◌, ◌++◌, sym, ap, ◌∙◌, subst, arith}
use Rattle.std.proofs.lemmas.List.Filters.{dedup_is}
use Rattle.std.proofs.lemmas.List.Kept.{Contains-dedup_nat, Contains-from_dedup}
use Rattle.std.proofs.lemmas.List.Sorted.{Contains-permutation, IsPermutation-sym}
use Rattle.std.proofs.lemmas.Map.Keys.{IsStrictlyIncreasing-dedup}
use Rattle.dd_model.specs.Symbol.{op, first, second}
use Rattle.dd_cells.specs.Cells.{AreMembers}
use Rattle.dd_model.proofs.CellWalks.{next_place}
use Rattle.dd_cells.proofs.MemberLemmas.{AreMet, met_more, cell_from_met}
use Rattle.dd_cells.proofs.cell_list.walked.Goals as goal

pub loop-turn-preserved : goal.loop-turn-preserved
loop-turn-preserved c =
    let s = c.symbol-symbol.result.now in
    let p = c.args.pair in
    let d = c.args.chamber in
    let k = c.loop-turn._turn in
    let x = c.loop-turn.place in
    let xs = c.loop-turn.chambers.items in
    let neighbor : c.op-neighbor.result ≡ op s (first p) x = c.op-neighbor.ensures.image ∙ ap (λ i. op s i x) c.first.ensures in
    let place : c.op-place.result ≡ op s (second p) (op s (first p) x) =
    c.op-place.ensures.image ∙ ap (λ i. op s i c.op-neighbor.result) c.second.ensures ∙ ap (op s (second p)) neighbor in
    let items : c.push-in-loop-turn.new.self.items ≡ (xs ++ x ∷ []) ++ op s (first p) x ∷ [] =
    c.in_ok-push-2.ensures.items ∙ ap (λ ys. ys ++ c.op-neighbor.result ∷ []) c.in_ok-push.ensures.items ∙ ap (λ y. (xs ++ x ∷ []) ++ y ∷ []) neighbor in
    record {
      at = place ∙ next_place s p d k x c.loop-turn.invariant.at;
      chamber = c.op-place.ensures.chamber;
      met = subst (AreMet s p d (k + 1)) (sym items) (met_more s p d k x xs c.loop-turn.invariant.at c.loop-turn.invariant.met);
    }

pub returns : goal.returns
returns c =
    let s = c.args.s.now in
    let p = c.args.pair in
    let d = c.args.chamber in
    let xs = c.loop-turn.chambers.items in
    let round : c.loop-turn._turn ≡ c.args.r = omega arith in
    let cell = cell_from_met s c.symbol-symbol.ensures.symbol.symbol.table.involutions p d c.args.r xs c.requires.chamber c.requires.turns
    (subst (λ k. AreMet s p d k xs) round (subst (λ t. AreMet t p d c.loop-turn._turn xs) c.symbol-symbol.ensures.same c.loop-turn.invariant.met)) in
    let is = dedup_is _ _ _ c.dedup.ensures.filtered in
    let moved = c.sort_unstable.ensures.permutation in
    subst (AreMembers s p d) (sym c.from_vec.ensures)
    (record {
      ascending = rw is (IsStrictlyIncreasing-dedup _ c.sort_unstable.ensures.sorted);
      each = λ e. (
        λ listed. (cell e).0 (Contains-permutation _ _ e (IsPermutation-sym _ _ moved) (Contains-from_dedup _ _ e (rw is at listed))),
        λ there. rw is (Contains-dedup_nat _ e (Contains-permutation _ _ e moved ((cell e).1 there))),
      );
    })
