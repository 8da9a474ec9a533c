use Rattle.std.proofs.Common.{◌≡◌, ℕ, List, ◌++◌, sym, ap, ◌∙◌, subst, rules}
use Rattle.std.specs.Cmp.{nat_cmp_total}
use Rattle.std.specs.Ordering.{is_lt, nat_cmp}
use Rattle.std.proofs.lemmas.List.Sorted.{answers_always}
use Rattle.dd_name.specs.Arranged.{IsDescending}
use Rattle.dd_name.specs.Cones.{AreCones, cone_values}
use Rattle.dd_name.proofs.DescendingLemmas.{ranks_back}
use Rattle.dd_name.proofs.cones.cones.Goals as goal

pub returns : goal.returns
returns c =
    let sorted =
    c.sort_unstable_by.ensures.sorted (λ (x y : ℕ). is_lt (nat_cmp y x)) (ranks_back nat_cmp nat_cmp_total)
    (answers_always _ _ _ (λ f a r g k. search rules)) in
    let tiles = c.in_ok-cells.field-0.items in
    let vertices = c.in_ok-cells-2.field-0.items in
    let edges = c.in_ok-cells-3.field-0.items in
    let one : c.push_cones.new.cones.items ≡ cone_values tiles =
    c.in_ok-push_cones.ensures ∙ ap (λ (vs : List ℕ). vs ++ cone_values c.deref.result.now) c.new-cones.ensures.items ∙ ap cone_values c.deref.ensures.value in
    let two : c.push_cones-2.new.cones.items ≡ cone_values tiles ++ cone_values vertices =
    c.in_ok-push_cones-2.ensures ∙ ap (λ (vs : List ℕ). vs ++ cone_values c.deref-2.result.now) one ∙ ap (λ (ds : List _). cone_values tiles ++ cone_values ds) c.deref-2.ensures.value in
    let three : c.push_cones-3.new.cones.items ≡ cone_values tiles ++ cone_values vertices ++ cone_values edges =
    c.in_ok-push_cones-3.ensures ∙ ap (λ (vs : List ℕ). vs ++ cone_values c.deref-3.result.now) two
    ∙ ap (λ (ds : List _). cone_values tiles ++ cone_values vertices ++ cone_values ds) c.deref-3.ensures.value in
    subst (AreCones c.args.s.now) (sym c.from_vec.ensures)
    (record {
      tiles = tiles;
      vertices = vertices;
      edges = edges;
      are_tiles = c.in_ok-cells.ensures;
      are_vertices = c.in_ok-cells-2.ensures;
      are_edges = c.in_ok-cells-3.ensures;
      descending = subst (λ (vs : List ℕ). IsDescending nat_cmp vs c.sort_unstable_by.new.self.items) three
          (record { permutation = c.sort_unstable_by.ensures.permutation; sorted = sorted });
    })
