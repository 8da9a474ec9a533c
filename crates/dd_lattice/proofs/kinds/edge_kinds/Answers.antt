use Rattle.std.proofs.Common.{◌≡◌, ◌+◌, [], ◌∷◌, length, get_or, sym, ap, ◌∙◌, subst, ⊎_elim, arith}
use Rattle.std.proofs.lemmas.Bool.{cases_lt}
use Rattle.std.proofs.lemmas.List.{get_or_append_left, get_or_push, length_push}
use Rattle.dd_model.specs.Symbol.{Symbol}
use Rattle.dd_model.specs.declared.index.Index.TheVariants.{Zero, Two}
use Rattle.dd_model.specs.declared.pair.Pair.TheVariants.{Tile, Vertex}
use Rattle.dd_lattice.specs.Edges.{IsKindOf, IsTreeEdge}
use Rattle.dd_lattice.proofs.KindLemmas.{forest_first}
use Rattle.dd_lattice.proofs.kinds.edge_kinds.Goals as goal

pub loop-k-init : goal.loop-k-init
loop-k-init c =
    let t = c.args.t.now in
    let inv = c.symbol.ensures.symbol.symbol.table.involutions in
    let nodes : c.size-nodes.result + 1 ≡ t.size + 1 = ap (λ n. n + 1) (c.size-nodes.ensures.size ∙ ap (λ (s : Symbol). s.size) c.symbol.ensures.same) in
    record {
      vertices = forest_first t inv Vertex Zero (λ e. Unit {0}) c.args.edges.now c.requires c.in_ok-vertices.vertices (c.in_ok-vertices.ensures.many ∙ nodes) c.in_ok-vertices.ensures.falls
          c.in_ok-vertices.ensures.level;
      tiles = forest_first t inv Tile Two (λ e. ¬ IsTreeEdge t e) c.args.edges.now c.requires c.in_ok-tiles.tiles (c.in_ok-tiles.ensures.many ∙ nodes) c.in_ok-tiles.ensures.falls
          c.in_ok-tiles.ensures.level;
      many = ap length c.new-kinds.ensures.items;
      each = λ j d low. absurd (omega arith);
    }

pub loop-k-preserved : goal.loop-k-preserved
loop-k-preserved c =
    let t = c.args.t.now in
    let old = c.loop-k.kinds.items in
    let many = c.loop-k.invariant.many in
    let items = c.in_ok-push.ensures.items in
    let told = c.kind_of.ensures in
    record {
      vertices = told.vertices;
      tiles = told.tiles;
      many = ap length items ∙ length_push old c.kind_of.result ∙ ap (λ n. n + 1) many;
      each = λ j d low. ⊎_elim
          (λ before.
          subst (IsKindOf t (get_or c.args.edges.now j 0)) (sym (ap (λ xs. get_or xs j d) items ∙ get_or_append_left old (c.kind_of.result ∷ []) d j (omega arith))) (c.loop-k.invariant.each j d before))
          (λ last.
          let e : j ≡ c.loop-k.k = omega arith in
          subst (λ n. IsKindOf t (get_or c.args.edges.now n 0) (get_or c.push.new.self.items j d)) (sym e)
          (subst (IsKindOf t (get_or c.args.edges.now c.loop-k.k 0)) (sym (ap (λ xs. get_or xs j d) items ∙ get_or_push old c.kind_of.result d j (omega arith))) told.kind))
          (cases_lt j c.loop-k.k);
    }

pub returns : goal.returns
returns c =
    let end = c.loop-k-test.false in
    let low = c.loop-k.auto.k-end in
    let many = c.loop-k.invariant.many in
    record {
      many = omega arith;
      each = λ k d inside. c.loop-k.invariant.each k d (omega arith);
    }
