use Rattle.std.proofs.Common.{◌≡◌, ◌+◌, [], ◌∷◌, length, get_or, sym, ap, ◌∙◌, subst, ⊎_elim, arith}
use Rattle.std.proofs.lemmas.Bool.{cases_lt}
use Rattle.std.proofs.lemmas.List.{get_or_append_left, get_or_push, length_push}
use Rattle.dd_lattice.specs.NetOf.{IsEdgeOf}
use Rattle.dd_lattice.specs.Paths.{shift_by}
use Rattle.dd_lattice.proofs.KindLemmas.{listed_edge}
use Rattle.dd_lattice.proofs.NetLemmas.{edge_of}
use Rattle.dd_lattice.proofs.net_shifts.Labels.edges.Goals as goal

pub edge-requires : goal.edge-requires
edge-requires c = (listed_edge c.args.self.now.symbol.now c.args.edges.now c.requires c.loop-k.k c.loop-k-test.true).0

pub loop-k-preserved : goal.loop-k-preserved
loop-k-preserved c =
    let t = c.args.self.now.symbol.now in
    let k = c.loop-k.k in
    let old = c.loop-k.all.items in
    let edge = c.edge.result in
    let many = c.loop-k.invariant.many in
    let items = c.in_ok-push.ensures.items in
    let x = shift_by t c.args.self.now.first.exits.items in
    let y = shift_by t c.args.self.now.second.exits.items in
    let told = c.edge.ensures in
    record {
      many = ap length items ∙ length_push old edge ∙ ap (λ n. n + 1) many;
      each = λ vertices j e numbers early inside. ⊎_elim
          (λ less.
          subst (IsEdgeOf t vertices x y (get_or c.args.edges.now j 0)) (sym (ap (λ xs. get_or xs j e) items ∙ get_or_append_left old (edge ∷ []) e j (omega arith)))
          (c.loop-k.invariant.each vertices j e numbers less inside))
          (λ rest.
          let at : j ≡ k = omega arith in
          subst (λ n. IsEdgeOf t vertices x y (get_or c.args.edges.now n 0) (get_or c.push.new.self.items j e)) (sym at)
          (subst (IsEdgeOf t vertices x y (get_or c.args.edges.now k 0)) (sym (ap (λ xs. get_or xs j e) items ∙ get_or_push old edge e j (omega arith)))
          (edge_of t c.args.self.now.small.symbol.table.involutions vertices c.args.self.now.numbers.items numbers x y (get_or c.args.edges.now k 0) (listed_edge t c.args.edges.now c.requires k c.loop-k-test.true).0 edge told.from told.to told.x told.y)))
          (cases_lt j k);
    }

pub returns-clause-each : goal.returns-clause-each
returns-clause-each c vertices k e numbers inside =
    let end = c.loop-k-test.false in
    c.loop-k.invariant.each vertices k e numbers (omega arith) inside
