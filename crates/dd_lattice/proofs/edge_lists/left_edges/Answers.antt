use Rattle.std.proofs.Common.{◌≡◌, ℕ, ◌+◌, Vec, Global, get_or, sym, ap, ◌∙◌, subst, arith}
use Rattle.std.proofs.lemmas.List.{get_or_default}
use Rattle.dd_lattice.specs.Edges.{is_left}
use Rattle.dd_lattice.specs.Lists.{AreLeftOf}
use Rattle.dd_lattice.proofs.ListLemmas.{left_yes, left_no}
use Rattle.dd_lattice.specs.declared.kinds.EdgeKind.{EdgeKind}
use Rattle.dd_lattice.specs.declared.kinds.EdgeKind.TheVariants.{Tree}
use Rattle.dd_lattice.proofs.edge_lists.left_edges.Goals.{then-is_left+in_ok-push, else-is_left}
use Rattle.dd_lattice.proofs.edge_lists.left_edges.Goals as goal

pub loop-k-preserved : goal.loop-k-preserved
loop-k-preserved c =
    let edges = c.args.edges.now in
    let kinds = c.args.kinds.now in
    let k = c.loop-k.k in
    let inside = c.loop-k-test.true in
    let same = c.requires.kinds in
    let kind : (e : EdgeKind) → is_left (get_or kinds k e) ≡ c.is_left.result = λ e. ap is_left (get_or_default kinds k e Tree (omega arith)) ∙ sym c.is_left.ensures in
    elim c.if-is_left.branch [
      | then-is_left+in_ok-push w ↦
          subst (λ (left : Vec ℕ Global). AreLeftOf edges kinds (k + 1) left.items) (sym w.left-is)
          (subst (AreLeftOf edges kinds (k + 1)) (sym w.in_ok-push.ensures.items)
          (left_yes edges c.requires.ascending kinds c.requires.kinds k c.loop-k.left.items inside (λ e. kind e ∙ w.if-is_left.true) c.loop-k.invariant))
      | else-is_left w ↦
          subst (λ (left : Vec ℕ Global). AreLeftOf edges kinds (k + 1) left.items) (sym w.left-is)
          (left_no edges c.requires.ascending kinds c.requires.kinds k c.loop-k.left.items inside (λ e. kind e ∙ w.if-is_left.false) c.loop-k.invariant)
    ]
