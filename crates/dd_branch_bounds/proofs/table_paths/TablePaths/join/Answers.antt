use Rattle.std.proofs.Common.{◌≡◌, ℕ, ◌+◌, ◌*◌, ◌≤◌, true, sym, ap, ◌∙◌, subst, arith}
use Rattle.dd_model.specs.Partial.{Completes}
use Rattle.dd_model.specs.Symbol.{Symbol, first, second}
use Rattle.dd_model.specs.declared.pair.Pair.{Pair}
use Rattle.dd_branch_bounds.specs.Shares.{IsSought}
use Rattle.dd_branch_bounds.specs.Ends.{letter_of}
use Rattle.dd_branch_bounds.specs.Kept.{IsImage}
use Rattle.dd_branch_bounds.specs.Passing.{Passes}
use Rattle.dd_branch_bounds.specs.Sides.{IsJoin}
use Rattle.dd_branch_bounds.specs.declared.link.Link.{Link}
use Rattle.dd_branch_bounds.proofs.LinkLemmas.{join_of_image}
use Rattle.dd_branch_bounds.proofs.table_paths.TablePaths.join.Goals as goal

-- an image of all completions joins its two flags
joins : (P : Symbol) (p : Pair) (link : Link) (x y side : ℕ) → link.index ≡ letter_of p side → side ≤ 1 → x ≡ 2 * link.chamber + side → y ≡ 2 * link.image + side → IsImage (Completes P) link
    → IsJoin (Passes P (λ _. true)) p x y
joins P p link x y side letter low from to image =
    join_of_image (Passes P (λ _. true)) p link.index x y link.chamber link.image side letter low from to (λ s is. image s is.completes)

pub returns-in-Zero-clause-kept : goal.returns-in-Zero-clause-kept
returns-in-Zero-clause-kept c P image kept =
    let t = c.args.classes.now in record {
      tiles = c.join.ensures.side P
          (joins P t.tiles.pair c.args.link.now c.flags-first.result.0.number c.flags-first.result.1.number 0 (c.in-Zero.is ∙ sym (ap first t.tiles_pair)) (omega arith)
          c.flags-first.ensures.first c.flags-first.ensures.second image)
          kept.tiles;
      vertices = kept.vertices;
    }

pub returns-in-Zero-clause-dead : goal.returns-in-Zero-clause-dead
returns-in-Zero-clause-dead c none P image kept s sought =
    let t = c.args.classes.now in
    c.join.ensures.dead none P
    (joins P t.tiles.pair c.args.link.now c.flags-first.result.0.number c.flags-first.result.1.number 0 (c.in-Zero.is ∙ sym (ap first t.tiles_pair)) (omega arith)
    c.flags-first.ensures.first c.flags-first.ensures.second image)
    kept.tiles s (subst (λ q. IsSought q P s) (sym t.tiles_asked) sought)

pub returns-then-join-clause-kept : goal.returns-then-join-clause-kept
returns-then-join-clause-kept c P image kept =
    let t = c.args.classes.now in record {
      tiles = c.join-in-One.ensures.side P
          (joins P t.tiles.pair c.args.link.now c.flags-second.result.0.number c.flags-second.result.1.number 1 (c.in-One.is ∙ sym (ap second t.tiles_pair)) (omega arith)
          c.flags-second.ensures.first c.flags-second.ensures.second image)
          kept.tiles;
      vertices = c.join-then-join.ensures.side P
          (joins P t.vertices.pair c.args.link.now c.flags-first.result.0.number c.flags-first.result.1.number 0 (c.in-One.is ∙ sym (ap first t.vertices_pair)) (omega arith)
          c.flags-first.ensures.first c.flags-first.ensures.second image)
          kept.vertices;
    }

pub returns-then-join-clause-dead : goal.returns-then-join-clause-dead
returns-then-join-clause-dead c none P image kept s sought =
    let t = c.args.classes.now in
    c.join-then-join.ensures.dead none P
    (joins P t.vertices.pair c.args.link.now c.flags-first.result.0.number c.flags-first.result.1.number 0 (c.in-One.is ∙ sym (ap first t.vertices_pair)) (omega arith)
    c.flags-first.ensures.first c.flags-first.ensures.second image)
    kept.vertices s (subst (λ q. IsSought q P s) (sym t.vertices_asked) sought)

pub returns-else-join-clause-kept : goal.returns-else-join-clause-kept
returns-else-join-clause-kept c P image kept =
    let t = c.args.classes.now in record {
      tiles = c.join-in-One.ensures.side P
          (joins P t.tiles.pair c.args.link.now c.flags-second.result.0.number c.flags-second.result.1.number 1 (c.in-One.is ∙ sym (ap second t.tiles_pair)) (omega arith)
          c.flags-second.ensures.first c.flags-second.ensures.second image)
          kept.tiles;
      vertices = kept.vertices;
    }

pub returns-else-join-clause-dead : goal.returns-else-join-clause-dead
returns-else-join-clause-dead c none P image kept s sought =
    let t = c.args.classes.now in
    c.join-in-One.ensures.dead none P
    (joins P t.tiles.pair c.args.link.now c.flags-second.result.0.number c.flags-second.result.1.number 1 (c.in-One.is ∙ sym (ap second t.tiles_pair)) (omega arith)
    c.flags-second.ensures.first c.flags-second.ensures.second image)
    kept.tiles s (subst (λ q. IsSought q P s) (sym t.tiles_asked) sought)

pub returns-in-Two-clause-kept : goal.returns-in-Two-clause-kept
returns-in-Two-clause-kept c P image kept =
    let t = c.args.classes.now in record {
      tiles = kept.tiles;
      vertices = c.join-in-Two.ensures.side P
          (joins P t.vertices.pair c.args.link.now c.flags-second.result.0.number c.flags-second.result.1.number 1 (c.in-Two.is ∙ sym (ap second t.vertices_pair)) (omega arith)
          c.flags-second.ensures.first c.flags-second.ensures.second image)
          kept.vertices;
    }

pub returns-in-Two-clause-dead : goal.returns-in-Two-clause-dead
returns-in-Two-clause-dead c none P image kept s sought =
    let t = c.args.classes.now in
    c.join-in-Two.ensures.dead none P
    (joins P t.vertices.pair c.args.link.now c.flags-second.result.0.number c.flags-second.result.1.number 1 (c.in-Two.is ∙ sym (ap second t.vertices_pair)) (omega arith)
    c.flags-second.ensures.first c.flags-second.ensures.second image)
    kept.vertices s (subst (λ q. IsSought q P s) (sym t.vertices_asked) sought)
