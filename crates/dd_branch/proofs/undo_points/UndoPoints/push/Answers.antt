use Rattle.std.proofs.Common.{◌≡◌, ◌+◌, ◌<◌, length, slice_get, take, ap, ◌∙◌, arith}
use Rattle.dd_branch.specs.Levels.{sides_of}
use Rattle.dd_branch.proofs.LevelLists.{before_written, sides_written, before_pushed, sides_pushed}
use Rattle.dd_branch.proofs.undo_points.UndoPoints.push.Goals as goal

pub returns-then-self-len-clause-before : goal.returns-then-self-len-clause-before
returns-then-self-len-clause-before c =
    let n = c.self.inside.count in
    ap (take (n + 1)) c.push_reserved.ensures.items
    ∙ before_pushed c.args.self.now c.self.inside.levels.items n c.args.numbers c.args.rows c.args.starts c.index_mut-level.result.now c.index-next.result.now
    c.self.view_is c.self.invariant.used c.index_mut-level.ensures.value c.index-next.ensures

pub returns-then-self-len-clause-sides : goal.returns-then-self-len-clause-sides
returns-then-self-len-clause-sides c =
    let n = c.self.inside.count in
    let long = c.self.inside.levels.ok.0 in
    let here = c.if-self-len.true in
    let last : n + 1 ≡ length c.self.inside.levels.items = omega (arith, long, here, c.len.ensures) in
    ap (λ xs. sides_of (slice_get xs (n + 1))) c.push_reserved.ensures.items
    ∙ sides_pushed c.args.self.now c.self.inside.levels.items n c.args.numbers c.args.rows c.args.starts c.index_mut-level.result.now c.index-next.result.now
    c.self.view_is c.self.invariant.used c.index_mut-level.ensures.value c.index-next.ensures last

pub returns-else-self-len-clause-before : goal.returns-else-self-len-clause-before
returns-else-self-len-clause-before c =
    before_written c.args.self.now c.self.inside.levels.items c.self.inside.count c.args.numbers c.args.rows c.args.starts c.index_mut-level.result.now c.index.result.now
    c.self.view_is c.self.invariant.used c.index_mut-level.ensures.value c.index.ensures

pub returns-else-self-len-clause-sides : goal.returns-else-self-len-clause-sides
returns-else-self-len-clause-sides c =
    let long = c.self.inside.levels.ok.0 in
    let apart = c.if-self-len.false in
    let used = c.self.invariant.used in
    let room : c.self.inside.count + 1 < length c.self.inside.levels.items = omega (arith, long, apart, used, c.len.ensures) in
    sides_written c.args.self.now c.self.inside.levels.items c.self.inside.count c.args.numbers c.args.rows c.args.starts c.index_mut-level.result.now c.index.result.now
    c.self.view_is c.self.invariant.used c.index_mut-level.ensures.value c.index.ensures room
