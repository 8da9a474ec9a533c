use Rattle.std.proofs.Common.{length, ◌<◌, arith, rules}
use Rattle.dd_board.proofs.Seated.{without_first}
use Rattle.dd_board.proofs.seats.all_shares.Goals as goal

pub loop-seats-init : goal.loop-seats-init
loop-seats-init g c =
    let seat = c.remove-shares.result in
    let removed = c.remove-shares.ensures in
    let fewer = without_first c.args.seats.items c.remove-shares.new.self.items seat c.requires removed.value removed.items in (
      omega (arith, seat.one_part.0, removed.len),
      omega (arith, seat.one_part.1, removed.len),
      omega (arith, seat.one_part.2, removed.len),
      omega (arith, seat.one_part.3, removed.len),
      omega (arith, seat.one_part.4, removed.len),
      omega (arith, fewer.0),
      omega (arith, fewer.1),
      omega (arith, fewer.2),
      omega (arith, fewer.3),
      omega (arith, fewer.4),
    )

pub loop-seats-preserved : goal.loop-seats-preserved
loop-seats-preserved g c =
    let before = c.loop-seats.invariant in
    let merged = c.merge.ensures in
    let seat = c.remove-more.result in
    let removed = c.remove-more.ensures in
    let some : 0 < length c.loop-seats.seats.items = search rules in
    let fewer = without_first c.loop-seats.seats.items c.remove-more.new.self.items seat some removed.value removed.items in (
      omega (arith, before.0, merged.0.0, seat.one_part.0, removed.len),
      omega (arith, before.1, merged.1.0, seat.one_part.1, removed.len),
      omega (arith, before.2, merged.2.0, seat.one_part.2, removed.len),
      omega (arith, before.3, merged.3.0, seat.one_part.3, removed.len),
      omega (arith, before.4, merged.4.0, seat.one_part.4, removed.len),
      omega (arith, before.5, merged.0.1, fewer.0),
      omega (arith, before.6, merged.1.1, fewer.1),
      omega (arith, before.7, merged.2.1, fewer.2),
      omega (arith, before.8, merged.3.1, fewer.3),
      omega (arith, before.9, merged.4.1, fewer.4),
    )
