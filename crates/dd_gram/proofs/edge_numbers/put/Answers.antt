use Rattle.std.proofs.Common.{◌≡◌, ℤ, pos, nat_abs, ◌-ℤ◌, ◌≤◌, w64, to_z, of_z, arith}
use Rattle.std.proofs.lemmas.Int.{ints}
use Rattle.dd_gram.proofs.NumberLemmas.{put_at}
use Rattle.dd_gram.proofs.edge_numbers.put.Goals as goal

read : (v : ℤ) → nat_abs v ≤ 1 → to_z w64 (of_z w64 v) ≡ v
read v small = omega (arith, ints)

read_opposite : (v : ℤ) → nat_abs v ≤ 1 → to_z w64 (of_z w64 (pos 0 -ℤ to_z w64 (of_z w64 v))) ≡ pos 0 -ℤ v
read_opposite v small = omega (arith, ints)

pub returns : goal.returns
returns c =
    let t = c.args.t.now in
    let same = c.symbol-symbol.ensures.same in
    put_at t c.symbol-symbol.ensures.symbol.symbol.table.involutions c.args.chamber c.op-across.result c.op.result c.op-2.result c.requires.chamber
    (rw (← same) c.op-across.ensures.image) (rw (← same) c.op.ensures.image) (rw (← same) c.op-2.ensures.image) c.args.value _ _ (read c.args.value c.requires.small) (read_opposite c.args.value c.requires.small)
    c.args.list.now.items c.requires.whole
