use Rattle.std.proofs.Common.{get_or, length, take, drop, ◌-◌, ap, ◌∙◌, ◌≡◌, ◌∷◌, arith}
use Rattle.std.proofs.lemmas.Bool.Decides.{nat_tests}
use Rattle.dd_check.proofs.ShardReads.{rest_after, after_rest, four_bytes}
use Rattle.dd_check.proofs.shard_reader.numbers_and_rest.Goals.{then-space-ne32-via-then-space-ne32, then-space-ne32-via-else-space-ne32+then-feed-ne10}
use Rattle.dd_check.proofs.shard_reader.numbers_and_rest.Goals as goal

pub returns-in_default : goal.returns-in_default
returns-in_default c shard rest is =
    let n = ap length (rest_after shard c.args.bytes.now rest is) in
    let low = c.in_default.len_below in
    omega (arith, n, low)

pub returns-then-space-ne32 : goal.returns-then-space-ne32
returns-then-space-ne32 c shard rest is =
    let e = rest_after shard c.args.bytes.now rest is in
    elim c.then-space-ne32.branch [
      | then-space-ne32-via-then-space-ne32 w ↦ let p = ap (λ ys. get_or ys 1 0) e in let h = w.if-space-ne32 in grind (arith, nat_tests)
      | then-space-ne32-via-else-space-ne32+then-feed-ne10 w ↦ let p = ap (λ ys. get_or ys 3 0) e in let h = w.if-feed-ne10 in grind (arith, nat_tests)
    ]

pub returns-in_default-shard_of : goal.returns-in_default-shard_of
returns-in_default-shard_of c shard rest is =
    let e = rest_after shard c.args.bytes.now rest is in
    c.in_default-shard_of.ensures shard (record { index_is = ap (λ ys. get_or ys 0 0) e; count_is = ap (λ ys. get_or ys 2 0) e })

pub returns : goal.returns
returns c =
    let digits = c.in-Some.ensures in
    let space : get_or c.args.bytes.now 1 0 ≡ 32 = let f = c.if-space-ne32.false in grind (arith, nat_tests) in
    let feed : get_or c.args.bytes.now 3 0 ≡ 10 = let f = c.if-feed-ne10.false in grind (arith, nat_tests) in
    let rest = take (length c.args.bytes.now - 4) (drop 4 c.args.bytes.now) in
    after_rest c.in-Some.shard c.args.bytes.now rest
    (four_bytes c.args.bytes.now c.in-len4-up.len_at_least 0 0 0 0 ∙ (λ i. digits.index_is i ∷ space i ∷ digits.count_is i ∷ feed i ∷ rest))
