use Rattle.std.proofs.Common.{◌≡◌, ◌*◌, ◌<◌, ◌++◌, length, take, drop, sym, ap, ◌∙◌, subst, arith}
use Rattle.std.proofs.Math.Seq.{take-append_seam}
use Rattle.dd_shard.specs.Members.{IsReordered}
use Rattle.dd_shard.proofs.Reordering.{by_parts}
use Rattle.dd_shard.proofs.sort.sort_parts.Goals as goal

pub returns : goal.returns
returns g c =
    let old = c.args.members.now.items in
    let now = c.for_each_chunk_mut.new.s in
    let kept = c.for_each_chunk_mut.auto.s in
    let slice = c.as_mut_slice.ensures in
    let same : length now ≡ length old = kept ∙ ap length slice.value in
    let whole : take c.args.members.now.len (now ++ drop (length now) old) ≡ now =
    ap (λ k. take k (now ++ drop (length now) old)) (sym slice.len ∙ sym kept) ∙ take-append_seam now (drop (length now) old) in
    subst (IsReordered old) (sym whole)
    (by_parts c.args.size (length old) old now c.requires same (omega arith) (λ n low.
    let made = c.for_each_chunk_mut.ensures.chunks n (subst (λ xs. n * c.args.size < length xs) (sym slice.value) low) in
    subst (λ xs. IsReordered (take c.args.size (drop (n * c.args.size) xs)) (take c.args.size (drop (n * c.args.size) now))) slice.value
    (subst (λ xs. IsReordered xs (take c.args.size (drop (n * c.args.size) now))) made.argument_is (subst (IsReordered made.argument.now) made.left made.call))))
