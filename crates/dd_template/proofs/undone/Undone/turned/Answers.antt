use Rattle.std.proofs.Common.{◌≡◌, ◌-◌, ◌<◌, suc, [], sym, ap, ◌∙◌, subst, arith}
use Rattle.dd_model.specs.Symbol.{power, turn, first, second}
use Rattle.dd_template.specs.Table.{table_of, move, part_after}
use Rattle.dd_template.specs.Reduced.{carried, put_move}
use Rattle.dd_template.specs.Letters.{word_of}
use Rattle.dd_template.proofs.undone.Undone.turned.Goals as goal

pub loop-left-preserved : goal.loop-left-preserved
loop-left-preserved g c =
    let t = table_of c.args.self.now.table.now in
    let p = c.args.pair in
    let place = c.loop-left.place in
    let rest = c.loop-left.left - 1 in
    let was = c.loop-left.invariant in
    let m1 = move t (first p) place in
    let m2 = move t (second p) m1.to in
    let same : c.loop-left.left ≡ suc rest = omega (arith, c.loop-left-test.true) in
    let part_before = subst (λ n. part_after t (power (turn p) n) place ≡ part_after t (power (turn p) c.args.turns) c.args.part.number) same was.part in
    let word_before = subst (λ n. carried t (power (turn p) n) place (word_of c.loop-left.word) ≡ carried t (power (turn p) c.args.turns) c.args.part.number []) same was.word in
    let there : c.move_of-there.result ≡ m1 = c.move_of-there.ensures ∙ ap (λ i. move t i place) c.first.ensures in
    let next : c.move_of-next.result ≡ m2 =
    c.move_of-next.ensures ∙ (ap (λ i. move t i c.move_of-there.result.to) c.second.ensures ∙ ap (λ m. move t (second p) m.to) there) in
    let first_word : word_of c.put_move.new.self ≡ put_move m1.by (word_of c.loop-left.word) =
    c.put_move.ensures.word ∙ ap (λ m. put_move m.by (word_of c.loop-left.word)) there in
    let next_word : word_of c.put_move-in-loop-left.new.self ≡ put_move m2.by (put_move m1.by (word_of c.loop-left.word)) =
    c.put_move-in-loop-left.ensures.word ∙ (ap (λ m. put_move m.by (word_of c.put_move.new.self)) next ∙ ap (put_move m2.by) first_word) in
    let inside = (c.args.self.now.undone (first p) place was.place).part in
    let inside_next = (c.args.self.now.undone (second p) m1.to inside).part in
    record {
      part = ap (λ m. part_after t (power (turn p) rest) m.to) next ∙ part_before;
      word = ap (λ m. carried t (power (turn p) rest) m.to (word_of c.put_move-in-loop-left.new.self)) next
          ∙ (ap (carried t (power (turn p) rest) m2.to) next_word ∙ word_before);
      place = subst (λ m. m.to < g.row.K) (sym next) inside_next;
      left = let l = was.left in omega arith;
      room = let l = was.room in omega (arith, c.put_move.ensures.count, c.put_move-in-loop-left.ensures.count, c.loop-left-test.true);
    }
