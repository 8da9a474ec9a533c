use Rattle.std.proofs.Common.{sym, subst}
use Rattle.dd_branch_tables.specs.Rows.{Rows, partial_of, HasNumberAt, Learns}
use Rattle.dd_branch_tables.specs.Stem.{Any, prefix_of, size_of, IsStem}
use Rattle.dd_branch_tables.specs.declared.stem.Stem.{Stem}
use Rattle.dd_branch_tables.proofs.Follows.{Puts, none_put}
use Rattle.dd_branch_tables.proofs.Stems.{IsGrown, grown_stem, grown_shortened}
use Rattle.dd_branch_tables.proofs.stem.Stem.put.Goals as goal

pub returns-then-not-put-clause-dead : goal.returns-then-not-put-clause-dead
returns-then-not-put-clause-dead c =
    let stem = c.args.self.now in
    none_put Any (size_of stem) (prefix_of stem) c.args.number c.len-place.result stem.rows c.len-place.ensures c.requires.room c.requires.stem.follows c.if-not-put.ensures.clash

grown_of : (c : goal.After-push) → IsGrown c.args.self.now (record { rows = c.put.new.self; prefix = c.push.new.self }) c.args.number
grown_of c =
    let put = c.if-not-put.ensures in
    record {
      learns = subst (λ t. Learns (Puts t c.args.number) c.args.self.now.rows c.put.new.self) c.len-place.ensures put.learnt;
      ready = c.put.ensures.ready;
      commuting = put.commuting;
      longer = c.push.ensures;
      told = subst (λ t. HasNumberAt t c.args.number (partial_of c.put.new.self)) c.len-place.ensures put.told;
      positive = put.positive;
    }

pub returns-clause-stem : goal.returns-clause-stem
returns-clause-stem c = grown_stem c.args.self.now _ c.args.number c.requires.stem c.requires.room (grown_of c)

pub returns-clause-undone : goal.returns-clause-undone
returns-clause-undone c = grown_shortened c.args.self.now _ c.args.number (grown_of c)

pub returns-then-not-put-clause-stem : goal.returns-then-not-put-clause-stem
returns-then-not-put-clause-stem c =
    let at : Rows → Stem = λ r. record { rows = r; prefix = c.args.self.now.prefix } in
    subst (λ r. IsStem (at r)) (sym c.if-not-put.ensures.same) c.requires.stem
