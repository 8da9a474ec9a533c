use Rattle.std.proofs.Common.{◌≡◌, false, true, sym, ◌∙◌, arith}
use Rattle.dd_plain.specs.Trials.{tried}
use Rattle.dd_plain.proofs.LevelLemmas.{no_vertices, vertices-more, all_vertices, no_tiles, nine_powers}
use Rattle.dd_plain.proofs.filter.add_tiles.Goals as goal

pub returns-then-not-branch : goal.returns-then-not-branch
returns-then-not-branch c =
    no_tiles c.args.q.now (tried c.args.trial) c.args.list.now c.requires
    (λ taken. no_both (sym c.if-not-branch.true ∙ c.in_ok-is_accepted.ensures.1 taken))
  where
    no_both : false ≡ true → ⊥
    no_both e = cc

pub pow-m12-end-requires : goal.pow-m12-end-requires
pow-m12-end-requires c = let most = nine_powers c.args.trial.size c.requires in omega arith

pub loop-m12-init : goal.loop-m12-init
loop-m12-init c = no_vertices c.args.q.now (tried c.args.trial) c.args.list.now

pub loop-m12-preserved : goal.loop-m12-preserved
loop-m12-preserved c =
    vertices-more c.args.q.now (tried c.args.trial) c.loop-m12.m12 c.args.list.now c.loop-m12.list c.add_trial.new.list
    c.loop-m12.invariant c.in_ok-add_trial.ensures

pub returns : goal.returns
returns c =
    all_vertices c.args.q.now (tried c.args.trial) c.loop-m12.m12 c.pow-m12-end.result c.args.list.now c.loop-m12.list
    c.requires c.pow-m12-end.ensures (omega arith) c.loop-m12.invariant
