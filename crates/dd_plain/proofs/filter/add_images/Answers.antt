use Rattle.std.proofs.Common.{◌≡◌, false, true, sym, ◌∙◌, arith}
use Rattle.dd_plain.specs.Trials.{tried}
use Rattle.dd_plain.proofs.LevelLemmas.{no_tiles_yet, tiles-more, all_tiles, no_images, nine_powers}
use Rattle.dd_plain.proofs.filter.add_images.Goals as goal

pub returns-then-not-branch : goal.returns-then-not-branch
returns-then-not-branch c =
    no_images c.args.q.now (tried c.args.trial) c.args.list.now c.requires
    (λ taken. no_both (sym c.if-not-branch.true ∙ c.in_ok-is_accepted.ensures.1 taken))
  where
    no_both : false ≡ true → ⊥
    no_both e = cc

pub pow-m01-end-requires : goal.pow-m01-end-requires
pow-m01-end-requires c = let most = nine_powers c.args.trial.size c.requires in omega arith

pub loop-m01-init : goal.loop-m01-init
loop-m01-init c = no_tiles_yet c.args.q.now (tried c.args.trial) c.args.list.now

pub loop-m01-preserved : goal.loop-m01-preserved
loop-m01-preserved c =
    tiles-more c.args.q.now (tried c.args.trial) c.loop-m01.m01 c.args.list.now c.loop-m01.list c.add_tiles.new.list
    c.loop-m01.invariant c.in_ok-add_tiles.ensures

pub returns : goal.returns
returns c =
    all_tiles c.args.q.now (tried c.args.trial) c.loop-m01.m01 c.pow-m01-end.result c.args.list.now c.loop-m01.list
    c.requires c.pow-m01-end.ensures (omega arith) c.loop-m01.invariant
