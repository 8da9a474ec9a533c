use Rattle.dd_gram.proofs.matrices.matrix.Goals as goal

pub returns : goal.returns
returns c = c.matrix.ensures.action c.args.t.now c.args.net.now c.requires.torus c.requires.net c.in_ok-basis.ensures c.requires.map
