use Rattle.dd_steal_deques.proofs.rack.Rack.open.Goals as goal

pub returns-clause-hands : goal.returns-clause-hands
returns-clause-hands g c = c.in_ok-link.ensures.new c.args.room c.in_ok-hands.ensures.new
