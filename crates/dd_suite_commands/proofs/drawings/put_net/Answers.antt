use Rattle.dd_suite_commands.proofs.drawings.put_net.Goals as goal

pub returns-clause-text : goal.returns-clause-text
returns-clause-text c = record {
  frame = c.in_ok-frame.frame;
  is_cell = c.in_ok-frame.ensures;
  narrow = c.in_ok-places.ensures.narrow;
  points = c.in_ok-places.places.points.items;
  placed = c.in_ok-places.ensures.placement;
  text = c.in_ok-svg.ensures.drawing;
}
