use Rattle.dd_draw.proofs.Spots.{min_read, max_read, min_small, max_small, ordered}
use Rattle.dd_draw.proofs.extent.Extent.with.Goals as goal

pub returns-clause-small : goal.returns-clause-small
returns-clause-small c =
    let e = c.args.self in
    let s = c.args.spot in
    let old = c.requires.small in
    let new = c.requires.spot in
    record {
      left = min_small e.left s.x c.min.result old.left new.x c.min.ensures.value;
      top = min_small e.top s.y c.min-2.result old.top new.y c.min-2.ensures.value;
      right = max_small e.right s.x c.max.result old.right new.x c.max.ensures.value;
      bottom = max_small e.bottom s.y c.max-2.result old.bottom new.y c.max-2.ensures.value;
      along = ordered e.left e.right s.x _ _ old.along (min_read e.left s.x c.min.result old.left new.x c.min.ensures.value) (max_read e.right s.x c.max.result old.right new.x c.max.ensures.value);
      down = ordered e.top e.bottom s.y _ _ old.down (min_read e.top s.y c.min-2.result old.top new.y c.min-2.ensures.value) (max_read e.bottom s.y c.max-2.result old.bottom new.y c.max-2.ensures.value);
    }

pub returns-clause-same : goal.returns-clause-same
returns-clause-same c i =
    let e = c.args.self in
    let s = c.args.spot in
    let old = c.requires.small in
    let new = c.requires.spot in
    record {
      left = min_read e.left s.x c.min.result old.left new.x c.min.ensures.value i;
      top = min_read e.top s.y c.min-2.result old.top new.y c.min-2.ensures.value i;
      right = max_read e.right s.x c.max.result old.right new.x c.max.ensures.value i;
      bottom = max_read e.bottom s.y c.max-2.result old.bottom new.y c.max-2.ensures.value i;
    }
