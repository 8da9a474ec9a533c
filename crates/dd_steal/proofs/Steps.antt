-- What a sweep puts to the log.
use Rattle.std.proofs.Common.{List, [], ◌∷◌, ◌++◌, append_assoc, ◌∙◌, ap}
use Rattle.dd_model.proofs.Ascending.{all-append}
use Rattle.dd_front.specs.declared.event.Event.{Event}
use Rattle.dd_board.specs.Desk.{DeskView}
use Rattle.dd_board.specs.Calls.{Books}
use Rattle.dd_steal.specs.Sweep.{IsSwept, IsSweep}

pub swept_one : (old new : DeskView) (event : Event) → Books event old new → IsSweep event → IsSwept old.log new.log
swept_one old new event books is = record { more = event ∷ []; log = books.log; are = (is, tt) }

pub swept_through : (a b c : List Event) → IsSwept a b → IsSwept b c → IsSwept a c
swept_through a b c first second = record {
  more = first.more ++ second.more;
  log = second.log ∙ ap (λ log. log ++ second.more) first.log ∙ append_assoc a first.more second.more;
  are = all-append IsSweep first.more second.more first.are second.are;
}
