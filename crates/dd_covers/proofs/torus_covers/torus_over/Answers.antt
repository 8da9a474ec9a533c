use Rattle.dd_cells.proofs.MemberLemmas.{value_positive}
use Rattle.dd_covers.specs.PlaneValues.{IsGreatestValue}
use Rattle.dd_covers.specs.Sheets.{sheets_of, turned}
use Rattle.dd_covers.specs.Shifts.{shift}
use Rattle.dd_covers.proofs.KeptCovers.{automorphism}
use Rattle.dd_covers.proofs.TurnLemmas.{turn_is_automorphism}
use Rattle.dd_covers.proofs.TorusCovers.{sheets_few, sheets_connected}
use Rattle.dd_covers.proofs.torus_covers.torus_over.Goals as goal

pub cover-requires : goal.cover-requires
cover-requires c =
    let s = c.base.inside.symbol.now in
    let b = c.base.invariant in
    let greatest : IsGreatestValue s c.args.k = rw c.base.view_is c.requires in
    record {
      shifts = rw c.base.view_is c.in_ok-shifts.ensures.below;
      small = sheets_few s c.symbol-symbol.ensures.symbol.symbol c.symbol-symbol.ensures.connected b.oriented b.flat c.args.k greatest b.few;
      symbol = sheets_connected s c.symbol-symbol.ensures.symbol c.symbol-symbol.ensures.connected b.oriented b.flat c.args.k greatest b.few
          (shift c.in_ok-shifts.shifts) (rw c.base.view_is c.in_ok-shifts.ensures.rules);
    }

pub returns-clause-cover : goal.returns-clause-cover
returns-clause-cover c =
    rw (← c.base.view_is)
    (record {
      greatest = rw c.base.view_is c.requires;
      shifts = shift c.in_ok-shifts.shifts;
      are_shifts = rw c.base.view_is c.in_ok-shifts.ensures.rules;
      cover = c.in_ok-cover.ensures.symbol;
      is_below = c.in_ok-cover.ensures.below;
    })

pub returns-clause-turn : goal.returns-clause-turn
returns-clause-turn c =
    let s = c.base.inside.symbol.now in
    let k = c.args.k in
    let g : IsGreatestValue s k = rw c.base.view_is c.requires in
    let x = shift c.in_ok-shifts.shifts in
    let some = value_positive s c.symbol-symbol.ensures.symbol.symbol g.pair g.chamber k g.is_chamber g.branching in
    automorphism _ (sheets_of s k x) _ (turned s k 1) c.in_ok-cover.ensures.symbol c.in_ok-cover.ensures.turn
    (turn_is_automorphism s k c.symbol-symbol.ensures.symbol.symbol.table x some)
