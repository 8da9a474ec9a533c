-- The two ends of a deque: its owner's, and the ways into it of others.
use Rattle.std.specs.Prelude.{◌≡◌, ℕ, length}
use Rattle.std.specs.Global.{Global}
use Rattle.atomic_blocks.specs.Lent.{RowsId}
use Rattle.crossbeam_deque.specs.Handles.{view, worker_view, worker_deque, stealer_deque}
use Rattle.dd_front.specs.declared.naming.Naming.{Ghosts}
use Rattle.dd_steal_deques.specs.declared.owner.Owner.{Owner}
use Rattle.dd_steal_deques.specs.declared.way.Way.{Way}

module _ {N : Type 0} {names : Ghosts N} where
  abbrev pub owner_deque : Owner N names → RowsId × Global
  owner_deque o = worker_deque o.own

  -- how many passes beside the owner's are not spent
  abbrev pub owner_passes : Owner N names → ℕ
  owner_passes o = (worker_view o.own).passes

  -- how many tickets the owner took
  abbrev pub owner_taken : Owner N names → ℕ
  owner_taken o = length (worker_view o.own).taken

  abbrev pub SameOwner : Owner N names → Owner N names → Type 0
  SameOwner old new = (owner_deque new ≡ owner_deque old) × (owner_passes new ≡ owner_passes old) × (new.room ≡ old.room)

  -- the number of the worker into whose deque it leads
  abbrev pub way_number : Way N names → ℕ
  way_number w = w.from

  abbrev pub way_deque : Way N names → RowsId × Global
  way_deque w = stealer_deque w.stealer

  -- how many tickets were taken by this way
  abbrev pub way_taken : Way N names → ℕ
  way_taken w = length (view w.pass).taken

  -- it leads where it led
  abbrev pub SameWay : Way N names → Way N names → Type 0
  SameWay old new = (new.from ≡ old.from) × (way_deque new ≡ way_deque old)
