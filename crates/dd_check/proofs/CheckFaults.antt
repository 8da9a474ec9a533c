-- The first fault of the lines of a text.
use Rattle.std.proofs.Common.{ℕ, List}
use Rattle.std.specs.Prelude.{codes}
use Rattle.dd_model.specs.declared.allowed.Allowed.{Allowed}
use Rattle.dd_model.specs.declared.jobs.Position.{Position}
use Rattle.dd_check.specs.declared.faults.CheckFault.{CheckFault}
use Rattle.dd_check.specs.declared.raw_values.Limits.{Limits}
use Rattle.dd_check.specs.declared.raw_values.OldLimits.{OldLimits}
use Rattle.dd_check.specs.Texts.{Text}
use Rattle.dd_check.specs.Sets.{AreItems}
use Rattle.dd_check.specs.Rows.{IsNumberRow, IsLimitsRow, IsOldLimitsRow, IsSetRow, IsPlaceRow}
use Rattle.dd_check.specs.Ranges.{IsRun, IsCount, AreLimits, AreOldLimits, IsInRange, IsInOldRange}
use Rattle.dd_check.specs.Faults.{IsLineFault, IsOldLineFault, IsLongerFault}
use Rattle.dd_check.specs.Lines.{IsToldInRange, IsToldSet, IsFaultHere}
use Rattle.dd_check.proofs.RowFaults.{here, then}

pub set_in_range : (ls : List Text) (k : ℕ) (key : Text) (set : Allowed) (t : IsToldSet ls k key set) → IsToldInRange ls k (IsSetRow key) AreItems t.items
set_in_range ls k key set t = record { tells = t.tells; in_range = t.are_items }

-- ---- version 2

abbrev RunTold : List Text → ℕ → Type 0
RunTold ls = IsToldInRange ls 2 (IsNumberRow (codes "run")) IsRun

abbrev CountTold : List Text → ℕ → Text → ℕ → Type 0
CountTold ls k key = IsToldInRange ls k (IsNumberRow key) IsCount

pub run_fault : (ls : List Text) (f : CheckFault) → IsFaultHere ls 2 (IsNumberRow (codes "run")) IsRun f → IsLineFault ls f
run_fault ls f h = here _ _ _ _ _ _ h

pub limits_fault : (ls : List Text) (f : CheckFault) (run : ℕ) → RunTold ls run → IsFaultHere ls 3 IsLimitsRow AreLimits f → IsLineFault ls f
limits_fault ls f run r h = then _ _ _ _ _ _ run r (here _ _ _ _ _ _ h)

pub faces_fault : (ls : List Text) (f : CheckFault) (run : ℕ) (l : Limits) → RunTold ls run → IsToldInRange ls 3 IsLimitsRow AreLimits l
    → IsFaultHere ls 4 (IsSetRow (codes "faces")) AreItems f → IsLineFault ls f
faces_fault ls f run l r t h = then _ _ _ _ _ _ run r (then _ _ _ _ _ _ l t (here _ _ _ _ _ _ h))

pub degrees_fault : (ls : List Text) (f : CheckFault) (run : ℕ) (l : Limits) (faces : Allowed) → RunTold ls run → IsToldInRange ls 3 IsLimitsRow AreLimits l
    → IsToldSet ls 4 (codes "faces") faces → IsFaultHere ls 5 (IsSetRow (codes "degrees")) AreItems f → IsLineFault ls f
degrees_fault ls f run l faces r t a h =
    then _ _ _ _ _ _ run r (then _ _ _ _ _ _ l t (then _ _ _ _ _ _ a.items (set_in_range ls 4 (codes "faces") faces a) (here _ _ _ _ _ _ h)))

-- the lines up to the sets are told
pub record AreSetsTold (ls : List Text) (l : Limits) : Type 0 where
  pub run : ℕ
  pub faces : Allowed
  pub degrees : Allowed
  pub run_told : RunTold ls run
  pub limits_told : IsToldInRange ls 3 IsLimitsRow AreLimits l
  pub faces_told : IsToldSet ls 4 (codes "faces") faces
  pub degrees_told : IsToldSet ls 5 (codes "degrees") degrees

pub count_fault : (ls : List Text) (f : CheckFault) (l : Limits) → AreSetsTold ls l → IsFaultHere ls 6 (IsNumberRow (codes "lines")) IsCount f → IsLineFault ls f
count_fault ls f l s h =
    then _ _ _ _ _ _ s.run s.run_told (then _ _ _ _ _ _ l s.limits_told (then _ _ _ _ _ _ s.faces_told.items (set_in_range ls 4 (codes "faces") s.faces s.faces_told)
    (then _ _ _ _ _ _ s.degrees_told.items (set_in_range ls 5 (codes "degrees") s.degrees s.degrees_told) (here _ _ _ _ _ _ h))))

pub bytes_fault : (ls : List Text) (f : CheckFault) (l : Limits) (count : ℕ) → AreSetsTold ls l → CountTold ls 6 (codes "lines") count
    → IsFaultHere ls 7 (IsNumberRow (codes "bytes")) IsCount f → IsLineFault ls f
bytes_fault ls f l count s n h =
    then _ _ _ _ _ _ s.run s.run_told (then _ _ _ _ _ _ l s.limits_told (then _ _ _ _ _ _ s.faces_told.items (set_in_range ls 4 (codes "faces") s.faces s.faces_told)
    (then _ _ _ _ _ _ s.degrees_told.items (set_in_range ls 5 (codes "degrees") s.degrees s.degrees_told) (then _ _ _ _ _ _ count n (here _ _ _ _ _ _ h)))))

pub place_fault : (ls : List Text) (f : CheckFault) (l : Limits) (count bytes : ℕ) → AreSetsTold ls l → CountTold ls 6 (codes "lines") count → CountTold ls 7 (codes "bytes") bytes
    → IsFaultHere ls 8 IsPlaceRow (IsInRange l.chambers) f → IsLineFault ls f
place_fault ls f l count bytes s n b h =
    then _ _ _ _ _ _ s.run s.run_told (then _ _ _ _ _ _ l s.limits_told (then _ _ _ _ _ _ s.faces_told.items (set_in_range ls 4 (codes "faces") s.faces s.faces_told)
    (then _ _ _ _ _ _ s.degrees_told.items (set_in_range ls 5 (codes "degrees") s.degrees s.degrees_told) (then _ _ _ _ _ _ count n (then _ _ _ _ _ _ bytes b (here _ _ _ _ _ _ h))))))

pub longer_fault : (ls : List Text) (f : CheckFault) (l : Limits) (count bytes : ℕ) (at : Position) → AreSetsTold ls l → CountTold ls 6 (codes "lines") count
    → CountTold ls 7 (codes "bytes") bytes → IsToldInRange ls 8 IsPlaceRow (IsInRange l.chambers) at → IsLongerFault ls 9 f → IsLineFault ls f
longer_fault ls f l count bytes at s n b p h =
    then _ _ _ _ _ _ s.run s.run_told (then _ _ _ _ _ _ l s.limits_told (then _ _ _ _ _ _ s.faces_told.items (set_in_range ls 4 (codes "faces") s.faces s.faces_told)
    (then _ _ _ _ _ _ s.degrees_told.items (set_in_range ls 5 (codes "degrees") s.degrees s.degrees_told) (then _ _ _ _ _ _ count n (then _ _ _ _ _ _ bytes b (then _ _ _ _ _ _ at p h))))))

-- ---- version 1

pub old_run_fault : (ls : List Text) (f : CheckFault) → IsFaultHere ls 2 (IsNumberRow (codes "run")) IsRun f → IsOldLineFault ls f
old_run_fault ls f h = here _ _ _ _ _ _ h

pub old_limits_fault : (ls : List Text) (f : CheckFault) (run : ℕ) → RunTold ls run → IsFaultHere ls 3 IsOldLimitsRow AreOldLimits f → IsOldLineFault ls f
old_limits_fault ls f run r h = then _ _ _ _ _ _ run r (here _ _ _ _ _ _ h)

pub old_count_fault : (ls : List Text) (f : CheckFault) (run : ℕ) (l : OldLimits) → RunTold ls run → IsToldInRange ls 3 IsOldLimitsRow AreOldLimits l
    → IsFaultHere ls 4 (IsNumberRow (codes "lines")) IsCount f → IsOldLineFault ls f
old_count_fault ls f run l r t h = then _ _ _ _ _ _ run r (then _ _ _ _ _ _ l t (here _ _ _ _ _ _ h))

pub old_bytes_fault : (ls : List Text) (f : CheckFault) (run : ℕ) (l : OldLimits) (count : ℕ) → RunTold ls run → IsToldInRange ls 3 IsOldLimitsRow AreOldLimits l
    → CountTold ls 4 (codes "lines") count → IsFaultHere ls 5 (IsNumberRow (codes "bytes")) IsCount f → IsOldLineFault ls f
old_bytes_fault ls f run l count r t n h = then _ _ _ _ _ _ run r (then _ _ _ _ _ _ l t (then _ _ _ _ _ _ count n (here _ _ _ _ _ _ h)))

pub old_place_fault : (ls : List Text) (f : CheckFault) (run : ℕ) (l : OldLimits) (count bytes : ℕ) → RunTold ls run → IsToldInRange ls 3 IsOldLimitsRow AreOldLimits l
    → CountTold ls 4 (codes "lines") count → CountTold ls 5 (codes "bytes") bytes → IsFaultHere ls 6 IsPlaceRow (IsInOldRange l.chambers) f → IsOldLineFault ls f
old_place_fault ls f run l count bytes r t n b h =
    then _ _ _ _ _ _ run r (then _ _ _ _ _ _ l t (then _ _ _ _ _ _ count n (then _ _ _ _ _ _ bytes b (here _ _ _ _ _ _ h))))

pub old_longer_fault : (ls : List Text) (f : CheckFault) (run : ℕ) (l : OldLimits) (count bytes : ℕ) (at : Position) → RunTold ls run
    → IsToldInRange ls 3 IsOldLimitsRow AreOldLimits l → CountTold ls 4 (codes "lines") count → CountTold ls 5 (codes "bytes") bytes
    → IsToldInRange ls 6 IsPlaceRow (IsInOldRange l.chambers) at → IsLongerFault ls 7 f → IsOldLineFault ls f
old_longer_fault ls f run l count bytes at r t n b p h =
    then _ _ _ _ _ _ run r (then _ _ _ _ _ _ l t (then _ _ _ _ _ _ count n (then _ _ _ _ _ _ bytes b (then _ _ _ _ _ _ at p h))))
