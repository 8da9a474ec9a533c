-- The texts of checkpoints, as functions of their values.
use Rattle.std.specs.Prelude.{◌≡◌, ℕ, List, [], ◌∷◌, ◌++◌, codes}
use Rattle.dd_model.specs.Allowed.{IsFrom}
use Rattle.dd_model.specs.Request.{IsValid}
use Rattle.dd_model.specs.declared.requests.Request.{Request}
use Rattle.dd_check.specs.declared.checkpoint.Checkpoint.{Checkpoint}
use Rattle.dd_check.specs.declared.raw_values.Item.{Item}
use Rattle.dd_check.specs.declared.raw_values.Limits.{Limits}
use Rattle.dd_check.specs.declared.raw_values.OldLimits.{OldLimits}
use Rattle.dd_check.specs.Texts.{Text, page}
use Rattle.dd_check.specs.Sets.{AreItems, IsSetOf}
use Rattle.dd_check.specs.Rows.{number_row, limits_row, old_limits_row, set_row, place_row, IsTold}
use Rattle.dd_check.specs.Ranges.{IsFromTo, IsRun, IsCount, IsInRange, IsInOldRange}

-- the limits of a request
abbrev pub limits_of : Request → Limits
limits_of q = record { chambers = q.chambers; tiles = q.tiles; vertices = q.vertices; minimal = q.minimal }

-- the same with the least numbers of its sets
abbrev pub old_limits_of : Request → ℕ → ℕ → OldLimits
old_limits_of q face degree =
    record { chambers = q.chambers; tiles = q.tiles; vertices = q.vertices; least_face = face; least_degree = degree; minimal = q.minimal }

-- The text of version 2: eight lines, of which the sets of the request are told by items.
abbrev pub check_text : Checkpoint → List Item → List Item → Text
check_text c faces degrees = codes "dressline checkpoint 2\n" ++ page (
    number_row (codes "run") c.run ∷ limits_row (limits_of c.request) ∷ set_row (codes "faces") faces ∷ set_row (codes "degrees") degrees ∷
    number_row (codes "lines") c.lines ∷ number_row (codes "bytes") c.bytes ∷ place_row c.at ∷ [])

-- the text that is written for a checkpoint
pub record IsCheckText (c : Checkpoint) (text : Text) : Type 0 where
  pub faces : List Item
  pub degrees : List Item
  pub are_faces : AreItems faces
  pub are_degrees : AreItems degrees
  pub face_set : IsSetOf faces c.request.faces
  pub degree_set : IsSetOf degrees c.request.degrees
  pub text_is : text ≡ check_text c faces degrees

-- The text of version 1: six lines. Its sets run from a least number to 216.
abbrev pub old_check_text : Checkpoint → ℕ → ℕ → Text
old_check_text c face degree = codes "dressline checkpoint 1\n" ++ page (
    number_row (codes "run") c.run ∷ old_limits_row (old_limits_of c.request face degree) ∷
    number_row (codes "lines") c.lines ∷ number_row (codes "bytes") c.bytes ∷ place_row c.at ∷ [])

-- the numbers that both versions have in common are in range
pub record AreCountsInRange (c : Checkpoint) : Type 0 where
  pub run : IsRun c.run
  pub lines : IsCount c.lines
  pub bytes : IsCount c.bytes

-- a text of version 2 with numbers in range
pub record StandsFor (text : Text) (c : Checkpoint) : Type 0 where
  pub check : IsCheckText c text
  pub counts : AreCountsInRange c
  pub valid : IsValid c.request
  pub told : IsTold c.at
  pub place : IsInRange c.request.chambers c.at

-- a text of version 1 with numbers in range
pub record OldStandsFor (text : Text) (c : Checkpoint) : Type 0 where
  pub face : ℕ
  pub degree : ℕ
  pub face_range : IsFromTo 1 36 face
  pub degree_range : IsFromTo 1 36 degree
  pub face_set : IsFrom face c.request.faces
  pub degree_set : IsFrom degree c.request.degrees
  pub text_is : text ≡ old_check_text c face degree
  pub counts : AreCountsInRange c
  pub valid : IsValid c.request
  pub told : IsTold c.at
  pub place : IsInOldRange c.request.chambers c.at
