-- What a run holds of itself.
use Rattle.std.proofs.Common.{◌≡◌}
use Rattle.std.proofs.Props.{props}
use Rattle.std.proofs.Math.Logic.{∥∥₁_elim}
use Rattle.dd_model.specs.Request.{IsValid}
use Rattle.dd_model.specs.Position.{IsPosition}
use Rattle.dd_model.specs.declared.jobs.Position.{Position}
use Rattle.dd_model.specs.declared.jobs.Position.TheVariants.{At, End}
use Rattle.dd_front.proofs.ValidRequests.{valid_of}
use Rattle.dd_check.specs.ChainStarts.{first_start}
use Rattle.dd_pages_and_checkpoints.specs.declared.run.Run.{Run}
use Rattle.dd_pages_and_checkpoints.specs.Runs.{start_of}

position_of : (at : Position) → ∥ IsPosition at ∥₁ → IsPosition at
position_of End known = tt
position_of (At job) known = ∥∥₁_elim known (hlevel props) (λ fits. fits)

pub run_valid : (run : Run) → IsValid run.portion.request
run_valid run = valid_of run.portion.request run.valid

pub run_position : (run : Run) → IsPosition run.at
run_position run = position_of run.at run.position

pub run_first : (run : Run) → run.number ≡ 1 → start_of run ≡ first_start run.portion
run_first run one =
    let begins = run.begins one in
    let at = begins.0 in
    let lines = begins.1 in
    cc
