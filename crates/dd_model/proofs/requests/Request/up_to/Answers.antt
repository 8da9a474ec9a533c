use Rattle.std.proofs.Common.{arith}
use Rattle.dd_model.specs.Allowed.{IsFrom}
use Rattle.dd_model.specs.Request.{HasNumber}
use Rattle.dd_model.specs.declared.allowed.Allowed.{Allowed}
use Rattle.dd_model.proofs.requests.Request.up_to.Goals as goal

has_three : (a : Allowed) → IsFrom 3 a → HasNumber a
has_three a from = (3, (from 3).1 (omega arith, omega arith))

pub returns-clause-valid : goal.returns-clause-valid
returns-clause-valid c = record {
  chambers = c.requires;
  tiles = omega arith;
  vertices = omega arith;
  faces = has_three c.least.result c.least.ensures;
  degrees = has_three c.least-2.result c.least-2.ensures;
}
