-- What is made of small flat symbols is small and flat.
use Rattle.std.proofs.Common.{◌≡◌, ◌≤◌, ◌*◌, ℕ, refl, subst, arith}
use Rattle.dd_model.specs.Symbol.{Symbol}
use Rattle.dd_model.specs.Flat.{Flat}
use Rattle.dd_model.specs.Reading.{IsReadable}
use Rattle.dd_quotient.specs.Dual.{dual_of}
use Rattle.dd_quotient.proofs.DualLemmas.{accepted-dual}
use Rattle.dd_template.specs.Made.{made}
use Rattle.dd_template.specs.Named.{dual, table_of_operation}
use Rattle.dd_template.specs.declared.operations.Operation.{Operation}
use Rattle.dd_template.specs.declared.operations.Operation.TheVariants.{Ambo, Truncate, Chamfer}
use Rattle.dd_template.proofs.ApplyLemmas.{accepted-made}
use Rattle.dd_template.proofs.DualTable.{made_by_dual}
use Rattle.dd_template.proofs.MadeCurvature.{made_flat}
use Rattle.dd_template.proofs.NamedTables.{dual_lawful, operation_lawful}
use Rattle.dd_suite_exercise.specs.declared.changes.Change.{Change}
use Rattle.dd_suite_exercise.specs.declared.changes.Change.TheVariants as change
use Rattle.dd_suite_exercise.specs.Choices.{changed}
use Rattle.dd_suite_exercise.proofs.SeedLemmas.{IsBase}

-- a chamber has at most four parts
pub few_parts : (operation : Operation) (n : ℕ) → n * (table_of_operation operation).parts ≤ 4 * n
few_parts Ambo n = omega arith
few_parts Truncate n = omega arith
few_parts Chamfer n = omega arith

dual_flat : (s : Symbol) (n : ℕ) → IsBase n s → Flat (dual_of s)
dual_flat s n b =
    let is = b.accepted.symbol.symbol in
    subst Flat (made_by_dual s is.table) ((made_flat dual s dual_lawful is).0 b.flat)

pub changed_base : (change : Change) (n m : ℕ) (s : Symbol) → n ≤ 256 → m ≡ 4 * n → IsBase n s → IsBase m (changed change s)
changed_base change.Nothing n m s few e b =
    let within = b.accepted.within in
    record { accepted = record { symbol = b.accepted.symbol; connected = b.accepted.connected; within = omega (arith, e, within) }; flat = b.flat }
changed_base change.Dual n m s few e b =
    let within = b.accepted.within in
    let accepted = accepted-dual s (dual_of s) b.accepted.symbol b.accepted.connected refl in
    record { accepted = record { symbol = accepted.symbol; connected = accepted.connected; within = omega (arith, e, within) }; flat = dual_flat s n b }
changed_base (change.Derived operation) n m s few e b =
    let table = table_of_operation operation in
    let within = b.accepted.within in
    let parts = few_parts operation s.size in
    let room : s.size * table.parts ≤ 1024 = omega (arith, few, within, parts) in
    let accepted = accepted-made table s (made table s) (operation_lawful operation) b.accepted.symbol b.accepted.connected room refl in
    record {
      accepted = record { symbol = accepted.symbol; connected = accepted.connected; within = omega (arith, e, within, parts) };
      flat = (made_flat table s (operation_lawful operation) b.accepted.symbol.symbol).0 b.flat;
    }

-- after two changes of a seed
pub changed_twice : (first second : Change) (s : Symbol) → IsBase 2 s → IsBase 32 (changed second (changed first s))
changed_twice first second s b =
    changed_base second 8 32 (changed first s) (omega arith) refl (changed_base first 2 8 s (omega arith) refl b)

pub base_readable : (n : ℕ) (s : Symbol) → n ≤ 1024 → IsBase n s → IsReadable s
base_readable n s few b =
    let within = b.accepted.within in
    record { symbol = b.accepted.symbol; connected = b.accepted.connected; size = omega (arith, few, within) }
