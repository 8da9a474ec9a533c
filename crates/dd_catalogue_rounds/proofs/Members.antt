-- The next member of a round, past the entries that have none.
use Rattle.std.proofs.Common.{◌≡◌, ◌≤◌, List, [], ◌∷◌, length, refl, subst, arith}
use Rattle.dd_model.specs.Symbol.{Symbol}
use Rattle.dd_front.specs.Allowed.{MayPart}
use Rattle.dd_front.specs.Machine.{Machine}
use Rattle.dd_front.specs.Step.{Emits, EmitsPart}
use Rattle.dd_catalogue_rounds.proofs.WaySteps.{few_emitted}

no_symbols : (ss : List Symbol) → length ss ≤ 0 → ss ≡ []
no_symbols [] low = refl
no_symbols (s ∷ ss) low = absurd (omega (arith, low))

-- where no member may be emitted before another one, the entry has none
pub nothing_emitted : (f g : Machine) (emitted : List Symbol) → (MayPart f 0 → ⊥) → Emits f g emitted → emitted ≡ []
nothing_emitted f g emitted not emits = no_symbols emitted (few_emitted f g 0 emitted not emits)

-- a part of no member emits none
pub part_nothing : (f g : Machine) (emitted : List Symbol) → EmitsPart f 0 g emitted → EmitsPart f 0 g []
part_nothing f g emitted part =
    let none = no_symbols emitted (let size = part.count in omega (arith, size)) in
    subst (EmitsPart f 0 g) none part
