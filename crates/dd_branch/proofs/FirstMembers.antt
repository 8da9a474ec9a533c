-- The first members of a catalogue.
use Rattle.std.proofs.Common.{◌≡◌, ◌⊎◌, ◌+◌, ◌<◌, List, [], ◌∷◌, ◌++◌}
use Rattle.dd_model.specs.Symbol.{Symbol}
use Rattle.dd_model.specs.Wanted.{IsCatalogue}
use Rattle.dd_model.specs.declared.requests.Request.{Request}
use Rattle.dd_model.proofs.AscendingFronts.{begins_with}
use Rattle.dd_model.specs.Joined.{AreFirstMembers}

-- each catalogue begins with its first members
pub catalogue_begins : (q : Request) (ss ts : List Symbol) → AreFirstMembers q ss → IsCatalogue q ts → (rest : List Symbol) × (ts ≡ ss ++ rest)
catalogue_begins q ss ts first is =
    begins_with ss ts first.ascending is.ascending (λ s there. (is.members s).1 (first.members s there)) (λ t there. first.first t ((is.members t).0 there))
