-- Lists of calls, to which one more call comes.
use Rattle.std.proofs.Common.{◌≡◌, List, ℕ, [], ◌∷◌, ◌++◌, map, append_assoc, refl, sym, ap, ◌∙◌, subst}
use Rattle.std.proofs.lemmas.List.{append-nil, map-append}
use Rattle.std.specs.List.{AllByRecursion}
use Rattle.dd_check.specs.Calls.{Call}
use Rattle.dd_check.specs.Chains.{IsPart, IsJoined, EndsAs}
use Rattle.dd_suite.specs.Chains.{ProgramCall, call_of, chain_ending}
use Rattle.dd_suite_tasks.specs.declared.status.Status.{Status}
use Rattle.dd_suite_chains.specs.Drives.{EndAs, GoesOn, GoOn}

pub ends_last : (calls : List ProgramCall) (p : ProgramCall) → EndAs (calls ++ (p ∷ [])) p.status
ends_last [] p = refl
ends_last (q ∷ []) p = refl
ends_last (q ∷ r ∷ calls) p = ends_last (r ∷ calls) p

pub all_went_on : (name : List ℕ) (calls : List ProgramCall) (p : ProgramCall) → AllByRecursion (GoesOn name) calls → GoOn name (calls ++ (p ∷ []))
all_went_on name [] p all = tt
all_went_on name (q ∷ []) p all = (all.0, tt)
all_went_on name (q ∷ r ∷ calls) p all = (all.0, all_went_on name (r ∷ calls) p all.1)

pub one_went_on : (name : List ℕ) (calls : List ProgramCall) (p : ProgramCall) → AllByRecursion (GoesOn name) calls → GoesOn name p
    → AllByRecursion (GoesOn name) (calls ++ (p ∷ []))
one_went_on name [] p all is = (is, tt)
one_went_on name (q ∷ calls) p all is = (all.0, one_went_on name calls p all.1 is)

-- what calls give of which none is the last
abbrev pub AreParts : List Call → List ℕ → Type 0
AreParts [] bytes = bytes ≡ []
AreParts (call ∷ calls) bytes = (part : List ℕ) × (rest : List ℕ) × IsPart call part × AreParts calls rest × (bytes ≡ part ++ rest)

part_more : (calls : List Call) (call : Call) (bytes part : List ℕ) → AreParts calls bytes → IsPart call part → AreParts (calls ++ (call ∷ [])) (bytes ++ part)
part_more [] call bytes part are is = (part, [], is, refl, ap (λ z. z ++ part) are ∙ sym (append-nil part))
part_more (first ∷ calls) call bytes part are is =
    (are.0, are.1 ++ part, are.2, part_more calls call are.1 part are.3 is, ap (λ z. z ++ part) are.4 ∙ append_assoc are.0 are.1 part)

joined_last : (calls : List Call) (call : Call) (bytes : List ℕ) → AreParts calls bytes → IsJoined (calls ++ (call ∷ [])) (bytes ++ call.output)
joined_last [] call bytes are = ap (λ z. z ++ call.output) are
joined_last (first ∷ []) call bytes are =
    (are.0, are.1 ++ call.output, are.2, joined_last [] call are.1 are.3, ap (λ z. z ++ call.output) are.4 ∙ append_assoc are.0 are.1 call.output)
joined_last (first ∷ next ∷ calls) call bytes are =
    (are.0, are.1 ++ call.output, are.2, joined_last (next ∷ calls) call are.1 are.3, ap (λ z. z ++ call.output) are.4 ∙ append_assoc are.0 are.1 call.output)

pub one_part_more : (calls : List ProgramCall) (p : ProgramCall) (bytes part : List ℕ) → AreParts (map call_of calls) bytes → IsPart (call_of p) part
    → AreParts (map call_of (calls ++ (p ∷ []))) (bytes ++ part)
one_part_more calls p bytes part are is =
    subst (λ cs. AreParts cs (bytes ++ part)) (sym (map-append call_of calls (p ∷ []))) (part_more (map call_of calls) (call_of p) bytes part are is)

pub joined_with_last : (calls : List ProgramCall) (p : ProgramCall) (bytes : List ℕ) → AreParts (map call_of calls) bytes
    → IsJoined (map call_of (calls ++ (p ∷ []))) (bytes ++ p.output)
joined_with_last calls p bytes are =
    subst (λ cs. IsJoined cs (bytes ++ p.output)) (sym (map-append call_of calls (p ∷ []))) (joined_last (map call_of calls) (call_of p) bytes are)

-- how the last call of the program ended is how that of the chain did
pub chain_ends_as : (calls : List ProgramCall) (status : Status) → EndAs calls status → EndsAs (map call_of calls) (chain_ending status)
chain_ends_as [] status is = absurd is
chain_ends_as (p ∷ []) status is = ap chain_ending is
chain_ends_as (p ∷ next ∷ calls) status is = chain_ends_as (next ∷ calls) status is
