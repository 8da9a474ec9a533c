-- A fault that is handed on.
use Rattle.std.proofs.Common.{◌≡◌, Result, Ok, Err, sym, ◌∙◌}
use Rattle.std.specs.Result.{IsErrAnd}
use Rattle.dd_words.specs.declared.fault.WordsFault.{WordsFault}
use Rattle.dd_words.specs.declared.fault.WordsFault.TheVariants.{NotTaken}

pub same_fault : {A : Type 0} (r : Result A WordsFault) (e : WordsFault) → IsErrAnd r (λ x. x ≡ e) → r ≡ Err NotTaken → e ≡ NotTaken
same_fault (Ok a) e h f = absurd (cc)
same_fault (Err x) e h f = let same : x ≡ NotTaken = cc in sym h ∙ same
