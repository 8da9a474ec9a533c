-- How the list of written corners grows.
use Rattle.std.proofs.Common.{◌≡◌, ℕ, ◌+◌, ◌<◌, List, [], ◌∷◌, ◌++◌, length, take, get_or, sym, ap, ◌∙◌, subst}
use Rattle.std.proofs.lemmas.List.{take_more}
use Rattle.dd_name.specs.declared.joints.Joint.{Joint}
use Rattle.dd_name.specs.Rounds.{corners}
use Rattle.dd_name.specs.Arranged.{IsGreatestTurned}
use Rattle.dd_name.specs.Boundaries.{AreWritten}

written-push : (rounds : List (List Joint)) (lists : List (List ℕ)) (r : List Joint) (c : List ℕ) → AreWritten rounds lists → IsGreatestTurned (corners r) c
    → AreWritten (rounds ++ r ∷ []) (lists ++ c ∷ [])
written-push [] [] r c all one = (one, tt)
written-push [] (l ∷ lists) r c all one = absurd all
written-push (q ∷ rounds) [] r c all one = absurd all
written-push (q ∷ rounds) (l ∷ lists) r c all one = (all.0, written-push rounds lists r c all.1 one)

pub written_more : (rounds : List (List Joint)) (k : ℕ) (lists : List (List ℕ)) (r : List Joint) (c : List ℕ) → k < length rounds → get_or rounds k r ≡ r
    → AreWritten (take k rounds) lists → IsGreatestTurned (corners r) c → AreWritten (take (k + 1) rounds) (lists ++ c ∷ [])
written_more rounds k lists r c low at all one =
    subst (λ (rs : List (List Joint)). AreWritten rs (lists ++ c ∷ [])) (sym (take_more rounds k r low ∙ ap (λ (q : List Joint). take k rounds ++ q ∷ []) at))
    (written-push (take k rounds) lists r c all one)
