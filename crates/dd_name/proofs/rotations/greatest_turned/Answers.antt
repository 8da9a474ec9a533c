use Rattle.std.proofs.Common.{◌≡◌, ◌++◌, sym, ap, ◌∙◌, subst}
use Rattle.std.specs.Prelude.{reverse}
use Rattle.std.proofs.lemmas.List.{reverse-append}
use Rattle.std.specs.Ordering.{is_lt}
use Rattle.dd_name.specs.Arranged.{IsGreatestTurned, dictionary}
use Rattle.dd_name.proofs.RotationLemmas.{turned_forward, turned_backward}
use Rattle.dd_name.proofs.rotations.greatest_turned.Goals as goal
use Rattle.dd_name.proofs.rotations.greatest_turned.Goals.{then-is_lt, else-is_lt}

pub returns : goal.returns
returns c =
    let xs = c.args.list.now in
    let twice : c.extend_from_slice.new.self.items ≡ xs ++ xs = c.in_ok-extend_from_slice.ensures.items ∙ ap (λ ys. ys ++ xs) c.in_ok-doubled.ensures.items in
    let forward = c.greatest_rotation-forward.ensures xs (c.deref-2.ensures.value ∙ twice) in
    let mirrored : c.reverse.new.self.items ≡ reverse xs ++ reverse xs =
    c.reverse.ensures.items ∙ ap reverse (c.in_ok-mirrored.ensures.items ∙ c.deref.ensures.value ∙ twice) ∙ reverse-append xs xs in
    let backward = c.greatest_rotation-backward.ensures (reverse xs) (c.deref-3.ensures.value ∙ mirrored) in
    let order : c.is_lt.result ≡ is_lt (dictionary c.greatest_rotation-forward.result.now c.greatest_rotation-backward.result.now) =
    c.is_lt.ensures ∙ ap is_lt c.cmp.ensures in
    subst (IsGreatestTurned xs) (sym (c.from_vec.ensures ∙ c.in_ok-from_slice.ensures.items))
    (elim c.if-is_lt.branch [
      | then-is_lt w ↦
          subst (λ g. IsGreatestTurned xs g.now) (sym w.greatest-is)
          (turned_backward xs c.greatest_rotation-forward.result.now c.greatest_rotation-backward.result.now forward backward (sym order ∙ w.if-is_lt.true))
      | else-is_lt w ↦
          subst (λ g. IsGreatestTurned xs g.now) (sym w.greatest-is)
          (turned_forward xs c.greatest_rotation-forward.result.now c.greatest_rotation-backward.result.now forward backward (sym order ∙ w.if-is_lt.false))
    ])
