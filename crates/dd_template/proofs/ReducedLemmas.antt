-- Striking equal neighbours and exchanging 2 0 end in the reduced word, whatever their order.
use Rattle.std.proofs.Common.{◌≡◌, [], ◌∷◌, ◌++◌, refl, ap, ◌∙◌}
use Rattle.dd_model.specs.Symbol.{Word}
use Rattle.dd_model.specs.declared.index.Index.{Index}
use Rattle.dd_model.specs.declared.index.Index.TheVariants.{Zero, One, Two}
use Rattle.dd_template.specs.Reduced.{put, reduced, IsReduced}

tail : (i : Index) (w : Word) → IsReduced (i ∷ w) → IsReduced w
tail i [] h = tt
tail i (j ∷ w) h = h.1

pub put_reduced : (i : Index) (w : Word) → IsReduced w → IsReduced (put i w)
put_reduced Zero [] h = tt
put_reduced Zero (Zero ∷ w) h = tail Zero w h
put_reduced Zero (One ∷ w) h = (tt, h)
put_reduced Zero (Two ∷ w) h = (tt, h)
put_reduced One [] h = tt
put_reduced One (Zero ∷ w) h = (tt, h)
put_reduced One (One ∷ w) h = tail One w h
put_reduced One (Two ∷ w) h = (tt, h)
put_reduced Two [] h = tt
put_reduced Two (Zero ∷ []) h = (tt, tt)
put_reduced Two (Zero ∷ Zero ∷ w) h = absurd h.0
put_reduced Two (Zero ∷ One ∷ w) h = (tt, (tt, h.1))
put_reduced Two (Zero ∷ Two ∷ []) h = tt
put_reduced Two (Zero ∷ Two ∷ Zero ∷ w) h = absurd h.1.0
put_reduced Two (Zero ∷ Two ∷ One ∷ w) h = (tt, h.1.1)
put_reduced Two (Zero ∷ Two ∷ Two ∷ w) h = absurd h.1.0
put_reduced Two (One ∷ w) h = (tt, h)
put_reduced Two (Two ∷ w) h = tail Two w h

pub put_twice : (i : Index) (w : Word) → IsReduced w → put i (put i w) ≡ w
put_twice Zero [] h = refl
put_twice Zero (Zero ∷ []) h = refl
put_twice Zero (Zero ∷ Zero ∷ w) h = absurd h.0
put_twice Zero (Zero ∷ One ∷ w) h = refl
put_twice Zero (Zero ∷ Two ∷ w) h = refl
put_twice Zero (One ∷ w) h = refl
put_twice Zero (Two ∷ w) h = refl
put_twice One [] h = refl
put_twice One (Zero ∷ w) h = refl
put_twice One (One ∷ []) h = refl
put_twice One (One ∷ Zero ∷ w) h = refl
put_twice One (One ∷ One ∷ w) h = absurd h.0
put_twice One (One ∷ Two ∷ w) h = refl
put_twice One (Two ∷ w) h = refl
put_twice Two [] h = refl
put_twice Two (Zero ∷ []) h = refl
put_twice Two (Zero ∷ Zero ∷ w) h = absurd h.0
put_twice Two (Zero ∷ One ∷ w) h = refl
put_twice Two (Zero ∷ Two ∷ []) h = refl
put_twice Two (Zero ∷ Two ∷ Zero ∷ w) h = absurd h.1.0
put_twice Two (Zero ∷ Two ∷ One ∷ w) h = refl
put_twice Two (Zero ∷ Two ∷ Two ∷ w) h = absurd h.1.0
put_twice Two (One ∷ w) h = refl
put_twice Two (Two ∷ []) h = refl
put_twice Two (Two ∷ Zero ∷ w) h = absurd h.0
put_twice Two (Two ∷ One ∷ w) h = refl
put_twice Two (Two ∷ Two ∷ w) h = absurd h.0

pub put_exchanged : (w : Word) → IsReduced w → put Two (put Zero w) ≡ put Zero (put Two w)
put_exchanged [] h = refl
put_exchanged (Zero ∷ []) h = refl
put_exchanged (Zero ∷ Zero ∷ w) h = absurd h.0
put_exchanged (Zero ∷ One ∷ w) h = refl
put_exchanged (Zero ∷ Two ∷ w) h = refl
put_exchanged (One ∷ w) h = refl
put_exchanged (Two ∷ []) h = refl
put_exchanged (Two ∷ Zero ∷ w) h = absurd h.0
put_exchanged (Two ∷ One ∷ w) h = refl
put_exchanged (Two ∷ Two ∷ w) h = absurd h.0

put_before : (i : Index) (w : Word) → IsReduced (i ∷ w) → put i w ≡ i ∷ w
put_before Zero [] h = refl
put_before Zero (Zero ∷ w) h = absurd h.0
put_before Zero (One ∷ w) h = refl
put_before Zero (Two ∷ w) h = refl
put_before One [] h = refl
put_before One (Zero ∷ w) h = refl
put_before One (One ∷ w) h = absurd h.0
put_before One (Two ∷ w) h = refl
put_before Two [] h = refl
put_before Two (Zero ∷ w) h = absurd h.0
put_before Two (One ∷ w) h = refl
put_before Two (Two ∷ w) h = absurd h.0

pub reduced_is_reduced : (w : Word) → IsReduced (reduced w)
reduced_is_reduced [] = tt
reduced_is_reduced (i ∷ w) = put_reduced i (reduced w) (reduced_is_reduced w)

pub reduced_stays : (w : Word) → IsReduced w → reduced w ≡ w
reduced_stays [] h = refl
reduced_stays (i ∷ w) h = ap (put i) (reduced_stays w (tail i w h)) ∙ put_before i w h

pub reduced_struck : (u v : Word) (i : Index) → reduced (u ++ i ∷ i ∷ v) ≡ reduced (u ++ v)
reduced_struck [] v i = put_twice i (reduced v) (reduced_is_reduced v)
reduced_struck (j ∷ u) v i = ap (put j) (reduced_struck u v i)

pub reduced_exchanged : (u v : Word) → reduced (u ++ Two ∷ Zero ∷ v) ≡ reduced (u ++ Zero ∷ Two ∷ v)
reduced_exchanged [] v = put_exchanged (reduced v) (reduced_is_reduced v)
reduced_exchanged (j ∷ u) v = ap (put j) (reduced_exchanged u v)
