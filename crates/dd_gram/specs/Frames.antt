-- The shape of the cell that a form gives.
use Rattle.std.specs.Prelude.{◌≡◌, ◌+ℤ◌, ◌-ℤ◌, ◌*ℤ◌, ◌≤ℤ◌, ◌<ℤ◌, ℤ, pos}
use Rattle.dd_model.specs.declared.frame.Frame.{Frame}
use Rattle.dd_model.specs.declared.frame.Frame.TheVariants as frames
use Rattle.dd_gram.specs.declared.forms.Gram.{Gram}

-- z is the greatest whole number with z d at most n
pub record IsWholePart (n d z : ℤ) : Type 0 where
  pub low : (z *ℤ d) ≤ℤ n
  pub high : n <ℤ ((z +ℤ pos 1) *ℤ d)

-- r is the greatest whole number of at least 0 with a square of at most n
pub record IsWholeRoot (n r : ℤ) : Type 0 where
  pub positive : pos 0 ≤ℤ r
  pub low : (r *ℤ r) ≤ℤ n
  pub high : n <ℤ ((r +ℤ pos 1) *ℤ (r +ℤ pos 1))

-- The first side of the cell is 1000 long. The second one goes p along it and q across it: p is the whole part of 1000 b / a, and q
-- that of the whole root of 1000000 (a c - b b), over a.
pub record IsOwnFrame (g : Gram) (frame : Frame) : Type 0 where
  pub p : ℤ
  pub q : ℤ
  pub is : frame ≡ frames.Own p q
  pub is_p : IsWholePart (pos 1000 *ℤ g.b) g.a p
  pub root : ℤ
  pub is_root : IsWholeRoot (pos 1000000 *ℤ (g.a *ℤ g.c -ℤ g.b *ℤ g.b)) root
  pub is_q : IsWholePart root g.a q
