-- Even whole numbers.
use Rattle.std.specs.Prelude.{◌≡◌, ℤ, ◌+ℤ◌}

-- a number is twice another
pub record IsEvenNumber (number : ℤ) : Type 0 where
  pub half : ℤ
  pub twice : number ≡ half +ℤ half
