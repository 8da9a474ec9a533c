-- A text that is written in three pieces.
use Rattle.std.proofs.Common.{◌≡◌, ℕ, List, [], ◌++◌, Option, refl, sym, ap, ◌∙◌, append_assoc}
use Rattle.std.proofs.lemmas.List.{append-nil}
use Rattle.std.specs.Io.KnownBytes.{Appends}
use Rattle.dd_ports.specs.Grows.{GrowsByPrefix}
use Rattle.dd_ports.proofs.Growth.{Appends_trans, prefix_after}

module _ (a b c d : Option (List ℕ)) (xs ys zs text : List ℕ) (parts : xs ++ (ys ++ zs) ≡ text) where
  pub first_piece : GrowsByPrefix a b xs → GrowsByPrefix a b text
  first_piece p = (p.0, p.1 ++ (ys ++ zs), sym (append_assoc p.0 p.1 (ys ++ zs)) ∙ ap (λ t. t ++ (ys ++ zs)) p.2 ∙ parts, p.3)

  pub second_piece : Appends a b xs → GrowsByPrefix b c ys → GrowsByPrefix a c text
  second_piece p q = prefix_after a b c xs ys zs text p q parts

  pub third_piece : Appends a b xs → Appends b c ys → GrowsByPrefix c d zs → GrowsByPrefix a d text
  third_piece p q r =
      prefix_after a c d (xs ++ ys) zs [] text (Appends_trans a b c xs ys (xs ++ ys) p q refl) r
      (ap (λ t. (xs ++ ys) ++ t) (append-nil zs) ∙ append_assoc xs ys zs ∙ parts)

  pub all_pieces : Appends a b xs → Appends b c ys → Appends c d zs → Appends a d text
  all_pieces p q r = Appends_trans a c d (xs ++ ys) zs text (Appends_trans a b c xs ys (xs ++ ys) p q refl) r (append_assoc xs ys zs ∙ parts)
