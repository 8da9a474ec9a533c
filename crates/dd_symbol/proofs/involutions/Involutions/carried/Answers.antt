use Rattle.std.proofs.Common.{◌≤◌, length, get_or, sym, ap, subst}
use Rattle.dd_model.specs.declared.index.Index.TheVariants.{Zero, One, Two}
use Rattle.dd_model.specs.Symbol.{op}
use Rattle.dd_symbol.proofs.involutions.Involutions.carried.Goals as goal

pub item-requires-2-clause-low : goal.item-requires-2-clause-low
item-requires-2-clause-low c =
    subst (λ x. 1 ≤ x) (sym (ap (λ xs. get_or xs 0 0) c.images-images.ensures.images)) (c.images-images.ensures.within Zero).0

pub item-requires-2-clause-high : goal.item-requires-2-clause-high
item-requires-2-clause-high c =
    subst (λ x. x ≤ length c.args.map.now) (sym (ap (λ xs. get_or xs 0 0) c.images-images.ensures.images))
    (subst (λ n. op c.args.self.now Zero c.item.result ≤ n) (sym c.requires.maps.images) (c.images-images.ensures.within Zero).1)

pub item-requires-3-clause-low : goal.item-requires-3-clause-low
item-requires-3-clause-low c =
    subst (λ x. 1 ≤ x) (sym (ap (λ xs. get_or xs 1 0) c.images-images.ensures.images)) (c.images-images.ensures.within One).0

pub item-requires-3-clause-high : goal.item-requires-3-clause-high
item-requires-3-clause-high c =
    subst (λ x. x ≤ length c.args.map.now) (sym (ap (λ xs. get_or xs 1 0) c.images-images.ensures.images))
    (subst (λ n. op c.args.self.now One c.item.result ≤ n) (sym c.requires.maps.images) (c.images-images.ensures.within One).1)

pub item-requires-4-clause-low : goal.item-requires-4-clause-low
item-requires-4-clause-low c =
    subst (λ x. 1 ≤ x) (sym (ap (λ xs. get_or xs 2 0) c.images-images.ensures.images)) (c.images-images.ensures.within Two).0

pub item-requires-4-clause-high : goal.item-requires-4-clause-high
item-requires-4-clause-high c =
    subst (λ x. x ≤ length c.args.map.now) (sym (ap (λ xs. get_or xs 2 0) c.images-images.ensures.images))
    (subst (λ n. op c.args.self.now Two c.item.result ≤ n) (sym c.requires.maps.images) (c.images-images.ensures.within Two).1)
