use Rattle.std.proofs.Common.{rules}
use Rattle.dd_covers.proofs.TorusCovers.{middle_of, torus_above, morphism_above, within_lower}
use Rattle.dd_covers.proofs.torus_covers.flat_torus.Goals as goal

pub invariant_of-base : goal.invariant_of-base
invariant_of-base c = record {
  few = search rules;
  oriented = c.in_ok-middle.ensures.oriented;
  flat = (middle_of c.args.s.now c.in_ok-middle.middle.symbol c.in_ok-middle.middle.below c.symbol-symbol.ensures.symbol.symbol c.symbol-symbol.ensures.connected c.in_ok-middle.ensures.cover).flat c.requires.flat;
}

pub composed-requires : goal.composed-requires
composed-requires c =
    let s = c.args.s.now in
    let middle = c.in_ok-middle.middle in
    let upper = c.in_ok-upper.upper in
    record {
      within = within_lower s middle.symbol upper.symbol c.greatest_value-k.result middle.below upper.below
          (middle_of s middle.symbol middle.below c.symbol-symbol.ensures.symbol.symbol c.symbol-symbol.ensures.connected c.in_ok-middle.ensures.cover) c.in_ok-upper.ensures.cover;
    }

pub returns-clause-torus : goal.returns-clause-torus
returns-clause-torus c =
    let middle = c.in_ok-middle.middle in
    let upper = c.in_ok-upper.upper in
    torus_above c.args.s.now upper.symbol c.in_ok-upper-2.field-0 c.symbol-symbol.ensures.symbol.symbol c.symbol-symbol.ensures.connected c.requires.flat (record {
      middle = middle.symbol;
      lower = middle.below;
      oriented = c.in_ok-middle.ensures.cover;
      sheets = c.greatest_value-k.result;
      upper = upper.below;
      torus = c.in_ok-upper.ensures.cover;
      composed = c.in_ok-upper-2.ensures;
    })

pub returns-clause-morphism : goal.returns-clause-morphism
returns-clause-morphism c =
    let middle = c.in_ok-middle.middle in
    let upper = c.in_ok-upper.upper in
    morphism_above c.args.s.now upper.symbol c.in_ok-upper-2.field-0 c.symbol-symbol.ensures.symbol.symbol c.symbol-symbol.ensures.connected c.requires.flat (record {
      middle = middle.symbol;
      lower = middle.below;
      oriented = c.in_ok-middle.ensures.cover;
      sheets = c.greatest_value-k.result;
      upper = upper.below;
      torus = c.in_ok-upper.ensures.cover;
      composed = c.in_ok-upper-2.ensures;
    })
