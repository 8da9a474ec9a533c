use Rattle.std.proofs.Common.{◌≡◌, ◌∙◌, ◌+◌, ◌++◌, drop, get_or, length, map, append_assoc, refl, sym, subst, ap, decimal, arith}
use Rattle.std.specs.List.{flat_map}
use Rattle.dd_model.specs.Line.{after_space, spaced}
use Rattle.dd_model.specs.Symbol.{item}
use Rattle.dd_text.proofs.RestReads.{rest_of, first_and_rest, length-rest, within_rest}
use Rattle.dd_text.proofs.Spacing.{spaced_on, spaced_end, mapped-cons, mapped_end}
use Rattle.dd_text.proofs.told_degrees.put_at.Goals as goal

pub loop-chamber-init : goal.loop-chamber-init
loop-chamber-init c = record { text = refl; len = omega arith; capacity = refl }

pub overflow_sub-chamber : goal.overflow_sub-chamber
overflow_sub-chamber c =
    (within_rest (length c.args.degrees.now) c.args.chambers.now c.in-len1-up.len_at_least c.requires.within c.loop-chamber.chamber-index 0 c.loop-chamber-test.true).0

pub bounds-degrees-chamber : goal.bounds-degrees-chamber
bounds-degrees-chamber c =
    let within = within_rest (length c.args.degrees.now) c.args.chambers.now c.in-len1-up.len_at_least c.requires.within c.loop-chamber.chamber-index 0 c.loop-chamber-test.true in
    let low = within.0 in
    let high = within.1 in
    omega arith

pub put_degree-requires-in-loop-chamber : goal.put_degree-requires-in-loop-chamber
put_degree-requires-in-loop-chamber c =
    let count = length-rest c.args.chambers.now c.in-len1-up.len_at_least in
    let left = c.loop-chamber-test.true in
    omega (arith, c.requires.room, c.put_degree.ensures.len, c.put_degree.ensures.capacity, c.loop-chamber.invariant.len, c.loop-chamber.invariant.capacity, c.push_reserved.ensures.len, c.push_reserved.ensures.capacity)

pub loop-chamber-preserved : goal.loop-chamber-preserved
loop-chamber-preserved c =
    let m = c.args.degrees.now in
    let rest = rest_of c.args.chambers.now in
    let k = c.loop-chamber.chamber-index in
    let now = c.loop-chamber.out.items in
    let whole = c.put_degree.new.out.items ++ flat_map after_space (map (item m) rest) in
    record {
      text = spaced_on (item m (get_or rest k 0)) (map (item m) (drop (k + 1) rest)) now c.push_reserved.new.self.items c.put_degree-in-loop-chamber.new.out.items whole
          (subst (λ left. now ++ flat_map after_space left ≡ whole) (mapped-cons (item m) rest k c.loop-chamber-test.true) c.loop-chamber.invariant.text)
          c.push_reserved.ensures.items c.put_degree-in-loop-chamber.ensures.degree;
      len = omega (arith, c.loop-chamber.invariant.len, c.push_reserved.ensures.len, c.put_degree-in-loop-chamber.ensures.len);
      capacity = c.put_degree-in-loop-chamber.ensures.capacity ∙ c.push_reserved.ensures.capacity ∙ c.loop-chamber.invariant.capacity;
    }

pub returns-clause-degrees : goal.returns-clause-degrees
returns-clause-degrees c =
    let m = c.args.degrees.now in
    let chambers = c.args.chambers.now in
    let rest = rest_of chambers in
    let old = c.args.out.now.items in
    let first = item m (get_or chambers 0 0) in
    let whole = c.put_degree.new.out.items ++ flat_map after_space (map (item m) rest) in
    let all = spaced_end c.loop-chamber.out.items whole
    (subst (λ left. c.loop-chamber.out.items ++ flat_map after_space left ≡ whole) (mapped_end (item m) rest c.loop-chamber.chamber-index c.loop-chamber-test.false) c.loop-chamber.invariant.text) in
    all
    ∙ ap (λ t. t ++ flat_map after_space (map (item m) rest)) c.put_degree.ensures.degree
    ∙ append_assoc old (decimal first) (flat_map after_space (map (item m) rest))
    ∙ ap (λ ds. old ++ spaced (map (item m) ds)) (sym (first_and_rest chambers c.in-len1-up.len_at_least))

pub returns-clause-len : goal.returns-clause-len
returns-clause-len c =
    let count = length-rest c.args.chambers.now c.in-len1-up.len_at_least in
    omega (arith, c.put_degree.ensures.len, c.loop-chamber.invariant.len, c.loop-chamber-test.false, c.loop-chamber.auto.chamber-index-end)
