use Rattle.std.proofs.Common.{◌≡◌, ◌++◌, ◌∷◌, [], ⊎_elim, rules, arith}
use Rattle.dd_canon.specs.Traversal.{IsVisit}
use Rattle.dd_canon.proofs.Meetings.{left_visit, last_inside, met_visit}
use Rattle.dd_canon.proofs.visits.NumberedChambers.begin.Goals as goal

pub overflow_sub-chamber : goal.overflow_sub-chamber
overflow_sub-chamber c =
    let n = c.args.s.now.size in
    let v : IsVisit n (c.pop.new.self.items ++ c.in-Some.chamber ∷ []) c.loop-chamber.self.number.items = rw (← c.in-Some.ensures.items) c.loop-chamber.invariant.visit in
    (last_inside n c.pop.new.self.items c.loop-chamber.self.number.items c.in-Some.chamber v).0

pub index_mut-requires : goal.index_mut-requires
index_mut-requires c =
    let n = c.args.s.now.size in
    let v : IsVisit n (c.pop.new.self.items ++ c.in-Some.chamber ∷ []) c.loop-chamber.self.number.items = rw (← c.in-Some.ensures.items) c.loop-chamber.invariant.visit in
    let high = (last_inside n c.pop.new.self.items c.loop-chamber.self.number.items c.in-Some.chamber v).1 in
    let low = (last_inside n c.pop.new.self.items c.loop-chamber.self.number.items c.in-Some.chamber v).0 in
    let size = v.numbers in
    omega arith

pub loop-chamber-preserved : goal.loop-chamber-preserved
loop-chamber-preserved c =
    let n = c.args.s.now.size in
    let v : IsVisit n (c.pop.new.self.items ++ c.in-Some.chamber ∷ []) c.loop-chamber.self.number.items = rw (← c.in-Some.ensures.items) c.loop-chamber.invariant.visit in
    record {
      symbol = c.loop-chamber.invariant.symbol;
      connected = c.loop-chamber.invariant.connected;
      visit = left_visit n c.pop.new.self.items c.loop-chamber.self.number.items c.in-Some.chamber v;
      room = rw c.pop.ensures.capacity c.loop-chamber.invariant.room;
    }

pub returns-clause-ready : goal.returns-clause-ready
returns-clause-ready c =
    let n = c.args.s.now.size in
    let start = c.args.start in
    let ready = c.loop-chamber.invariant in
    let number = c.loop-chamber.self.number.items in
    let empty : c.loop-chamber.self.order.items ≡ [] = search rules in
    let order : c.push_reserved.new.self.items ≡ start ∷ [] = search rules in
    let v : IsVisit n [] number = rw (← empty) ready.visit in
    let none = ⊎_elim (λ e. e) (λ h. absurd (let high = h.1 in let low = h.0 in omega arith)) (v.ordered start c.requires.start.0 c.requires.start.1) in
    record {
      symbol = ready.symbol;
      connected = ready.connected;
      visit = rw order (met_visit n [] number start v c.requires.start.0 c.requires.start.1 none);
      room = rw (c.push_reserved.ensures.capacity, c.pop.ensures.capacity) ready.room;
    }
