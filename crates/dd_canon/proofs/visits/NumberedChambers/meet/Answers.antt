use Rattle.std.proofs.Common.{◌≡◌, ◌+◌, length, ap, ◌∙◌, arith}
use Rattle.std.proofs.lemmas.List.{length_push}
use Rattle.dd_canon.proofs.Meetings.{met_visit, meeting_new}
use Rattle.dd_canon.proofs.visits.NumberedChambers.meet.Goals as goal

pub returns-clause-ready : goal.returns-clause-ready
returns-clause-ready c =
    let n = c.args.s.now.size in
    let order = c.args.self.now.order.items in
    let number = c.args.self.now.number.items in
    let d = c.args.chamber in
    let ready = c.requires.ready in
    let longer : length c.push_reserved.new.self.items ≡ length order + 1 = ap length c.push_reserved.ensures.items ∙ length_push order d in
    let e : c.len-number.result ≡ length order + 1 = omega arith in
    record {
      symbol = ready.symbol;
      connected = ready.connected;
      visit = rw (c.push_reserved.ensures.items, e) (met_visit n order number d ready.visit c.requires.chamber.0 c.requires.chamber.1 (cc));
      room = rw c.push_reserved.ensures.capacity ready.room;
    }

pub returns-clause-meeting : goal.returns-clause-meeting
returns-clause-meeting c =
    let order = c.args.self.now.order.items in
    let d = c.args.chamber in
    let longer : length c.push_reserved.new.self.items ≡ length order + 1 = ap length c.push_reserved.ensures.items ∙ length_push order d in
    let e : c.len-number.result ≡ length order + 1 = omega arith in
    rw (c.push_reserved.ensures.items, e)
    (meeting_new c.args.s.now.size order c.args.self.now.number.items d c.requires.ready.visit c.requires.chamber.0 c.requires.chamber.1)
