use Rattle.std.proofs.Common.{◌≡◌, [], ◌+◌, sym, ap, ◌∙◌, subst, arith}
use Rattle.dd_model.specs.declared.pair.Pair.TheVariants.{Tile, Vertex}
use Rattle.dd_model.specs.Symbol.{Symbol, IsTable, item}
use Rattle.dd_canon.proofs.Traversals.{done_all}
use Rattle.dd_canon.specs.Standing.{IsOngoing, IsStanding, IsWhole}
use Rattle.dd_canon.proofs.OrderLemmas.{equal_not_greater}
use Rattle.dd_model.proofs.Orders.{equal_of}
use Rattle.dd_canon.proofs.VisitLemmas.{begun}
use Rattle.dd_canon.proofs.StandingLemmas.{AreCompared, rows_decide, not_fallen, m01_decides, m12_decides, whole}
use Rattle.dd_canon.proofs.visits.NumberedChambers.stand.Goals as goal

pub rows-rows-requires-clause-traversal : goal.rows-rows-requires-clause-traversal
rows-rows-requires-clause-traversal g c =
    let sizes : c.lend-to.result.size ≡ c.lend-from.result.size = ap (λ (t : Symbol). t.size) c.lend-to.ensures.same ∙ c.requires.size ∙ sym (ap (λ (t : Symbol). t.size) c.lend-from.ensures.same) in
    begun c.lend-from.result c.lend-to.result c.args.start c.begin.new.self.order.items c.begin.new.self.number.items
    sizes c.begin.ensures.order c.begin.ensures.ready.visit

pub returns-then-is_ne-clause-standing : goal.returns-then-is_ne-clause-standing
returns-then-is_ne-clause-standing g c =
    let s = c.lend-from.result in
    let b = c.lend-to.result in
    let order = c.rows-rows.new.self.order.items in
    let number = c.rows-rows.new.self.number.items in
    let start_is : item c.begin.new.self.order.items 1 ≡ c.args.start = ap (λ xs. item xs 1) c.begin.ensures.order in
    let ongoing = subst (λ d. IsOngoing s b d order number (s.size + 1) (λ u. []) c.rows-rows.result) start_is c.rows-rows.ensures.ongoing in
    subst (λ x. IsStanding x c.args.form.now c.args.start c.rows-rows.result) c.lend-from.ensures.same
    (subst (λ x. IsStanding s x c.args.start c.rows-rows.result) c.lend-to.ensures.same (rows_decide s b c.args.start order number c.rows-rows.result ongoing (cc)))

pub returns-then-is_ne-clause-whole : goal.returns-then-is_ne-clause-whole
returns-then-is_ne-clause-whole g c here =
    let s = c.lend-from.result in
    let b = c.lend-to.result in
    let order = c.rows-rows.new.self.order.items in
    let number = c.rows-rows.new.self.number.items in
    let start_is : item c.begin.new.self.order.items 1 ≡ c.args.start = ap (λ xs. item xs 1) c.begin.ensures.order in
    let ongoing = subst (λ d. IsOngoing s b d order number (s.size + 1) (λ u. []) c.rows-rows.result) start_is c.rows-rows.ensures.ongoing in
    let on = not_fallen s b c.args.start order number c.rows-rows.result ongoing here in
    let ready = c.rows-rows.ensures.ready in
    subst (λ x. IsWhole x c.args.start order number) c.lend-from.ensures.same
    (whole s b c.args.start order number c.rows-rows.result ready.symbol.symbol.table ready.connected on.0 on.1)

pub degrees-m01-requires-clause-full : goal.degrees-m01-requires-clause-full
degrees-m01-requires-clause-full g c =
    let s = c.lend-from.result in
    let b = c.lend-to.result in
    let order = c.rows-rows.new.self.order.items in
    let number = c.rows-rows.new.self.number.items in
    let equal = equal_of c.rows-rows.result (cc) in
    let on = not_fallen s b _ order number c.rows-rows.result c.rows-rows.ensures.ongoing (equal_not_greater c.rows-rows.result equal) in
    let room = on.0.visit.room in
    let ready = c.rows-rows.ensures.ready in
    done_all s b order number (s.size + 1) (λ u. []) c.rows-rows.result ready.symbol.symbol.table ready.connected on.0 (omega arith)

pub returns-then-is_ne-2-clause-standing : goal.returns-then-is_ne-2-clause-standing
returns-then-is_ne-2-clause-standing g c =
    let s = c.lend-from.result in
    let b = c.lend-to.result in
    let order = c.rows-rows.new.self.order.items in
    let number = c.rows-rows.new.self.number.items in
    let start_is : item c.begin.new.self.order.items 1 ≡ c.args.start = ap (λ xs. item xs 1) c.begin.ensures.order in
    let equal = equal_of c.rows-rows.result (cc) in
    let on = not_fallen s b _ order number c.rows-rows.result c.rows-rows.ensures.ongoing (equal_not_greater c.rows-rows.result equal) in
    let compared : AreCompared s b Tile order c.degrees-m01.result = record { verdict = c.degrees-m01.ensures.order } in
    let from = c.lend-from.ensures.same in
    let to = c.lend-to.ensures.same in
    let sizes : b.size ≡ s.size = ap (λ (t : Symbol). t.size) to ∙ c.requires.size ∙ sym (ap (λ (t : Symbol). t.size) from) in
    subst (λ x. IsStanding x c.args.form.now c.args.start c.degrees-m01.result) from
    (subst (λ x. IsStanding s x c.args.start c.degrees-m01.result) to
    (m01_decides s b c.args.start order number c.rows-rows.result c.degrees-m01.result (subst IsTable (sym to) c.lend-to.ensures.symbol.symbol.table)
    sizes equal on.0 (on.1 ∙ start_is) compared (cc)))

pub returns-then-is_ne-2-clause-whole : goal.returns-then-is_ne-2-clause-whole
returns-then-is_ne-2-clause-whole g c here =
    let s = c.lend-from.result in
    let b = c.lend-to.result in
    let order = c.rows-rows.new.self.order.items in
    let number = c.rows-rows.new.self.number.items in
    let start_is : item c.begin.new.self.order.items 1 ≡ c.args.start = ap (λ xs. item xs 1) c.begin.ensures.order in
    let equal = equal_of c.rows-rows.result (cc) in
    let on = not_fallen s b _ order number c.rows-rows.result c.rows-rows.ensures.ongoing (equal_not_greater c.rows-rows.result equal) in
    let ready = c.rows-rows.ensures.ready in
    subst (λ x. IsWhole x c.args.start order number) c.lend-from.ensures.same
    (whole s b c.args.start order number c.rows-rows.result ready.symbol.symbol.table ready.connected on.0 (on.1 ∙ start_is))

pub degrees-requires-clause-full : goal.degrees-requires-clause-full
degrees-requires-clause-full g c =
    let s = c.lend-from.result in
    let b = c.lend-to.result in
    let order = c.rows-rows.new.self.order.items in
    let number = c.rows-rows.new.self.number.items in
    let equal = equal_of c.rows-rows.result (cc) in
    let on = not_fallen s b _ order number c.rows-rows.result c.rows-rows.ensures.ongoing (equal_not_greater c.rows-rows.result equal) in
    let room = on.0.visit.room in
    let ready = c.rows-rows.ensures.ready in
    done_all s b order number (s.size + 1) (λ u. []) c.rows-rows.result ready.symbol.symbol.table ready.connected on.0 (omega arith)

pub returns-clause-standing : goal.returns-clause-standing
returns-clause-standing g c =
    let s = c.lend-from.result in
    let b = c.lend-to.result in
    let order = c.rows-rows.new.self.order.items in
    let number = c.rows-rows.new.self.number.items in
    let start_is : item c.begin.new.self.order.items 1 ≡ c.args.start = ap (λ xs. item xs 1) c.begin.ensures.order in
    let equal = equal_of c.rows-rows.result (cc) in
    let on = not_fallen s b _ order number c.rows-rows.result c.rows-rows.ensures.ongoing (equal_not_greater c.rows-rows.result equal) in
    let compared : AreCompared s b Tile order c.degrees-m01.result = record { verdict = c.degrees-m01.ensures.order } in
    let later : AreCompared s b Vertex order c.degrees.result = record { verdict = c.degrees.ensures.order } in
    let from = c.lend-from.ensures.same in
    let to = c.lend-to.ensures.same in
    let sizes : b.size ≡ s.size = ap (λ (t : Symbol). t.size) to ∙ c.requires.size ∙ sym (ap (λ (t : Symbol). t.size) from) in
    subst (λ x. IsStanding x c.args.form.now c.args.start c.degrees.result) from
    (subst (λ x. IsStanding s x c.args.start c.degrees.result) to
    (m12_decides s b c.args.start order number c.rows-rows.result c.degrees-m01.result c.degrees.result (subst IsTable (sym to) c.lend-to.ensures.symbol.symbol.table)
    sizes equal on.0 (on.1 ∙ start_is) compared (equal_of c.degrees-m01.result (cc)) later))

pub returns-clause-whole : goal.returns-clause-whole
returns-clause-whole g c here =
    let s = c.lend-from.result in
    let b = c.lend-to.result in
    let order = c.rows-rows.new.self.order.items in
    let number = c.rows-rows.new.self.number.items in
    let start_is : item c.begin.new.self.order.items 1 ≡ c.args.start = ap (λ xs. item xs 1) c.begin.ensures.order in
    let equal = equal_of c.rows-rows.result (cc) in
    let on = not_fallen s b _ order number c.rows-rows.result c.rows-rows.ensures.ongoing (equal_not_greater c.rows-rows.result equal) in
    let ready = c.rows-rows.ensures.ready in
    subst (λ x. IsWhole x c.args.start order number) c.lend-from.ensures.same
    (whole s b c.args.start order number c.rows-rows.result ready.symbol.symbol.table ready.connected on.0 (on.1 ∙ start_is))
