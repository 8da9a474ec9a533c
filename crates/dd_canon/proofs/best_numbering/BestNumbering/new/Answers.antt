use Rattle.std.proofs.Common.{◌+◌, ap, ◌∙◌}
use Rattle.dd_model.specs.Symbol.{Symbol}
use Rattle.dd_model.specs.Isomorphic.{IsIsomorphism}
use Rattle.dd_canon.proofs.BestLemmas.{first_start, no_orbits}
use Rattle.dd_canon.proofs.best_numbering.BestNumbering.new.Goals as goal

pub returns : goal.returns
returns c =
    let s = c.args.s.now in
    let home = c.number_from.new.self in
    let ready = c.number_from.ensures.ready in
    let table = c.in_ok-form.ensures.symbol.symbol.table in
    let iso : IsIsomorphism s c.in_ok-form.form home.number.items = rw (← c.deref.ensures.value) c.in_ok-form.ensures.isomorphism in
    record {
      start = 1;
      home = ready;
      whole = c.number_from.ensures.whole;
      table = table;
      form = iso;
      best = first_start s c.in_ok-form.form home.order.items home.number.items ready.symbol.symbol.table ready.connected c.number_from.ensures.whole table iso;
      there = c.in_ok-there.ensures;
      orbits = no_orbits s c.in_ok-orbits.orbits (c.in_ok-orbits.ensures.many ∙ ap (λ n. n + 1) (c.size.ensures.size ∙ ap (λ (t : Symbol). t.size) c.symbol.ensures.same)) c.in_ok-orbits.ensures.level;
    }
