use Rattle.std.proofs.Common.{◌-◌, false, sym, ◌∙◌, arith}
use Rattle.std.proofs.lemmas.List.{get_or_read, length-set}
use Rattle.dd_symbol.proofs.WalkLemmas.{marked, grown}
use Rattle.dd_cells.proofs.ColoringLemmas.{forced_more, met_more}
use Rattle.dd_cells.proofs.colorings.Coloring.meet.Goals as goal

pub returns-in_ok-push-clause-coloring : goal.returns-in_ok-push-clause-coloring
returns-in_ok-push-clause-coloring c =
    let s = c.args.symbol.now in
    let seen = c.args.self.now.seen.items in
    let colors = c.args.self.now.colors.items in
    let place = c.args.chamber - 1 in
    let old = c.requires.coloring in
    let read = get_or_read seen place c.index.result.now (let f = old.walk.flags in omega arith) c.index.ensures false in
    record {
      walk = rw c.in_ok-push.ensures.items (marked s seen c.args.self.now.queue.items c.args.chamber old.walk c.requires.chamber c.requires.reached (sym read ∙ c.if-not-index.true));
      met = rw c.in_ok-push.ensures.items (met_more seen c.args.self.now.queue.items c.args.chamber (let f = old.walk.flags in omega arith) old.met);
      colors = length-set colors place c.args.color ∙ old.colors;
      forced = forced_more s seen colors c.args.chamber c.args.color old.colors old.forced c.requires.chamber c.requires.forced;
    }

pub returns-in_ok-push-clause-grows : goal.returns-in_ok-push-clause-grows
returns-in_ok-push-clause-grows c =
    rw c.in_ok-push.ensures.items
    (grown c.args.self.now.seen.items c.args.self.now.queue.items c.args.chamber (let f = c.requires.coloring.walk.flags in omega arith))
