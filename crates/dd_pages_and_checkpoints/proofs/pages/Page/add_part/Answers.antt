use Rattle.std.proofs.Common.{◌+◌, refl, ap}
use Rattle.dd_pages_and_checkpoints.proofs.PageLemmas.{front_added, lines_added}
use Rattle.dd_pages_and_checkpoints.proofs.pages.Page.add_part.Goals as goal

pub returns-in_err-write_if_full-clause-front : goal.returns-in_err-write_if_full-clause-front
returns-in_err-write_if_full-clause-front g c k base start ss has =
    front_added k base start _ _ c.args.self.now c.put_list.new.out.items ss c.args.part.now c.in-Ok.ensures.lines c.requires.waiting has c.write_if_full.ensures.part.front

pub returns-clause-all : goal.returns-clause-all
returns-clause-all g c k base start ss has =
    lines_added k base start _ _ c.args.self.now c.put_list.new.out.items ss c.args.part.now c.in-Ok.ensures.lines c.requires.waiting has _ refl
    (ap (λ n. c.args.self.now.count + n) c.len.ensures) c.in_ok-write_if_full.ensures.sent

pub returns-clause-front : goal.returns-clause-front
returns-clause-front g c k base start ss has =
    front_added k base start _ _ c.args.self.now c.put_list.new.out.items ss c.args.part.now c.in-Ok.ensures.lines c.requires.waiting has c.write_if_full.ensures.part.front
