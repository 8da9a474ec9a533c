use Rattle.std.proofs.Common.{◌≡◌, [], refl, rules}
use Rattle.dd_pages_and_checkpoints.specs.Texts.{joined}
use Rattle.dd_pages_and_checkpoints.proofs.PageLemmas.{lines_made, front_made}
use Rattle.dd_pages_and_checkpoints.proofs.pages.Page.render.Goals as goal

pub returns-in_err-put_all-clause-front : goal.returns-in_err-put_all-clause-front
returns-in_err-put_all-clause-front g c k base start ss has =
    front_made k base start _ _ c.args.self.now (joined c.in-Ok.texts.items) ss _ c.len-2.result c.len-2.ensures.count c.replace-members.ensures.value c.in-Ok.ensures.lines has c.put_all.ensures.part.front

pub returns-clause-kept : goal.returns-clause-kept
returns-clause-kept g c k base start ss has =
    let none : c.replace-members.new.dest ≡ [] = search rules in
    lines_made k base start _ _ c.args.self.now (joined c.in-Ok.texts.items) ss _ c.len-2.result c.len-2.ensures.count c.replace-members.ensures.value c.in-Ok.ensures.lines has _ none refl c.in_ok-put_all.ensures.sent

pub returns-clause-front : goal.returns-clause-front
returns-clause-front g c k base start ss has =
    front_made k base start _ _ c.args.self.now (joined c.in-Ok.texts.items) ss _ c.len-2.result c.len-2.ensures.count c.replace-members.ensures.value c.in-Ok.ensures.lines has c.put_all.ensures.part.front
