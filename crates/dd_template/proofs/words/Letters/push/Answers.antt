use Rattle.std.proofs.Common.{length, arith, ◌<◌}
use Rattle.dd_template.proofs.WordLemmas.{backwards-push}
use Rattle.dd_template.proofs.words.Letters.push.Goals as goal

pub returns-clause-word : goal.returns-clause-word
returns-clause-word c =
    let inside : c.args.self.now.count < length c.args.self.now.letters = omega (arith, c.requires.room) in
    backwards-push c.args.self.now.letters c.args.self.now.count c.args.letter inside
