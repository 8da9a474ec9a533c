use Rattle.std.proofs.Common.{◌≡◌, ◌<◌, max, length, length-take-le, take, sym, ap, ◌∙◌, arith}
use Rattle.dd_front_jobs.specs.FirstVisit.{greatest}
use Rattle.dd_branch_tables.proofs.MostLemmas.{mosts_more}
use Rattle.dd_branch_tables.proofs.first_numbers.FirstNumbers.push.Goals as goal

pub invariant_of-self : goal.invariant_of-self
invariant_of-self c =
    let count = c.self.inside.count in
    let numbers = c.self.inside.numbers in
    let short = c.self.invariant.short in
    let room = c.self.invariant.room in
    let size : length (take count numbers) ≡ count = length-take-le count numbers (omega arith) in
    let told : length (take count numbers) ≡ length c.args.self.now = ap length c.self.view_is in
    let below = c.requires in
    let low : count < 108 = omega arith in
    let most = c.max-most.ensures ∙ ap (λ m. max m c.args.number) (c.greatest.ensures ∙ ap greatest (sym c.self.view_is)) in
    mosts_more count numbers c.self.inside.mosts c.args.number c.max-most.result c.self.invariant low most
