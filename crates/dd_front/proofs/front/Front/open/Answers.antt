use Rattle.std.proofs.Common.{◌≡◌, ◌+◌, length, sym, arith}
use Rattle.dd_front.specs.Invariant.{AreParts}
use Rattle.dd_front.proofs.Lasting.{front_opened}
use Rattle.dd_front.proofs.front.Front.open.Goals as goal

pub invariant_of-result : goal.invariant_of-result
invariant_of-result c =
    let q = c.args.request in
    let jobs = c.args.jobs.items in
    let made = c.in_ok-opening.ensures in
    let next : 1 + length jobs ≡ c.len.result + 1 = omega arith in
    let parts : AreParts jobs = record { ascending = c.requires.ascending; apart = c.requires.apart } in
    rw (made.opening, made.entries, sym next) (front_opened q jobs jobs c.requires.valid parts parts)
