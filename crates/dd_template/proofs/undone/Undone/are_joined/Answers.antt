use Rattle.std.proofs.Common.{◌≡◌, ◌<◌, ◌≤◌, ℕ, true, false, length, replicate, ◌∙◌, subst, arith}
use Rattle.std.proofs.lemmas.List.{length-set, length-replicate, get_or-replicate, get_or-set_same}
use Rattle.std.proofs.lemmas.List.Folds.{sum_by-replicate}
use Rattle.dd_template.specs.Table.{table_of}
use Rattle.dd_template.specs.Joined.{IsMet, unmet, IsClosed, IsNext}
use Rattle.dd_template.proofs.JoinedLemmas.{none_met, first_joined, next_joined, more_joined, one_less, still_met, closed_met, none_left}
use Rattle.dd_template.proofs.undone.Undone.are_joined.Goals as goal

pub loop-step-init : goal.loop-step-init
loop-step-init g c =
    let fresh = replicate g.row.K false in
    let long : length fresh ≡ g.row.K = length-replicate g.row.K false in
    let some : 1 ≤ g.row.K = c.args.self.now.some in
    let inside : 0 < length fresh = omega arith in
    record {
      count =
          let all = sum_by-replicate unmet g.row.K false in
          let less = one_less fresh 0 inside (get_or-replicate g.row.K 0 false false some) in
          omega arith;
      length = length-set fresh 0 true ∙ long;
      zero = get_or-set_same fresh 0 true false inside;
      joined = more_joined (table_of c.args.self.now.table.now) fresh 0 inside (λ x m. absurd (none_met g.row.K x m)) (first_joined (table_of c.args.self.now.table.now));
    }

pub returns-in-None : goal.returns-in-None
returns-in-None g c =
    let t = table_of c.args.self.now.table.now in
    let was = c.loop-step.invariant in
    let closed : IsClosed t c.loop-step.met = c.in-None.ensures in (
      λ h. absurd (cc),
      λ all.
          let met : (x : ℕ) → x < length c.loop-step.met → IsMet c.loop-step.met x =
          λ x l. let within : x < g.row.K = let e = was.length in omega arith in
          let j = all x within in
          subst (IsMet c.loop-step.met) j.leads (closed_met t c.loop-step.met c.args.self.now.undone closed j.word 0 c.args.self.now.some was.zero j.silent) in
          let none = none_left c.loop-step.met met in
          let count = was.count in
          absurd (omega (arith, c.loop-step-test.true)),
    )

pub loop-step-preserved : goal.loop-step-preserved
loop-step-preserved g c =
    let t = table_of c.args.self.now.table.now in
    let was = c.loop-step.invariant in
    let next : IsNext t c.loop-step.met c.in-Some.part = c.in-Some.ensures in
    let inside : c.in-Some.part < length c.loop-step.met = let e = was.length in let h = next.within in omega arith in
    record {
      count = let less = one_less c.loop-step.met c.in-Some.part inside next.new in let e = was.count in omega arith;
      length = length-set c.loop-step.met c.in-Some.part true ∙ was.length;
      zero = still_met c.loop-step.met c.in-Some.part 0 inside was.zero;
      joined = more_joined t c.loop-step.met c.in-Some.part inside was.joined (next_joined t c.loop-step.met c.in-Some.part was.joined next);
    }
