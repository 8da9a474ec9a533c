use Rattle.std.proofs.Common.{sym, subst}
use Rattle.dd_front.specs.Places.{with_state_at}
use Rattle.dd_front.specs.Shut.{IsShutTo}
use Rattle.dd_front.proofs.Kept.{written_in, written_kept}
use Rattle.dd_front.proofs.entry_list.EntryList.put_state.Goals as goal

pub invariant_of-self : goal.invariant_of-self
invariant_of-self c =
    let all = c.self.inside.all.items in
    let gone = c.self.inside.gone in
    let shut = c.self.inside.shut in
    let es = c.args.self.now in
    let place = c.args.place in
    let both = written_kept all gone place es c.args.state c.replace.new.dest c.index_mut.result.now
    c.index_mut.ensures.value c.replace.ensures.after c.self.view_is c.requires c.self.invariant.inside c.self.invariant.numbers in
    let now = written_in all gone place es c.args.state c.replace.new.dest c.index_mut.result.now c.index_mut.ensures.value c.replace.ensures.after c.self.view_is c.requires in
    record {
      inside = both.0;
      numbers = both.1;
      shut = subst (IsShutTo c.shut_after-self-inside.result) (sym now)
          (subst (λ ds. IsShutTo c.shut_after-self-inside.result (with_state_at place c.args.state ds)) c.as_slice.ensures.entries c.shut_after-self-inside.ensures);
    }

pub returns : goal.returns
returns c =
    let all = c.self.inside.all.items in
    written_in all c.self.inside.gone c.args.place c.args.self.now c.args.state c.replace.new.dest c.index_mut.result.now
    c.index_mut.ensures.value c.replace.ensures.after c.self.view_is c.requires
