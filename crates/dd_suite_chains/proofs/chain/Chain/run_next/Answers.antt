use Rattle.std.proofs.Common.{◌++◌, Some, ap, ◌∙◌, subst, map}
use Rattle.std.proofs.lemmas.Bool.{ltb-true}
use Rattle.std.specs.Rc.{rc_str_bytes}
use Rattle.dd_suite_chains.specs.Making.{IsPartOf}
use Rattle.dd_suite_chains.specs.Runs.{kept_of}
use Rattle.dd_suite_chains.proofs.TurnLemmas.{own_output, no_next}
use Rattle.dd_suite_chains.proofs.chain.Chain.run_next.Goals as goal

pub returns-in_ok-self-in-Some-clause-turn : goal.returns-in_ok-self-in-Some-clause-turn
returns-in_ok-self-in-Some-clause-turn g c =
    let words = map rc_str_bytes c.args.self.now.words.now in
    let ran = c.run_into-status.ensures in
    let here = c.in-Some.ensures in
    let added = c.in_ok-self-in-Some.ensures.part in
    let output = own_output words (kept_of c.args.store.now) (kept_of c.run_into-status.new.store) c.args.sinks.now c.run_into-status.new.sinks c.args.k c.run_into-status.result ran
    c.index-sinks-k.result c.index-sinks-k-2.result c.held-start.result.now c.held.result.now c.requires.inside c.held-start.ensures c.held.ensures in
    record {
      status = c.run_into-status.result;
      ran = ran;
      more = ltb-true _ _ here.0;
      not_done = here.1;
      text = c.in-Some.text.now;
      held = here.2;
      part = added.0;
      is_part = subst (λ o. IsPartOf c.args.self.now.number (Some c.in-Some.text.now) o added.0) output added.1;
      is_next = c.in_ok-self-in-Some.ensures.next;
      bytes = added.2;
    }

pub returns-in_ok-extend_from_slice-in-None-clause-turn :
    goal.returns-in_ok-extend_from_slice-in-None-clause-turn
returns-in_ok-extend_from_slice-in-None-clause-turn g c =
    let words = map rc_str_bytes c.args.self.now.words.now in
    let ran = c.run_into-status.ensures in
    let output = own_output words (kept_of c.args.store.now) (kept_of c.run_into-status.new.store) c.args.sinks.now c.run_into-status.new.sinks c.args.k c.run_into-status.result ran
    c.index-sinks-k.result c.index-sinks-k-2.result c.held-start.result.now c.held.result.now c.requires.inside c.held-start.ensures c.held.ensures in
    record {
      ran = ran;
      stop = no_next c.run_into-status.result c.args.k c.args.sinks.now _ c.requires.inside c.in-None.ensures;
      bytes = c.in_ok-extend_from_slice-in-None.ensures.items ∙ ap (λ z. c.args.self.now.joined.items ++ z) output;
    }
