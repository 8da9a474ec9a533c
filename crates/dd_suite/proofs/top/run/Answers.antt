use Rattle.std.proofs.Common.{◌≡◌, ◌⊎◌, map, sym, ◌∙◌, subst}
use Rattle.std.specs.Rc.{rc_str_bytes}
use Rattle.dd_suite_tasks.specs.declared.status.Status.TheVariants.{Usage, Memory}
use Rattle.dd_suite_tasks.specs.Cuts.{IsEndOfOwn}
use Rattle.dd_suite.proofs.Clauses.{known, whole, call_as, not_resumed, usage, not_taken, refused, quiet_as, nothing, not_merged, store, store_fault, sink_fault, paused, cut_short, not_cut, complete, told, told_or_short}
use Rattle.dd_suite.proofs.top.run.Goals as goal

pub returns-clause-prefix : goal.returns-clause-prefix
returns-clause-prefix g c = known (map rc_str_bytes c.args.words.now) c.perform-ending.result _ _ c.perform-ending.ensures.outcome

pub returns-clause-whole : goal.returns-clause-whole
returns-clause-whole g c h = whole (map rc_str_bytes c.args.words.now) c.perform-ending.result _ _ c.perform-ending.ensures.outcome (sym c.status.ensures ∙ h)

pub returns-clause-call : goal.returns-clause-call
returns-clause-call g c = call_as (map rc_str_bytes c.args.words.now) c.perform-ending.result _ _ c.perform-ending.ensures.outcome c.status.result c.status.ensures

pub returns-clause-not_resumed : goal.returns-clause-not_resumed
returns-clause-not_resumed g c = not_resumed (map rc_str_bytes c.args.words.now) c.perform-ending.result _ _ c.perform-ending.ensures.outcome

pub returns-clause-usage : goal.returns-clause-usage
returns-clause-usage g c h = usage (map rc_str_bytes c.args.words.now) c.perform-ending.result _ _ c.perform-ending.ensures.outcome (sym c.status.ensures ∙ h)

pub returns-clause-not_taken : goal.returns-clause-not_taken
returns-clause-not_taken g c none = subst (λ s. (s ≡ Usage) ⊎ (s ≡ Memory)) (sym c.status.ensures) (not_taken (map rc_str_bytes c.args.words.now) c.perform-ending.result _ _ c.perform-ending.ensures.outcome none)

pub returns-clause-refused : goal.returns-clause-refused
returns-clause-refused g c h = refused (map rc_str_bytes c.args.words.now) c.perform-ending.result _ _ c.perform-ending.ensures.outcome (sym c.status.ensures ∙ h)

pub returns-clause-quiet : goal.returns-clause-quiet
returns-clause-quiet g c = quiet_as (map rc_str_bytes c.args.words.now) c.perform-ending.result _ _ c.perform-ending.ensures.outcome c.status.result c.status.ensures

pub returns-clause-nothing : goal.returns-clause-nothing
returns-clause-nothing g c = nothing (map rc_str_bytes c.args.words.now) c.perform-ending.result _ _ c.perform-ending.ensures.outcome

pub returns-clause-not_merged : goal.returns-clause-not_merged
returns-clause-not_merged g c = not_merged (map rc_str_bytes c.args.words.now) c.perform-ending.result _ _ c.perform-ending.ensures.outcome

pub returns-clause-store : goal.returns-clause-store
returns-clause-store g c told = (c.perform-ending.ensures.tells told, store (map rc_str_bytes c.args.words.now) c.perform-ending.result _ _ c.perform-ending.ensures.outcome told)

pub returns-clause-store_fault : goal.returns-clause-store_fault
returns-clause-store_fault g c h = store_fault (map rc_str_bytes c.args.words.now) c.perform-ending.result _ _ c.perform-ending.ensures.outcome (sym c.status.ensures ∙ h)

pub returns-clause-sink_fault : goal.returns-clause-sink_fault
returns-clause-sink_fault g c h = sink_fault (map rc_str_bytes c.args.words.now) c.perform-ending.result _ _ c.perform-ending.ensures.outcome (sym c.status.ensures ∙ h)

pub returns-clause-paused : goal.returns-clause-paused
returns-clause-paused g c h = paused (map rc_str_bytes c.args.words.now) c.perform-ending.result _ _ c.perform-ending.ensures.outcome (sym c.status.ensures ∙ h)

pub returns-clause-cut_short : goal.returns-clause-cut_short
returns-clause-cut_short g c h = cut_short (map rc_str_bytes c.args.words.now) c.perform-ending.result _ _ c.perform-ending.ensures.outcome (sym c.status.ensures ∙ h)

pub returns-clause-not_cut : goal.returns-clause-not_cut
returns-clause-not_cut g c h = not_cut (map rc_str_bytes c.args.words.now) c.perform-ending.result _ _ c.perform-ending.ensures.outcome (sym c.status.ensures ∙ h)

pub returns-clause-complete : goal.returns-clause-complete
returns-clause-complete g c taken file check merged kept sank = subst (λ s. IsEndOfOwn s ⊎ (s ≡ Memory)) (sym c.status.ensures) (complete (map rc_str_bytes c.args.words.now) c.perform-ending.result _ _ c.perform-ending.ensures.outcome taken file check merged kept sank)

pub returns-clause-err : goal.returns-clause-err
returns-clause-err g c = record {
  ending = c.perform-ending.result;
  status_is = sym c.status.ensures;
  cause = told (map rc_str_bytes c.args.words.now) c.perform-ending.result _ _ c.perform-ending.ensures.outcome;
  grown = c.tell.ensures.prefix;
  told = told_or_short c.tell.result _ _ _ c.tell.ensures.whole c.tell.ensures.cause.failed c.tell.ensures.shortage;
}
