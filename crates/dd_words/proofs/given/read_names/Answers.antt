use Rattle.std.proofs.Common.{Err, ◌∷◌, [], subst, sym, ap, ◌∙◌}
use Rattle.std.proofs.lemmas.List.{take_all}
use Rattle.std.specs.List.{AllByRecursion}
use Rattle.dd_model.proofs.Ascending.{all-append}
use Rattle.dd_words.specs.Laying.{texts}
use Rattle.dd_words.specs.Values.{IsName}
use Rattle.dd_words.proofs.Faults.{same_fault}
use Rattle.dd_words.proofs.ReadCommands.{name_at, name_more}
use Rattle.dd_words.proofs.given.read_names.Goals as goal

pub returns-in_err-read_name-clause-not_taken : goal.returns-in_err-read_name-clause-not_taken
returns-in_err-read_name-clause-not_taken c failed all =
    c.in_err-read_name.ensures.not_taken (ap Err (same_fault c.from_residual.result c.in_err-read_name.field-0.0 c.from_residual.ensures.1 failed))
    (name_at c.args.words.now c.loop-word.word-index _ c.loop-word-test.true all)

pub loop-word-preserved : goal.loop-word-preserved
loop-word-preserved c = (
  name_more c.args.words.now c.loop-word.word-index _ c.loop-word.names.items _ _ c.loop-word-test.true c.in_ok-read_name.ensures.same c.in_ok-push.ensures.items c.loop-word.invariant.0,
  subst (AllByRecursion IsName) (sym c.in_ok-push.ensures.items)
      (all-append IsName c.loop-word.names.items (c.in_ok-read_name.field-0 ∷ []) c.loop-word.invariant.1 (c.in_ok-read_name.ensures.name, tt)),
)

pub returns-clause-same : goal.returns-clause-same
returns-clause-same c =
    ap texts (sym (take_all c.loop-word.word-index c.args.words.now c.loop-word-test.false)) ∙ c.loop-word.invariant.0 ∙ sym c.new.ensures
