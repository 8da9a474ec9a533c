use Rattle.std.proofs.Common.{◌≡◌, ◌++◌, ap, sym, subst, ◌∙◌, refl, ℕ, List, rules}
use Rattle.dd_check.specs.declared.checkpoint.Checkpoint.{Checkpoint}
use Rattle.dd_check.specs.ShardChecks.{IsSavedText}
use Rattle.dd_pages_and_checkpoints.proofs.saved.check_text.Goals as goal

pub returns : goal.returns
returns c =
    let check : Checkpoint = record { run = c.args.run.now.number; request = c.args.run.now.portion.request; lines = c.from.result; bytes = c.args.page.now.collected.written; at = c.in_ok-position.field-0 } in
    let adds = c.in_ok-write_saved.ensures in
    let text : c.write_saved.new.out.items ≡ adds.check = adds.text ∙ ap (λ (xs : List ℕ). xs ++ adds.check) c.new-text.ensures.items in
    record {
      check = check;
      is_text = subst (IsSavedText c.args.run.now.portion.shard check) (sym text) adds.is_check;
      fit = record { run = search rules; lines = search rules; bytes = search rules };
      run = refl;
      request = refl;
      lines = c.from.ensures;
      bytes = refl;
      stands = c.in_ok-position.ensures;
    }
