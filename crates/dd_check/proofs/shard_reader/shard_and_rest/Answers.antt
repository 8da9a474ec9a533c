use Rattle.std.proofs.Common.{Some, sym, subst, ◌≡◌, ◌++◌}
use Rattle.std.proofs.lemmas.Slice.Eq.{strip_prefix_is}
use Rattle.std.proofs.lemmas.Bool.Decides.{Decides-eqb}
use Rattle.std.specs.Prelude.{MatchOption}
use Rattle.dd_front_jobs.specs.declared.shards.Shard.{Shard}
use Rattle.dd_check.specs.Texts.{Text}
use Rattle.dd_check.specs.ShardFaults.{shard_words, IsRest}
use Rattle.dd_check.proofs.shard_reader.shard_and_rest.Goals as goal

pub returns : goal.returns
returns c =
    let is : c.args.bytes.now ≡ shard_words ++ c.in_ok-strip_prefix.field-0.now =
    strip_prefix_is Decides-eqb c.args.bytes.now shard_words (Some c.in_ok-strip_prefix.field-0) c.in_ok-strip_prefix.ensures.cases in
    subst (λ text. MatchOption c.numbers_and_rest.result ((shard : Shard) (rest : Text) → IsRest shard text rest → ⊥) (λ told. IsRest told.0 text told.1.now)) (sym is) c.numbers_and_rest.ensures
