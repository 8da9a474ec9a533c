-- A text is one of one shard and one checkpoint.
use Rattle.std.proofs.Common.{◌≡◌, ◌⊎◌, ℕ, ◌^◌, ◌<◌, ◌==◌, false, List, [], ◌∷◌, ◌++◌, get_or, append_assoc, refl, sym, ap, ◌∙◌, subst, inl, inr, ⊎_elim, arith}
use Rattle.std.specs.Prelude.{codes, decimal}
use Rattle.std.specs.List.{AllByRecursion, join_with_byte}
use Rattle.std.proofs.lemmas.Bool.Decides.{nat_tests}
use Rattle.dd_model.proofs.Lists.{cons_head, cons_tail}
use Rattle.dd_front_jobs.specs.declared.shards.Shard.{Shard}
use Rattle.dd_front_jobs.proofs.ShardLaws.{same_shard}
use Rattle.dd_check.specs.declared.checkpoint.Checkpoint.{Checkpoint}
use Rattle.dd_check.specs.Texts.{Text, parts_of}
use Rattle.dd_check.specs.Accepted.{IsCheckpointText}
use Rattle.dd_check.specs.ShardChecks.{shard_line, IsShardCheck, IsShardPlace, IsShardCheckpoint}
use Rattle.dd_check.proofs.Exclusion.{one_checkpoint}
use Rattle.dd_check.proofs.JoinLemmas.{Avoids, split_joined, avoids_joined}
use Rattle.dd_check.proofs.NumberLemmas.{avoids_low, same_number}
use Rattle.dd_check.proofs.ReadingBack.{IsWritten, reads_or_not}
use Rattle.dd_check.proofs.TellsBack.{key_word}

not_avoided : (c v : ℕ) → v ≡ c → (v == c) ≡ false → ⊥
not_avoided c v e f = grind (arith, nat_tests)

-- a byte that does not stand in the first parts ends them
parted_once : (c : ℕ) (us vs xs ys : Text) → Avoids c us → Avoids c vs → us ++ c ∷ xs ≡ vs ++ c ∷ ys → (us ≡ vs) × (xs ≡ ys)
parted_once c [] [] xs ys a b e = (refl, cons_tail c c xs ys e)
parted_once c [] (v ∷ vs) xs ys a b e = absurd (not_avoided c v (sym (cons_head c v xs (vs ++ c ∷ ys) e)) b.0)
parted_once c (u ∷ us) [] xs ys a b e = absurd (not_avoided c u (cons_head u c (us ++ c ∷ xs) ys e) a.0)
parted_once c (u ∷ us) (v ∷ vs) xs ys a b e =
    let rest = parted_once c us vs xs ys a.1 b.1 (cons_tail u v (us ++ c ∷ xs) (vs ++ c ∷ ys) e) in
    ((λ i. cons_head u v (us ++ c ∷ xs) (vs ++ c ∷ ys) e i ∷ rest.0 i), rest.1)

abbrev words_of_shard : Shard → List Text
words_of_shard shard = codes "dressline" ∷ codes "shard" ∷ decimal shard.index ∷ decimal shard.count ∷ []

abbrev line_words : Shard → Text
line_words shard = join_with_byte 32 (words_of_shard shard)

small_index : (shard : Shard) → shard.index < 10 ^ 19
small_index shard = let a = shard.within in let b = shard.few in omega (arith, a, b)

small_count : (shard : Shard) → shard.count < 10 ^ 19
small_count shard = let b = shard.few in omega (arith, b)

avoid_spaces : (shard : Shard) → AllByRecursion (Avoids 32) (words_of_shard shard)
avoid_spaces shard = (
  (key_word (codes "dressline") refl refl).spaces,
  ((key_word (codes "shard") refl refl).spaces, (avoids_low 32 (omega arith) shard.index (small_index shard), (avoids_low 32 (omega arith) shard.count (small_count shard), tt))),
)

avoid_feeds : (shard : Shard) → AllByRecursion (Avoids 10) (words_of_shard shard)
avoid_feeds shard = (
  (key_word (codes "dressline") refl refl).feeds,
  ((key_word (codes "shard") refl refl).feeds, (avoids_low 10 (omega arith) shard.index (small_index shard), (avoids_low 10 (omega arith) shard.count (small_count shard), tt))),
)

words_parted : (shard : Shard) → parts_of 32 (line_words shard) ≡ words_of_shard shard
words_parted shard = split_joined 32 (codes "dressline") (codes "shard" ∷ decimal shard.index ∷ decimal shard.count ∷ []) (avoid_spaces shard)

line_feeds : (shard : Shard) → Avoids 10 (line_words shard)
line_feeds shard = avoids_joined 10 32 (words_of_shard shard) refl (avoid_feeds shard)

-- the line of a shard tells it, and what comes after the line
pub one_line : (a b : Shard) (xs ys : Text) → shard_line a ++ xs ≡ shard_line b ++ ys → (a ≡ b) × (xs ≡ ys)
one_line a b xs ys e =
    let parts = parted_once 10 (line_words a) (line_words b) xs ys (line_feeds a) (line_feeds b)
    (sym (append_assoc (line_words a) (10 ∷ []) xs) ∙ e ∙ append_assoc (line_words b) (10 ∷ []) ys) in
    let words : words_of_shard a ≡ words_of_shard b = sym (words_parted a) ∙ ap (parts_of 32) parts.0 ∙ words_parted b in
    let index = same_number a.index b.index (small_index a) (small_index b) (ap (λ ws. get_or ws 2 []) words) in
    let count = same_number a.count b.count (small_count a) (small_count b) (ap (λ ws. get_or ws 3 []) words) in
    (same_shard a b index count, parts.1)

-- ## Texts

pub one_shard_text : (text : Text) (a b : Shard) (c d : Checkpoint) → IsShardCheckpoint a text c → IsShardCheckpoint b text d → (a ≡ b) × (c ≡ d)
one_shard_text text a b c d x y =
    let line = one_line a b x.check y.check (sym x.text_is ∙ y.text_is) in
    (line.0, one_checkpoint x.check c d x.accepted (subst (λ t. IsCheckpointText t d) (sym line.1) y.accepted))

-- a text that was put is accepted, or is no shard's
pub shard_reads_or_not : (shard : Shard) (c : Checkpoint) (text : Text) → (saved : IsShardCheck shard c text) → IsWritten c saved.check → IsShardPlace c.request shard c.at
    → IsShardCheckpoint shard text c ⊎ ((other : Shard) (d : Checkpoint) → IsShardCheckpoint other text d → ⊥)
shard_reads_or_not shard c text saved w place =
    ⊎_elim
    (λ is. inl (record { check = saved.check; accepted = is; place = place; text_is = saved.text_is }))
    (λ never. inr (λ other d is. never d (subst (λ t. IsCheckpointText t d) (sym (one_line shard other saved.check is.check (sym saved.text_is ∙ is.text_is)).1) is.accepted)))
    (reads_or_not c saved.check w)
