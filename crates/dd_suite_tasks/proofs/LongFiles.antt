-- A name that holds more bytes than are fetched.
use Rattle.std.proofs.Common.{◌≡◌, ℕ, List, [], ◌∷◌, ◌++◌, ◌+◌, ◌<◌, length, Bool, true, false, Option, Some, refl, arith, length-append}
use Rattle.dd_check.specs.declared.faults.CheckFault.TheVariants as check
use Rattle.dd_text.specs.declared.faults.FileFault.{FileFault}
use Rattle.dd_text.specs.declared.faults.Why.TheVariants.{Long}
use Rattle.dd_suite_commands.specs.Files.{IsFaulty}
use Rattle.dd_suite_tasks.specs.Held.{HoldsMore}

-- Where a store tells, the bytes are what it holds; else any bytes that begin so, and are more, will do.
pub more_held : (tells : Bool) (held : Option (List ℕ)) (into : List ℕ) (most : ℕ) → length into ≡ most
    → (tells ≡ true → (rest : List ℕ) × (0 < length rest) × (held ≡ Some (into ++ rest)))
    → HoldsMore tells held most
more_held true held into most full holds =
    let more = holds refl in
    record {
      bytes = into ++ more.0;
      fetched = λ _. more.2;
      more = omega (arith, length-append into more.0, more.1, full);
    }
more_held false held into most full holds = record {
  bytes = into ++ 0 ∷ [];
  fetched = λ e. absurd (cc);
  more = let size : length (into ++ 0 ∷ []) ≡ length into + 1 = length-append into (0 ∷ []) in omega (arith, full);
}

-- ## As a file, and as a checkpoint

too_long : FileFault
too_long = record { symbol = 0; at = 16777216; why = Long }

long_faulty : (bytes : List ℕ) → 16777216 < length bytes → IsFaulty bytes too_long
unfolding too_long
long_faulty bytes long = record {
  none = λ ss reads. let short = reads.short in omega arith;
  first = record { long = long; symbol = refl; place = refl };
  no_memory = λ e. (cc);
}
