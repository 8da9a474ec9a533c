use Rattle.std.proofs.Common.{◌≡◌, [], ◌∷◌, ◌++◌, ◌*◌, ◌<◌, length, sym, ap, subst, ⊎_elim, arith}
use Rattle.std.proofs.lemmas.Bool.{cases_eq}
use Rattle.std.proofs.lemmas.Nat.Bits.{bit_at-lt}
use Rattle.dd_model.specs.Wanted.{IsMember}
use Rattle.dd_branch_tables.specs.Chambers.{bit_of}
use Rattle.dd_branch_tables.specs.Stem.{prefix_of, size_of}
use Rattle.dd_front_jobs.specs.Under.{HasNothingUnder}
use Rattle.dd_branch.specs.Descent.{Descending, descending}
use Rattle.dd_branch.proofs.Descents.{none_with_number}
use Rattle.dd_branch.proofs.Splits.{none_where_no_table}
use Rattle.dd_branch.proofs.descent.DescentPrefixSearch.candidates.Goals as goal

pub returns : goal.returns
returns c m out =
    let d : Descending = descending c.self.inside.request c.self.inside.stem c.self.inside.classes c.self.inside.levels in
    let low : length (prefix_of d.stem) < 3 * size_of d.stem = subst (λ (e : Descending). length (prefix_of e.stem) < 3 * size_of e.stem) (sym c.self.view_is) c.requires.room in
    let bit = bit_at-lt c.candidates-numbers.result.bits m in
    subst (λ (e : Descending). HasNothingUnder (IsMember e.request) (size_of e.stem) (prefix_of e.stem ++ m ∷ [])) c.self.view_is
    (⊎_elim
    (λ (none : bit_of c.candidates-numbers.result m ≡ 0). none_where_no_table (IsMember d.request) (size_of d.stem) (prefix_of d.stem) m (c.candidates-numbers.ensures.others m none))
    (λ some. none_with_number d c.rows.result.now (length c.prefix.result.now) m c.self.invariant.is c.rows.ensures (ap length c.prefix.ensures) low (c.sieve.ensures m (omega (arith, bit, some)) out))
    (cases_eq (bit_of c.candidates-numbers.result m) 0))
