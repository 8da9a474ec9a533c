-- Lists that grow at their end in several steps.
use Rattle.std.proofs.Common.{◌≡◌, List, [], ◌++◌, sym, ap, ◌∙◌}
use Rattle.std.proofs.lemmas.List.{append_assoc, append-nil}
use Rattle.dd_model.specs.Symbol.{Symbol}
use Rattle.dd_front_jobs.specs.Under.{Appends}
use Rattle.dd_branch_tables.specs.Growth.{HasGrown}

pub grown_same : (a b : List Symbol) → b ≡ a → HasGrown a b
grown_same a b same = record { more = []; grown = same ∙ sym (append-nil a) }

pub grown_by : {P : List Symbol → Type 0} (a b : List Symbol) → Appends P a b → HasGrown a b
grown_by a b h = record { more = h.list; grown = h.grown }

pub grown_through : (a b c : List Symbol) → HasGrown a b → HasGrown b c → HasGrown a c
grown_through a b c first then = record { more = first.more ++ then.more; grown = then.grown ∙ ap (λ xs. xs ++ then.more) first.grown ∙ append_assoc a first.more then.more }
