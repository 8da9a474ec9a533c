use Rattle.std.proofs.Common.{◌≡◌, ℕ, Option, Vec, ap, sym, ◌∙◌, arith}
use Rattle.std.specs.Global.{Global}
use Rattle.std.specs.Str.{bytes_eq}
use Rattle.std.specs.Map.{lookup}
use Rattle.indexmap.specs.IndexMap.{insert_entry}
use Rattle.dd_suite_commands.specs.declared.totals.Totals.{Totals}
use Rattle.dd_suite_commands.proofs.TotalsSteps.{Entries, told, next_count, insert_counts, kept_count_below}
use Rattle.dd_suite_commands.proofs.totals.Totals.add.Goals as goal
use Rattle.dd_suite_commands.proofs.totals.Totals.add.Goals.{in-Some, in-None}

pub overflow_add-count : goal.overflow_add-count
overflow_add-count c =
    let few = kept_count_below 1000000000 _ c.args.self.now.counts.entries c.in-Some.count.now c.requires (sym c.in-Some.ensures.value) in
    omega arith

pub returns-clause-counted : goal.returns-clause-counted
returns-clause-counted c =
    let es = c.args.self.now.counts.entries in
    let k = c.args.name in
    let kept : Option ℕ = lookup (λ y. bytes_eq k.items y.items) es in
    let equal = λ (a b : Vec ℕ Global). bytes_eq a.items b.items in
    let count : c.match-get.count ≡ next_count kept =
    elim c.match-get.branch [ in-Some w ↦ w.count-is ∙ ap next_count w.in-Some.ensures.value | in-None w ↦ w.count-is ∙ ap next_count w.in-None.ensures.value ] in
    let same : c.match-get.self.counts.entries ≡ es =
    elim c.match-get.branch [ in-Some w ↦ ap (λ (t : Totals). t.counts.entries) w.self-is | in-None w ↦ ap (λ (t : Totals). t.counts.entries) w.self-is ] in
    ap told c.in_ok-insert.ensures.entries ∙ ap (λ (xs : Entries). told (insert_entry equal xs k c.match-get.count)) same
    ∙ ap (λ (n : ℕ). told (insert_entry equal es k n)) count ∙ insert_counts es k
