use Rattle.std.proofs.Common.{length, sym, ap, ◌∙◌}
use Rattle.std.specs.Ordering.{nat_cmp}
use Rattle.std.specs.Cmp.Lexicographic.{slice_cmp}
use Rattle.dd_model.specs.Code.{code}
use Rattle.dd_symbol.proofs.TableLemmas.{code_kept}
use Rattle.dd_symbol.proofs.involutions.Involutions.cmp_code.Goals as goal

pub cmp-requires : goal.cmp-requires
cmp-requires c =
    let a = c.self.inside.rows in
    let b = c.other.inside.rows in
    sym (ap length (code_kept a.size a.numbers c.args.self.now a.length c.self.view_is))
    ∙ c.requires
    ∙ ap length (code_kept b.size b.numbers c.args.other.now b.length c.other.view_is)

pub returns : goal.returns
returns c =
    let a = c.self.inside.rows in
    let b = c.other.inside.rows in
    c.cmp.ensures
    ∙ ap (λ xs. slice_cmp nat_cmp xs b.numbers) (sym (code_kept a.size a.numbers c.args.self.now a.length c.self.view_is))
    ∙ ap (slice_cmp nat_cmp (code c.args.self.now)) (sym (code_kept b.size b.numbers c.args.other.now b.length c.other.view_is))
