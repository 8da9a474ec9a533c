use Rattle.std.proofs.Common.{◌*◌, sym, ap, subst}
use Rattle.dd_branch_bounds.specs.Classes.{IsClassWeight}
use Rattle.dd_branch_bounds.proofs.ClassLemmas.{class_weight_of}
use Rattle.dd_branch_bounds.proofs.class_shares.weight_of_class.Goals as goal

pub returns : goal.returns
returns c =
    let q = c.args.request.now in
    let v = c.share_of_class.result in
    subst (IsClassWeight q c.args.pair c.args.size c.args.class) (ap (λ n. n * v) (sym c.from.ensures)) (class_weight_of q c.args.pair c.args.size c.args.class v c.share_of_class.ensures)
