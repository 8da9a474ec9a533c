use Rattle.std.proofs.Common.{◌≡◌, ◌↔◌, Bool, IsTrue, ℕ, List, sym, ap, ◌∙◌, subst}
use Rattle.dd_model.specs.Symbol.{AreInvolutions}
use Rattle.dd_model.specs.Wanted.{AtMost}
use Rattle.dd_model.specs.declared.pair.Pair.TheVariants.{Tile, Vertex}
use Rattle.dd_model.specs.declared.requests.Request.{Request}
use Rattle.dd_symbol.specs.Images.{of_rows}
use Rattle.dd_branch_tables.specs.Stem.{prefix_of, size_of}
use Rattle.dd_invol.specs.NextTable.{here}
use Rattle.dd_invol.proofs.SoughtStems.{involutions_of_least, sought_of_least, none_of_least}
use Rattle.dd_branch_tables.proofs.WalkLemmas.{none_listed}
use Rattle.dd_invol.proofs.next_table.is_sought.Goals as goal

pub returns-then-not-is_least-clause-none : goal.returns-then-not-is_least-clause-none
returns-then-not-is_least-clause-none c bound = none_listed c.args.tables.now.request (here c.args.tables.now.stem) bound c.if-not-is_least.ensures.none

pub has_limits-requires-clause-involutions : goal.has_limits-requires-clause-involutions
has_limits-requires-clause-involutions c =
    let stem = c.args.tables.now.stem in
    subst (λ n. AreInvolutions (of_rows n c.prefix.result.now)) (sym (c.size.ensures ∙ ap (λ t. size_of t.stem) c.is_least.ensures.same))
    (subst (λ xs. AreInvolutions (of_rows (size_of stem) xs)) (sym (c.prefix.ensures ∙ ap (λ t. prefix_of t.stem) c.is_least.ensures.same))
    (involutions_of_least (size_of stem) (prefix_of stem) c.requires.whole c.if-not-is_least.ensures.least))

-- the images have no more cells than asked for
abbrev IsWithin : Request → ℕ → List ℕ → Type 0
IsWithin q n xs = AtMost (of_rows n xs) Tile q.tiles × AtMost (of_rows n xs) Vertex q.vertices

told_of : (b : Bool) (q r : Request) (n m : ℕ) (xs ys : List ℕ) → q ≡ r → n ≡ m → xs ≡ ys → IsTrue b ↔ IsWithin q n xs → IsTrue b ↔ IsWithin r m ys
told_of b q r n m xs ys request size numbers told =
    subst (λ k. IsTrue b ↔ IsWithin k m ys) request (subst (λ k. IsTrue b ↔ IsWithin q k ys) size (subst (λ zs. IsTrue b ↔ IsWithin q n zs) numbers told))

pub returns-clause-sought : goal.returns-clause-sought
returns-clause-sought c =
    let S = c.args.tables.now in
    let same = c.is_least.ensures.same in
    sought_of_least (size_of S.stem) (prefix_of S.stem) c.requires.whole S.request c.if-not-is_least.ensures.least c.has_limits.result
    (told_of c.has_limits.result _ S.request _ (size_of S.stem) _ (prefix_of S.stem) (c.request.ensures ∙ ap (λ t. t.request) same) (c.size.ensures ∙ ap (λ t. size_of t.stem) same)
    (c.prefix.ensures ∙ ap (λ t. prefix_of t.stem) same) c.has_limits.ensures)

pub returns-clause-none : goal.returns-clause-none
returns-clause-none c =
    let S = c.args.tables.now in
    let same = c.is_least.ensures.same in
    none_of_least (size_of S.stem) (prefix_of S.stem) c.requires.whole S.request c.if-not-is_least.ensures.least c.has_limits.result
    (told_of c.has_limits.result _ S.request _ (size_of S.stem) _ (prefix_of S.stem) (c.request.ensures ∙ ap (λ t. t.request) same) (c.size.ensures ∙ ap (λ t. size_of t.stem) same)
    (c.prefix.ensures ∙ ap (λ t. prefix_of t.stem) same) c.has_limits.ensures)
