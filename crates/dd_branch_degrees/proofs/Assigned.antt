-- What an assignment tells of the members under it.
use Rattle.std.proofs.Common.{◌≡◌, ℕ, ◌+◌, ◌-◌, ◌*◌, ◌<◌, ◌++◌, length, length-append, length-take-le, get_or, take, sym, ap, ◌∙◌, arith}
use Rattle.std.proofs.lemmas.List.{append_assoc, get_or-append_right}
use Rattle.dd_model.specs.Symbol.{Symbol, IsTable}
use Rattle.dd_model.specs.Code.{code, all_images}
use Rattle.dd_model.specs.Involutions.{HaveSameInvolutions}
use Rattle.dd_model.proofs.Ascending.{begins_at, begins_append, begins_through}
use Rattle.dd_model.proofs.Codes.{length-code, length-flat_images}
use Rattle.dd_front_jobs.specs.Under.{next_number}
use Rattle.dd_branch_tables.proofs.TableFronts.{front_same, begins_with_take}
use Rattle.dd_branch_degrees.specs.Assignment.{Assigned, IsAssignment, IsMemberUnder, degree_at, prefix_of, told}

-- the degrees come after the images
code_degree : (s : Symbol) (n j : ℕ) → s.size ≡ n → get_or (code s) (3 * n + j) 0 ≡ degree_at s j
code_degree s n j size =
    let rest = s.m01 ++ s.m12 in
    let e : code s ≡ all_images s ++ rest = append_assoc (all_images s) s.m01 s.m12 in
    let front : length (all_images s) ≡ 3 * n = length-flat_images s 1 s.size ∙ ap (λ k. 3 * k) size in
    let back : 3 * n + j - 3 * n ≡ j = omega arith in
    ap (λ xs. get_or xs (3 * n + j) 0) e ∙ get_or-append_right (all_images s) rest (3 * n) (3 * n + j) 0 front (omega arith) ∙ ap (λ k. get_or rest k 0) back

pub length-front : (t : Symbol) → IsTable t → length (take (3 * t.size) (code t)) ≡ 3 * t.size
length-front t is = let whole = length-code t is in length-take-le (3 * t.size) (code t) (omega (arith, whole))

pub length-prefix : (a : Assigned) → IsAssignment a → length (prefix_of a) ≡ 3 * a.table.size + told a
length-prefix a is = length-append (take (3 * a.table.size) (code a.table)) a.degrees.items ∙ ap (λ n. n + told a) (length-front a.table is.table.symbol.table)

-- a degree that is told
pub told_degree : (a : Assigned) → IsAssignment a → (s : Symbol) → IsMemberUnder a (prefix_of a) s → (j : ℕ) → j < told a → degree_at s j ≡ get_or a.degrees.items j 0
told_degree a is s under j low =
    let n = a.table.size in
    let long = length-prefix a is in
    let back : 3 * n + j - 3 * n ≡ j = omega arith in
    sym (code_degree s n j under.size) ∙ begins_at (prefix_of a) (code s) (3 * n + j) under.begins (omega (arith, long, low))
    ∙ get_or-append_right (take (3 * n) (code a.table)) a.degrees.items (3 * n) (3 * n + j) 0 (length-front a.table is.table.symbol.table) (omega arith)
    ∙ ap (λ k. get_or a.degrees.items k 0) back

-- and the next one
pub next_degree : (a : Assigned) → IsAssignment a → (s : Symbol) → IsMemberUnder a (prefix_of a) s → next_number (prefix_of a) s ≡ degree_at s (told a)
next_degree a is s under = ap (λ k. get_or (code s) k 0) (length-prefix a is) ∙ code_degree s a.table.size (told a) under.size

-- each member under an assignment has the involutions of its table
pub same_of_under : (a : Assigned) → IsTable a.table → (s : Symbol) → IsMemberUnder a (prefix_of a) s → HaveSameInvolutions a.table s
same_of_under a table s under =
    let t = a.table in
    let front = take (3 * t.size) (code t) in
    let whole = length-code t table in
    front_same s t front under.orderly.table table under.size (length-front t table) (begins_with_take (3 * t.size) (code t) (omega (arith, whole)))
    (begins_through front (prefix_of a) (code s) (begins_append front a.degrees.items) under.begins)
