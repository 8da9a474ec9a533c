-- The numbers of a member's code are small.
use Rattle.std.proofs.Common.{◌≡◌, ℕ, zero, suc, ◌+◌, ◌<◌, ◌≤◌, List, ◌++◌, length, subst, arith}
use Rattle.std.specs.List.{AllByRecursion, flat_map}
use Rattle.dd_model.specs.Symbol.{Symbol, AreInvolutions, IsChamber, item}
use Rattle.dd_model.specs.Code.{code, images, count_from}
use Rattle.dd_model.specs.Allowed.{IsIn}
use Rattle.dd_model.specs.Request.{IsValid}
use Rattle.dd_model.specs.Wanted.{IsMember}
use Rattle.dd_model.specs.declared.allowed.Allowed.{Allowed}
use Rattle.dd_model.specs.declared.index.Index.TheVariants.{Zero, One, Two}
use Rattle.dd_model.specs.declared.requests.Request.{Request}
use Rattle.dd_model.proofs.AllDegrees.{listed_item}
use Rattle.dd_model.proofs.Ascending.{all-append}
use Rattle.dd_model.proofs.Lists.{all_from_members}
use Rattle.dd_model.proofs.AllowedLemmas.{in_small}

images_small : (s : Symbol) (k n : ℕ) → AreInvolutions s → s.size ≤ 36 → 1 ≤ k → k + n ≤ s.size + 1 → AllByRecursion (λ m. m < 256) (flat_map (images s) (count_from k n))
images_small s k zero involutions few one within = tt
images_small s k (suc n) involutions few one within =
    let chamber : IsChamber s k = (one, omega arith) in
    let a = ((involutions Zero).within k chamber).1 in
    let b = ((involutions One).within k chamber).1 in
    let c = ((involutions Two).within k chamber).1 in
    all-append (λ m. m < 256) (images s k) (flat_map (images s) (count_from (k + 1) n))
    (omega arith, (omega arith, (omega arith, tt)))
    (images_small s (k + 1) n involutions few (omega arith) (omega arith))

degrees_small : (a : Allowed) (xs : List ℕ) (n : ℕ) → length xs ≡ n → ((d : ℕ) → (1 ≤ d) × (d ≤ n) → IsIn a (item xs d)) → AllByRecursion (λ m. m < 256) xs
degrees_small a xs n long each = all_from_members (λ m. m < 256) xs (λ x there.
    let d = listed_item xs n x long there in
    let low = in_small a x (subst (IsIn a) d.3 (each d.0 (d.1, d.2))) in
    omega arith)

pub small_code : (q : Request) (s : Symbol) → IsValid q → IsMember q s → AllByRecursion (λ m. m < 256) (code s)
small_code q s valid member =
    let wanted = member.wanted in
    let few = wanted.chambers in
    let most = valid.chambers.1 in
    let table = wanted.symbol.table in
    all-append (λ m. m < 256) (flat_map (images s) (count_from 1 s.size) ++ s.m01) s.m12
    (all-append (λ m. m < 256) (flat_map (images s) (count_from 1 s.size)) s.m01
    (images_small s 1 s.size table.involutions (omega arith) (omega arith) (omega arith))
    (degrees_small q.faces s.m01 s.size table.m01_length wanted.faces))
    (degrees_small q.degrees s.m12 s.size table.m12_length wanted.degrees)
