-- What some numbering beats is not least.
use Rattle.std.proofs.Common.{◌≡◌, ℕ, ◌+◌, ◌-◌, ◌*◌, ◌/◌, ◌%◌, ◌<◌, ◌≤◌, List, length, get_or, sym, ap, ◌∙◌, subst, arith}
use Rattle.dd_model.specs.Symbol.{Symbol, IsTable, IsChamber, item, op}
use Rattle.dd_model.specs.Isomorphic.{IsBijection}
use Rattle.dd_model.specs.Lists.{Begins}
use Rattle.dd_model.specs.Code.{code, IsBelow}
use Rattle.dd_model.specs.FirstVisit.{LeastTable}
use Rattle.dd_model.specs.Partial.{Completes}
use Rattle.dd_model.proofs.Exchanges.{renumbered, renumbered_isomorphism, renumbered_table}
use Rattle.dd_model.proofs.LeastForms.{below_back}
use Rattle.dd_branch_tables.specs.Beaten.{Extends, Reads, IsBeatenBy, IsUndercut, ReadsKnown, BeatsPrefix, IsBeaten}
use Rattle.dd_front_jobs.specs.Under.{Follows, HasNothingUnder}
use Rattle.dd_model.proofs.Ascending.{below_at, begins_at}
use Rattle.dd_branch_tables.proofs.Distinct.{all_map}
use Rattle.dd_branch_tables.proofs.Orders.{numbering}
use Rattle.dd_front_jobs.proofs.Places.{code_at}
use Rattle.dd_model.proofs.Codes.{length-code}
use Rattle.dd_model.specs.Indices.{index_at}

-- the number at a place, where the chambers of the list come first
reads_there : (s : Symbol) → IsTable s → (order : List ℕ) (f : List ℕ) (b : IsBijection s.size f) → Extends order b.inverse
    → (u e : ℕ) → u < 3 * s.size → Reads s order u e → get_or (code (renumbered s f b.inverse)) u 0 ≡ e
reads_there s is order f b ext u e low reads =
    let g = b.inverse in
    let r = renumbered s f g in
    let d = 1 + u / 3 in
    let i = index_at (u % 3) in
    let iso = renumbered_isomorphism s f b in
    let same : (x : ℕ) → 1 ≤ x → x ≤ length order → item g x ≡ item order x = λ x pos high. ext.same (x - 1) (omega arith) in
    let long : length order ≤ s.size = let l = ext.longer in let m = b.inverse_images in omega (arith, l, m) in
    let inside = b.right.within d (omega arith) (omega arith) in
    code_at r u low
    ∙ ap (op r i) (sym (b.right.undone d (omega arith) (omega arith)))
    ∙ sym (iso.morphism.op i (item g d) inside)
    ∙ ap (λ x. item f (op s i x)) (same d (omega arith) reads.chamber)
    ∙ ap (item f) (reads.is ∙ sym (same e reads.positive reads.image))
    ∙ b.right.undone e reads.positive (let h = reads.image in omega (arith, h, long))

-- A table that some numbering beats is undercut.
pub beaten : (s : Symbol) → IsTable s → (order : List ℕ) (t e : ℕ) → IsBeatenBy s order t e → IsUndercut s t
beaten s is order t e by =
    let a = numbering s.size order by.distinct by.chambers in
    let f = a.given in
    let b = a.bijection in
    let r = renumbered s f b.inverse in
    let reads = reads_there s is order f b a.extends in
    let low = by.place in
    let there : get_or (code r) t 0 ≡ e = reads t e low by.there in
    let smaller = by.smaller in
    record {
      other = r;
      table = renumbered_table s f is b;
      renumbering = (f, renumbered_isomorphism s f b);
      place = low;
      same = λ u h. reads u (get_or (code s) u 0) (omega (arith, h, low)) (by.same u h);
      smaller = omega (arith, there, smaller);
    }

-- and so not least
pub undercut_not_least : (s : Symbol) (t : ℕ) → IsTable s → LeastTable s → IsUndercut s t → ⊥
undercut_not_least s t is least cut =
    let r = cut.other in
    let ls = length-code s is in
    let lr = length-code r cut.table in
    let low = cut.place in
    let size : r.size ≡ s.size = cut.renumbering.1.size in
    let below : IsBelow r s = below_at r s t size (record { same = cut.same }) (omega (arith, lr, low, size)) (omega (arith, ls, low)) cut.smaller in
    least r cut.table cut.renumbering (below_back r s below)

-- A completion of a partial table that beats its prefix is undercut.
pub prefix_undercut : (partial : Symbol) (prefix : List ℕ) (s : Symbol) → Completes partial s → Begins prefix (code s) → length prefix ≤ 3 * s.size
    → (order : List ℕ) (t e : ℕ) → BeatsPrefix partial prefix order t e → IsUndercut s t
prefix_undercut partial prefix s full begins short order t e by =
    let size = full.size in
    let read : (u x : ℕ) → ReadsKnown partial order u x → Reads s order u x = λ u x r. record {
      chamber = r.reads.chamber;
      positive = r.reads.positive;
      image = r.reads.image;
      is = full.images (index_at (u % 3)) (item order (1 + u / 3)) r.known ∙ r.reads.is;
    } in
    let number : (u : ℕ) → u < length prefix → get_or (code s) u 0 ≡ get_or prefix u 0 = λ u low. begins_at prefix (code s) u begins low in
    let place = by.place in
    beaten s full.table order t e (record {
      distinct = by.met.distinct;
      chambers = all_map (λ d. (1 ≤ d) × (d ≤ partial.size)) (IsChamber s) (λ d h. (h.0, let k = h.1 in omega (arith, k, size))) order by.met.chambers;
      place = omega (arith, place, short);
      same = λ u low. subst (Reads s order u) (sym (number u (omega (arith, low, place)))) (read u (get_or prefix u 0) (by.same u low));
      there = read t e by.there;
      smaller = let a = by.smaller in let b = number t place in omega (arith, a, b);
    })

-- Nothing is under a prefix that some numbering of its table beats.
pub none_under_beaten : (W : Symbol → Type 0) (n : ℕ) (prefix : List ℕ) (partial : Symbol) → Follows W n prefix partial → length prefix ≤ 3 * n → IsBeaten partial prefix → HasNothingUnder W n prefix
none_under_beaten W n prefix partial follows short by s under =
    let size = under.size in
    undercut_not_least s by.place under.orderly.table under.orderly.least
    (prefix_undercut partial prefix s (follows s under) under.begins (omega (arith, size, short)) by.order by.place by.number by.beats)
