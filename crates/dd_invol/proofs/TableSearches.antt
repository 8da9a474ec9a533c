-- How a search for tables comes from one listed table to the next.
use Rattle.std.proofs.Common.{◌≡◌, ◌↔◌, ◌⊎◌, ℕ, ◌*◌, ◌≤◌, List, [], length, refl, sym, ap, ◌∙◌, subst, inl, inr, ⊎_elim, arith}
use Rattle.std.proofs.lemmas.Cmp.{nat_list_cmp_total}
use Rattle.std.proofs.lemmas.Map.Lookups.{exact_bytes}
use Rattle.std.specs.Ordering.{nat_cmp}
use Rattle.std.specs.Cmp.Lexicographic.{slice_cmp}
use Rattle.std.specs.declared.cmp.Ordering.TheVariants.{Less}
use Rattle.dd_model.specs.declared.jobs.Job.{Job}
use Rattle.dd_model.specs.declared.pair.Pair.TheVariants.{Edge}
use Rattle.dd_model.specs.declared.requests.Request.{Request}
use Rattle.dd_model.specs.Lists.{Begins}
use Rattle.dd_model.specs.Code.{code, all_images, IsBelow}
use Rattle.dd_model.specs.Symbol.{Symbol}
use Rattle.dd_model.proofs.LeastForms.{not_above}
use Rattle.dd_model.proofs.Orders.{list_not_below_itself, not_below_itself, not_below_both}
use Rattle.dd_branch_tables.specs.Levels.{IsLeft, IsLeftAt}
use Rattle.dd_front_jobs.specs.Under.{IsUnder, HasNothingUnder}
use Rattle.dd_branch_tables.specs.declared.level.Level.{Level}
use Rattle.dd_invol.specs.Growth.{Growing, size_at, prefix_at, table_laws}
use Rattle.dd_invol.specs.NextTable.{IsAhead, IsSoughtAt, here}
use Rattle.dd_branch_tables.specs.Stem.{Any, IsStem}
use Rattle.dd_invol.specs.TableSearch.{IsAtLevel, IsLeftTo, IsComing, IsSearched}
use Rattle.dd_branch_tables.specs.Walk.{IsListed, IsPast, IsReached, IsSought, HasNoneLeft}
use Rattle.dd_invol.specs.declared.table_search.TableSearch.{TableSearch}
use Rattle.dd_invol.proofs.SoughtStems.{ahead_here}
use Rattle.dd_branch_tables.proofs.WalkLemmas.{front_is, listed_under, none_past, only_read}
use Rattle.dd_branch_tables.proofs.WalkOrder.{below_by_images, length-front, own_begins, some_past, three, turned_round}

-- The search has gone on to a whole prefix: what was left is under it, or still left and comes after it.
pub record HasGoneOn (from : Growing) (levels : List Level) (to : Growing) (others : List Level) : Type 0 where
  pub whole : length (prefix_at to) ≡ 3 * size_at from
  pub same_request : to.request ≡ from.request
  pub same_size : size_at to ≡ size_at from
  pub parts : (s : Symbol) → IsLeftTo from levels s ↔ (IsUnder Any (size_at from) (prefix_at to) s ⊎ IsLeft table_laws Any (size_at from) to others s)
  pub order : (s t : Symbol) → IsUnder Any (size_at from) (prefix_at to) s → IsLeft table_laws Any (size_at from) to others t → IsBelow s t

-- From there it has gone back to the last level.
pub record HasGoneBack (to : Growing) (levels : List Level) (back : Growing) : Type 0 where
  pub stem : IsStem back.stem
  pub at : IsAtLevel back levels
  pub same_request : back.request ≡ to.request
  pub same_size : size_at back ≡ size_at to
  pub left : (s : Symbol) → IsLeft table_laws Any (size_at to) to levels s ↔ IsLeftTo back levels s

-- a listed table under a longer prefix is listed there
listed_there : (q : Request) (job : Job) (t : Growing) (n : ℕ) (s : Symbol) → size_at t ≡ n → IsListed q job s → IsUnder Any n (prefix_at t) s → IsListed q (here t.stem) s
listed_there q job t n s size is under = record {
  symbol = is.symbol;
  connected = is.connected;
  unbranched = is.unbranched;
  sought = is.sought;
  size = under.size ∙ sym size;
  begins = under.begins;
}

module _ (q : Request) (job : Job) (old new : TableSearch) (to : Growing)
    (coming : IsComing q job old) (on : HasGoneOn old.tables old.levels to new.levels) (back : HasGoneBack to new.levels new.tables) where
  n : ℕ
  n = size_at old.tables

  still_left : (s : Symbol) → IsLeft table_laws Any n to new.levels s → IsLeftTo new.tables new.levels s
  unfolding n
  still_left s left = (back.left s).0 (subst (λ k. IsLeft table_laws Any k to new.levels s) (sym on.same_size) left)

  was_left : (s : Symbol) → IsLeftTo new.tables new.levels s → IsLeft table_laws Any n to new.levels s
  unfolding n
  was_left s left = subst (λ k. IsLeft table_laws Any k to new.levels s) on.same_size ((back.left s).1 left)

  at_first : (s : Symbol) → IsLeftTo new.tables new.levels s → IsLeftTo old.tables old.levels s
  unfolding n
  at_first s left = (on.parts s).1 (inr (was_left s left))

  -- the table of the whole prefix is not sought
  pub came_by : new.seen ≡ old.seen → ((bound : List ℕ) → HasNoneLeft to.request (here to.stem) bound) → IsComing q job new
  unfolding n
  came_by seen none = record {
    stem = back.stem;
    at = back.at;
    request = back.same_request ∙ on.same_request ∙ coming.request;
    size = back.same_size ∙ on.same_size ∙ coming.size;
    listed = λ s is past. ⊎_elim
        (λ under. absurd (subst (λ p. HasNoneLeft p (here to.stem) []) (on.same_request ∙ coming.request) (none []) s (listed_there q job to n s on.same_size is under) (some_past (all_images s) (some s is))))
        (λ left. still_left s left)
        ((on.parts s).0 (coming.listed s is (subst (λ v. IsPast v.items s) seen past)));
    under = λ s left. coming.under s (at_first s left);
    past = λ s left. subst (λ v. IsPast v.items s) (sym seen) (coming.past s (at_first s left));
  }
    where
      some : (s : Symbol) → IsListed q job s → 1 ≤ length (all_images s)
      some s is = let size = length-front s in let chambers = is.symbol.table.chambers in omega (arith, size, chambers)

  module _ (found : IsSoughtAt to.request (here to.stem) new.seen.items) where
    t : Symbol
    t = found.has.table

    whole : length (prefix_at to) ≡ 3 * size_at to
    whole = on.whole ∙ ap (λ k. 3 * k) (sym on.same_size)

    under_it : IsUnder Any n (prefix_at to) t
    unfolding n t
    under_it = record {
      wanted = tt;
      orderly = record { table = found.has.of.bare.symbol.table; connected = found.has.of.bare.connected; commuting = λ d h. found.has.of.bare.symbol.degrees Edge d h; least = found.has.sought.least };
      size = found.has.of.size ∙ on.same_size;
      begins = found.has.of.begins;
    }

    images_are : all_images t ≡ new.seen.items
    unfolding t
    images_are = front_is t (prefix_at to) (whole ∙ ap (λ k. 3 * k) (sym found.has.of.size)) found.has.of.begins ∙ sym found.images_are

    left_before : IsLeftTo old.tables old.levels t
    unfolding n t
    left_before = (on.parts t).1 (inl under_it)

    is_listed : IsListed q job t
    unfolding t
    is_listed = record {
      symbol = found.has.of.bare.symbol;
      connected = found.has.of.bare.connected;
      unbranched = found.has.of.bare.unbranched;
      sought = subst (λ p. IsSought p t) (on.same_request ∙ coming.request) found.has.sought;
      size = found.has.of.size ∙ on.same_size ∙ coming.size;
      begins = (coming.under t left_before).begins;
    }

    pub came_ahead : IsAhead q job old.seen.items new.seen.items
    unfolding n t
    came_ahead = record {
      table = t;
      next = record {
        listed = is_listed;
        past = coming.past t left_before;
        first = λ s is past. ⊎_elim
            (λ under. not_above t s (inr (sym (only_read q (here to.stem) s t (record { whole = whole; table = found.has.of }) (listed_there q job to n s on.same_size is under)))))
            (λ left. not_above t s (inl (on.order t s under_it left)))
            ((on.parts s).0 (coming.listed s is past));
      };
      images_are = images_are;
    }

    -- what has the images is under the prefix
    same_images : (s : Symbol) → IsUnder Any job.size job.prefix s → all_images s ≡ new.seen.items → IsUnder Any n (prefix_at to) s
    unfolding n
    same_images s under same = record {
      wanted = tt;
      orderly = under.orderly;
      size = under.size ∙ sym coming.size;
      begins = subst (λ xs. Begins xs (code s)) (same ∙ found.images_are) (own_begins s);
    }

    pub came_to : IsComing q job new
    unfolding n t
    came_to = record {
      stem = back.stem;
      at = back.at;
      request = back.same_request ∙ on.same_request ∙ coming.request;
      size = back.same_size ∙ on.same_size ∙ coming.size;
      listed = λ s is past. ⊎_elim
          (λ under. absurd (list_not_below_itself new.seen.items (subst (λ xs. slice_cmp nat_cmp new.seen.items xs ≡ Less)
          (front_is s (prefix_at to) (whole ∙ ap (λ k. 3 * k) (on.same_size ∙ sym under.size)) under.begins ∙ sym found.images_are) past)))
          (λ left. still_left s left)
          ((on.parts s).0 (coming.listed s is (nat_list_cmp_total.trans old.seen.items new.seen.items (all_images s)
          (subst (λ xs. slice_cmp nat_cmp old.seen.items xs ≡ Less) images_are (coming.past t left_before)) past)));
      under = λ s left. coming.under s (at_first s left);
      past = λ s left.
          let below = on.order t s under_it (was_left s left) in
          ⊎_elim
          (λ less. less)
          (λ others. ⊎_elim
          (λ same. absurd (not_below_itself s (on.order s s (same_images s (coming.under s (at_first s left)) (sym (exact_bytes new.seen.items (all_images s) same))) (was_left s left))))
          (λ more.
          let turned = turned_round new.seen.items (all_images s) more in
          let above = below_by_images s t ((coming.under s (at_first s left)).size ∙ sym is_listed.size) (subst (λ xs. slice_cmp nat_cmp (all_images s) xs ≡ Less) (sym images_are) turned) in
          absurd (not_below_both t s below above))
          others)
          (three (slice_cmp nat_cmp new.seen.items (all_images s)));
    }

-- ## How a search begins

-- a table has images
orderly_some : (n : ℕ) (prefix : List ℕ) (s : Symbol) → IsUnder Any n prefix s → IsPast [] s
orderly_some n prefix s under = some_past (all_images s) (let size = length-front s in let chambers = under.orderly.table.chambers in omega (arith, size, chambers))

-- nothing is under the job
pub nothing_comes : (q : Request) (job : Job) (search : TableSearch) → IsStem search.tables.stem → search.tables.request ≡ q → size_at search.tables ≡ job.size → search.levels ≡ []
    → HasNothingUnder Any job.size job.prefix → IsComing q job search
nothing_comes q job search stem request size none dead = record {
  stem = stem;
  at = subst (λ ls. IsAtLevel search.tables ls) (sym none) tt;
  request = request;
  size = size;
  listed = λ s is past. absurd (dead s (listed_under q job s is));
  under = λ s left. absurd (subst (λ ls. IsLeftTo search.tables ls s) none left);
  past = λ s left. absurd (subst (λ ls. IsLeftTo search.tables ls s) none left);
}

-- The job's prefix is whole, and no other table than that which was seen is under it.
pub whole_comes : (search : TableSearch) → IsStem search.tables.stem → search.levels ≡ [] → HasNoneLeft search.tables.request (here search.tables.stem) search.seen.items
    → IsComing search.tables.request (here search.tables.stem) search
whole_comes search stem none left = record {
  stem = stem;
  at = subst (λ ls. IsAtLevel search.tables ls) (sym none) tt;
  request = refl;
  size = refl;
  listed = λ s is past. absurd (left s is past);
  under = λ s there. absurd (subst (λ ls. IsLeftTo search.tables ls s) none there);
  past = λ s there. absurd (subst (λ ls. IsLeftTo search.tables ls s) none there);
}

-- its table is seen
pub seen_here : (q : Request) (job : Job) (images : List ℕ) → length job.prefix ≡ 3 * job.size → IsSoughtAt q job images → IsAhead q job [] images × HasNoneLeft q job images
seen_here q job images whole found =
    let t = found.has.table in
    let same = front_is t job.prefix (whole ∙ ap (λ k. 3 * k) (sym found.has.of.size)) found.has.of.begins in
    let some : IsPast [] t = some_past (all_images t) (let size = length-front t in let chambers = found.has.of.bare.symbol.table.chambers in omega (arith, size, chambers)) in (
      ahead_here q job [] images whole found.has (subst (λ xs. slice_cmp nat_cmp [] xs ≡ Less) same some) found.images_are,
      none_past q job images whole (λ less. list_not_below_itself job.prefix (subst (λ xs. slice_cmp nat_cmp xs job.prefix ≡ Less) found.images_are less)),
    )

-- all under the job is left
pub all_comes : (search : TableSearch) → IsStem search.tables.stem → IsAtLevel search.tables search.levels → search.seen.items ≡ []
    → ((s : Symbol) → IsUnder Any (size_at search.tables) (prefix_at search.tables) s ↔ IsLeftTo search.tables search.levels s) → IsComing search.tables.request (here search.tables.stem) search
all_comes search stem at none left = record {
  stem = stem;
  at = at;
  request = refl;
  size = refl;
  listed = λ s is past. (left s).0 (listed_under search.tables.request (here search.tables.stem) s is);
  under = λ s there. (left s).1 there;
  past = λ s there. subst (λ xs. IsPast xs s) (sym none) (orderly_some (size_at search.tables) (prefix_at search.tables) s ((left s).1 there));
}

-- ## How a search goes on

-- A search has come past some whole prefixes of which the tables are not sought.
pub record IsSeeking (old now : TableSearch) : Type 0 where
  pub stem : IsStem now.tables.stem
  pub at : IsAtLevel now.tables now.levels
  pub seen : now.seen ≡ old.seen
  pub keeps : (q : Request) (job : Job) → IsComing q job old → IsComing q job now

-- how it went back, told of the state from which it did
pub gone_back : (to there : Growing) (levels others : List Level) (back : Growing) → there ≡ to → others ≡ levels → IsStem back.stem → back.request ≡ there.request → size_at back ≡ size_at there → IsAtLevel back levels
    → ((s : Symbol) → IsLeft table_laws Any (size_at there) there levels s ↔ IsLeftAt table_laws Any (size_at there) back levels s) → HasGoneBack to others back
gone_back to there levels others back same lists stem request size at left =
    subst (λ ls. HasGoneBack to ls back) (sym lists) (subst (λ t. HasGoneBack t levels back) same (record {
      stem = stem;
      at = at;
      same_request = request;
      same_size = size;
      left = λ s. subst (λ k. IsLeft table_laws Any (size_at there) there levels s ↔ IsLeftAt table_laws Any k back levels s) (sym size) (left s);
    }))

-- nothing is left
pub ended : (q : Request) (job : Job) (old new : TableSearch) → IsComing q job old → IsStem new.tables.stem → new.tables.request ≡ old.tables.request → size_at new.tables ≡ size_at old.tables → new.levels ≡ []
    → new.seen ≡ old.seen → ((s : Symbol) → IsLeftTo old.tables old.levels s → ⊥) → IsComing q job new
ended q job old new coming stem request size none seen nothing = record {
  stem = stem;
  at = subst (λ ls. IsAtLevel new.tables ls) (sym none) tt;
  request = request ∙ coming.request;
  size = size ∙ coming.size;
  listed = λ s is past. absurd (nothing s (coming.listed s is (subst (λ v. IsPast v.items s) seen past)));
  under = λ s left. absurd (subst (λ ls. IsLeftTo new.tables ls s) none left);
  past = λ s left. absurd (subst (λ ls. IsLeftTo new.tables ls s) none left);
}

-- ## The walk with its search

-- the search has come to no other table
pub still_searched : (q : Request) (job : Job) (last : List ℕ) (old new : TableSearch) → IsSearched q job last old → IsComing q job new → new.seen ≡ old.seen → IsSearched q job last new
still_searched q job last old new is coming same = record {
  walk = is.walk;
  coming = coming;
  seen = subst (λ v. (v.items ≡ last) ⊎ IsAhead q job last v.items) (sym same) is.seen;
}

-- it is ahead
pub ahead_searched : (q : Request) (job : Job) (last : List ℕ) (old new : TableSearch) → IsSearched q job last old → IsComing q job new → IsAhead q job last new.seen.items → IsSearched q job last new
ahead_searched q job last old new is coming ahead = record { walk = is.walk; coming = coming; seen = inr ahead }

-- the table that is ahead is one of the walk
pub reached : (q : Request) (job : Job) (last seen images : List ℕ) → IsAhead q job last seen → images ≡ seen → IsReached q job images
reached q job last seen images ahead same = record { table = ahead.table; listed = ahead.next.listed; images_are = ahead.images_are ∙ sym same }

-- the walk goes on to it
pub stood : (q : Request) (job : Job) (last images : List ℕ) (old new : TableSearch) → IsSearched q job last old → IsComing q job new → IsAhead q job last new.seen.items → images ≡ new.seen.items → IsSearched q job images new
stood q job last images old new is coming ahead same = record {
  walk = record { valid = is.walk.valid; job_of = is.walk.job_of; stands = inr (reached q job last new.seen.items images ahead same) };
  coming = coming;
  seen = inl (sym same);
}
