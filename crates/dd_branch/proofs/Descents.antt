-- A descent that grows and is shortened again.
use Rattle.std.proofs.Common.{◌≡◌, ℕ, zero, suc, ◌+◌, ◌-◌, ◌*◌, ◌<◌, ◌≤◌, ◌↔◌, List, [], ◌∷◌, ◌++◌, length, length-append, take, refl, sym, ap, ◌∙◌, subst, arith}
use Rattle.std.proofs.lemmas.Option.{slice_get-get_or}
use Rattle.std.proofs.lemmas.List.{take_at, take-take}
use Rattle.std.proofs.Math.Seq.{get_or-append_seam}
use Rattle.std.specs.List.{slice_get}
use Rattle.std.specs.declared.option.Option.TheVariants.{Some}
use Rattle.dd_model.specs.Symbol.{Symbol, IsTable}
use Rattle.dd_model.specs.Lists.{Begins}
use Rattle.dd_model.specs.Code.{code}
use Rattle.dd_model.specs.Wanted.{IsMember}
use Rattle.dd_model.specs.Jobs.{IsMemberUnder, AreMembersUnder}
use Rattle.dd_model.specs.declared.requests.Request.{Request}
use Rattle.dd_model.specs.declared.jobs.Job.{Job}
use Rattle.dd_front_jobs.specs.Under.{IsUnder, HasNothingUnder, AreUnder, Appends}
use Rattle.dd_branch_tables.specs.Table.{IsBareTable, IsTableOf, told}
use Rattle.dd_branch_tables.specs.Rows.{Rows, partial_of, depth_of, unwound, HasNumberAt}
use Rattle.dd_branch_tables.specs.Stem.{Any, IsStem, HasAbsorbed, prefix_of, size_of, cut_to, shortened}
use Rattle.dd_branch_tables.proofs.Absorbing.{absorbed_under}
use Rattle.dd_branch_tables.proofs.Stems.{any_under}
use Rattle.dd_front_jobs.proofs.Places.{code_at}
use Rattle.dd_branch_tables.proofs.Prefixes.{none_under, shortened as shortened_under}
use Rattle.dd_branch_tables.specs.declared.stem.Stem.{Stem}
use Rattle.dd_branch_tables.proofs.Follows.{member_orderly}
use Rattle.dd_branch_tables.proofs.TableFronts.{front_same, front_begins}
use Rattle.dd_branch_tables.proofs.TableLemmas.{table_of_told}
use Rattle.dd_symbol.specs.Images.{of_rows}
use Rattle.dd_model.specs.Involutions.{HaveSameInvolutions}
use Rattle.dd_branch_degrees.specs.Members.{AreMembersWith}
use Rattle.dd_branch_bounds.specs.Shares.{IsSought}
use Rattle.dd_branch_bounds.specs.Kept.{AreKept, with_sides}
use Rattle.dd_branch_bounds.specs.declared.table_paths.TablePaths.{TablePaths}
use Rattle.dd_branch_bounds.proofs.EndGrowth.{kept_of_longer}
use Rattle.dd_branch.specs.Descent.{Descending, IsDescent, HasDescended, with_level, with_paths, without_last, shorter}
use Rattle.dd_branch.specs.declared.undo_point.UndoPoint.{UndoPoint}

-- the search with what it had at a level
abbrev pub at_level : Descending → UndoPoint → Descending
at_level d level = record { request = d.request; stem = cut_to d.stem level.numbers level.rows; shares = with_sides d.shares level.sides; levels = d.levels }

-- the search without its last level is what it was at that level
pub shorter_levelled : (d : Descending) (level : UndoPoint) → shorter (with_level d level) ≡ at_level d level
shorter_levelled d level =
    let levels = d.levels ++ level ∷ [] in
    let size : length levels ≡ length d.levels + 1 = length-append d.levels (level ∷ []) in
    let last : length levels - 1 ≡ length d.levels = omega arith in
    let got : slice_get levels (length levels - 1) ≡ Some level =
    ap (slice_get levels) last ∙ slice_get-get_or levels (length d.levels) level (omega arith) ∙ ap Some (get_or-append_seam d.levels level [] level) in
    let front : take (length levels - 1) levels ≡ d.levels = ap (λ k. take k levels) last ∙ take_at d.levels (level ∷ []) (length d.levels) refl in
    let back : without_last (Some level) (with_level d level) ≡ at_level d level = λ i. record (at_level d level) { levels = front i } in
    ap (λ o. without_last o (with_level d level)) got ∙ back

-- a number that was put in, and what was absorbed after it
pub record IsPut (number : ℕ) (old mid new : Stem) : Type 0 where
  pub size : size_of mid ≡ size_of old
  pub longer : prefix_of mid ≡ prefix_of old ++ number ∷ []
  pub undone : shortened mid (depth_of old.rows) ≡ old
  pub stem : IsStem new
  pub absorbed : HasAbsorbed mid new

-- such a stem is cut back to what it was
pub cut_back : (number : ℕ) (old mid new : Stem) → IsPut number old mid new → cut_to new (length (prefix_of old)) (depth_of old.rows) ≡ old
cut_back number old mid new put =
    let k = length (prefix_of old) in
    let size : length (prefix_of mid) ≡ k + 1 = ap length put.longer ∙ length-append (prefix_of old) (number ∷ []) in
    let front : take k (prefix_of new) ≡ prefix_of old =
    sym (take-take k (length (prefix_of mid)) (prefix_of new) (omega arith)) ∙ ap (take k) put.absorbed.front ∙ ap (take k) put.longer ∙ take_at (prefix_of old) (number ∷ []) k refl in
    let rows : unwound new.rows (depth_of old.rows) ≡ old.rows = ap (λ r. unwound r (depth_of old.rows)) put.absorbed.rows ∙ ap (λ (s : Stem). s.rows) put.undone in
    λ i. record { rows = rows i; prefix = front i }

-- the level tells how much the search has
pub record IsLevelOf (d : Descending) (level : UndoPoint) : Type 0 where
  pub numbers : level.numbers ≡ length (prefix_of d.stem)
  pub rows : level.rows ≡ depth_of d.stem.rows
  pub sides : level.sides ≡ d.shares.sides

-- the search with another stem
abbrev pub with_stem : Descending → Stem → Descending
with_stem d stem = record { request = d.request; stem = stem; shares = d.shares; levels = d.levels }

-- whatever paths are joined after a number is put in, the search goes back to what it was
pub goes_back : (number : ℕ) (old : Descending) (mid stem : Stem) (level : UndoPoint) → IsPut number old.stem mid stem → IsLevelOf old level → (sides : TablePaths)
    → shorter (with_paths (with_level (with_stem old stem) level) sides) ≡ old
goes_back number old mid stem level put is sides =
    let cut : cut_to stem level.numbers level.rows ≡ old.stem = ap (λ k. cut_to stem k level.rows) is.numbers ∙ ap (cut_to stem (length (prefix_of old.stem))) is.rows ∙ cut_back number old.stem mid stem put in
    let paths = is.sides in
    shorter_levelled (with_paths (with_stem old stem) sides) level ∙ (λ i. record { request = old.request; stem = cut i; shares = with_sides old.shares (paths i); levels = old.levels })

-- the search with a number put in
pub put_descent : (number : ℕ) (old : Descending) (mid stem : Stem) (levels : List UndoPoint) → IsDescent old → IsPut number old.stem mid stem → length levels ≤ length old.levels + 1
    → IsDescent (record { request = old.request; stem = stem; shares = old.shares; levels = levels })
put_descent number old mid stem levels is put few =
    let count : length (prefix_of mid) ≡ length (prefix_of old.stem) + 1 = ap length put.longer ∙ length-append (prefix_of old.stem) (number ∷ []) in
    let longer = put.absorbed.longer in
    let room = is.room in
    let kept : AreKept (partial_of mid.rows) old.shares = kept_of_longer old.stem.rows mid.rows old.shares put.size (ap (λ (s : Stem). s.rows) put.undone) is.kept in
    record {
      valid = is.valid;
      stem = put.stem;
      kept = subst (λ r. AreKept (partial_of r) old.shares) (sym put.absorbed.rows) kept;
      same_request = is.same_request;
      room = omega arith;
    }

begins_front : (xs ys : List ℕ) (k : ℕ) → Begins xs ys → Begins (take k xs) ys
begins_front xs ys zero b = tt
begins_front [] ys (suc k) b = tt
begins_front (x ∷ xs) [] (suc k) b = absurd b
begins_front (x ∷ xs) (y ∷ ys) (suc k) b = (b.0, begins_front xs ys k b.1)

-- the same is under a prefix before and after it has absorbed
pub same_absorbed : (W : Symbol → Type 0) (old new : Stem) → HasAbsorbed old new → (s : Symbol) → IsUnder W (size_of old) (prefix_of new) s ↔ IsUnder W (size_of old) (prefix_of old) s
same_absorbed W old new absorbed s = (
  (λ under. record {
    wanted = under.wanted;
    orderly = under.orderly;
    size = under.size;
    begins = subst (λ xs. Begins xs (code s)) absorbed.front (begins_front (prefix_of new) (code s) (length (prefix_of old)) under.begins);
  }),
  absorbed_under W old new absorbed s,
)

pub has_descended : (number : ℕ) (old new : Descending) (mid : Stem) → new.request ≡ old.request → IsPut number old.stem mid new.stem → HasDescended number old new
has_descended number old new mid request put =
    let count : length (prefix_of mid) ≡ length (prefix_of old.stem) + 1 = ap length put.longer ∙ length-append (prefix_of old.stem) (number ∷ []) in
    let more = put.absorbed.longer in
    let is = put.stem.short in
    let rows : size_of new.stem ≡ size_of mid = ap (λ r. r.size) put.absorbed.rows in
    let size = put.size in
    record {
      same_request = request;
      same_size = rows ∙ put.size;
      longer = omega arith;
      short = omega arith;
      same = record {
        same = λ s.
            let W = IsMember old.request in
            let one : IsUnder W (size_of mid) (prefix_of new.stem) s ↔ IsUnder W (size_of mid) (prefix_of mid) s = same_absorbed W mid new.stem put.absorbed s in
            let two = subst (λ n. IsUnder W n (prefix_of new.stem) s ↔ IsUnder W n (prefix_of mid) s) put.size one in
            subst (λ xs. IsUnder W (size_of old.stem) (prefix_of new.stem) s ↔ IsUnder W (size_of old.stem) xs s) put.longer two;
      };
    }

-- the same where no table is under it
pub none_absorbed : (W : Symbol → Type 0) (number : ℕ) (old mid new : Stem) → IsPut number old mid new → HasNothingUnder Any (size_of new) (prefix_of new) → HasNothingUnder W (size_of old) (prefix_of old ++ number ∷ [])
none_absorbed W number old mid new put none =
    let rows : size_of new ≡ size_of mid = ap (λ r. r.size) put.absorbed.rows in
    let one = subst (λ n. HasNothingUnder Any n (prefix_of new)) rows none in
    let two : HasNothingUnder Any (size_of mid) (prefix_of mid) = λ s under. one s (absorbed_under Any mid new put.absorbed s under) in
    let three = subst (λ n. HasNothingUnder Any n (prefix_of mid)) put.size two in
    let four = subst (HasNothingUnder Any (size_of old)) put.longer three in
    λ s under. four s (any_under W (size_of old) (prefix_of old ++ number ∷ []) s under)

-- where no symbol with a number at the next place is sought, no member is under the prefix with it
pub none_with_number : (d : Descending) (rows : Rows) (t number : ℕ) → IsDescent d → rows ≡ d.stem.rows → t ≡ length (prefix_of d.stem) → length (prefix_of d.stem) < 3 * size_of d.stem
    → ((s : Symbol) → IsSought d.shares.classes.request (partial_of rows) s → HasNumberAt t number s → ⊥) → HasNothingUnder (IsMember d.request) (size_of d.stem) (prefix_of d.stem ++ number ∷ [])
none_with_number d rows t number is same at low none s under =
    let q = d.request in
    let stem = d.stem in
    let before = shortened_under (IsMember q) (size_of stem) (prefix_of stem) number s under in
    let size = under.size in
    let next : HasNumberAt (length (prefix_of stem)) number s = sym (code_at s (length (prefix_of stem)) (omega arith)) ∙ before.1 in
    let sought : IsSought q (partial_of stem.rows) s =
    record { wanted = under.wanted.wanted; completes = is.stem.follows s (any_under (IsMember q) (size_of stem) (prefix_of stem) s before.0) } in
    let asked = subst (λ r. IsSought r (partial_of stem.rows) s) (sym is.same_request) sought in
    none s (subst (λ r. IsSought d.shares.classes.request (partial_of r) s) (sym same) asked) (subst (λ u. HasNumberAt u number s) (sym at) next)

-- no member is under a prefix where none is under its front
pub no_member_under_front : (W : Symbol → Type 0) (n k : ℕ) (prefix : List ℕ) → HasNothingUnder W n (take k prefix) → HasNothingUnder W n prefix
no_member_under_front W n k prefix none s under =
    none s (record { wanted = under.wanted; orderly = under.orderly; size = under.size; begins = begins_front prefix (code s) k under.begins })

-- what a table carries is what is under its numbers
pub carried_under : (q : Request) (n : ℕ) (prefix : List ℕ) (t : Symbol) (ss : List Symbol) → IsTableOf n prefix t → length prefix ≡ 3 * n → AreMembersWith q t ss → AreUnder (IsMember q) n prefix ss
carried_under q n prefix t ss of whole are =
    let size = of.size in
    let long : length prefix ≡ 3 * t.size = omega arith in
    record {
      ascending = are.ascending;
      members = λ s. (
        (λ there.
            let m = (are.members s).0 there in
            let is : IsTable s = m.0.wanted.symbol.table in
            record { wanted = m.0; orderly = member_orderly q s m.0; size = m.1.size ∙ size; begins = front_begins s t prefix is long of.begins m.1 }),
        (λ under.
            (are.members s).1 (under.wanted, front_same s t prefix under.orderly.table of.bare.symbol.table (under.size ∙ sym size) long of.begins under.begins)),
      );
    }

pub appends_carried : (q : Request) (n : ℕ) (prefix : List ℕ) (t : Symbol) (old new : List Symbol) → IsTableOf n prefix t → length prefix ≡ 3 * n
    → Appends (AreMembersWith q t) old new → Appends (AreUnder (IsMember q) n prefix) old new
appends_carried q n prefix t old new of whole added =
    record { list = added.list; grown = added.grown; holds = carried_under q n prefix t added.list of whole added.holds }

-- a table with the involutions of a whole prefix
pub table_of_same : (n : ℕ) (prefix : List ℕ) (it t : Symbol) → length prefix ≡ 3 * n → it ≡ of_rows n prefix → HaveSameInvolutions it t → IsBareTable t → IsTableOf n prefix t
table_of_same n prefix it t whole is same bare =
    let own = subst (λ s. HaveSameInvolutions s t) is same in
    let path : t ≡ told n prefix t.m01 t.m12 = λ i. record { size = own.size i; s0 = own.s0 i; s1 = own.s1 i; s2 = own.s2 i; m01 = t.m01; m12 = t.m12 } in
    table_of_told n prefix t.m01 t.m12 t whole path bare

-- the members under a job are what is under its prefix
pub members_under : (q : Request) (job : Job) (ss : List Symbol) → AreUnder (IsMember q) job.size job.prefix ss → AreMembersUnder q job ss
members_under q job ss are = record {
  ascending = are.ascending;
  members = λ s. (
    (λ there. let u = (are.members s).0 there in record { member = u.wanted; size = u.size; begins = u.begins }),
    (λ m. (are.members s).1 (record { wanted = m.member; orderly = member_orderly q s m.member; size = m.size; begins = m.begins })),
  );
}

-- no member is under a job
pub no_member_of_job : (q : Request) (job : Job) → HasNothingUnder (IsMember q) job.size job.prefix → (s : Symbol) → IsMemberUnder q job s → ⊥
no_member_of_job q job none s m = none s (record { wanted = m.member; orderly = member_orderly q s m.member; size = m.size; begins = m.begins })

-- a search that was begun for a job, and found that no member is under its prefix
pub dead_job : (q : Request) (job : Job) (d : Descending) (xs : List ℕ) → d.request ≡ q → size_of d.stem ≡ job.size → xs ≡ job.prefix
    → HasNothingUnder (IsMember d.request) (size_of d.stem) xs → HasNothingUnder (IsMember q) job.size job.prefix
dead_job q job d xs request size prefix none =
    subst (HasNothingUnder (IsMember q) job.size) prefix
    (subst (λ n. HasNothingUnder (IsMember q) n xs) size (subst (λ r. HasNothingUnder (IsMember r) (size_of d.stem) xs) request none))

-- a search that has come to a job's prefix, and what it added
pub added_members : (q : Request) (job : Job) (d : Descending) (old new : List Symbol) → d.request ≡ q → size_of d.stem ≡ job.size → prefix_of d.stem ≡ job.prefix
    → Appends (AreUnder (IsMember d.request) (size_of d.stem) (prefix_of d.stem)) old new → Appends (AreUnder (IsMember q) job.size job.prefix) old new
added_members q job d old new request size prefix added =
    let one = subst (λ r. Appends (AreUnder (IsMember r) (size_of d.stem) (prefix_of d.stem)) old new) request added in
    let two = subst (λ n. Appends (AreUnder (IsMember q) n (prefix_of d.stem)) old new) size one in
    subst (λ xs. Appends (AreUnder (IsMember q) job.size xs) old new) prefix two

-- what was added to a list that was empty
pub found_members : (q : Request) (job : Job) (old new : List Symbol) → old ≡ [] → Appends (AreUnder (IsMember q) job.size job.prefix) old new → AreMembersUnder q job new
found_members q job old new empty added =
    let whole : new ≡ added.list = added.grown ∙ ap (λ xs. xs ++ added.list) empty in
    members_under q job new (subst (AreUnder (IsMember q) job.size job.prefix) (sym whole) added.holds)

-- nothing was added to a list that was empty
pub found_none : (q : Request) (job : Job) (old : List Symbol) → old ≡ [] → HasNothingUnder (IsMember q) job.size job.prefix → AreMembersUnder q job old
found_none q job old empty none = members_under q job old (subst (AreUnder (IsMember q) job.size job.prefix) (sym empty) (none_under (IsMember q) job.size job.prefix none))
