use Rattle.std.proofs.Common.{◌↔◌, IsTrue, IfOk, length, get_or, sym, subst}
use Rattle.std.specs.List.{Contains}
use Rattle.dd_model.specs.Symbol.{Symbol, IsChamber}
use Rattle.dd_model.proofs.SameInvolutions.{connected-same}
use Rattle.dd_canon.specs.Ties.{IsLeastFrom}
use Rattle.dd_symbol.specs.Images.{with_degrees}
use Rattle.dd_symbol.proofs.TableLemmas.{with_same}
use Rattle.dd_branch_degrees.specs.Automorphism.{AreAutomorphisms}
use Rattle.dd_branch_degrees.proofs.TurnedDegrees.{least_by_automorphisms, automorphisms_with, visit_with, within_automorphism}
use Rattle.dd_branch_degrees.proofs.ties.Ties.are_least.Goals as goal

pub none_is_smaller-requires-clause-tiles : goal.none_is_smaller-requires-clause-tiles
none_is_smaller-requires-clause-tiles c j x low =
    let known = subst (AreAutomorphisms c.args.table.now c.args.self.now.starts.items) (sym c.as_slice.ensures.value) (rw c.in-Some.is at c.requires.automorphisms) in
    within_automorphism c.args.table.now (get_or c.args.self.now.starts.items j 0) (length c.args.m01.now) (get_or c.as_slice.result.now j x).chambers.items c.requires.small.symbol.table.m01_length (known.each j x low)

pub none_is_smaller-requires-clause-vertices : goal.none_is_smaller-requires-clause-vertices
none_is_smaller-requires-clause-vertices c j x low =
    let known = subst (AreAutomorphisms c.args.table.now c.args.self.now.starts.items) (sym c.as_slice.ensures.value) (rw c.in-Some.is at c.requires.automorphisms) in
    within_automorphism c.args.table.now (get_or c.args.self.now.starts.items j 0) (length c.args.m12.now) (get_or c.as_slice.result.now j x).chambers.items c.requires.small.symbol.table.m12_length (known.each j x low)

pub returns-in-Some : goal.returns-in-Some
returns-in-Some c =
    let known = subst (AreAutomorphisms c.args.table.now c.args.self.now.starts.items) (sym c.as_slice.ensures.value) (rw c.in-Some.is at c.requires.automorphisms) in
    let t = c.args.table.now in
    let m01 = c.args.m01.now in
    let m12 = c.args.m12.now in
    let s = with_degrees t m01 m12 in
    let ds = c.args.self.now.starts.items in
    let both = least_by_automorphisms s ds c.as_slice.result.now c.requires.small.symbol.table (connected-same t s (with_same t m01 m12) c.requires.connected) c.requires.starts (visit_with t m01 m12 c.requires.visit) (automorphisms_with t m01 m12 ds c.as_slice.result.now known) in
    let told = c.none_is_smaller.ensures in (
      (λ yes'. both.0 (told.0 yes')),
      (λ least. told.1 (both.1 least)),
    )

pub is_least_from_ties-requires : goal.is_least_from_ties-requires
is_least_from_ties-requires c d there =
    subst (λ (s : Symbol). IsChamber s d) (sym c.in_ok-symbol-in-None.ensures) (c.requires.starts d (subst (λ xs. Contains xs d) c.as_slice-in-None.ensures.value there))

pub returns-in_ok-symbol-in-None : goal.returns-in_ok-symbol-in-None
returns-in_ok-symbol-in-None c =
    subst (λ (s : Symbol). IfOk c.is_least_from_ties.result (λ yes. IsTrue yes ↔ IsLeastFrom s c.args.self.now.starts.items)) c.in_ok-symbol-in-None.ensures
    (subst (λ ds. IfOk c.is_least_from_ties.result (λ yes. IsTrue yes ↔ IsLeastFrom c.in_ok-symbol-in-None.symbol ds)) c.as_slice-in-None.ensures.value c.is_least_from_ties.ensures)
