use Rattle.std.proofs.Common.{◌≡◌, ℕ, List, [], sym, ap, ◌∙◌, subst}
use Rattle.std.proofs.lemmas.Result.{err_from_is_err_and}
use Rattle.dd_model.specs.Symbol.{AreInvolutions}
use Rattle.dd_symbol.specs.Building.{listed}
use Rattle.dd_text.proofs.SymbolReads.{fault_s1, fault_s2, involutions_of}
use Rattle.dd_text.proofs.file_reader.involutions_of.Goals as goal

pub returns-in_err-s1-clause-why : goal.returns-in_err-s1-clause-why
returns-in_err-s1-clause-why c =
    let p = err_from_is_err_and c.from_residual-in_err-s1.result c.from_residual-in_err-s1.ensures.1 in
    rw (p.1, p.2) (λ place x e. fault_s1 c.args.text.now x place c.in_ok-s0.s0.items _ _ e c.in_ok-s0.ensures.ok c.in_err-s1.ensures.why)

pub returns-in_err-s2-clause-why : goal.returns-in_err-s2-clause-why
returns-in_err-s2-clause-why c =
    let p = err_from_is_err_and c.from_residual-in_err-s2.result c.from_residual-in_err-s2.ensures.1 in
    rw (p.1, p.2) (λ place x e. fault_s2 c.args.text.now x place c.in_ok-s0.s0.items c.in_ok-s1.s1.items _ _ e c.in_ok-s0.ensures.ok c.in_ok-s1.ensures.ok c.in_err-s2.ensures.why)

-- three lists that are the same
same_lists : (a b c x y z : List ℕ) → a ≡ x → b ≡ y → c ≡ z → listed a b c [] [] ≡ listed x y z [] []
same_lists a b c x y z ea eb ec = ap (λ l. listed l b c [] []) ea ∙ ap (λ l. listed x l c [] []) eb ∙ ap (λ l. listed x y l [] []) ec

pub from_known-requires : goal.from_known-requires
from_known-requires c =
    subst AreInvolutions (sym (same_lists c.deref.result.now c.deref-2.result.now c.deref-3.result.now _ _ _ c.deref.ensures.value c.deref-2.ensures.value c.deref-3.ensures.value))
    (involutions_of c.args.text.now.size _ _ _ c.in_ok-s0.s0.items c.in_ok-s1.s1.items c.in_ok-s2.s2.items [] [] c.in_ok-s0.ensures.ok c.in_ok-s1.ensures.ok c.in_ok-s2.ensures.ok)

pub returns-clause-told : goal.returns-clause-told
returns-clause-told c = record {
  s0 = c.in_ok-s0.s0.items;
  s1 = c.in_ok-s1.s1.items;
  s2 = c.in_ok-s2.s2.items;
  s0_told = c.in_ok-s0.ensures.ok;
  s1_told = c.in_ok-s1.ensures.ok;
  s2_told = c.in_ok-s2.ensures.ok;
  same = c.in_ok-from_known.ensures ∙ same_lists _ _ _ _ _ _ c.deref.ensures.value c.deref-2.ensures.value c.deref-3.ensures.value;
}
