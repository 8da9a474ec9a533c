-- What a morphism onto a table carries from one to the other.
use Rattle.std.proofs.Common.{◌≡◌, ℕ, ◌≤◌, List, ◌++◌, sym, ap, ◌∙◌, subst, arith}
use Rattle.dd_model.specs.Symbol.{Symbol, IsTable, IsSymbol, AreInvolutions, HasDegree, IsChamber, item, op, act}
use Rattle.dd_model.specs.Connected.{IsReached, Connected}
use Rattle.dd_model.specs.Isomorphic.{HaveLengths, IsMorphism}
use Rattle.dd_model.proofs.Words.{act-append, backwards, act-backwards}
use Rattle.dd_model.proofs.Transport.{act-along, has_degree-along}
use Rattle.dd_quotient.specs.MinimalImage.{IsOnto}

-- what holds of each image holds of each chamber
pub each_image : (s m : Symbol) (f : List ℕ) → IsOnto s m f → (P : ℕ → Type 0) → ((d : ℕ) → IsChamber s d → P (item f d)) → (e : ℕ) → IsChamber m e → P e
each_image s m f onto P all e h =
    let above = onto e h in
    subst P above.leads (all above.chamber above.is_chamber)

pub involutions-onto : (s m : Symbol) (f : List ℕ) → AreInvolutions s → IsMorphism s m f → IsOnto s m f → AreInvolutions m
involutions-onto s m f inv mor onto i = record {
  within = each_image s m f onto (λ e. IsChamber m (op m i e)) (λ d h.
      subst (IsChamber m) (mor.op i d h) (mor.within (op s i d) ((inv i).within d h)));
  involutive = each_image s m f onto (λ e. op m i (op m i e) ≡ e) (λ d h.
      ap (op m i) (sym (mor.op i d h)) ∙ sym (mor.op i (op s i d) ((inv i).within d h)) ∙ ap (item f) ((inv i).involutive d h));
}

table-onto : (s m : Symbol) (f : List ℕ) → IsTable s → IsMorphism s m f → IsOnto s m f → HaveLengths m → IsTable m
table-onto s m f is mor onto ls = record {
  chambers = let one = mor.within 1 (omega arith, is.chambers) in let low = one.0 in let high = one.1 in omega arith;
  lengths = ls.lengths;
  m01_length = ls.m01_length;
  m12_length = ls.m12_length;
  involutions = involutions-onto s m f is.involutions mor onto;
}

-- a symbol has only symbols as its images
pub symbol-onto : (s m : Symbol) (f : List ℕ) → IsSymbol s → IsMorphism s m f → IsOnto s m f → HaveLengths m → IsSymbol m
symbol-onto s m f is mor onto ls = record {
  table = table-onto s m f is.table mor onto ls;
  degrees = λ p. each_image s m f onto (HasDegree m p) (λ d h. has_degree-along s m f is.table.involutions mor p d h (is.degrees p d h));
}

-- and a connected one only connected ones
pub connected-onto : (s m : Symbol) (f : List ℕ) → IsTable s → IsMorphism s m f → IsOnto s m f → 1 ≤ m.size → Connected s → Connected m
connected-onto s m f is mor onto some all =
    let inv = is.involutions in
    let inv_m = involutions-onto s m f inv mor onto in
    let one : IsChamber s 1 = (omega arith, is.chambers) in
    let above = onto 1 (omega arith, some) in
    let to_one = all above.chamber above.is_chamber in
    let there : act m to_one.word (item f 1) ≡ 1 = sym (act-along s m f inv mor to_one.word 1 one) ∙ ap (item f) to_one.leads ∙ above.leads in
    each_image s m f onto (IsReached m) (λ d h.
    let to_d = all d h in
    record {
      word = backwards to_one.word ++ to_d.word;
      leads =
          act-append m (backwards to_one.word) to_d.word 1
          ∙ ap (λ x. act m to_d.word (act m (backwards to_one.word) x)) (sym there)
          ∙ ap (act m to_d.word) (act-backwards m inv_m to_one.word (item f 1) (mor.within 1 one))
          ∙ sym (act-along s m f inv mor to_d.word 1 one)
          ∙ ap (item f) to_d.leads;
    })
