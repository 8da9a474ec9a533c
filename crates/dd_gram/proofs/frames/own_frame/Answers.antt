use Rattle.std.proofs.Common.{◌≡◌, ◌^◌, ◌≤◌, ℤ, pos, ◌-ℤ◌, ◌*ℤ◌, ◌≤ℤ◌, ◌<ℤ◌, nat_abs, FitsSigned, to_z, of_z, sym, ap, ◌∙◌, subst, arith}
use Rattle.std.specs.Int.{w64, w128, int_div_euclid, IsIsqrt}
use Rattle.dd_model.specs.declared.frame.Frame.TheVariants as frames
use Rattle.dd_gram.specs.Form.{IsGramOfSome}
use Rattle.dd_gram.specs.declared.forms.Gram.{Gram}
use Rattle.dd_gram.proofs.KeptForms.{form_positive, form_definite}
use Rattle.dd_gram.proofs.SizeLemmas.{HasSize, form_size, read128}
use Rattle.dd_model.proofs.IntegerSizes.{quotient_size}
use Rattle.dd_gram.proofs.FrameLemmas.{at_128, whole_part, whole_root, root_size, nonzero, not_minus_one, fits_128, lean, lean_size, sides, sides_size, beside, beside_size, less, less_size, area, area_size, area_positive, read_cast, fits_cast}
use Rattle.dd_gram.proofs.frames.own_frame.Goals as goal

size : (g : Gram) → IsGramOfSome g → HasSize g (2 ^ 43)
size g some = form_size some.t some.torus some.net some.is_net some.small.size g some.is_gram

some_a : (g : Gram) → IsGramOfSome g → pos 0 <ℤ g.a
some_a g some = form_positive some.t g some.torus some.is_gram

more_area : (g : Gram) → IsGramOfSome g → (g.b *ℤ g.b) <ℤ (g.a *ℤ g.c)
more_area g some = form_definite some.t g some.torus some.is_gram

pub overflow_mul-g : goal.overflow_mul-g
overflow_mul-g c =
    let g = c.args.g.now in
    let s = size g c.requires in
    subst (FitsSigned w128) (sym (lean g.a g.b g.c s.a s.b s.c)) (fits_128 (pos 1000 *ℤ g.b) (let e = lean_size g.a g.b g.c s.a s.b s.c in omega arith))

pub div_euclid-p-requires-clause-nonzero : goal.div_euclid-p-requires-clause-nonzero
div_euclid-p-requires-clause-nonzero c = let g = c.args.g.now in nonzero g.a (some_a g c.requires) (size g c.requires).a

pub div_euclid-p-requires-clause-no_overflow : goal.div_euclid-p-requires-clause-no_overflow
div_euclid-p-requires-clause-no_overflow c same = let g = c.args.g.now in absurd (not_minus_one g.a (some_a g c.requires) (size g c.requires).a same)

pub overflow_mul-g-2 : goal.overflow_mul-g-2
overflow_mul-g-2 c =
    let g = c.args.g.now in
    let s = size g c.requires in
    subst (FitsSigned w128) (sym (sides g.a g.b g.c s.a s.b s.c)) (fits_128 (g.a *ℤ g.c) (let e = sides_size g.a g.b g.c s.a s.b s.c in omega arith))

pub overflow_mul-g-3 : goal.overflow_mul-g-3
overflow_mul-g-3 c =
    let g = c.args.g.now in
    let s = size g c.requires in
    subst (FitsSigned w128) (sym (beside g.a g.b g.c s.a s.b s.c)) (fits_128 (g.b *ℤ g.b) (let e = beside_size g.a g.b g.c s.a s.b s.c in omega arith))

pub overflow_sub-g : goal.overflow_sub-g
overflow_sub-g c =
    let g = c.args.g.now in
    let s = size g c.requires in
    subst (FitsSigned w128) (sym (less g.a g.b g.c s.a s.b s.c)) (fits_128 (g.a *ℤ g.c -ℤ g.b *ℤ g.b) (let e = less_size g.a g.b g.c s.a s.b s.c in omega arith))

pub overflow_mul-g-4 : goal.overflow_mul-g-4
overflow_mul-g-4 c =
    let g = c.args.g.now in
    let s = size g c.requires in
    subst (FitsSigned w128) (sym (area g.a g.b g.c s.a s.b s.c)) (fits_128 (pos 1000000 *ℤ (g.a *ℤ g.c -ℤ g.b *ℤ g.b)) (let e = area_size g.a g.b g.c s.a s.b s.c in omega arith))

area_read : (g : Gram) → IsGramOfSome g → at_128 (pos 1000000 *ℤ at_128 (at_128 (at_128 g.a *ℤ at_128 g.c) -ℤ at_128 (at_128 g.b *ℤ at_128 g.b))) ≡ pos 1000000 *ℤ (g.a *ℤ g.c -ℤ g.b *ℤ g.b)
area_read g some =
    let s = size g some in
    ap at_128 (area g.a g.b g.c s.a s.b s.c) ∙ read128 (pos 1000000 *ℤ (g.a *ℤ g.c -ℤ g.b *ℤ g.b)) (let e = area_size g.a g.b g.c s.a s.b s.c in omega arith)

pub isqrt-root-requires : goal.isqrt-root-requires
isqrt-root-requires c =
    let g = c.args.g.now in
    let s = size g c.requires in
    subst (λ z. pos 0 ≤ℤ z) (sym (area_read g c.requires)) (area_positive g.a g.b g.c s.a s.b s.c (more_area g c.requires))

pub div_euclid-q-requires-clause-nonzero : goal.div_euclid-q-requires-clause-nonzero
div_euclid-q-requires-clause-nonzero c = let g = c.args.g.now in nonzero g.a (some_a g c.requires) (size g c.requires).a

-- what the calls answer
p_read : (g : Gram) → IsGramOfSome g → (p : ℤ) → p ≡ int_div_euclid (at_128 (pos 1000 *ℤ at_128 g.b)) (at_128 g.a) → p ≡ int_div_euclid (pos 1000 *ℤ g.b) g.a
p_read g some p e =
    let s = size g some in
    e ∙ ap (λ z. int_div_euclid (at_128 z) (at_128 g.a)) (lean g.a g.b g.c s.a s.b s.c)
    ∙ (λ i. int_div_euclid (read128 (pos 1000 *ℤ g.b) (let n = lean_size g.a g.b g.c s.a s.b s.c in omega arith) i) (read128 g.a (let n = s.a in omega arith) i))

p_size : (g : Gram) → IsGramOfSome g → nat_abs (int_div_euclid (pos 1000 *ℤ g.b) g.a) ≤ 2 ^ 60
p_size g some = let s = size g some in let e = quotient_size (pos 1000 *ℤ g.b) g.a (some_a g some) in let n = lean_size g.a g.b g.c s.a s.b s.c in omega arith

root_is : (g : Gram) → IsGramOfSome g → (r : ℤ) → IsIsqrt (at_128 (pos 1000000 *ℤ at_128 (at_128 (at_128 g.a *ℤ at_128 g.c) -ℤ at_128 (at_128 g.b *ℤ at_128 g.b)))) r → IsIsqrt (pos 1000000 *ℤ (g.a *ℤ g.c -ℤ g.b *ℤ g.b)) r
root_is g some r is = subst (λ z. IsIsqrt z r) (area_read g some) is

r_size : (g : Gram) → IsGramOfSome g → (r : ℤ) → IsIsqrt (pos 1000000 *ℤ (g.a *ℤ g.c -ℤ g.b *ℤ g.b)) r → nat_abs r ≤ 2 ^ 54
r_size g some r is = let s = size g some in root_size (pos 1000000 *ℤ (g.a *ℤ g.c -ℤ g.b *ℤ g.b)) r (area_size g.a g.b g.c s.a s.b s.c) is

q_read : (g : Gram) → IsGramOfSome g → (r q : ℤ) → nat_abs r ≤ 2 ^ 54 → q ≡ int_div_euclid (at_128 r) (at_128 g.a) → q ≡ int_div_euclid r g.a
q_read g some r q small e = let s = size g some in e ∙ (λ i. int_div_euclid (read128 r (omega arith) i) (read128 g.a (let n = s.a in omega arith) i))

pub overflow_cast-result : goal.overflow_cast-result
overflow_cast-result c =
    let g = c.args.g.now in
    let e = p_read g c.requires c.div_euclid-p.result c.div_euclid-p.ensures in
    fits_cast c.div_euclid-p.result (subst (λ z. nat_abs z ≤ 2 ^ 60) (sym e) (p_size g c.requires))

pub overflow_cast-result-2 : goal.overflow_cast-result-2
overflow_cast-result-2 c =
    let g = c.args.g.now in
    let root = root_is g c.requires c.isqrt-root.result c.isqrt-root.ensures in
    let small = r_size g c.requires c.isqrt-root.result root in
    let e = q_read g c.requires c.isqrt-root.result c.div_euclid-q.result small c.div_euclid-q.ensures in
    let n = quotient_size c.isqrt-root.result g.a (some_a g c.requires) in
    fits_cast c.div_euclid-q.result (subst (λ z. nat_abs z ≤ 2 ^ 60) (sym e) (omega arith))

pub returns : goal.returns
returns c =
    let g = c.args.g.now in
    let some = c.requires in
    let s = size g some in
    let a = some_a g some in
    let root = root_is g some c.isqrt-root.result c.isqrt-root.ensures in
    let small = r_size g some c.isqrt-root.result root in
    let p = int_div_euclid (pos 1000 *ℤ g.b) g.a in
    let q = int_div_euclid c.isqrt-root.result g.a in
    let ep = p_read g some c.div_euclid-p.result c.div_euclid-p.ensures in
    let eq = q_read g some c.isqrt-root.result c.div_euclid-q.result small c.div_euclid-q.ensures in
    let n = quotient_size c.isqrt-root.result g.a a in
    let rp : to_z w64 (of_z w64 (at_128 c.div_euclid-p.result)) ≡ p = ap (λ z. to_z w64 (of_z w64 (at_128 z))) ep ∙ read_cast p (p_size g some) in
    let rq : to_z w64 (of_z w64 (at_128 c.div_euclid-q.result)) ≡ q = ap (λ z. to_z w64 (of_z w64 (at_128 z))) eq ∙ read_cast q (omega arith) in
    record {
      p = p;
      q = q;
      is = λ i. frames.Own (rp i) (rq i);
      is_p = whole_part (pos 1000 *ℤ g.b) g.a a;
      root = c.isqrt-root.result;
      is_root = whole_root (pos 1000000 *ℤ (g.a *ℤ g.c -ℤ g.b *ℤ g.b)) c.isqrt-root.result (area_positive g.a g.b g.c s.a s.b s.c (more_area g some)) root;
      is_q = whole_part c.isqrt-root.result g.a a;
    }
