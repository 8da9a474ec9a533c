use Rattle.std.proofs.Common.{◌≡◌, [], ◌+◌, ◌<◌, ◌^◌, take, drop, length, get_or, subst, sym, refl, ap, ◌∙◌, arith}
use Rattle.std.proofs.lemmas.List.{get_or-take, get_or-drop, length-take, length-drop}
use Rattle.dd_model.specs.Involutions.{HaveSameInvolutions}
use Rattle.dd_symbol.specs.Images.{with_degrees}
use Rattle.dd_text.specs.Outline.{HasNumber, IsOutlineOf, shared_by}
use Rattle.dd_text.specs.Writing.{AddsLines}
use Rattle.dd_text.proofs.LineTexts.{number_within, outline_same}
use Rattle.dd_text.proofs.LinesAdded.{no_lines, one_line_more, all_lines, front_stays}
use Rattle.dd_text.proofs.list_lines.append_list.Goals as goal

pub loop-place-init : goal.loop-place-init
loop-place-init c =
    let count = c.from.ensures in
    let start : c.from.result ≡ c.args.before + 0 = omega arith in
    record {
      lines = no_lines c.args.before c.args.symbols.now c.args.out.now.items;
      number = subst (λ n. HasNumber n c.in_ok-outline.outline) start (record { rest = []; numbered = c.in_ok-outline.ensures });
    }

pub returns-in_err-make-clause-longer : goal.returns-in_err-make-clause-longer
returns-in_err-make-clause-longer c = front_stays _ _ _ _ _ c.loop-place.invariant.lines refl

pub loop-k-init : goal.loop-k-init
loop-k-init c =
    let place = c.loop-place.place in
    let n = c.args.before + place in
    let t = c.symbol.result.now in
    let i = c.loop-place.invariant in
    let o = c.make.new.self in
    let made = c.in_ok-make.ensures n i.number in
    let start : place ≡ place + 0 = omega arith in
    let same : n ≡ c.args.before + (place + 0) = omega arith in
    record {
      lines = subst (λ j. AddsLines c.args.before (take j c.args.symbols.now) c.args.out.now.items c.loop-place.out.items) start i.lines;
      number = subst (λ m. HasNumber m o) same (record { rest = shared_by t; numbered = made.numbered });
      outline = λ j s low here.
          let alike = c.table.ensures j s low in
          let is = subst (λ u. HaveSameInvolutions u s) (sym c.symbol.ensures.same) (subst (HaveSameInvolutions c.table.result.now) (sym here) alike) in
          subst (λ m. IsOutlineOf m s o) same (outline_same n t s o is made);
    }

pub advance-requires-clause-some : goal.advance-requires-clause-some
advance-requires-clause-some c =
    let end = c.loop-k.invariant.number.numbered.end_is in
    omega arith

pub advance-requires-clause-within : goal.advance-requires-clause-within
advance-requires-clause-within c =
    let o = c.loop-k.outline in
    let is = c.loop-k.invariant.number in
    number_within (c.args.before + (c.loop-place.place + c.loop-k.k)) is.rest o.head.items o.number_end is.numbered

pub returns-in_err-advance-clause-longer : goal.returns-in_err-advance-clause-longer
returns-in_err-advance-clause-longer c = front_stays _ _ _ _ _ c.loop-k.invariant.lines refl

pub put_listed-requires-clause-cells : goal.put_listed-requires-clause-cells
put_listed-requires-clause-cells c =
    let place = c.loop-place.place in
    let k = c.loop-k.k in
    let l = c.get.result in
    let s = with_degrees l.table.now l.m01.now l.m12.now in
    let n = c.args.before + (place + k) in
    let first = c.ranges.before.fits in
    let from = c.loop-place.auto.place-fits.fits in
    let fits = c.len-k-end.type_inv in
    let low = c.loop-k-test.true in
    let small : n + 1 < 10 ^ 64 = omega arith in
    let alike = c.alike_from-alike.result in
    let there : k < length alike = let count = c.len-k-end.ensures in omega arith in
    (c.in_ok-advance.ensures n s small (c.loop-k.invariant.outline k s there c.get.ensures.symbol)).cells

pub returns-in_err-put_listed-clause-longer : goal.returns-in_err-put_listed-clause-longer
returns-in_err-put_listed-clause-longer c = front_stays _ _ _ _ _ c.loop-k.invariant.lines c.in_err-put_listed.ensures.same

pub loop-k-preserved : goal.loop-k-preserved
loop-k-preserved c =
    let place = c.loop-place.place in
    let k = c.loop-k.k in
    let l = c.get.result in
    let s = with_degrees l.table.now l.m01.now l.m12.now in
    let n = c.args.before + (place + k) in
    let first = c.ranges.before.fits in
    let from = c.loop-place.auto.place-fits.fits in
    let fits = c.len-k-end.type_inv in
    let low = c.loop-k-test.true in
    let small : n + 1 < 10 ^ 64 = omega arith in
    let alike = c.alike_from-alike.result in
    let there : k < length alike = let count = c.len-k-end.ensures in omega arith in
    let ss = c.args.symbols.now in
    let i = c.loop-k.invariant in
    let on : n + 1 ≡ c.args.before + (place + (k + 1)) = omega arith in
    let next : place + k + 1 ≡ place + (k + 1) = omega arith in
    let advanced = c.in_ok-advance.ensures n s small (i.outline k s there c.get.ensures.symbol) in
    let put = subst (λ m. IsOutlineOf m s c.put_listed.new.self) on (c.in_ok-put_listed.ensures.outline (n + 1) s advanced) in
    let read : s ≡ get_or ss (place + k) s =
    c.get.ensures.symbol ∙ ap (λ xs. get_or xs k s) c.alike_from-alike.ensures.symbols
    ∙ get_or-take (length alike) (drop place ss) k s there ∙ get_or-drop place ss k s in
    let within : place + k < length ss =
    omega (arith, there, ap length c.alike_from-alike.ensures.symbols, length-take (length alike) (drop place ss), length-drop place ss) in
    record {
      lines = subst (λ j. AddsLines c.args.before (take j ss) c.args.out.now.items c.put_listed.new.out.items) next
          (one_line_more c.args.before n (place + k) ss s c.args.out.now.items c.loop-k.out.items c.put_listed.new.out.items within read refl i.lines
          (c.in_ok-put_listed.ensures.line (n + 1) advanced));
      number = record { rest = shared_by s; numbered = put.numbered };
      outline = λ j t h here. subst (λ m. IsOutlineOf m t c.put_listed.new.self) on
          (c.in_ok-put_listed.ensures.outline (n + 1) t (c.in_ok-advance.ensures n t small (i.outline j t h here)));
    }

pub loop-place-preserved : goal.loop-place-preserved
loop-place-preserved c =
    let i = c.loop-k.invariant in
    let same : c.loop-place.place + c.loop-k.k ≡ c.loop-place.place + c.len-place.result = omega (arith, c.loop-k-test.false, c.loop-k.auto.k-end, c.len-k-end.ensures, c.len-place.ensures) in
    record {
      lines = subst (λ j. AddsLines c.args.before (take j c.args.symbols.now) c.args.out.now.items c.loop-k.out.items) same i.lines;
      number = subst (λ j. HasNumber (c.args.before + j) c.loop-k.outline) same i.number;
    }

pub returns-clause-lines : goal.returns-clause-lines
returns-clause-lines c = all_lines _ c.loop-place.place _ _ _ (omega (arith, c.loop-place-test.false, c.len-in-loop-place.ensures)) c.loop-place.invariant.lines

pub returns-clause-longer : goal.returns-clause-longer
returns-clause-longer c = front_stays _ _ _ _ _ c.loop-place.invariant.lines refl

pub loop-place-smaller : goal.loop-place-smaller
loop-place-smaller c = omega (arith, c.loop-place-test.true, c.len-in-loop-place.ensures, c.alike_from-alike.ensures.some, c.len-place.ensures)

pub alike_from-alike-requires : goal.alike_from-alike-requires
alike_from-alike-requires c = omega (arith, c.loop-place-test.true, c.len-in-loop-place.ensures)

pub get-requires : goal.get-requires
get-requires c = omega (arith, c.loop-k-test.true, c.len-k-end.ensures)

pub put_listed-requires-clause-small : goal.put_listed-requires-clause-small
put_listed-requires-clause-small c = c.get.ensures.small

pub overflow_add-place : goal.overflow_add-place
overflow_add-place c =
    let all = c.len-in-loop-place.ensures in
    let fits = c.len-in-loop-place.type_inv in
    let low = c.loop-place-test.true in
    let count = c.len-place.ensures in
    omega (arith, ap length c.alike_from-alike.ensures.symbols, length-take (length c.alike_from-alike.result) (drop c.loop-place.place c.args.symbols.now), length-drop c.loop-place.place c.args.symbols.now)
