use Rattle.std.proofs.Common.{◌≡◌, ◌+◌, ◌<◌, ◌≤◌, List, Ok, length, drop, refl, ◌∙◌, ap, sym, subst, arith}
use Rattle.std.proofs.lemmas.Iterator.Adapters.{items_from_extend, YieldsList-from_vec}
use Rattle.std.specs.List.{splice}
use Rattle.dd_front.specs.declared.entry.Entry.{Entry}
use Rattle.dd_front.specs.Numbers.{HaveOwnNumbers}
use Rattle.dd_front.specs.Shut.{IsShutTo}
use Rattle.dd_front.proofs.Shutting.{shut_spliced}
use Rattle.dd_front.proofs.Kept.{splice_in, splice_long, place_inside}
use Rattle.dd_front.proofs.entry_list.EntryList.replace.Goals as goal

-- the vector after the call
spliced : (c : goal.After-self-1) → c.splice.new.self.items ≡ splice c.self.inside.all.items (c.self.inside.gone + c.args.place) (c.self.inside.gone + c.args.place + 1) c.args.entries.items
spliced c =
    let x = c.in_ok-splice.ensures.items in
    let P : List Entry → Type 0 = λ ys. c.splice.new.self.items ≡ splice c.self.inside.all.items (c.self.inside.gone + c.args.place) (c.self.inside.gone + c.args.place + 1) ys in
    items_from_extend {E = Unit {0}} {P = P} {s = x.0} (Ok tt) (x.0, x.1, refl, x.4, x.3) (YieldsList-from_vec c.args.entries.items x.2.0 (x.2.1 ∙ omega arith))

inside : (c : goal.After-self-1) → c.self.inside.gone + c.args.place < length c.self.inside.all.items
inside c = place_inside c.self.inside.all.items c.self.inside.gone c.args.place c.args.self.now c.self.view_is c.self.invariant.inside c.requires.place

pub returns-clause-entries : goal.returns-clause-entries
returns-clause-entries c =
    let now = spliced c in
    let view : drop c.self.inside.gone (splice c.self.inside.all.items (c.self.inside.gone + c.args.place) (c.self.inside.gone + c.args.place + 1) c.args.entries.items)
    ≡ splice c.args.self.now c.args.place (c.args.place + 1) c.args.entries.items =
    splice_in c.self.inside.all.items c.self.inside.gone c.args.place c.args.self.now c.args.entries.items c.self.view_is (inside c) in
    ap (drop c.self.inside.gone) now ∙ view

pub invariant_of-self-2 : goal.invariant_of-self-2
invariant_of-self-2 c =
    let shut = c.self.inside.shut in
    let es = c.args.self.now in
    record {
      inside = subst (λ ds. c.self.inside.gone ≤ length ds) (sym (spliced c)) (splice_long c.self.inside.all.items c.self.inside.gone c.args.place c.args.entries.items (inside c));
      numbers = subst HaveOwnNumbers (sym (returns-clause-entries c)) c.requires.numbers;
      shut = subst (IsShutTo c.min-self-inside.result) (sym (returns-clause-entries c))
          (subst (λ n. IsShutTo n (splice es c.args.place (c.args.place + 1) c.args.entries.items)) (sym c.min-self-inside.ensures)
          (shut_spliced shut c.args.place es c.args.entries.items c.requires.place (subst (IsShutTo shut) c.self.view_is c.self.invariant.shut)));
    }
