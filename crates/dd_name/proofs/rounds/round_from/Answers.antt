use Rattle.std.proofs.Common.{◌≡◌, ℕ, List, [], true, false, ◌∷◌, ◌++◌, get_or, sym, ap, ◌∙◌, subst}
use Rattle.std.proofs.Math.ListN.{set}
use Rattle.dd_name.specs.declared.joints.Joint.{Joint}
use Rattle.dd_name.specs.Flags.{place_of}
use Rattle.dd_name.specs.Marks.{IsMarked}
use Rattle.dd_name.proofs.TourLemmas.{IsTour, tour_starts, tour_goes_on, tour_closes, tour_is_round}
use Rattle.dd_name.proofs.rounds.round_from.Goals as goal

pub loop-marks-init : goal.loop-marks-init
loop-marks-init c =
    subst (λ (js : List Joint). IsTour c.args.symbol.now c.args.start c.args.marks.now c.args.marks.now js c.at-current.result) (sym c.new-joints.ensures.items)
    (tour_starts c.args.symbol.now c.args.start c.args.marks.now c.at-current.result c.requires.marks c.requires.fresh c.at-current.ensures.joint
    c.at-current.ensures.flag (c.at-current.ensures.by ∙ c.first_pair.ensures))

pub loop-marks-preserved : goal.loop-marks-preserved
loop-marks-preserved c =
    let s = c.args.symbol.now in
    let x = c.loop-marks.current in
    let y = c.next-current.result in
    let marks = c.loop-marks.marks in
    let joints = c.loop-marks.joints.items in
    let open_mark : get_or marks (place_of x.flag) false ≡ false = ap (λ (k : ℕ). get_or marks k false) (sym c.place.ensures) ∙ c.loop-marks-test.true in
    let fresh : IsMarked marks x.flag → ⊥ = λ m. (cc) in
    let pushed : c.push.new.self.items ≡ joints ++ x ∷ [] = c.in_ok-push.ensures.items in
    subst (λ (k : ℕ). IsTour s c.args.start c.args.marks.now (set marks k true) c.push.new.self.items y) (sym c.place-in-loop-marks.ensures)
    (subst (λ (js : List Joint). IsTour s c.args.start c.args.marks.now (set marks (place_of x.flag) true) js y) (sym pushed)
    (tour_goes_on s c.next-current.ensures.symbol.symbol.table.involutions c.args.start c.args.marks.now marks joints x y c.loop-marks.invariant fresh
    c.next-current.ensures.linked c.next-current.ensures.joint))

pub returns-clause-marks : goal.returns-clause-marks
returns-clause-marks c =
    let x = c.loop-marks.current in
    let marks = c.loop-marks.marks in
    let met : IsMarked marks x.flag = ap (λ (k : ℕ). get_or marks k false) (sym c.place.ensures) ∙ c.loop-marks-test.false in
    tour_closes c.args.symbol.now c.args.start c.args.marks.now marks c.loop-marks.joints.items x c.loop-marks.invariant c.requires.fresh met

pub returns-clause-round : goal.returns-clause-round
returns-clause-round c =
    let x = c.loop-marks.current in
    let marks = c.loop-marks.marks in
    let met : IsMarked marks x.flag = ap (λ (k : ℕ). get_or marks k false) (sym c.place.ensures) ∙ c.loop-marks-test.false in
    tour_is_round c.args.symbol.now c.args.start c.args.marks.now marks c.loop-marks.joints.items x c.loop-marks.invariant c.requires.fresh met
