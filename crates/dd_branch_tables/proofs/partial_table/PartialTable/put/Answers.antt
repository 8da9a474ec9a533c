use Rattle.std.proofs.Common.{◌≡◌, ◌+◌, ◌/◌, ◌%◌, ap, ◌∙◌, arith, ◌≤◌, sym, subst}
use denote.Enum.Bare.{same_true, same_false}
use Rattle.dd_model.specs.contracts.index.Index.{the_type}
use Rattle.dd_model.specs.declared.index.Index.TheVariants.{One}
use Rattle.dd_model.specs.Symbol.{Symbol, op}
use Rattle.dd_branch_tables.specs.Commuting.{CommutesAt}
use Rattle.dd_branch_tables.specs.Rows.{partial_of, unwound, Commutes}
use Rattle.dd_branch_tables.proofs.Commuting.{commuting_beside, commuting_round, ready_leads_back}
use Rattle.dd_branch_tables.proofs.RowsLemmas.{learns_both, undone_after}
use Rattle.dd_branch_tables.proofs.Filling.{image_inside, learns_from, still_known}
use Rattle.dd_branch_tables.proofs.partial_table.PartialTable.put.Goals as goal
use Rattle.dd_model.specs.Indices.{index_at}

pub returns-then-number-eq0-clause-clash : goal.returns-then-number-eq0-clause-clash
returns-then-number-eq0-clause-clash c s full has =
    let w = image_inside (partial_of c.args.self.now) s c.args.place c.args.number full c.requires.place has.1 in
    let low = w.0 in
    omega arith

pub returns-then-number-size-clause-clash : goal.returns-then-number-size-clause-clash
returns-then-number-size-clause-clash c s full has =
    let w = image_inside (partial_of c.args.self.now) s c.args.place c.args.number full c.requires.place has.1 in
    let high = w.1 in
    omega arith

pub returns-then-not-join-clause-clash : goal.returns-then-not-join-clause-clash
returns-then-not-join-clause-clash c s full has =
    c.if-not-join.ensures.clash s full (ap (λ i. op s i (1 + c.args.place / 3)) c.index_at-i.ensures ∙ has.1)

pub returns-then-not-fill-clause-clash : goal.returns-then-not-fill-clause-clash
returns-then-not-fill-clause-clash c s full has =
    let first = c.if-not-join.ensures.learnt.completes s full (ap (λ i. op s i (1 + c.args.place / 3)) c.index_at-i.ensures ∙ has.1) in
    c.if-not-fill.ensures.clash s first has.0

pub returns-then-not-fill-2-clause-same : goal.returns-then-not-fill-2-clause-same
returns-then-not-fill-2-clause-same c =
    let old = c.args.self.now in
    let P : Symbol → Type 0 = λ s. op s c.index_at-i.result (1 + c.args.place / 3) ≡ c.args.number in
    let both = learns_both P Commutes (λ s. P s × Commutes s) old c.join.new.self c.fill.new.self (λ s full has. has) c.if-not-join.ensures.learnt c.if-not-fill.ensures.learnt in
    undone_after (λ s. P s × Commutes s) old c.fill.new.self c.undo-then-not-fill-2.new.self c.mark-mark.result both c.mark-mark.ensures
    (c.undo-then-not-fill-2.ensures.undone ∙ ap (λ r. unwound r c.mark-mark.result) c.if-not-fill-2.ensures.same)

pub returns-then-not-fill-2-clause-clash : goal.returns-then-not-fill-2-clause-clash
returns-then-not-fill-2-clause-clash c s full has =
    let first = c.if-not-join.ensures.learnt.completes s full (ap (λ i. op s i (1 + c.args.place / 3)) c.index_at-i.ensures ∙ has.1) in
    c.if-not-fill-2.ensures.clash s (c.if-not-fill.ensures.learnt.completes s first has.0) has.0

-- s1 has no part in what commutes
pub returns-then-eq-clause-learnt : goal.returns-then-eq-clause-learnt
returns-then-eq-clause-learnt c =
    let old = c.args.self.now in
    learns_from (λ s. op s c.index_at-i.result (1 + c.args.place / 3) ≡ c.args.number) (λ s. Commutes s × (op s (index_at (c.args.place % 3)) (1 + c.args.place / 3) ≡ c.args.number)) old c.join.new.self
    (λ s full has. ap (λ i. op s i (1 + c.args.place / 3)) c.index_at-i.ensures ∙ has.1) c.if-not-join.ensures.learnt

pub returns-then-number-chamber-clause-learnt : goal.returns-then-number-chamber-clause-learnt
returns-then-number-chamber-clause-learnt c =
    let old = c.args.self.now in
    learns_both (λ s. op s c.index_at-i.result (1 + c.args.place / 3) ≡ c.args.number) Commutes (λ s. Commutes s × (op s (index_at (c.args.place % 3)) (1 + c.args.place / 3) ≡ c.args.number)) old c.join.new.self c.fill.new.self
    (λ s full has. (ap (λ i. op s i (1 + c.args.place / 3)) c.index_at-i.ensures ∙ has.1, has.0)) c.if-not-join.ensures.learnt c.if-not-fill.ensures.learnt

pub returns-clause-learnt : goal.returns-clause-learnt
returns-clause-learnt c =
    let old = c.args.self.now in
    let P : Symbol → Type 0 = λ s. op s c.index_at-i.result (1 + c.args.place / 3) ≡ c.args.number in
    let both = learns_both P Commutes (λ s. P s × Commutes s) old c.join.new.self c.fill.new.self (λ s full has. has) c.if-not-join.ensures.learnt c.if-not-fill.ensures.learnt in
    learns_both (λ s. P s × Commutes s) Commutes (λ s. Commutes s × (op s (index_at (c.args.place % 3)) (1 + c.args.place / 3) ≡ c.args.number)) old c.fill.new.self c.fill-2.new.self
    (λ s full has. ((ap (λ i. op s i (1 + c.args.place / 3)) c.index_at-i.ensures ∙ has.1, has.0), has.0)) both c.if-not-fill-2.ensures.learnt

pub returns-clause-told : goal.returns-clause-told
returns-clause-told c =
    let i = index_at (c.args.place % 3) in
    let d = 1 + c.args.place / 3 in
    let k = c.args.number in
    let some : 1 ≤ k = let zero_ = c.if-number-eq0.false in omega arith in
    let first : op (partial_of c.join.new.self) i d ≡ k = ap (λ j. op (partial_of c.join.new.self) j d) (sym c.index_at-i.ensures) ∙ c.if-not-join.ensures.told in
    still_known Commutes c.fill.new.self c.fill-2.new.self i d k c.if-not-fill-2.ensures.learnt some
    (still_known Commutes c.join.new.self c.fill.new.self i d k c.if-not-fill.ensures.learnt some first)

pub returns-then-number-chamber-clause-told : goal.returns-then-number-chamber-clause-told
returns-then-number-chamber-clause-told c =
    let i = index_at (c.args.place % 3) in
    let d = 1 + c.args.place / 3 in
    let k = c.args.number in
    let some : 1 ≤ k = let zero_ = c.if-number-eq0.false in omega arith in
    let first : op (partial_of c.join.new.self) i d ≡ k = ap (λ j. op (partial_of c.join.new.self) j d) (sym c.index_at-i.ensures) ∙ c.if-not-join.ensures.told in
    still_known Commutes c.join.new.self c.fill.new.self i d k c.if-not-fill.ensures.learnt some first

pub returns-then-eq-clause-commuting : goal.returns-then-eq-clause-commuting
returns-then-eq-clause-commuting c =
    commuting_beside (partial_of c.args.self.now) (partial_of c.join.new.self) c.index_at-i.result (1 + c.args.place / 3) c.args.number (same_true the_type tt c.index_at-i.result One (sym c.eq.ensures ∙ c.if-eq.true)) c.if-not-join.ensures.others

pub returns-then-number-chamber-clause-commuting : goal.returns-then-number-chamber-clause-commuting
returns-then-number-chamber-clause-commuting c =
    let old = c.args.self.now in
    let mid = c.join.new.self in
    let new = c.fill.new.self in
    let i = c.index_at-i.result in
    let d = 1 + c.args.place / 3 in
    let k = c.args.number in
    let some : 1 ≤ k = let none = c.if-number-eq0.false in omega arith in
    let P : Symbol → Type 0 = λ s. op s i d ≡ k in
    let both = learns_both P Commutes (λ s. P s × Commutes s) old mid new (λ s full has. has) c.if-not-join.ensures.learnt c.if-not-fill.ensures.learnt in
    commuting_round (partial_of old) (partial_of mid) (partial_of new) i d k (same_false the_type c.index_at-i.result One (sym c.eq.ensures ∙ c.if-eq.false)) (record {
      chamber = omega arith;
      image = some;
      others = c.if-not-join.ensures.others;
      told = still_known Commutes mid new i d k c.if-not-fill.ensures.learnt some c.if-not-join.ensures.told;
      keeps = both.keeps;
      back = ready_leads_back new c.fill.ensures.ready;
      kept = c.if-not-fill.ensures.kept;
      at = c.if-not-fill.ensures.commutes;
      at_image = subst (CommutesAt (partial_of new)) (sym c.if-number-chamber.true) c.if-not-fill.ensures.commutes;
    })

pub returns-clause-commuting : goal.returns-clause-commuting
returns-clause-commuting c =
    let old = c.args.self.now in
    let mid = c.join.new.self in
    let more = c.fill.new.self in
    let new = c.fill-2.new.self in
    let i = c.index_at-i.result in
    let d = 1 + c.args.place / 3 in
    let k = c.args.number in
    let some : 1 ≤ k = let none = c.if-number-eq0.false in omega arith in
    let P : Symbol → Type 0 = λ s. op s i d ≡ k in
    let one = learns_both P Commutes (λ s. P s × Commutes s) old mid more (λ s full has. has) c.if-not-join.ensures.learnt c.if-not-fill.ensures.learnt in
    let both = learns_both (λ s. P s × Commutes s) Commutes (λ s. P s × Commutes s) old more new (λ s full has. (has, has.1)) one c.if-not-fill-2.ensures.learnt in
    commuting_round (partial_of old) (partial_of mid) (partial_of new) i d k (same_false the_type c.index_at-i.result One (sym c.eq.ensures ∙ c.if-eq.false)) (record {
      chamber = omega arith;
      image = some;
      others = c.if-not-join.ensures.others;
      told = still_known Commutes more new i d k c.if-not-fill-2.ensures.learnt some (still_known Commutes mid more i d k c.if-not-fill.ensures.learnt some c.if-not-join.ensures.told);
      keeps = both.keeps;
      back = ready_leads_back new c.fill-2.ensures.ready;
      kept = record { at = λ e low at. c.if-not-fill-2.ensures.kept.at e low (c.if-not-fill.ensures.kept.at e low at) };
      at = c.if-not-fill-2.ensures.kept.at d (omega arith) c.if-not-fill.ensures.commutes;
      at_image = c.if-not-fill-2.ensures.commutes;
    })
