use Rattle.std.proofs.Common.{◌≡◌, true}
use Rattle.std.proofs.lemmas.Bool.{OnTrue_at, OnTrue_from}
use Rattle.dd_model.specs.declared.index.Index.TheVariants.{Zero, Two}
use Rattle.dd_model.specs.Symbol.{Symbol, op}
use Rattle.dd_branch_tables.specs.Commuting.{CommutesAt, KeepsCommuting}
use Rattle.dd_branch_tables.specs.Rows.{partial_of, Learns, Excludes, Commutes}
use Rattle.dd_branch_tables.proofs.Commuting.{IsFilled, KnowsRound, filled_by, two_filled, two_filled_at, zero_filled, zero_filled_at}
use Rattle.dd_branch_tables.proofs.Filling.{learns_from, excludes_from, on_true_from, on_false_from, KnowsBoth, forced_zero, forced_two, chamber_too}
use Rattle.dd_branch_tables.proofs.partial_table.PartialTable.fill.Goals as goal

pub returns-then-opposite-ne0-clause-learnt : goal.returns-then-opposite-ne0-clause-learnt
returns-then-opposite-ne0-clause-learnt c =
    let old = c.args.self.now in
    let P : Symbol → Type 0 = λ s. op s Zero c.known-two.result ≡ c.known-opposite.result in
    let both : KnowsBoth (partial_of old) c.args.chamber c.known-zero.result c.known-two.result =
    record { zero_ = c.known-zero.ensures.image; two = c.known-two.ensures.image; zero_known = c.if-zero-eq0.false; two_known = c.if-two-eq0.false } in
    on_true_from c.join.result (Learns P old c.join.new.self) (Learns Commutes old c.join.new.self)
    (learns_from P Commutes old c.join.new.self (λ s full commutes.
    forced_zero (partial_of old) s c.args.chamber c.known-zero.result c.known-two.result c.known-opposite.result full commutes
    (chamber_too (partial_of old) s c.args.chamber full c.requires.chamber) both c.known-opposite.ensures.image c.if-opposite-ne0.true))
    c.join.ensures.learnt

pub returns-then-opposite-ne0-clause-clash : goal.returns-then-opposite-ne0-clause-clash
returns-then-opposite-ne0-clause-clash c =
    let old = c.args.self.now in
    let P : Symbol → Type 0 = λ s. op s Zero c.known-two.result ≡ c.known-opposite.result in
    let both : KnowsBoth (partial_of old) c.args.chamber c.known-zero.result c.known-two.result =
    record { zero_ = c.known-zero.ensures.image; two = c.known-two.ensures.image; zero_known = c.if-zero-eq0.false; two_known = c.if-two-eq0.false } in
    on_false_from c.join.result (Excludes P old) (Excludes Commutes old)
    (excludes_from P Commutes old (λ s full commutes.
    forced_zero (partial_of old) s c.args.chamber c.known-zero.result c.known-two.result c.known-opposite.result full commutes
    (chamber_too (partial_of old) s c.args.chamber full c.requires.chamber) both c.known-opposite.ensures.image c.if-opposite-ne0.true))
    c.join.ensures.clash

pub returns-then-opposite-ne0-2-clause-learnt : goal.returns-then-opposite-ne0-2-clause-learnt
returns-then-opposite-ne0-2-clause-learnt c =
    let old = c.args.self.now in
    let P : Symbol → Type 0 = λ s. op s Two c.known-zero.result ≡ c.known-opposite-2.result in
    let both : KnowsBoth (partial_of old) c.args.chamber c.known-zero.result c.known-two.result =
    record { zero_ = c.known-zero.ensures.image; two = c.known-two.ensures.image; zero_known = c.if-zero-eq0.false; two_known = c.if-two-eq0.false } in
    on_true_from c.join-then-opposite-ne0-2.result (Learns P old c.join-then-opposite-ne0-2.new.self) (Learns Commutes old c.join-then-opposite-ne0-2.new.self)
    (learns_from P Commutes old c.join-then-opposite-ne0-2.new.self (λ s full commutes.
    forced_two (partial_of old) s c.args.chamber c.known-zero.result c.known-two.result c.known-opposite-2.result full commutes
    (chamber_too (partial_of old) s c.args.chamber full c.requires.chamber) both c.known-opposite-2.ensures.image c.if-opposite-ne0-2.true))
    c.join-then-opposite-ne0-2.ensures.learnt

pub returns-then-opposite-ne0-2-clause-clash : goal.returns-then-opposite-ne0-2-clause-clash
returns-then-opposite-ne0-2-clause-clash c =
    let old = c.args.self.now in
    let P : Symbol → Type 0 = λ s. op s Two c.known-zero.result ≡ c.known-opposite-2.result in
    let both : KnowsBoth (partial_of old) c.args.chamber c.known-zero.result c.known-two.result =
    record { zero_ = c.known-zero.ensures.image; two = c.known-two.ensures.image; zero_known = c.if-zero-eq0.false; two_known = c.if-two-eq0.false } in
    on_false_from c.join-then-opposite-ne0-2.result (Excludes P old) (Excludes Commutes old)
    (excludes_from P Commutes old (λ s full commutes.
    forced_two (partial_of old) s c.args.chamber c.known-zero.result c.known-two.result c.known-opposite-2.result full commutes
    (chamber_too (partial_of old) s c.args.chamber full c.requires.chamber) both c.known-opposite-2.ensures.image c.if-opposite-ne0-2.true))
    c.join-then-opposite-ne0-2.ensures.clash

-- what the join puts in
zero_join : (c : goal.After-join) → c.join.result ≡ true → IsFilled (partial_of c.args.self.now) (partial_of c.join.new.self) Zero Two c.args.chamber c.known-zero.result c.known-two.result c.known-opposite.result
zero_join c joined =
    let b = c.known-two.result in
    let o = c.known-opposite.result in
    let round : KnowsRound c.args.self.now Zero Two c.args.chamber c.known-zero.result b o = record {
      apart = λ e. let clash : Two ≡ Zero = e in cc;
      chamber = c.requires.chamber.0;
      first = c.known-zero.ensures.image;
      second = c.known-two.ensures.image;
      opposite = c.known-opposite.ensures.image;
      first_known = c.if-zero-eq0.false;
      second_known = c.if-two-eq0.false;
      opposite_known = c.if-opposite-ne0.true;
    } in
    filled_by c.args.self.now c.join.new.self Zero Two c.args.chamber c.known-zero.result b o (λ s. op s Zero b ≡ o) round
    c.join.ensures.ready (OnTrue_at joined c.join.ensures.learnt) (OnTrue_at joined c.join.ensures.told) (OnTrue_at joined c.join.ensures.others)

pub returns-then-opposite-ne0-clause-commutes : goal.returns-then-opposite-ne0-clause-commutes
returns-then-opposite-ne0-clause-commutes c =
    OnTrue_from c.join.result (CommutesAt (partial_of c.join.new.self) c.args.chamber)
    (λ joined. zero_filled_at (partial_of c.args.self.now) (partial_of c.join.new.self) c.args.chamber c.known-zero.result c.known-two.result c.known-opposite.result (zero_join c joined))

pub returns-then-opposite-ne0-clause-kept : goal.returns-then-opposite-ne0-clause-kept
returns-then-opposite-ne0-clause-kept c =
    OnTrue_from c.join.result (KeepsCommuting (partial_of c.args.self.now) (partial_of c.join.new.self))
    (λ joined. zero_filled (partial_of c.args.self.now) (partial_of c.join.new.self) c.args.chamber c.known-zero.result c.known-two.result c.known-opposite.result (zero_join c joined))

-- what the join puts in
two_join : (c : goal.After-join-then-opposite-ne0-2) → c.join-then-opposite-ne0-2.result ≡ true → IsFilled (partial_of c.args.self.now) (partial_of c.join-then-opposite-ne0-2.new.self) Two Zero c.args.chamber c.known-two.result c.known-zero.result c.known-opposite-2.result
two_join c joined =
    let b = c.known-zero.result in
    let o = c.known-opposite-2.result in
    let round : KnowsRound c.args.self.now Two Zero c.args.chamber c.known-two.result b o = record {
      apart = λ e. let clash : Zero ≡ Two = e in cc;
      chamber = c.requires.chamber.0;
      first = c.known-two.ensures.image;
      second = c.known-zero.ensures.image;
      opposite = c.known-opposite-2.ensures.image;
      first_known = c.if-two-eq0.false;
      second_known = c.if-zero-eq0.false;
      opposite_known = c.if-opposite-ne0-2.true;
    } in
    filled_by c.args.self.now c.join-then-opposite-ne0-2.new.self Two Zero c.args.chamber c.known-two.result b o (λ s. op s Two b ≡ o) round
    c.join-then-opposite-ne0-2.ensures.ready (OnTrue_at joined c.join-then-opposite-ne0-2.ensures.learnt) (OnTrue_at joined c.join-then-opposite-ne0-2.ensures.told) (OnTrue_at joined c.join-then-opposite-ne0-2.ensures.others)

pub returns-then-opposite-ne0-2-clause-commutes : goal.returns-then-opposite-ne0-2-clause-commutes
returns-then-opposite-ne0-2-clause-commutes c =
    OnTrue_from c.join-then-opposite-ne0-2.result (CommutesAt (partial_of c.join-then-opposite-ne0-2.new.self) c.args.chamber)
    (λ joined. two_filled_at (partial_of c.args.self.now) (partial_of c.join-then-opposite-ne0-2.new.self) c.args.chamber c.known-two.result c.known-zero.result c.known-opposite-2.result (two_join c joined))

pub returns-then-opposite-ne0-2-clause-kept : goal.returns-then-opposite-ne0-2-clause-kept
returns-then-opposite-ne0-2-clause-kept c =
    OnTrue_from c.join-then-opposite-ne0-2.result (KeepsCommuting (partial_of c.args.self.now) (partial_of c.join-then-opposite-ne0-2.new.self))
    (λ joined. two_filled (partial_of c.args.self.now) (partial_of c.join-then-opposite-ne0-2.new.self) c.args.chamber c.known-two.result c.known-zero.result c.known-opposite-2.result (two_join c joined))
