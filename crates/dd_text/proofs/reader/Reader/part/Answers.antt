use Rattle.std.proofs.Common.{ap, sym, ◌∙◌}
use Rattle.dd_model.specs.declared.tokens.Part.TheVariants.{Sign, End}
use Rattle.dd_model.specs.Parts.{part_of}
use Rattle.dd_text.specs.Reader.{cursor_of, step}
use Rattle.dd_text.proofs.NextPart.{first_is, after_is, digit_part, digit_rest, sign_part_is, sign_rest, no_rest}
use Rattle.dd_text.proofs.reader.Reader.part.Goals as goal

pub returns-in-None : goal.returns-in-None
returns-in-None c =
    let r = cursor_of c.skip_blanks.new.self in
    record { part = first_is (cursor_of c.args.self.now) (cursor_of c.skip_blanks.new.self) End c.skip_blanks.ensures (sym (ap part_of c.in-None.ensures.none)); rest = after_is (cursor_of c.args.self.now) r r c.skip_blanks.ensures (no_rest r.at r.rest c.in-None.ensures.none) }

pub returns-in-Some : goal.returns-in-Some
returns-in-Some c =
    let r = cursor_of c.skip_blanks.new.self in
    let b = c.in-Some.ensures.some in
    record { part = first_is (cursor_of c.args.self.now) r c.number-part.result c.skip_blanks.ensures (c.number-part.ensures.part ∙ digit_part r.rest b.after c.in-Some.byte b.begins (sym c.is_ascii_digit.ensures.value ∙ c.if-is_ascii_digit.true)); rest = after_is (cursor_of c.args.self.now) r (cursor_of c.number-part.new.self) c.skip_blanks.ensures (c.number-part.ensures.rest ∙ digit_rest r.at r.rest b.after c.in-Some.byte b.begins (sym c.is_ascii_digit.ensures.value ∙ c.if-is_ascii_digit.true)) }

pub returns-in-Some-2 : goal.returns-in-Some-2
returns-in-Some-2 c =
    let r = cursor_of c.skip_blanks.new.self in
    let b = c.in-Some.ensures.some in
    record { part = first_is (cursor_of c.args.self.now) r (Sign c.in-Some.byte) c.skip_blanks.ensures (sign_part_is r.rest b.after c.in-Some.byte b.begins (sym c.is_ascii_digit.ensures.value ∙ c.if-is_ascii_digit.false)); rest = after_is (cursor_of c.args.self.now) r (cursor_of c.advance.new.self) c.skip_blanks.ensures (c.advance.ensures ∙ ap (step r.at) b.begins ∙ sign_rest r.at r.rest b.after c.in-Some.byte b.begins (sym c.is_ascii_digit.ensures.value ∙ c.if-is_ascii_digit.false)) }
