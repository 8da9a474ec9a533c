use Rattle.std.proofs.Common.{◌≡◌, ◌+◌, ◌^◌, ◌<◌, ◌≤◌, length}
use Rattle.dd_model.specs.Parts.{digits, past_digits, value_from}
use Rattle.dd_text.proofs.reader.Reader.number.Given as goal

abbrev pub invariant-loop-self : goal.invariant-loop-self
invariant-loop-self l = record {
  count : l.count + length (digits l.self.rest.now) ≡ length (digits l.fn.self.rest.now);
  at : l.self.at ≡ l.fn.self.at + l.count;
  rest : past_digits l.self.rest.now ≡ past_digits l.fn.self.rest.now;
  value : l.count ≤ 9 → value_from l.value (digits l.self.rest.now) ≡ value_from 0 (digits l.fn.self.rest.now);
  small : l.count ≤ 9 → l.value < 10 ^ l.count;
}

abbrev pub decreases-loop-self : goal.decreases-loop-self
decreases-loop-self l = length l.self.rest.now
