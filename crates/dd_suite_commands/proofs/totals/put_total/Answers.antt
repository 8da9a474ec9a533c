use Rattle.std.proofs.Common.{◌++◌, ap, ◌∙◌}
use Rattle.dd_suite_commands.proofs.TotalsSteps.{four_parts}
use Rattle.dd_suite_commands.proofs.totals.put_total.Goals as goal

pub returns-clause-line : goal.returns-clause-line
returns-clause-line c =
    four_parts c.args.out.now.items _ _ _ _ _ _ _ c.put_bytes-4.new.out.items
    (c.in_ok-put_bytes.ensures.bytes ∙ ap (λ t. c.args.out.now.items ++ t) c.as_bytes.ensures.value)
    c.in_ok-put_bytes-2.ensures.bytes c.in_ok-put_bytes-3.ensures.bytes
    (c.in_ok-put_bytes-4.ensures.bytes ∙ ap (λ t. c.put_bytes-3.new.out.items ++ t) (c.as_bytes-2.ensures.value ∙ c.in_ok-end.ensures.ok))

pub returns-clause-longer : goal.returns-clause-longer
returns-clause-longer c = record {
  rest = _;
  text = four_parts c.args.out.now.items _ _ _ _ _ _ _ c.put_bytes-4.new.out.items
      c.in_ok-put_bytes.ensures.bytes c.in_ok-put_bytes-2.ensures.bytes c.in_ok-put_bytes-3.ensures.bytes c.in_ok-put_bytes-4.ensures.bytes;
}
