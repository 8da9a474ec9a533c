use Rattle.std.proofs.Common.{◌++◌, refl, ap, ◌∙◌}
use Rattle.dd_suite_commands.proofs.TotalsSteps.{three_parts}
use Rattle.dd_suite_commands.specs.Facts.{head_text, tail_text}
use Rattle.dd_suite_commands.proofs.info.put_info_line.Goals as goal

pub returns : goal.returns
returns c =
    let facts = c.in_ok-facts.facts in
    let group = c.in_ok-group.group.items in
    record {
      group = group;
      line = head_text c.args.k facts ++ (group ++ tail_text facts);
      is_line = record { facts = facts; are_facts = c.in_ok-facts.ensures; is_group = c.in_ok-group.ensures; text = refl };
      text = three_parts c.args.out.now.items _ _ _ _ _ c.extend_from_slice-3.new.self.items
          (c.in_ok-extend_from_slice.ensures.items ∙ ap (λ t. c.args.out.now.items ++ t) (c.as_bytes.ensures.value ∙ c.in_ok-head.ensures))
          (c.in_ok-extend_from_slice-2.ensures.items ∙ ap (λ t. c.extend_from_slice.new.self.items ++ t) c.deref.ensures.value)
          (c.in_ok-extend_from_slice-3.ensures.items ∙ ap (λ t. c.extend_from_slice-2.new.self.items ++ t) (c.as_bytes-2.ensures.value ∙ c.tail.ensures));
      totals = c.in_ok-add.ensures.counted;
    }
