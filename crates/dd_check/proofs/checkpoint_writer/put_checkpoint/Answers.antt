use Rattle.std.proofs.Common.{refl}
use Rattle.std.proofs.lemmas.Result.{on_ok_weaker}
use Rattle.std.specs.Prelude.{string_bytes}
use Rattle.dd_check.specs.Checks.{check_text}
use Rattle.dd_check.proofs.LineLemmas.{check_lines}
use Rattle.dd_check.proofs.checkpoint_writer.put_checkpoint.Goals as goal

pub returns : goal.returns
returns c =
    let f = c.in_ok-put_set_line.ensures in
    let d = c.in_ok-put_set_line-2.ensures in
    on_ok_weaker c.put_last_lines.result
    (λ last. record {
      check = check_text c.args.c.now f.items d.items;
      is_check = record {
        faces = f.items;
        degrees = d.items;
        are_faces = f.are_items;
        are_degrees = d.are_items;
        face_set = f.set_is;
        degree_set = d.set_is;
        text_is = refl;
      };
      text = check_lines (string_bytes c.args.text.now) (string_bytes c.put_first_lines.new.text) (string_bytes c.put_set_line.new.text) (string_bytes c.put_set_line-2.new.text)
          (string_bytes c.put_last_lines.new.text) c.args.c.now f.items d.items c.in_ok-put_first_lines.ensures f.text d.text last;
    })
    c.put_last_lines.ensures
