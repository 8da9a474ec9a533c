use Rattle.std.proofs.Common.{◌++◌, codes, decimal, refl, ap, ◌∙◌}
use Rattle.std.proofs.lemmas.Result.{on_ok_weaker}
use Rattle.dd_suite_tasks.specs.Endings.{pause_line}
use Rattle.dd_suite_tasks.proofs.Pieces.{first_piece, second_piece, third_piece, all_pieces}
use Rattle.dd_suite_tasks.proofs.messages.tell_pause.Goals as goal

pub returns-in_err-write_all_of-clause-prefix : goal.returns-in_err-write_all_of-clause-prefix
returns-in_err-write_all_of-clause-prefix g c =
    let old = g.E.Sink.held c.args.err.now in
    let one = g.E.Sink.held c.write_all_of.new.out in
    first_piece old one one one (codes "dressline: paused at ") (decimal c.args.lines) (codes " lines\n") (pause_line c.args.lines) refl c.write_all_of.ensures.prefix

pub returns-in_err-write_all_of-2-clause-prefix : goal.returns-in_err-write_all_of-2-clause-prefix
returns-in_err-write_all_of-2-clause-prefix g c =
    let old = g.E.Sink.held c.args.err.now in
    let one = g.E.Sink.held c.write_all_of.new.out in
    let two = g.E.Sink.held c.write_all_of-2.new.out in
    second_piece old one two two (codes "dressline: paused at ") c.as_bytes.result.now (codes " lines\n") (pause_line c.args.lines)
    (ap (λ t. codes "dressline: paused at " ++ (t ++ codes " lines\n")) (c.as_bytes.ensures.value ∙ c.format.ensures.text)) c.in_ok-write_all_of.ensures.whole c.write_all_of-2.ensures.prefix

pub returns-clause-whole : goal.returns-clause-whole
returns-clause-whole g c =
    let old = g.E.Sink.held c.args.err.now in
    let one = g.E.Sink.held c.write_all_of.new.out in
    let two = g.E.Sink.held c.write_all_of-2.new.out in
    let all = g.E.Sink.held c.write_all_of-3.new.out in
    on_ok_weaker c.write_all_of-3.result
    (λ last. all_pieces old one two all (codes "dressline: paused at ") c.as_bytes.result.now (codes " lines\n") (pause_line c.args.lines)
    (ap (λ t. codes "dressline: paused at " ++ (t ++ codes " lines\n")) (c.as_bytes.ensures.value ∙ c.format.ensures.text)) c.in_ok-write_all_of.ensures.whole c.in_ok-write_all_of-2.ensures.whole last)
    c.write_all_of-3.ensures.whole

pub returns-clause-prefix : goal.returns-clause-prefix
returns-clause-prefix g c =
    let old = g.E.Sink.held c.args.err.now in
    let one = g.E.Sink.held c.write_all_of.new.out in
    let two = g.E.Sink.held c.write_all_of-2.new.out in
    let all = g.E.Sink.held c.write_all_of-3.new.out in
    third_piece old one two all (codes "dressline: paused at ") c.as_bytes.result.now (codes " lines\n") (pause_line c.args.lines)
    (ap (λ t. codes "dressline: paused at " ++ (t ++ codes " lines\n")) (c.as_bytes.ensures.value ∙ c.format.ensures.text)) c.in_ok-write_all_of.ensures.whole c.in_ok-write_all_of-2.ensures.whole c.write_all_of-3.ensures.prefix
