use Rattle.std.proofs.Common.{rules, ◌≡◌, length, arith}
use Rattle.dd_template.specs.Table.{table_of}
use Rattle.dd_template.proofs.decision.is_lawful.Goals as goal

pub returns-then-have_moves : goal.returns-then-have_moves
returns-then-have_moves g c =
    let t = table_of c.args.template.now in
    let face : length t.face ≡ g.row.K = search rules in
    let degree : length t.degree ≡ g.row.K = search rules in (
      λ h. record {
        lists = record {
          some = omega (arith, c.if-this-eq0.false);
          few = omega (arith, c.if-this-gt64.false);
          moves = c.are_undone.ensures.parts (search rules);
          face = face;
          degree = degree;
        };
        moves = c.have_moves.ensures.0 c.if-have_moves.true;
        entries = c.have_entries.ensures.0 h;
      },
      λ lawful. c.have_entries.ensures.1 lawful.entries,
    )
