use Rattle.std.proofs.Common.{sym, subst}
use Rattle.dd_opword.proofs.LetterTables.{IsMeant, one_meant, two_meant, three_meant}
use Rattle.dd_opword.proofs.application.apply_word.Goals as goal

pub returns-in-One : goal.returns-in-One
returns-in-One c =
    let meant = subst (λ w. IsMeant w c.args.symbol.now c.apply_letter.result) (sym c.in-One.is) (one_meant c.in-One.letter c.args.symbol.now c.apply_letter.result c.apply_letter.ensures) in
    record { made = meant.made; within = meant.within; why = meant.why }

pub returns-in-Two : goal.returns-in-Two
returns-in-Two c =
    let meant = subst (λ w. IsMeant w c.args.symbol.now c.apply_two.result) (sym c.in-Two.is) (two_meant c.in-Two.first c.in-Two.second c.args.symbol.now c.apply_two.result c.apply_two.ensures) in
    record { made = meant.made; within = meant.within; why = meant.why }

pub returns-in-Three : goal.returns-in-Three
returns-in-Three c =
    let meant = subst (λ w. IsMeant w c.args.symbol.now c.apply_three.result) (sym c.in-Three.is) (three_meant c.in-Three.first c.in-Three.second c.in-Three.third c.args.symbol.now c.apply_three.result c.apply_three.ensures) in
    record { made = meant.made; within = meant.within; why = meant.why }
