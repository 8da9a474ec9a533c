use Rattle.std.proofs.Common.{sym, ap, subst}
use Rattle.dd_model.specs.Isomorphic.{IsMorphism}
use Rattle.dd_covers.specs.Torus.{IsTorus}
use Rattle.dd_covers.specs.Sheets.{sheets_of}
use Rattle.dd_covers.proofs.SheetLemmas.{morphism-sheets}
use Rattle.dd_covers.proofs.TorusLemmas.{torus_by_rules}
use Rattle.dd_covers.proofs.torus_laws.torus_covers_are_tori.Goals as goal

pub returns-clause-torus : goal.returns-clause-torus
returns-clause-torus c s t k below symbol connected oriented flat is =
    subst IsTorus (sym is.cover) (torus_by_rules s symbol connected oriented flat k is.shifts is.greatest is.are_shifts)

pub returns-clause-morphism : goal.returns-clause-morphism
returns-clause-morphism c s t k below symbol is =
    subst (λ u. IsMorphism u s below) (sym is.cover)
    (subst (λ g. IsMorphism (sheets_of s k is.shifts) s g) (sym is.is_below) (morphism-sheets s symbol k is.shifts))

pub returns-clause-sheets : goal.returns-clause-sheets
returns-clause-sheets c s t k below is = ap (λ u. u.size) is.cover
