-- What a lawful table makes of a connected symbol is connected.
use Rattle.std.proofs.Common.{◌≡◌, ℕ, ◌-◌, ◌*◌, [], ◌∷◌, ◌++◌, refl, sym, ap, ◌∙◌, subst, arith}
use Rattle.dd_model.specs.declared.index.Index.{Index}
use Rattle.dd_model.specs.Symbol.{Symbol, AreInvolutions, IsSymbol, IsChamber, Word, op, act}
use Rattle.dd_model.specs.Connected.{Connected}
use Rattle.dd_model.proofs.Words.{act-append, act-backwards, backwards}
use Rattle.dd_template.specs.Table.{Table, IsPart, move, part_after}
use Rattle.dd_template.specs.Made.{chamber_of, moved, made}
use Rattle.dd_template.specs.Lawful.{IsLawful}
use Rattle.dd_template.specs.Moves.{AreUndone}
use Rattle.dd_template.specs.Connecting.{IsSilent}
use Rattle.dd_template.proofs.PlaceLemmas.{place_of, chamber_of_within, op-made}
use Rattle.dd_template.proofs.MadeSymbols.{made_involutions}

-- some word leads from one chamber to the other
pub record Leads (s : Symbol) (d e : ℕ) : Type 0 where
  pub word : Word
  pub leads : act s word d ≡ e

leads-trans : (s : Symbol) (c d e : ℕ) → Leads s c d → Leads s d e → Leads s c e
leads-trans s c d e a b = record {
  word = a.word ++ b.word;
  leads = act-append s a.word b.word c ∙ ap (act s b.word) a.leads ∙ b.leads;
}

leads-sym : (s : Symbol) → AreInvolutions s → (d e : ℕ) → IsChamber s d → Leads s d e → Leads s e d
leads-sym s inv d e h a = record {
  word = backwards a.word;
  leads = ap (act s (backwards a.word)) (sym a.leads) ∙ act-backwards s inv a.word d h;
}

-- moves that stay in the chamber
act-silent : (t : Table) (s : Symbol) → AreUndone t → (w : Word) (d x : ℕ) → IsChamber s d → IsPart t x → IsSilent t w x
    → act (made t s) w (chamber_of t d x) ≡ chamber_of t d (part_after t w x)
act-silent t s undone [] d x h inside silent = refl
act-silent t s undone (i ∷ w) d x h inside silent =
    let m = move t i x in
    ap (act (made t s) w) (op-made t s i d x h inside ∙ ap (λ by. chamber_of t (moved s by d) m.to) silent.0)
    ∙ act-silent t s undone w d m.to h (undone i x inside).part silent.1

-- from the first part of a chamber to another
first_leads : (t : Table) (s : Symbol) → IsLawful t → (d x : ℕ) → IsChamber s d → IsPart t x → Leads (made t s) (chamber_of t d 0) (chamber_of t d x)
first_leads t s lawful d x h inside =
    let j = lawful.moves.joined x inside in
    record {
      word = j.word;
      leads = act-silent t s lawful.moves.undone j.word d 0 h lawful.lists.some j.silent ∙ ap (chamber_of t d) j.leads;
    }

-- from the first part of a chamber to that of its image
image_leads : (t : Table) (s : Symbol) → IsLawful t → AreInvolutions s → (i : Index) (d : ℕ) → IsChamber s d
    → Leads (made t s) (chamber_of t d 0) (chamber_of t (op s i d) 0)
image_leads t s lawful inv i d h =
    let u = lawful.moves.used i in
    let m = move t u.index u.from in
    let next = op s i d in
    let hn = (inv i).within d h in
    let undone = lawful.moves.undone in
    let made_inv = made_involutions t s lawful.lists.some undone inv in
    let inside : IsPart t m.to = (undone u.index u.from u.part).part in
    let out = first_leads t s lawful d u.from h u.part in
    let over : Leads (made t s) (chamber_of t d u.from) (chamber_of t next m.to) = record {
      word = u.index ∷ [];
      leads = op-made t s u.index d u.from h u.part ∙ ap (λ by. chamber_of t (moved s by d) m.to) u.by;
    } in
    let zero_place = chamber_of_within t s next 0 hn lawful.lists.some in
    let home = leads-sym (made t s) made_inv (chamber_of t next 0) (chamber_of t next m.to) zero_place (first_leads t s lawful next m.to hn inside) in
    leads-trans (made t s) (chamber_of t d 0) (chamber_of t d u.from) (chamber_of t next 0) out
    (leads-trans (made t s) (chamber_of t d u.from) (chamber_of t next m.to) (chamber_of t next 0) over home)

word_leads : (t : Table) (s : Symbol) → IsLawful t → AreInvolutions s → (w : Word) (d : ℕ) → IsChamber s d
    → Leads (made t s) (chamber_of t d 0) (chamber_of t (act s w d) 0)
word_leads t s lawful inv [] d h = record { word = []; leads = refl }
word_leads t s lawful inv (i ∷ w) d h =
    let next = op s i d in
    leads-trans (made t s) (chamber_of t d 0) (chamber_of t next 0) (chamber_of t (act s w next) 0)
    (image_leads t s lawful inv i d h)
    (word_leads t s lawful inv w next ((inv i).within d h))

pub made_connected : (t : Table) (s : Symbol) → IsLawful t → IsSymbol s → Connected s → Connected (made t s)
made_connected t s lawful is connected e h =
    let inv = is.table.involutions in
    let p = place_of t s e lawful.lists.some h in
    let one : IsChamber s 1 = let n = is.table.chambers in (omega arith, n) in
    let start : chamber_of t 1 0 ≡ 1 = let z : (1 - 1) * t.parts ≡ 0 = omega arith in omega arith in
    let from = connected p.chamber p.is_chamber in
    let over = subst (λ d. Leads (made t s) (chamber_of t 1 0) (chamber_of t d 0)) from.leads (word_leads t s lawful inv from.word 1 one) in
    let all = leads-trans (made t s) (chamber_of t 1 0) (chamber_of t p.chamber 0) (chamber_of t p.chamber p.part) over
    (first_leads t s lawful p.chamber p.part p.is_chamber p.is_part) in
    record { word = all.word; leads = ap (act (made t s) all.word) (sym start) ∙ all.leads ∙ p.place }
