-- The ambo of the dual is the ambo with the two parts of each chamber exchanged.
use Rattle.std.proofs.Common.{◌≡◌, ℕ, zero, suc, ◌*◌, List, refl, sym, ap, ◌∙◌, subst, arith}
use Rattle.dd_model.specs.declared.index.Index.{Index}
use Rattle.dd_model.specs.declared.index.Index.TheVariants.{Zero, One, Two}
use Rattle.dd_model.specs.Symbol.{Symbol, AreInvolutions, IsTable, IsChamber, item, op}
use Rattle.dd_model.specs.Isomorphic.{Undoes, IsBijection, IsIsomorphism}
use Rattle.dd_template.specs.Table.{IsPart, move, entry}
use Rattle.dd_template.specs.Made.{chamber_of, moved, degree_of, of_parts, made, IsPlace}
use Rattle.dd_template.specs.Named.{ambo}
use Rattle.dd_template.specs.Dual.{exchanged}
use Rattle.dd_template.proofs.PlaceLemmas.{place_of, chamber_of_within, op-made, item-of_parts, length-of_parts}

-- the other part
abbrev other : ℕ → ℕ
other zero = 1
other (suc x) = 0

other_within : (x : ℕ) → IsPart ambo x → IsPart ambo (other x)
other_within zero h = omega arith
other_within (suc x) h = omega arith

other_twice : (x : ℕ) → IsPart ambo x → other (other x) ≡ x
other_twice zero h = refl
other_twice (suc zero) h = refl
other_twice (suc (suc x)) h = absurd (omega arith)

-- the other part of each chamber
abbrev pub parts_exchanged : Symbol → List ℕ
parts_exchanged s = of_parts ambo s (λ d x. chamber_of ambo d (other x))

at_part : (s : Symbol) (d x : ℕ) → IsChamber s d → IsPart ambo x → item (parts_exchanged s) (chamber_of ambo d x) ≡ chamber_of ambo d (other x)
at_part s d x h inside = item-of_parts ambo s (λ e y. chamber_of ambo e (other y)) d x h inside

-- a chamber of the ambo
abbrev place : (s : Symbol) (e : ℕ) → IsChamber (made ambo s) e → IsPlace ambo s e
place s e h = place_of ambo s e (omega arith) h

within : (s : Symbol) (e : ℕ) → IsChamber (made ambo s) e → IsChamber (made ambo s) (item (parts_exchanged s) e)
within s e h =
    let p = place s e h in
    subst (λ y. IsChamber (made ambo s) (item (parts_exchanged s) y)) p.place
    (subst (IsChamber (made ambo s)) (sym (at_part s p.chamber p.part p.is_chamber p.is_part))
    (chamber_of_within ambo s p.chamber (other p.part) p.is_chamber (other_within p.part p.is_part)))

twice : (s : Symbol) (e : ℕ) → IsChamber (made ambo s) e → item (parts_exchanged s) (item (parts_exchanged s) e) ≡ e
twice s e h =
    let p = place s e h in
    let f = parts_exchanged s in
    subst (λ y. item f (item f y) ≡ y) p.place
    (ap (item f) (at_part s p.chamber p.part p.is_chamber p.is_part)
    ∙ at_part s p.chamber (other p.part) p.is_chamber (other_within p.part p.is_part)
    ∙ ap (chamber_of ambo p.chamber) (other_twice p.part p.is_part))

undoes : (s : Symbol) → Undoes (s.size * 2) (parts_exchanged s) (parts_exchanged s)
undoes s = record {
  within = λ e low high. within s e (low, high);
  undone = λ e low high. twice s e (low, high);
}

bijection : (s : Symbol) → IsBijection (s.size * 2) (parts_exchanged s)
bijection s = record {
  images = length-of_parts ambo s (λ d x. chamber_of ambo d (other x));
  inverse = parts_exchanged s;
  inverse_images = length-of_parts ambo s (λ d x. chamber_of ambo d (other x));
  left = undoes s;
  right = undoes s;
}

-- a move of a part of the dual is that of the other part
other_move : (s : Symbol) (i : Index) (d x : ℕ) → IsPart ambo x
    → chamber_of ambo (moved (exchanged s) (move ambo i x).by d) (other (move ambo i x).to)
    ≡ chamber_of ambo (moved s (move ambo i (other x)).by d) (move ambo i (other x)).to
other_move s Zero d zero h = refl
other_move s One d zero h = refl
other_move s Two d zero h = refl
other_move s Zero d (suc zero) h = refl
other_move s One d (suc zero) h = refl
other_move s Two d (suc zero) h = refl
other_move s i d (suc (suc x)) h = absurd (omega arith)

to_within : (i : Index) (x : ℕ) → IsPart ambo x → IsPart ambo (move ambo i x).to
to_within Zero zero h = omega arith
to_within One zero h = omega arith
to_within Two zero h = omega arith
to_within Zero (suc zero) h = omega arith
to_within One (suc zero) h = omega arith
to_within Two (suc zero) h = omega arith
to_within i (suc (suc x)) h = absurd (omega arith)

moved_by : (s : Symbol) → AreInvolutions s → (i : Index) (d x : ℕ) → IsChamber s d → IsPart ambo x → IsChamber s (moved (exchanged s) (move ambo i x).by d)
moved_by s inv Zero d zero h inside = (inv One).within d h
moved_by s inv One d zero h inside = (inv Two).within d h
moved_by s inv Two d zero h inside = h
moved_by s inv Zero d (suc zero) h inside = (inv One).within d h
moved_by s inv One d (suc zero) h inside = (inv Zero).within d h
moved_by s inv Two d (suc zero) h inside = h
moved_by s inv i d (suc (suc x)) h inside = absurd (omega arith)

same_op : (s : Symbol) → AreInvolutions s → (i : Index) (d x : ℕ) → IsChamber s d → IsPart ambo x
    → item (parts_exchanged s) (op (made ambo (exchanged s)) i (chamber_of ambo d x)) ≡ op (made ambo s) i (item (parts_exchanged s) (chamber_of ambo d x))
same_op s inv i d x h inside =
    let f = parts_exchanged s in
    let m = move ambo i x in
    let next = moved (exchanged s) m.by d in
    ap (item f) (op-made ambo (exchanged s) i d x h inside)
    ∙ at_part s next m.to (moved_by s inv i d x h inside) (to_within i x inside)
    ∙ other_move s i d x inside
    ∙ sym (op-made ambo s i d (other x) h (other_within x inside))
    ∙ ap (op (made ambo s) i) (sym (at_part s d x h inside))

same_face : (s : Symbol) (d x : ℕ) → IsPart ambo x → degree_of s (entry ambo.face (other x)) d ≡ degree_of (exchanged s) (entry ambo.face x) d
same_face s d zero h = refl
same_face s d (suc zero) h = refl
same_face s d (suc (suc x)) h = absurd (omega arith)

same_vertex : (s : Symbol) (d x : ℕ) → IsPart ambo x → degree_of s (entry ambo.degree (other x)) d ≡ degree_of (exchanged s) (entry ambo.degree x) d
same_vertex s d zero h = refl
same_vertex s d (suc zero) h = refl
same_vertex s d (suc (suc x)) h = absurd (omega arith)

same_m01 : (s : Symbol) (d x : ℕ) → IsChamber s d → IsPart ambo x
    → item (made ambo s).m01 (item (parts_exchanged s) (chamber_of ambo d x)) ≡ item (made ambo (exchanged s)).m01 (chamber_of ambo d x)
same_m01 s d x h inside =
    ap (item (made ambo s).m01) (at_part s d x h inside)
    ∙ item-of_parts ambo s (λ e y. degree_of s (entry ambo.face y) e) d (other x) h (other_within x inside)
    ∙ same_face s d x inside
    ∙ sym (item-of_parts ambo (exchanged s) (λ e y. degree_of (exchanged s) (entry ambo.face y) e) d x h inside)

same_m12 : (s : Symbol) (d x : ℕ) → IsChamber s d → IsPart ambo x
    → item (made ambo s).m12 (item (parts_exchanged s) (chamber_of ambo d x)) ≡ item (made ambo (exchanged s)).m12 (chamber_of ambo d x)
same_m12 s d x h inside =
    ap (item (made ambo s).m12) (at_part s d x h inside)
    ∙ item-of_parts ambo s (λ e y. degree_of s (entry ambo.degree y) e) d (other x) h (other_within x inside)
    ∙ same_vertex s d x inside
    ∙ sym (item-of_parts ambo (exchanged s) (λ e y. degree_of (exchanged s) (entry ambo.degree y) e) d x h inside)

pub ambo_of_dual : (s : Symbol) → IsTable s → IsIsomorphism (made ambo (exchanged s)) (made ambo s) (parts_exchanged s)
ambo_of_dual s is =
    let f = parts_exchanged s in
    record {
      size = refl;
      bijection = bijection s;
      morphism = record {
        images = length-of_parts ambo s (λ d x. chamber_of ambo d (other x));
        within = within s;
        op = λ i e h. let p = place s e h in
            subst (λ y. item f (op (made ambo (exchanged s)) i y) ≡ op (made ambo s) i (item f y)) p.place (same_op s is.involutions i p.chamber p.part p.is_chamber p.is_part);
        m01 = λ e h. let p = place s e h in
            subst (λ y. item (made ambo s).m01 (item f y) ≡ item (made ambo (exchanged s)).m01 y) p.place (same_m01 s p.chamber p.part p.is_chamber p.is_part);
        m12 = λ e h. let p = place s e h in
            subst (λ y. item (made ambo s).m12 (item f y) ≡ item (made ambo (exchanged s)).m12 y) p.place (same_m12 s p.chamber p.part p.is_chamber p.is_part);
      };
    }
