-- The lines of members that are cut into parts.
use Rattle.std.proofs.Common.{◌≡◌, ℕ, suc, ◌+◌, ◌*◌, ◌^◌, ◌<◌, ◌≤◌, List, [], ◌∷◌, ◌++◌, Result, Ok, IfOk, Vec, length, length-append, reverse, slice_index_or, sym, ap, ◌∙◌, subst, append_assoc, arith}
use Rattle.std.proofs.lemmas.List.{append-nil, reverse-append}
use Rattle.std.proofs.lemmas.List.Concat.{flat_map-append}
use Rattle.std.specs.List.{flat_map}
use Rattle.std.specs.Global.{Global}
use Rattle.std.specs.Bool.{⊤}
use Rattle.dd_model.specs.Symbol.{Symbol}
use Rattle.dd_model.specs.Text.{AreLines}
use Rattle.dd_model.specs.declared.memory.Memory.{Memory}
use Rattle.dd_model.proofs.Texts.{joined_lines}
use Rattle.dd_pages_and_checkpoints.specs.Parts.{members_of, AreNumbered, AreParts}
use Rattle.dd_pages_and_checkpoints.specs.Texts.{bytes_of, joined}
use Rattle.dd_pages_and_checkpoints.specs.declared.numbered_members.NumberedMembers.{NumberedMembers}

-- ## Cutting

-- What is left of these symbols, and then the parts that were taken off the end, of which the latest is the first, are all of them.
pub record IsCut (k : ℕ) (all left : List Symbol) (parts : List NumberedMembers) : Type 0 where
  pub numbered : AreNumbered (k + length left) (reverse parts)
  pub whole : all ≡ left ++ flat_map members_of (reverse parts)

pub none_cut : (k : ℕ) (all left : List Symbol) (parts : List NumberedMembers) → left ≡ all → parts ≡ [] → IsCut k all left parts
none_cut k all left parts same none =
    let start : IsCut k all left [] = record { numbered = tt; whole = sym (append-nil left ∙ same) } in
    subst (IsCut k all left) (sym none) start

pub one_cut : (k : ℕ) (all left front : List Symbol) (part : NumberedMembers) (parts now : List NumberedMembers) → left ≡ front ++ members_of part → part.before ≡ k + length front → now ≡ parts ++ part ∷ []
    → IsCut k all left parts → IsCut k all front now
one_cut k all left front part parts now split before more cut =
    let behind : reverse now ≡ part ∷ reverse parts = ap reverse more ∙ reverse-append parts (part ∷ []) in
    let size = ap length split ∙ length-append front (members_of part) in
    let place : k + length left ≡ k + length front + length (members_of part) = omega (arith, size) in
    record {
      numbered = subst (AreNumbered (k + length front)) (sym behind) (before, subst (λ n. AreNumbered n (reverse parts)) place cut.numbered);
      whole = cut.whole ∙ ap (λ t. t ++ flat_map members_of (reverse parts)) split ∙ append_assoc front (members_of part) (flat_map members_of (reverse parts))
          ∙ ap (λ ps. front ++ flat_map members_of ps) (sym behind);
    }

pub all_cut : (k : ℕ) (all left : List Symbol) (part : NumberedMembers) (parts now turned : List NumberedMembers) → members_of part ≡ left → part.before ≡ k → now ≡ parts ++ part ∷ [] → turned ≡ reverse now
    → IsCut k all left parts → AreParts k all turned
all_cut k all left part parts now turned same before more is cut =
    let last = one_cut k all left [] part parts now (sym same) (omega (arith, before)) more cut in
    subst (AreParts k all) (sym is) (record { numbered = subst (λ n. AreNumbered n (reverse now)) (omega arith) last.numbered; whole = last.whole })

-- ## Making

-- each result is, where it is Ok, the lines of the part at its place
abbrev pub AreMade : List NumberedMembers → List (Result (Vec ℕ Global) Memory) → Type 0
AreMade [] [] = ⊤
AreMade [] (result ∷ results) = ⊥
AreMade (part ∷ parts) [] = ⊥
AreMade (part ∷ parts) (result ∷ results) = IfOk result (λ text. AreLines part.before (members_of part) (bytes_of text)) × AreMade parts results

-- What makes a result of a part.
pub record IsMadeOf (parts : List NumberedMembers) (i : ℕ) (result : Result (Vec ℕ Global) Memory) : Type 0 where
  pub part : NumberedMembers
  pub is : (d : NumberedMembers) → slice_index_or parts i d ≡ part
  pub lines : IfOk result (λ text. AreLines part.before (members_of part) (bytes_of text))

pub all_made_of : (parts : List NumberedMembers) (results : List (Result (Vec ℕ Global) Memory)) → length results ≡ length parts
    → ((i : ℕ) (d : Result (Vec ℕ Global) Memory) → i < length parts → IsMadeOf parts i (slice_index_or results i d)) → AreMade parts results
all_made_of [] [] size each = tt
all_made_of [] (result ∷ results) size each = absurd (omega arith)
all_made_of (part ∷ parts) [] size each = absurd (omega arith)
all_made_of (part ∷ parts) (result ∷ results) size each =
    let first = each 0 result (omega arith) in (
      subst (λ (p : NumberedMembers). IfOk result (λ text. AreLines p.before (members_of p) (bytes_of text))) (sym (first.is part)) first.lines,
      all_made_of parts results (omega arith) (λ i d low.
          let next = each (suc i) d (omega arith) in
          record { part = next.part; is = λ e. next.is e; lines = next.lines }),
    )

-- ## Joining

-- a text in a vector, whose lines are counted
pub few_bytes : (k : ℕ) (ss : List Symbol) (text : Vec ℕ Global) → AreLines k ss (bytes_of text) → length (bytes_of text) ≤ 2 ^ 63 * length ss
few_bytes k [] text none = let size = ap length none in omega (arith, size)
few_bytes k (s ∷ ss) text lines =
    let whole = text.ok.0 in
    let within = text.ok.1 in
    let room = text.small in
    omega (arith, whole, within, room)

-- Of these symbols the texts are the lines of all but those of the parts whose results are left.
pub record AreJoined (k : ℕ) (all : List Symbol) (left : List (Result (Vec ℕ Global) Memory)) (texts : List (Vec ℕ Global)) : Type 0 where
  pub done : List Symbol
  pub parts : List NumberedMembers
  pub whole : all ≡ done ++ flat_map members_of parts
  pub numbered : AreNumbered (k + length done) parts
  pub made : AreMade parts left
  pub lines : AreLines k done (joined texts)
  pub few : length (joined texts) ≤ 2 ^ 63 * length done

pub none_joined : (k : ℕ) (all : List Symbol) (parts : List NumberedMembers) (left : List (Result (Vec ℕ Global) Memory)) (texts : List (Vec ℕ Global)) → AreParts k all parts → AreMade parts left → texts ≡ []
    → AreJoined k all left texts
none_joined k all parts left texts are made none = record {
  done = [];
  parts = parts;
  whole = are.whole;
  numbered = subst (λ n. AreNumbered n parts) (omega arith) are.numbered;
  made = made;
  lines = ap joined none;
  few = let size = ap (λ ts. length (joined ts)) none in omega (arith, size);
}

-- the lines of the next part were put behind the others
part_joined : (k : ℕ) (all done : List Symbol) (part : NumberedMembers) (parts : List NumberedMembers) (text : Vec ℕ Global) (left : List (Result (Vec ℕ Global) Memory)) (texts now : List (Vec ℕ Global))
    → all ≡ done ++ flat_map members_of (part ∷ parts) → AreNumbered (k + length done) (part ∷ parts) → AreMade (part ∷ parts) (Ok text ∷ left) → now ≡ texts ++ text ∷ [] → AreLines k done (joined texts)
    → length (joined texts) ≤ 2 ^ 63 * length done → AreJoined k all left now
part_joined k all done part parts text left texts now whole numbered made more lines few =
    let size = length-append done (members_of part) in
    let next = subst (λ n. AreLines n (members_of part) (bytes_of text)) numbered.0 made.0 in
    let both : joined now ≡ joined texts ++ bytes_of text =
    ap joined more ∙ flat_map-append bytes_of texts (text ∷ []) ∙ ap (λ xs. joined texts ++ xs) (append-nil (bytes_of text)) in
    record {
      done = done ++ members_of part;
      parts = parts;
      whole = whole ∙ sym (append_assoc done (members_of part) (flat_map members_of parts));
      numbered = subst (λ n. AreNumbered n parts) (omega (arith, size)) numbered.1;
      made = made.1;
      lines = subst (AreLines k (done ++ members_of part)) (sym both) (joined_lines k done (members_of part) (joined texts) (bytes_of text) lines next);
      few =
          let long = ap length both ∙ length-append (joined texts) (bytes_of text) in
          let own = few_bytes (k + length done) (members_of part) text next in
          omega (arith, few, size, long, own);
    }

joined_at : (k : ℕ) (all done : List Symbol) (parts : List NumberedMembers) (text : Vec ℕ Global) (left : List (Result (Vec ℕ Global) Memory)) (texts now : List (Vec ℕ Global))
    → all ≡ done ++ flat_map members_of parts → AreNumbered (k + length done) parts → AreMade parts (Ok text ∷ left) → now ≡ texts ++ text ∷ [] → AreLines k done (joined texts)
    → length (joined texts) ≤ 2 ^ 63 * length done → AreJoined k all left now
joined_at k all done [] text left texts now whole numbered made more lines few = absurd made
joined_at k all done (part ∷ parts) text left texts now whole numbered made more lines few = part_joined k all done part parts text left texts now whole numbered made more lines few

pub one_joined : (k : ℕ) (all : List Symbol) (text : Vec ℕ Global) (left later : List (Result (Vec ℕ Global) Memory)) (texts now : List (Vec ℕ Global)) → left ≡ Ok text ∷ later
    → now ≡ texts ++ text ∷ [] → AreJoined k all left texts → AreJoined k all later now
one_joined k all text left later texts now next more are = joined_at k all are.done are.parts text later texts now are.whole are.numbered (subst (AreMade are.parts) next are.made) more are.lines are.few

-- no result is left
all_done : (k : ℕ) (all done : List Symbol) (parts : List NumberedMembers) (text : List ℕ) → all ≡ done ++ flat_map members_of parts → AreMade parts [] → AreLines k done text → AreLines k all text
all_done k all done [] text whole made lines = subst (λ ts. AreLines k ts text) (sym (whole ∙ append-nil done)) lines
all_done k all done (part ∷ parts) text whole made lines = absurd made

pub all_joined : (k : ℕ) (all : List Symbol) (left : List (Result (Vec ℕ Global) Memory)) (texts : List (Vec ℕ Global)) → left ≡ [] → AreJoined k all left texts → AreLines k all (joined texts)
all_joined k all left texts none are = all_done k all are.done are.parts (joined texts) are.whole (subst (AreMade are.parts) none are.made) are.lines

-- and they are no longer than so many lines may be
all_few : (all done : List Symbol) (parts : List NumberedMembers) (n : ℕ) → all ≡ done ++ flat_map members_of parts → AreMade parts [] → n ≤ 2 ^ 63 * length done → n ≤ 2 ^ 63 * length all
all_few all done [] n whole made few = let size = ap length (whole ∙ append-nil done) in omega (arith, few, size)
all_few all done (part ∷ parts) n whole made few = absurd made

pub few_joined : (k : ℕ) (all : List Symbol) (left : List (Result (Vec ℕ Global) Memory)) (texts : List (Vec ℕ Global)) → left ≡ [] → AreJoined k all left texts → length (joined texts) ≤ 2 ^ 63 * length all
few_joined k all left texts none are = all_few all are.done are.parts (length (joined texts)) are.whole (subst (AreMade are.parts) none are.made) are.few
