-- Texts that are put behind what is collected and sent.
use Rattle.std.proofs.Common.{◌≡◌, ℕ, ◌+◌, ◌^◌, ◌≤◌, List, [], ◌++◌, Option, Result, Ok, Err, OnOk, OnErr, length, length-append, refl, sym, ap, ◌∙◌, subst, arith, append_assoc}
use Rattle.std.proofs.lemmas.List.{append-nil}
use Rattle.std.proofs.KnownBytes.{Appends-nil}
use Rattle.dd_ports.proofs.Growth.{Appends_trans, prefix_after}
use Rattle.dd_pages_and_checkpoints.specs.Sent.{HasRoomFor, IsSent, IsSentInPart}
use Rattle.dd_pages_and_checkpoints.specs.declared.collected.Collected.{Collected}

-- Of some texts all but what is left was put behind what was collected, and sent.
pub record IsSending (before now : Option (List ℕ)) (old mid : Collected) (all left : List ℕ) : Type 0 where
  pub done : List ℕ
  pub texts : all ≡ done ++ left
  pub sent : IsSent before now (old.lines.items ++ done) old.written mid

pub sending_start : (held : Option (List ℕ)) (mid : Collected) (all left : List ℕ) → left ≡ all → IsSending held held mid mid all left
sending_start held mid all left same = record {
  done = [];
  texts = sym same;
  sent = record { written = []; appended = Appends-nil held; parts = append-nil mid.lines.items; bytes = omega arith };
}

-- the next text was sent
pub sending_more : (before then now : Option (List ℕ)) (old mid new : Collected) (all left text later put : List ℕ) → left ≡ text ++ later → put ≡ mid.lines.items ++ text → IsSent then now put mid.written new
    → IsSending before then old mid all left → IsSending before now old new all later
sending_more before then now old mid new all left text later put next is sent has =
    let first = has.sent in
    let size = length-append first.written sent.written in
    let sum = first.bytes in
    let more = sent.bytes in
    record {
      done = has.done ++ text;
      texts = has.texts ∙ ap (λ xs. has.done ++ xs) next ∙ sym (append_assoc has.done text later);
      sent = record {
        written = first.written ++ sent.written;
        appended = Appends_trans before then now first.written sent.written (first.written ++ sent.written) first.appended sent.appended refl;
        parts = sym (append_assoc old.lines.items has.done text) ∙ ap (λ xs. xs ++ text) first.parts ∙ append_assoc first.written mid.lines.items text ∙ ap (λ xs. first.written ++ xs) (sym is ∙ sent.parts)
            ∙ sym (append_assoc first.written sent.written new.lines.items);
        bytes = omega (arith, size, sum, more);
      };
    }

-- a part of the next text went out
pub sending_part : (before then now : Option (List ℕ)) (old mid new : Collected) (all left text later put : List ℕ) → left ≡ text ++ later → put ≡ mid.lines.items ++ text → IsSentInPart then now put mid.written new
    → IsSending before then old mid all left → IsSentInPart before now (old.lines.items ++ all) old.written new
sending_part before then now old mid new all left text later put next is part has =
    let first = has.sent in
    let was = ap length first.parts in
    let sizes = length-append old.lines.items has.done in
    let parts = length-append first.written mid.lines.items in
    let sum = first.bytes in
    let more = ap length is ∙ length-append mid.lines.items text in
    let whole = length-append old.lines.items all in
    let texts = ap length has.texts ∙ length-append has.done left in
    let rest = ap length next ∙ length-append text later in
    let few = part.few in
    record {
      front = prefix_after before then now first.written put later (old.lines.items ++ all) first.appended part.front
          (ap (λ xs. first.written ++ (xs ++ later)) is ∙ ap (λ xs. first.written ++ xs) (append_assoc mid.lines.items text later) ∙ sym (append_assoc first.written mid.lines.items (text ++ later)) ∙ ap (λ xs. xs ++ (text ++ later)) (sym first.parts)
          ∙ append_assoc old.lines.items has.done (text ++ later) ∙ ap (λ xs. old.lines.items ++ (has.done ++ xs)) (sym next) ∙ ap (λ xs. old.lines.items ++ xs) (sym has.texts));
      few = omega (arith, was, sizes, parts, sum, more, whole, texts, rest, few);
    }

-- no more went out
pub sending_stopped : (before now : Option (List ℕ)) (old mid rest : Collected) (all left : List ℕ) → rest.lines.items ≡ mid.lines.items → rest.written ≡ mid.written → IsSending before now old mid all left
    → IsSentInPart before now (old.lines.items ++ all) old.written rest
sending_stopped before now old mid rest all left same still has =
    let size = ap length same in
    sending_part before now now old mid rest all left [] left mid.lines.items refl (sym (append-nil mid.lines.items)) (record { front = ([], mid.lines.items, refl, Appends-nil now); few = omega (arith, size, still) }) has

-- a text that was put behind, in whole or not at all
at_most_behind : {T E : Type 0} (xs ys put : List ℕ) (result : Result T E) → OnOk result (put ≡ xs ++ ys) → OnErr result (put ≡ xs) → length put ≤ length xs + length ys
at_most_behind xs ys put (Ok done) whole same = let size = ap length whole ∙ length-append xs ys in omega (arith, size)
at_most_behind xs ys put (Err fault) whole same = let size = ap length same in omega (arith, size)

-- there is room for the next text
pub sending_room : {T E : Type 0} (before now : Option (List ℕ)) (old mid : Collected) (all left text later put : List ℕ) (result : Result T E) → left ≡ text ++ later → OnOk result (put ≡ mid.lines.items ++ text)
    → OnErr result (put ≡ mid.lines.items) → HasRoomFor old all → IsSending before now old mid all left → mid.written + length put ≤ 2 ^ 127
sending_room before now old mid all left text later put result next whole same room has =
    let sent = has.sent in
    let both = ap length sent.parts in
    let was = length-append old.lines.items has.done in
    let is = length-append sent.written mid.lines.items in
    let bytes = sent.bytes in
    let texts = ap length has.texts ∙ length-append has.done left in
    let rest = ap length next ∙ length-append text later in
    let most = at_most_behind mid.lines.items text put result whole same in
    omega (arith, both, was, is, bytes, texts, rest, most, room)

-- no text is left
pub sending_end : (before now : Option (List ℕ)) (old mid : Collected) (all left : List ℕ) → left ≡ [] → IsSending before now old mid all left → IsSent before now (old.lines.items ++ all) old.written mid
sending_end before now old mid all left none has =
    let whole = has.texts ∙ ap (λ xs. has.done ++ xs) none ∙ append-nil has.done in
    subst (λ xs. IsSent before now (old.lines.items ++ xs) old.written mid) (sym whole) has.sent
