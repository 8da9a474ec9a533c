-- What was read of bytes that are known, where more was read than there is room for.
use Rattle.std.proofs.Common.{◌≡◌, ℕ, ◌+◌, ◌-◌, ◌<◌, ◌≤◌, List, ◌++◌, Option, Some, None, Ok, length, length-append, take, drop, arith, sym, ◌∙◌, ap}
use Rattle.std.proofs.Math.Seq.{take-append-add}
use Rattle.std.proofs.lemmas.List.{take-append-drop, take-append-le, length-take-le}
use Rattle.std.specs.Io.KnownBytes.{Consumes}
use Rattle.dd_ports.specs.declared.store.Fetched.TheVariants.{Longer}
use Rattle.dd_ports.specs.declared.store.StoreFault.{StoreFault}
use Rattle.dd_ports.specs.Texts.{FillsKnown}

-- the front of the front of a list that goes on
front_of_front : (room count : ℕ) (buf rest : List ℕ) → room ≤ count → count ≤ length buf → take room (take count buf ++ rest) ≡ take room buf
front_of_front room count buf rest le within =
    let size : length (take count buf) ≡ count = length-take-le count buf within in
    let fits : room ≤ length (take count buf) = omega (arith, size, le) in
    take-append-le room (take count buf) rest fits
    ∙ sym (take-append-le room (take count buf) (drop count buf) fits) ∙ ap (take room) (take-append-drop count buf)

pub longer_read : (old mid new : Option (List ℕ)) (limit count : ℕ) (into buf : List ℕ) → Consumes old mid into → Consumes mid new (take count buf)
    → length into ≤ limit → limit - length into < count → count ≤ length buf → FillsKnown {E = StoreFault} old limit (into ++ take (limit - length into) buf) (Ok Longer)
longer_read None mid new limit count into buf p q fits more within = tt
longer_read (Some x) None new limit count into buf p q fits more within = absurd p
longer_read (Some x) (Some y) None limit count into buf p q fits more within = absurd q
longer_read (Some x) (Some y) (Some z) limit count into buf p q fits more within =
    let room = limit - length into in
    let whole : limit ≡ length into + room = omega (arith, fits) in
    let le : room ≤ count = omega (arith, more) in
    let size : length (take count buf) ≡ count = length-take-le count buf within in
    let front : take limit x ≡ into ++ take room buf =
    ap (λ n. take n x) whole ∙ ap (take (length into + room)) p ∙ take-append-add into y room
    ∙ ap (λ t. into ++ t) (ap (take room) q ∙ front_of_front room count buf z le within) in
    let long : limit < length x =
    omega (arith, ap length p, length-append into y, ap length q, length-append (take count buf) z, size, more, fits) in
    (sym front, long)
