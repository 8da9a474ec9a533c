-- Texts that are collected and sent.
use Rattle.std.specs.Prelude.{◌≡◌, ℕ, ◌+◌, ◌^◌, ◌≤◌, List, ◌++◌, Option, length}
use Rattle.std.specs.Io.KnownBytes.{Appends}
use Rattle.dd_ports.specs.Grows.{GrowsByPrefix}
use Rattle.dd_pages_and_checkpoints.specs.declared.collected.Collected.{Collected}

-- The bytes of the text can be counted, after those that were written and those that are collected.
abbrev pub HasRoomFor : Collected → List ℕ → Type 0
HasRoomFor collected text = collected.written + length collected.lines.items + length text ≤ 2 ^ 127

-- A prefix of the text was written, and the rest is collected. The bytes of the prefix are counted, after `sum` bytes before them.
pub record IsSent (before now : Option (List ℕ)) (text : List ℕ) (sum : ℕ) (collected : Collected) : Type 0 where
  pub written : List ℕ
  pub appended : Appends before now written
  pub parts : text ≡ written ++ collected.lines.items
  pub bytes : collected.written ≡ sum + length written

-- This holds also after a fault. A prefix of the text was written. No more bytes are counted and collected than `sum` and those of the text.
pub record IsSentInPart (before now : Option (List ℕ)) (text : List ℕ) (sum : ℕ) (collected : Collected) : Type 0 where
  pub front : GrowsByPrefix before now text
  pub few : collected.written + length collected.lines.items ≤ sum + length text
