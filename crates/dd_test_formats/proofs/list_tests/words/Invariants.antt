use Rattle.std.proofs.Common.{◌≡◌, take}
use Rattle.dd_test_formats.proofs.list_tests.words.Given as goal

abbrev pub invariant-loop-byte : goal.invariant-loop-byte
invariant-loop-byte g l = l.words.items ≡ take l.byte-index l.bytes
