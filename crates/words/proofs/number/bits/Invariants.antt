-- The digits that are read hold the value, and those that are left say what all of them do.
use lib.ListN.{drop}
use Prim.Native.Nat.{◌<◌, ◌^◌}
use mathlib.Core.Path.{◌≡◌}
use Rattle.words.specs.Number.{hex_word, bits_from}
use Rattle.words.proofs.number.bits.Given as goal

abbrev pub invariant-loop-byte : goal.invariant-loop-byte
invariant-loop-byte l = (l.bits < 16 ^ l.byte-index) × (hex_word l.digits ≡ bits_from l.bits (drop l.byte-index l.digits))
