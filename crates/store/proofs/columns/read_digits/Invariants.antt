-- What is read so far, with the bytes that are left, gives the answer for all of them.
use Rattle.std.proofs.Common.{◌≡◌, ◌^◌, ◌<◌, drop}
use Rattle.std.specs.Str.{all_ascii_digits}
use Rattle.store.specs.Columns.{read_on}
use Rattle.store.proofs.columns.read_digits.Given as goal

abbrev pub invariant-loop-byte : goal.invariant-loop-byte
invariant-loop-byte l =
    (l.number < 2 ^ 64) × (all_ascii_digits l.text ≡ all_ascii_digits (drop l.byte-index l.text)) ×
    (read_on 0 l.text ≡ read_on l.number (drop l.byte-index l.text))
