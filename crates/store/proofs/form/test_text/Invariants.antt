-- The lines that were passed are lines.
use Rattle.std.proofs.Common.{◌≡◌, ◌*◌, ◌≤◌, length, drop}
use Rattle.std.specs.Iterator.Adapters.{enumerate_source, enumerate_count}
use Rattle.std.specs.Slice.Iter.{chunks_rest, chunks_size}
use Rattle.store.specs.Text.{LinesTo}
use Rattle.store.proofs.form.test_text.Given as goal

abbrev pub invariant-loop-i : goal.invariant-loop-i
invariant-loop-i l =
    let count = enumerate_count l.i-iterator in
    (chunks_size (enumerate_source l.i-iterator) ≡ 21) × (21 * count ≤ length l.bytes)
    × (chunks_rest (enumerate_source l.i-iterator) ≡ drop (21 * count) l.bytes) × LinesTo l.bytes count
