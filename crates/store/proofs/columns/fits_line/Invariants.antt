-- The line fits if what is left of it fits into the room that is left.
use Rattle.std.proofs.Common.{◌≡◌, length}
use Rattle.std.specs.Iterator.Adapters.{zip_first, zip_second}
use Rattle.std.specs.Slice.Iter.{iter_rest}
use Rattle.store.specs.Columns.{fits_line}
use Rattle.store.proofs.columns.fits_line.Given as goal

abbrev pub invariant-loop-width : goal.invariant-loop-width
invariant-loop-width l =
    let widths = iter_rest (zip_first l.width-iterator) in
    let numbers = iter_rest (zip_second l.width-iterator) in
    (length widths ≡ length numbers) × (fits_line l.widths l.numbers l.room ≡ fits_line widths numbers l.left)
