use Rattle.std.proofs.Common.{◌≡◌, ◌+◌, ◌-◌, ◌<◌, length, get_or, take, drop, ◌∙◌, arith}
use Rattle.std.proofs.lemmas.List.Edits.{length-between}
use Rattle.store.proofs.Writing.{column_is, written_none, next_fits, next_room, written_more, written_all}
use Rattle.store.proofs.columns.put_columns.Goals as goal

pub loop-i-init : goal.loop-i-init
loop-i-init c = written_none c.args.widths.now c.args.numbers.now c.args.out.now c.requires

pub overflow_add-end : goal.overflow_add-end
overflow_add-end c =
    let widths = c.args.widths.now in
    let out = c.loop-i.out in
    let numbers = c.args.numbers.now in
    let room = next_room widths numbers out c.loop-i.i c.loop-i.at c.loop-i.invariant (omega arith) in
    omega arith

pub slice_bounds-write_column-end : goal.slice_bounds-write_column-end
slice_bounds-write_column-end c =
    let widths = c.args.widths.now in
    let out = c.loop-i.out in
    let numbers = c.args.numbers.now in
    let room = next_room widths numbers out c.loop-i.i c.loop-i.at c.loop-i.invariant (omega arith) in
    omega arith

pub loop-i-preserved : goal.loop-i-preserved
loop-i-preserved c =
    let widths = c.args.widths.now in
    let numbers = c.args.numbers.now in
    let out = c.loop-i.out in
    let i = c.loop-i.i in
    let at = c.loop-i.at in
    let width = get_or widths i 0 in
    let room : at + width < length out = next_room widths numbers out i at c.loop-i.invariant (omega arith) in
    let fit = next_fits widths numbers out i at c.loop-i.invariant (omega arith) in
    let part = take (at + width - at) (drop at out) in
    let long : length part ≡ width = length-between out at (at + width) (omega arith) ∙ omega arith in
    let is = column_is width (get_or numbers i 0) part c.write_column.new.out c.write_column.result long fit
    c.write_column.ensures.said c.write_column.ensures.written in
    written_more widths numbers out i at c.loop-i.invariant (omega arith) (at + width - at) c.write_column.new.out
    (omega arith) is

pub bounds-out-at : goal.bounds-out-at
bounds-out-at c =
    let widths = c.args.widths.now in
    let out = c.loop-i.out in
    let numbers = c.args.numbers.now in
    let all = written_all widths numbers out c.loop-i.i c.loop-i.at c.loop-i.invariant (omega arith) in
    omega (arith, all.0)

pub returns : goal.returns
returns c =
    let widths = c.args.widths.now in
    let out = c.loop-i.out in
    let numbers = c.args.numbers.now in
    let all = written_all widths numbers out c.loop-i.i c.loop-i.at c.loop-i.invariant (omega arith) in
    all.1
