use Rattle.std.proofs.Common.{◌≡◌, ◌+◌, ◌-◌, ◌*◌, get_or, drop, ◌∙◌, arith}
use Rattle.std.proofs.lemmas.Bool.Decides.{nat_tests}
use Rattle.std.proofs.lemmas.List.{drop_all}
use Rattle.store.proofs.Reading.{read_on_ge, read_on_more, all_digits_more}
use Rattle.store.proofs.columns.read_digits.Goals as goal

pub returns-in_err-digit : goal.returns-in_err-digit
returns-in_err-digit c =
    let more = all_digits_more c.args.text.now c.loop-byte.byte-index (omega arith) in
    grind (arith, nat_tests)

pub returns-in_err-checked_mul : goal.returns-in_err-checked_mul
returns-in_err-checked_mul c =
    let text = c.args.text.now in
    let i = c.loop-byte.byte-index in
    let more = read_on_more c.loop-byte.number text i (omega arith) in
    let least = read_on_ge (10 * c.loop-byte.number + (get_or text i 0 - 48)) (drop (i + 1) text) in
    grind (arith, nat_tests)

pub returns-in_err-number : goal.returns-in_err-number
returns-in_err-number c =
    let text = c.args.text.now in
    let i = c.loop-byte.byte-index in
    let more = read_on_more c.loop-byte.number text i (omega arith) in
    let least = read_on_ge (10 * c.loop-byte.number + (get_or text i 0 - 48)) (drop (i + 1) text) in
    grind (arith, nat_tests)

pub loop-byte-preserved : goal.loop-byte-preserved
loop-byte-preserved c =
    let digits = all_digits_more c.args.text.now c.loop-byte.byte-index (omega arith) in
    let more = read_on_more c.loop-byte.number c.args.text.now c.loop-byte.byte-index (omega arith) in
    let is : c.in_ok-number.number ≡ 10 * c.loop-byte.number + (get_or c.args.text.now c.loop-byte.byte-index 0 - 48) =
    grind (arith, nat_tests) in
    (omega arith, grind (arith, nat_tests), c.loop-byte.invariant.2 ∙ more ∙ grind arith)

pub returns : goal.returns
returns c =
    let none = drop_all c.loop-byte.byte-index c.args.text.now (omega arith) in
    grind (arith, nat_tests)
