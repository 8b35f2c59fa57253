-- Call lines and answer lines: right-justified numbers in columns, and a newline.
use Rattle.std.specs.Prelude.{◌≡◌, ℕ, cond, List, [], ◌∷◌, Some, None, Option, Result, MatchResult, ◌==◌, slice_index}
use Rattle.order.specs.declared.keys.Key.{Key}
use Rattle.store.specs.Columns.{line_of, line_numbers}
use Rattle.runner.specs.declared.lines.CallLine.{CallLine}
use Rattle.runner.specs.declared.lines.Request.{Request}
use Rattle.runner.specs.declared.lines.Request.TheVariants.{Format, Begin, Turn, Withdraw, Post, Merge, Raise, Sweep}
use Rattle.runner.specs.declared.lines.UnknownCall.{UnknownCall}

-- the columns of a call line: the call, its console, page or fill, the kind, two key words and the value
abbrev pub call_widths : List ℕ
call_widths = 2 ∷ 5 ∷ 2 ∷ 21 ∷ 21 ∷ 21 ∷ []

-- those behind the two of the call's number
abbrev pub argument_widths : List ℕ
argument_widths = 5 ∷ 2 ∷ 21 ∷ 21 ∷ 21 ∷ []

-- the columns of an answer line: the code and the figure
abbrev pub answer_widths : List ℕ
answer_widths = 3 ∷ 21 ∷ []

-- the line of an answer; it opens only by name, so that a goal keeps its name
unfoldable pub answer_line : ℕ → ℕ → List ℕ
answer_line number shown = line_of answer_widths (number ∷ shown ∷ [])

-- the numbers of a call line by their names
abbrev pub named : Option (List ℕ) → Option CallLine
named None = None
named (Some ns) =
    Some (record {
      call = slice_index ns 0;
      argument = slice_index ns 1;
      kind = slice_index ns 2;
      hi = slice_index ns 3;
      lo = slice_index ns 4;
      value = slice_index ns 5;
    })

abbrev pub key_in : CallLine → Key
key_in l = record { hi = l.hi; lo = l.lo }

-- the eight calls by their numbers
abbrev pub request_in : CallLine → Option Request
request_in l =
    cond (l.call == 1) (Some (Format l.argument))
    (cond (l.call == 2) (Some (Begin l.argument l.kind (key_in l) l.value))
    (cond (l.call == 3) (Some (Turn l.argument))
    (cond (l.call == 4) (Some (Withdraw l.argument))
    (cond (l.call == 5) (Some (Post l.argument))
    (cond (l.call == 6) (Some (Merge l.argument))
    (cond (l.call == 7) (Some Raise)
    (cond (l.call == 8) (Some Sweep) None)))))))

-- the result is what the line asks for, or the number of its call, which is not that of a call
abbrev pub AsksFor : CallLine → Result Request UnknownCall → Type 0
AsksFor l r =
    MatchResult r (λ q. request_in l ≡ Some q) (λ e. (request_in l ≡ None) × (e.0 ≡ l.call))

-- what a line asks for, if it can be read
abbrev pub asked : Option CallLine → Option Request
asked None = None
asked (Some l) = request_in l

-- what the bytes of a line ask for; it opens only by name, so that a goal keeps its name
unfoldable pub request_of : List ℕ → Option Request
request_of bytes = asked (named (line_numbers call_widths bytes))
