-- How a page's entries stand in the memory for as many as it has room for, and what a contract sees of them.
use Rattle.std.specs.Prelude.{◌≡◌, ℕ, ◌-◌, ◌≤◌, List, ◌++◌, length, take, replicate}
use Rattle.std.specs.Coded.{le_prop}
use Rattle.std.proofs.Common.{ap, arith, length-take, length-append}
use Rattle.std.proofs.Math.Path.{PathP, to_path_p}
use Rattle.std.proofs.lemmas.List.{length-replicate}
use Rattle.page.specs.declared.entries.Entry.{Entry}
use Rattle.page.specs.Pages.{most_entries}

-- entries for which a page has room
pub record FittingEntries : Type 0 where
  pub list : List Entry
  pub few : length list ≤ most_entries

-- that there are few enough has one proof
pub same_few : {m n : ℕ} (same : m ≡ n) (here : m ≤ most_entries) (there : n ≤ most_entries)
    → PathP (λ i. same i ≤ most_entries) here there
same_few same here there = to_path_p (λ i. same i ≤ most_entries) (le_prop _ there)

-- an entry of zeros, which stands for none
abbrev pub nothing : Entry
nothing = record { key = record { hi = 0; lo = 0 }; value = 0 }

-- the entries, and zeros behind them
abbrev pub in_memory : List Entry → List Entry
in_memory xs = xs ++ replicate (most_entries - length xs) nothing

-- no more are taken than are counted
pub counted_few : (items : List Entry) (count : ℕ) → count ≤ most_entries → length (take count items) ≤ most_entries
counted_few items count few = omega (arith, length-take count items)

-- the entries that are counted
abbrev pub counted_entries : (items : List Entry) (count : ℕ) → count ≤ most_entries → FittingEntries
counted_entries items count few = record { list = take count items; few = counted_few items count few }

-- what the count and the memory keep to
pub record IsPadded (items : List Entry) (count : ℕ) : Type 0 where
  pub few : count ≤ most_entries
  pub whole : items ≡ in_memory (take count items)

-- the memory is at least as long as the count
pub counted : (items : List Entry) (count : ℕ) → IsPadded items count → length (take count items) ≡ count
counted items count padded =
    let xs = take count items in
    let few = padded.few in
    let front = length-take count items in
    let whole = simp (length-append, length-replicate) at (ap length padded.whole) in
    omega arith
