-- What the answer of a read tells of the place that was read.
use Rattle.std.proofs.Common.{◌≡◌, ℕ, ◌<◌, ◌≤◌, List, length, get_or, Some, None, refl, arith}
use Rattle.std.proofs.lemmas.Bool.{lt-ltb, le-ltb}
use Rattle.std.proofs.lemmas.Bool.Decides.{nat_tests}
use Rattle.store.specs.Words.{word_at}

-- within the length a read gives the word
pub within_is : (words : List ℕ) (at : ℕ) → at < length words → word_at words at ≡ Some (get_or words at 0)
within_is words at h = rw (lt-ltb at (length words) h) refl

-- at and beyond the length a read gives none
pub past_is : (words : List ℕ) (at : ℕ) → length words ≤ at → word_at words at ≡ None
past_is words at h = rw (le-ltb at (length words) h) refl

-- a read that gives a word was within the length, and the word stands there
pub some_word : (words : List ℕ) (at x : ℕ) → Some x ≡ word_at words at → (at < length words) × (x ≡ get_or words at 0)
some_word words at x e = grind (arith, nat_tests)
