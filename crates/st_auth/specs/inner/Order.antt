-- The order in which a set's names are searched.
use Rattle.std.specs.Prelude.{ℕ, List, [], length, slice_index_or, not, Option}
use Rattle.std.specs.Cmp.Lexicographic.{slice_cmp}
use Rattle.std.specs.List.{range_with_len, position}
use Rattle.std.specs.List.Sorted.{IsPermutation, IsSortedByKey}
use Rattle.std.specs.Ordering.{nat_cmp}
use Rattle.st_text.specs.Texts.{Text, is_among}

-- the name at a place
abbrev pub name_at : List Text → ℕ → Text
name_at names place = slice_index_or names place []

-- All places are there, those of lesser names first.
pub record IsOrder (names : List Text) (order : List ℕ) : Type 0 where
  pub whole : IsPermutation (range_with_len 0 (length names)) order
  pub rises : IsSortedByKey (name_at names) (slice_cmp nat_cmp) order

-- the index of the first name that is not in the set
abbrev pub first_missing : List Text → List Text → Option ℕ
first_missing set names = position (λ name. not (is_among set name)) names
