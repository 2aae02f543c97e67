-- Lists that a cache holds in the order of a text of each member.
use Rattle.std.specs.Prelude.{◌≡◌, ℕ, Bool, List, IsPermutation, bytes_eq, filter}
use Rattle.std.specs.List.Sorted.{IsSortedBy}
use Rattle.std.specs.Ordering.{is_lt, nat_cmp}
use Rattle.std.specs.Cmp.Lexicographic.{slice_cmp}

-- the text comes before the other, by bytes
abbrev pub text_lt : List ℕ → List ℕ → Bool
text_lt left right = is_lt (slice_cmp nat_cmp left right)

-- the members of one key
abbrev pub with_key : {X : Type 0} → (X → List ℕ) → List ℕ → List X → List X
with_key key text xs = filter (λ x. bytes_eq (key x) text) xs

-- `after` has the members of `before` sorted by their keys, those of one key in their old order
pub record IsSortedByText {X : Type 0} (key : X → List ℕ) (before after : List X) : Type 0 where
  pub permuted : IsPermutation before after
  pub in_order : IsSortedBy (λ left right. text_lt (key left) (key right)) after
  pub ties : (text : List ℕ) → with_key key text after ≡ with_key key text before
