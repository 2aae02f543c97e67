-- Lines of a cache that hold, in the steps of a pass over them.
use Rattle.std.proofs.Common.{◌≡◌, ℕ, ◌+◌, ◌<◌, ◌||◌, false, true, List, [], ◌∷◌, length, take, refl, ap, ◌∙◌, sym, arith, length-drop}
use Rattle.std.proofs.lemmas.Bool.{or_left}
use Rattle.mime_base.specs.Magic.Holds.{equals_from, is_bare, line_holds, some_holds}
use Rattle.mime_base.specs.Magic.WindowBytes.{forest_bytes, line_bytes}
use Rattle.mime_base.specs.Magic.{Forest}
use Rattle.mime_base.specs.declared.magic.host.Host.{Host}
use Rattle.mime_base.proofs.MagicLemmas.HoldingLines.{line_holds-differs, line_holds-equals, some_holds-line, some_holds-none}
use Rattle.mime_base.proofs.MagicLemmas.WindowBytes.{forest_bytes-line}
use Rattle.mime_load.specs.Lent.{behind_first, first_of, lent_forest, plain_line}
use Rattle.mime_load.specs.declared.line.LentLine.{LentLine}
use Rattle.mime_load.proofs.FlatLines.{lent_forest-line, lent_forest-none}

-- a forest of no lines is bare
is_bare-none : (lines : List LentLine) → length lines ≡ 0 → is_bare (lent_forest lines) ≡ true
is_bare-none [] none = ap is_bare lent_forest-none
is_bare-none (m ∷ lines) none = absurd (omega arith)

-- a forest of some lines is not
is_bare-some : (lines : List LentLine) → 0 < length lines → is_bare (lent_forest lines) ≡ false
is_bare-some [] some = absurd (omega arith)
is_bare-some (m ∷ lines) some = ap is_bare (lent_forest-line m lines)

-- behind the first line there are fewer
pub length-behind_first : (lines : List LentLine) → 0 < length lines → length (behind_first lines) < length lines
length-behind_first [] some = absurd (omega arith)
length-behind_first (m ∷ lines) some = omega (arith, length-drop m.below lines)

module _ (content : List ℕ) (host : Host) where
  -- without a line none holds
  first_of-none : line_holds (first_of []) content host ≡ false
  unfolding equals_from
  first_of-none = line_holds-differs content host (first_of []) refl

  -- where there is no line
  pub first_of-empty : (lines : List LentLine) → length lines ≡ 0 → line_holds (first_of lines) content host ≡ false
  first_of-empty [] none = first_of-none
  first_of-empty (m ∷ lines) none = absurd (omega arith)

  -- of lines the first holds, or one of those behind it and those below it
  pub some_holds-first : (lines : List LentLine) → some_holds (lent_forest lines) content host
      ≡ (line_holds (first_of lines) content host || some_holds (lent_forest (behind_first lines)) content host)
  some_holds-first [] =
      ap (λ b. b || some_holds (lent_forest []) content host) (sym first_of-none)
  some_holds-first (m ∷ lines) =
      ap (λ (f : Forest). some_holds f content host) (lent_forest-line m lines)
      ∙ some_holds-line content host (first_of (m ∷ lines)) (lent_forest (behind_first (m ∷ lines)))

  -- of no lines none holds
  pub some_holds-nothing : (lines : List LentLine) → length lines ≡ 0 → some_holds (lent_forest lines) content host ≡ false
  some_holds-nothing [] none = ap (λ (f : Forest). some_holds f content host) lent_forest-none ∙ some_holds-none content host
  some_holds-nothing (m ∷ lines) none = absurd (omega arith)

  module _ (m : LentLine) (lines : List LentLine)
      (equal : equals_from (plain_line m) host content (plain_line m).start (plain_line m).range ≡ true) where
    -- a line with none below it that equals its value holds
    pub first_holds-alone : length (take m.below lines) ≡ 0 → line_holds (first_of (m ∷ lines)) content host ≡ true
    first_holds-alone alone =
        line_holds-equals content host (first_of (m ∷ lines)) equal ∙ or_left _ _ (is_bare-none (take m.below lines) alone)

    -- one with some below it holds if some child does
    pub first_holds-parent : 0 < length (take m.below lines) →
        line_holds (first_of (m ∷ lines)) content host ≡ some_holds (lent_forest (take m.below lines)) content host
    first_holds-parent some =
        line_holds-equals content host (first_of (m ∷ lines)) equal
        ∙ ap (λ b. b || some_holds (lent_forest (take m.below lines)) content host) (is_bare-some (take m.below lines) some)

module _ (size : ℕ) where
  -- the first of some lines, and those behind it and those below it
  pub forest_bytes-first : (lines : List LentLine) → 0 < length lines →
      forest_bytes size (lent_forest lines) ≡ line_bytes size (first_of lines) + forest_bytes size (lent_forest (behind_first lines))
  forest_bytes-first [] some = absurd (omega arith)
  forest_bytes-first (m ∷ lines) some =
      ap (forest_bytes size) (lent_forest-line m lines)
      ∙ forest_bytes-line size (first_of (m ∷ lines)) (lent_forest (behind_first (m ∷ lines)))
