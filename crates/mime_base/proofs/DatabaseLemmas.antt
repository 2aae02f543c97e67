-- What a database keeps by its type holds where nothing is in it.
use Rattle.std.proofs.Common.{◌≡◌, ap, true, List, [], ◌∷◌, length, refl, arith}
use Rattle.mime_base.specs.Magic.{are_allowed_sections, FallByPriority, plain_sections}
use Rattle.mime_base.specs.Database.PlainPairs.{are_distinct_pairs, have_distinct_names, plain_icons, plain_pairs}
use Rattle.mime_base.specs.declared.database.icon.Icon.{Icon}
use Rattle.mime_base.specs.declared.database.pair.Pair.{Pair}
use Rattle.mime_base.specs.declared.magic.Section.{Section}

-- no pairs have distinct names
pub no_pairs : (pairs : List Pair) → pairs ≡ [] → have_distinct_names (plain_pairs pairs) ≡ true
no_pairs [] none = refl
no_pairs (pair ∷ pairs) none = search

-- none of no pairs stands twice
pub no_pairs_twice : (pairs : List Pair) → pairs ≡ [] → are_distinct_pairs (plain_pairs pairs) ≡ true
no_pairs_twice [] none = refl
no_pairs_twice (pair ∷ pairs) none = search

-- no icons have distinct types
pub no_icons : (icons : List Icon) → icons ≡ [] → have_distinct_names (plain_icons icons) ≡ true
no_icons [] none = refl
no_icons (icon ∷ icons) none = search

-- no sections fall by priority
pub no_sections : (sections : List Section) → sections ≡ [] → FallByPriority (plain_sections sections)
no_sections [] none = λ k d _ within. absurd (omega (arith, within))
no_sections (section ∷ sections) none = absurd (omega (arith, ap length none))

-- each line of no sections is allowed
pub no_lines : (sections : List Section) → sections ≡ [] → are_allowed_sections (plain_sections sections) ≡ true
no_lines [] none = refl
no_lines (section ∷ sections) none = search
