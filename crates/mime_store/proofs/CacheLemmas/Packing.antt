-- What a database takes is never less than what a reader's budget counts.
use Rattle.std.proofs.Common.{◌≡◌, ℕ, ◌+◌, ◌*◌, ◌≤◌, List, [], ◌∷◌, length, sum_by, arith}
use Rattle.std.proofs.lemmas.List.Sums.{sum_by-cons}
use Rattle.mime_base.specs.Database.{PlainDatabase}
use Rattle.mime_base.specs.Format.Magic.{line_count}
use Rattle.mime_base.specs.Format.Packed.{Packed, forest_value_length, matchlet_count, value_length}
use Rattle.mime_base.specs.Format.Room.{lines_room, room, sections_room, text_room}
use Rattle.mime_base.specs.Format.Stored.{glob_rules, literal_rules, stored_text}
use Rattle.mime_base.specs.Magic.{Forest, PlainSection, bare, line}
use Rattle.mime_base.specs.declared.database.rule.GlobRule.{GlobRule}

-- lines take no less than their records and values
lines_packed : (lines : Forest) → 32 * line_count lines + forest_value_length lines ≤ lines_room lines
lines_packed bare = omega arith
lines_packed (line own children rest) = omega (arith, lines_packed children, lines_packed rest)

-- sections take no less than their records, lines and values
sections_packed : (sections : List PlainSection)
    → 16 * length sections + (32 * matchlet_count sections + value_length sections) ≤ sections_room sections
sections_packed [] = omega arith
sections_packed (section ∷ sections) =
    omega (
      arith,
      lines_packed section.lines,
      sections_packed sections,
      sum_by-cons (λ (s : PlainSection). line_count s.lines) section sections,
      sum_by-cons (λ (s : PlainSection). forest_value_length s.lines) section sections,
      sum_by-cons (λ (s : PlainSection). 16 + (text_room s.kind + lines_room s.lines)) section sections,
    )

-- each member takes at least that much
many : {X : Type 0} (size : ℕ) (part : X → ℕ) (xs : List X) → size * length xs ≤ sum_by (λ x. size + part x) xs
many size part [] = omega arith
many size part (x ∷ xs) = omega (arith, many size part xs, sum_by-cons (λ y. size + part y) x xs)

-- bytes as many as the room are enough for a reader
pub room_packs : (c : List ℕ) (b : PlainDatabase) → length c ≡ room b → Packed c b
room_packs c b long =
    let sections = sections_packed b.sections in
    let literals = many 12 (λ (rule : GlobRule). text_room (stored_text rule) + text_room rule.kind) (literal_rules b.rules) in
    let globs = many 12 (λ (rule : GlobRule). text_room (stored_text rule) + text_room rule.kind) (glob_rules b.rules) in
    let parents = many 4 (λ (pair : List ℕ × List ℕ). text_room pair.1) b.parents in
    let icons = many 8 (λ (pair : List ℕ × List ℕ). text_room pair.0 + text_room pair.1) b.icons in
    let generic = many 8 (λ (pair : List ℕ × List ℕ). text_room pair.0 + text_room pair.1) b.generic_icons in
    record { records = omega (arith, long); values = omega (arith, long) }
