-- What the parts of a database that a cache spells take, and that none is unread if it is packed.
use Rattle.std.proofs.Common.{◌≡◌, ◌≤◌, ℕ, ◌+◌, ◌-◌, ◌*◌, List, [], ◌∷◌, length, slice_index, refl, subst, arith}
use Rattle.mime_base.specs.Database.{PlainDatabase}
use Rattle.mime_base.specs.Database.Limits.{IsWithinLimits}
use Rattle.mime_base.specs.Format.Header.{header_numbers}
use Rattle.mime_base.specs.Format.Packed.{Packed, matchlet_count, record_bytes, value_length}
use Rattle.mime_base.specs.Format.Spells.{Spells}
use Rattle.mime_base.specs.Format.Stored.{glob_rules, literal_rules, tree_rules}
use Rattle.mime_base.specs.Format.SuffixTree.{tree_size}
use Rattle.mime_base.specs.Magic.{PlainSection}
use Rattle.mime_load.specs.FirstUnread.{IsFirstUnread, PartStands, PartsStand, StopsAt, before}
use Rattle.mime_load.specs.Whole.{IsHeader}
use Rattle.mime_load.specs.declared.part.LoadFault.{LoadFault}
use Rattle.mime_load.specs.declared.part.LoadFault.TheVariants as load
use Rattle.mime_load.specs.declared.part.Part.{Part}
use Rattle.mime_load.specs.declared.part.Part.TheVariants.{Header, Aliases, Subclasses, Literals, Suffixes, Globs, Magic, Icons, GenericIcons}
use Rattle.mime_load.proofs.PairLemmas.{same_pairs_count}
use Rattle.mime_load.proofs.ParentCounts.{same_parents_count}
use Rattle.mime_load.proofs.RuleEntries.{same_globs_count, same_literals_count}
use Rattle.mime_load.proofs.SiblingCounts.{same_tree_size}
use Rattle.mime_load.proofs.SpelledParts.{ReadsDatabase, database_read}
use Rattle.mime_load.proofs.WholeLemmas.{same_magic}

-- the bytes that the records of a part take
abbrev part_bytes : PlainDatabase → Part → ℕ
part_bytes b Header = 0
part_bytes b Aliases = 0
part_bytes b Subclasses = 4 * length b.parents
part_bytes b Literals = 12 * length (literal_rules b.rules)
part_bytes b Suffixes = 12 * tree_size b.rules
part_bytes b Globs = 12 * length (glob_rules b.rules)
part_bytes b Magic = 16 * length b.sections + 32 * matchlet_count b.sections
part_bytes b Icons = 8 * length b.icons
part_bytes b GenericIcons = 8 * length b.generic_icons

-- and those of several parts
abbrev parts_bytes : PlainDatabase → List Part → ℕ
parts_bytes b [] = 0
parts_bytes b (part ∷ parts) = part_bytes b part + parts_bytes b parts

-- the records of a part and those before it are some of the database's
fits : (b : PlainDatabase) (part : Part) → part_bytes b part + parts_bytes b (before part) ≤ record_bytes b
fits b Header = omega arith
fits b Aliases = omega arith
fits b Subclasses = omega arith
fits b Literals = omega arith
fits b Suffixes = omega arith
fits b Globs = omega arith
fits b Magic = omega arith
fits b Icons = omega arith
fits b GenericIcons = omega arith

module _ (c numbers : List ℕ) (b : PlainDatabase) (read : ReadsDatabase c numbers b) where
  -- a part that stands takes the room of the database's
  part_taken : (part : Part) (old new : ℕ) → PartStands c numbers part old new → new + part_bytes b part ≡ old
  part_taken Header old new same = omega (arith, same)
  part_taken Aliases old new stands = omega (arith, stands.2)
  part_taken Subclasses old new stands =
      omega (arith, stands.2, same_parents_count c (slice_index numbers 2) stands.0 b.parents stands.1 read.parents)
  part_taken Literals old new stands =
      omega (arith, stands.2, same_literals_count c (slice_index numbers 3) stands.0 (literal_rules b.rules) stands.1 read.names.literals)
  part_taken Suffixes old new stands =
      omega (
        arith,
        stands.2,
        read.names.size,
        same_tree_size c (slice_index numbers 4) stands.0 (tree_rules b.rules) stands.1.stand read.names.leaves.stand,
      )
  part_taken Globs old new stands =
      omega (arith, stands.2, same_globs_count c (slice_index numbers 5) stands.0 (glob_rules b.rules) stands.1 read.names.globs)
  part_taken Magic old new stands =
      subst (λ (sections : List PlainSection). new + (16 * length sections + 32 * matchlet_count sections) ≡ old)
      (same_magic c (slice_index numbers 6) stands.0 b.sections stands.1 read.magic) stands.3
  part_taken Icons old new stands =
      omega (arith, stands.2, same_pairs_count c (slice_index numbers 8) stands.0 b.icons stands.1 read.icons)
  part_taken GenericIcons old new stands =
      omega (arith, stands.2, same_pairs_count c (slice_index numbers 9) stands.0 b.generic_icons stands.1 read.generic_icons)

  -- so do parts one after the other
  parts_taken : (parts : List Part) (old new : ℕ) → PartsStand c numbers parts old new → new + parts_bytes b parts ≡ old
  parts_taken [] old new same = omega (arith, same)
  parts_taken (part ∷ parts) old new stand =
      omega (arith, part_taken part old stand.0 stand.1, parts_taken parts stand.0 new stand.2)

  -- in room for it the database's part stands
  part_stands : (part : Part) (old new : ℕ) → value_length b.sections ≤ length c → new + part_bytes b part ≡ old
      → PartStands c numbers part old new
  part_stands Header old new values room = omega (arith, room)
  part_stands Aliases old new values room = (b.aliases, read.names.aliases, omega (arith, room))
  part_stands Subclasses old new values room = (b.parents, read.parents, room)
  part_stands Literals old new values room = (literal_rules b.rules, read.names.literals, room)
  part_stands Suffixes old new values room = (tree_rules b.rules, read.names.leaves, omega (arith, room, read.names.size))
  part_stands Globs old new values room = (glob_rules b.rules, read.names.globs, room)
  part_stands Magic old new values room = (b.sections, read.magic, values, room)
  part_stands Icons old new values room = (b.icons, read.icons, room)
  part_stands GenericIcons old new values room = (b.generic_icons, read.generic_icons, room)

-- the parts of a database that is spelled take the bytes of its records
pub all_taken : (c numbers : List ℕ) (b : PlainDatabase) → IsHeader c numbers → IsWithinLimits b → Spells c b → (left new : ℕ)
    → PartsStand c numbers (before GenericIcons) (length c) left → PartStands c numbers GenericIcons left new
    → new + record_bytes b ≡ length c
all_taken c numbers b header limits spelled left new stand last =
    let read = database_read c numbers b header limits spelled in
    omega (
      arith,
      parts_taken c numbers b read (before GenericIcons) (length c) left stand,
      part_taken c numbers b read GenericIcons left new last,
    )

module _ (c : List ℕ) (b : PlainDatabase) (limits : IsWithinLimits b) (spelled : Spells c b) (packed : Packed c b) where
  -- reading stops at no part
  never_stops : (part : Part) → StopsAt c part → ⊥
  never_stops part stops =
      let read = database_read c stops.numbers b stops.header limits spelled in
      let taken = parts_taken c stops.numbers b read (before part) (length c) stops.left stops.stand in
      let new : ℕ = stops.left - part_bytes b part in
      stops.none new (part_stands c stops.numbers b read part stops.left new packed.values
      (omega (arith, taken, fits b part, packed.records)))

  -- none is unread
  pub none_unread : (part : Part) → IsFirstUnread c part → ⊥
  none_unread Header none =
      none (header_numbers spelled.offsets) (record { stand = spelled.header; count = refl; version = refl; within = spelled.within })
  none_unread Aliases stops = never_stops Aliases stops
  none_unread Subclasses stops = never_stops Subclasses stops
  none_unread Literals stops = never_stops Literals stops
  none_unread Suffixes stops = never_stops Suffixes stops
  none_unread Globs stops = never_stops Globs stops
  none_unread Magic stops = never_stops Magic stops
  none_unread Icons stops = never_stops Icons stops
  none_unread GenericIcons stops = never_stops GenericIcons stops

  -- so what is short is memory
  pub memory_alone : (e : LoadFault) → ((part : Part) → e ≡ load.NoDatabase part → IsFirstUnread c part) → e ≡ load.OutOfMemory
  memory_alone (load.NoDatabase part) first = absurd (none_unread part (first part refl))
  memory_alone load.OutOfMemory first = refl
