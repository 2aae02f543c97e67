-- The parts of a cache, read one after the other.
use Rattle.std.proofs.Common.{◌≡◌, ◌≤◌, ℕ, ◌+◌, ◌*◌, List, [], ◌∷◌, ◌++◌, Result, length, slice_index, refl, subst, arith}
use Rattle.std.proofs.lemmas.List.{length-map}
use Rattle.std.proofs.lemmas.Result.{err_from_is_err_and}
use Rattle.std.specs.Prelude.{IfErr, IsErrAnd}
use Rattle.mime_base.specs.Cache.Bytes.{Stands}
use Rattle.mime_base.specs.Database.Lent.{plain_rule}
use Rattle.mime_base.specs.Format.Packed.{value_length}
use Rattle.mime_base.specs.Format.Pairs.{PairsAt}
use Rattle.mime_base.specs.Format.Parents.{ParentsAt}
use Rattle.mime_base.specs.Format.SuffixTree.{tree_size}
use Rattle.mime_base.specs.declared.database.lent.LentRule.{LentRule}
use Rattle.mime_base.specs.declared.database.rule.GlobRule.{GlobRule}
use Rattle.mime_load.specs.FirstUnread.{IsFirstUnread, PartStands, PartsStand, StopsAt, before}
use Rattle.mime_load.specs.Lent.{plain_magic, plain_pair, plain_pairs, plain_rules}
use Rattle.mime_load.specs.MagicStanding.{MagicStands}
use Rattle.mime_load.specs.Parts.{IsGlobList, IsLiteralList, IsTreeList}
use Rattle.mime_load.specs.Taking.{TakesSections}
use Rattle.mime_load.specs.Whole.{IsHeader}
use Rattle.mime_load.specs.declared.pair.LentPair.{LentPair}
use Rattle.mime_load.specs.declared.part.LoadFault.{LoadFault}
use Rattle.mime_load.specs.declared.part.LoadFault.TheVariants as load
use Rattle.mime_load.specs.declared.part.Part.{Part}
use Rattle.mime_load.specs.declared.part.Part.TheVariants.{Aliases, Subclasses, Literals, Suffixes, Globs, Magic, Icons, GenericIcons}
use Rattle.mime_load.specs.declared.magic.LentMagic.{LentMagic}
use Rattle.mime_load.specs.declared.taking.Taking.{Taking}

-- The header stands and the parts before one do, in the cache's length, of which that much is left.
pub record Reaches (c numbers : List ℕ) (part : Part) (left : ℕ) : Type 0 where
  pub header : IsHeader c numbers
  pub stand : PartsStand c numbers (before part) (length c) left

-- one more part after others
parts_more : (c numbers : List ℕ) (parts : List Part) (part : Part) (old left new : ℕ) → PartsStand c numbers parts old left
    → PartStands c numbers part left new → PartsStand c numbers (parts ++ part ∷ []) old new
parts_more c numbers [] part old left new same stands = (new, subst (λ (n : ℕ). PartStands c numbers part n new) same stands, refl)
parts_more c numbers (first ∷ parts) part old left new (mid, here, rest) stands =
    (mid, here, parts_more c numbers parts part mid left new rest stands)

-- a part that stands is one more before the next
goes_on : (c numbers : List ℕ) (part next : Part) (old new : ℕ) → before part ++ part ∷ [] ≡ before next → Reaches c numbers part old
    → PartStands c numbers part old new → Reaches c numbers next new
goes_on c numbers part next old new order reached stands = record {
  header = reached.header;
  stand = subst (λ (parts : List Part). PartsStand c numbers parts (length c) new) order
      (parts_more c numbers (before part) part (length c) old new reached.stand stands);
}

-- one that stands nowhere is where reading stops
pub stops : (c numbers : List ℕ) (part : Part) (left : ℕ) → Reaches c numbers part left
    → ((new : ℕ) → PartStands c numbers part left new → ⊥) → StopsAt c part
stops c numbers part left reached none =
    record { numbers = numbers; header = reached.header; left = left; stand = reached.stand; none = none }

-- the fault of a part names the first that isn't read back
pub names_first : {T Short : Type 0} (c : List ℕ) (part : Part) (result : Result T LoadFault) (fault : LoadFault)
    → IsErrAnd result (λ e. e ≡ fault) → ((named : Part) → fault ≡ load.NoDatabase named → (part ≡ named) × (Short → ⊥))
    → ((Short → ⊥) → IsFirstUnread c part)
    → IfErr result (λ e. (named : Part) → e ≡ load.NoDatabase named → IsFirstUnread c named)
names_first c part result fault passed named first =
    let p = err_from_is_err_and result passed in
    rw (p.1, p.2) (λ other e. subst (IsFirstUnread c) (named other e).0 (first (named other e).1))

module _ (c numbers : List ℕ) (old new : ℕ) where
  -- aliases take no room
  pub after_aliases : (items : List LentPair) → Reaches c numbers Aliases old
      → PairsAt (Stands c) (slice_index numbers 1) (plain_pairs items) → new ≡ old → Reaches c numbers Subclasses new
  after_aliases items reached stand taken = goes_on c numbers Aliases Subclasses old new refl reached (plain_pairs items, stand, taken)

  -- parents
  pub after_parents : (items : List LentPair) → Reaches c numbers Subclasses old
      → ParentsAt (Stands c) (slice_index numbers 2) (plain_pairs items) → new + 4 * length items ≡ old → Reaches c numbers Literals new
  after_parents items reached stand taken =
      goes_on c numbers Subclasses Literals old new refl reached
      (plain_pairs items, stand, omega (arith, taken, length-map items plain_pair))

  -- literals
  pub after_literals : (items : List LentRule) → Reaches c numbers Literals old
      → IsLiteralList c (slice_index numbers 3) (plain_rules items) → new + 12 * length items ≡ old → Reaches c numbers Suffixes new
  after_literals items reached stand taken =
      goes_on c numbers Literals Suffixes old new refl reached (plain_rules items, stand, omega (arith, taken, length-map items plain_rule))

  -- a tree
  pub after_leaves : (rules : List GlobRule) → Reaches c numbers Suffixes old
      → IsTreeList c (slice_index numbers 4) rules → new + 12 * tree_size rules ≡ old
      → Reaches c numbers Globs new
  after_leaves rules reached stand taken = goes_on c numbers Suffixes Globs old new refl reached (rules, stand, taken)

  -- globs
  pub after_globs : (items : List LentRule) → Reaches c numbers Globs old
      → IsGlobList c (slice_index numbers 5) (plain_rules items) → new + 12 * length items ≡ old → Reaches c numbers Magic new
  after_globs items reached stand taken =
      goes_on c numbers Globs Magic old new refl reached (plain_rules items, stand, omega (arith, taken, length-map items plain_rule))

  -- icons
  pub after_icons : (items : List LentPair) → Reaches c numbers Icons old
      → PairsAt (Stands c) (slice_index numbers 8) (plain_pairs items) → new + 8 * length items ≡ old → Reaches c numbers GenericIcons new
  after_icons items reached stand taken =
      goes_on c numbers Icons GenericIcons old new refl reached (plain_pairs items, stand, omega (arith, taken, length-map items plain_pair))

-- sections, whose values take the cache's length at most
pub after_magic : (c numbers : List ℕ) (old new : Taking) (magic : LentMagic) → Reaches c numbers Magic old.records
    → old.value_bytes ≡ length c → MagicStands c (slice_index numbers 6) (plain_magic magic) → TakesSections old new (plain_magic magic)
    → Reaches c numbers Icons new.records
after_magic c numbers old new magic reached room stand took =
    let within : value_length (plain_magic magic) ≤ length c = omega (arith, room, took.value_bytes) in
    goes_on c numbers Magic Icons old.records new.records refl reached (plain_magic magic, stand, within, took.records)
