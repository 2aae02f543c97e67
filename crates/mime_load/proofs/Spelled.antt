-- A cache whose parts were read back spells what they say.
use Rattle.std.proofs.Common.{◌≡◌, ℕ, ◌+◌, ◌*◌, List, [], ◌∷◌, ◌++◌, length, slice_index, refl, ap, subst, ◌∙◌, arith}
use Rattle.std.proofs.lemmas.List.{length-map}
use Rattle.mime_base.specs.Cache.Bytes.{Stands}
use Rattle.mime_base.specs.Database.Limits.{IsWithinLimits}
use Rattle.mime_base.specs.Format.Header.{HeaderAt, Offsets}
use Rattle.mime_base.specs.Format.Packed.{value_length}
use Rattle.mime_base.specs.Format.Pairs.{PairsAt}
use Rattle.mime_base.specs.Format.Parents.{ParentsAt}
use Rattle.mime_base.specs.Format.Records.{CardsAt}
use Rattle.mime_base.specs.Format.Spells.{Spells}
use Rattle.mime_base.specs.declared.database.rule.GlobRule.{GlobRule}
use Rattle.mime_load.specs.Lent.{plain_lists, plain_magic, plain_pair, plain_pairs, plain_rules}
use Rattle.mime_load.specs.MagicStanding.{MagicStands}
use Rattle.mime_load.specs.Parts.{IsGlobList, IsLiteralList, IsTreeList}
use Rattle.mime_load.specs.Whole.{AreLists, IsHeader}
use Rattle.mime_load.specs.declared.lists.Lists.{Lists}
use Rattle.mime_load.specs.declared.part.Part.TheVariants.{GenericIcons}
use Rattle.mime_load.specs.declared.taking.Taking.{Taking}
use Rattle.mime_load.proofs.JoinedRules.{rules_limits, rules_stand}
use Rattle.mime_load.proofs.PartsRead.{Reaches}
use Rattle.mime_load.proofs.UnreadLemmas.{all_taken}

-- where a header says that each part begins
abbrev pub offsets_of : List ℕ → Offsets
offsets_of numbers = record {
  aliases = slice_index numbers 1;
  parents = slice_index numbers 2;
  literals = slice_index numbers 3;
  tree = slice_index numbers 4;
  globs = slice_index numbers 5;
  magic = slice_index numbers 6;
  namespaces = slice_index numbers 7;
  icons = slice_index numbers 8;
  generic_icons = slice_index numbers 9;
}

-- ten numbers
ten : (numbers : List ℕ) → length numbers ≡ 10 → numbers ≡ slice_index numbers 0 ∷ slice_index numbers 1 ∷ slice_index numbers 2
    ∷ slice_index numbers 3 ∷ slice_index numbers 4 ∷ slice_index numbers 5 ∷ slice_index numbers 6 ∷ slice_index numbers 7
    ∷ slice_index numbers 8 ∷ slice_index numbers 9 ∷ []
ten [] e = absurd (omega arith)
ten (a ∷ []) e = absurd (omega arith)
ten (a ∷ b ∷ []) e = absurd (omega arith)
ten (a ∷ b ∷ c ∷ []) e = absurd (omega arith)
ten (a ∷ b ∷ c ∷ d ∷ []) e = absurd (omega arith)
ten (a ∷ b ∷ c ∷ d ∷ f ∷ []) e = absurd (omega arith)
ten (a ∷ b ∷ c ∷ d ∷ f ∷ g ∷ []) e = absurd (omega arith)
ten (a ∷ b ∷ c ∷ d ∷ f ∷ g ∷ h ∷ []) e = absurd (omega arith)
ten (a ∷ b ∷ c ∷ d ∷ f ∷ g ∷ h ∷ i ∷ []) e = absurd (omega arith)
ten (a ∷ b ∷ c ∷ d ∷ f ∷ g ∷ h ∷ i ∷ j ∷ []) e = absurd (omega arith)
ten (a ∷ b ∷ c ∷ d ∷ f ∷ g ∷ h ∷ i ∷ j ∷ k ∷ []) e = refl
ten (a ∷ b ∷ c ∷ d ∷ f ∷ g ∷ h ∷ i ∷ j ∷ k ∷ l ∷ more) e = absurd (omega arith)

-- the header stands with these offsets
pub header_at : (c numbers : List ℕ) → IsHeader c numbers → HeaderAt (Stands c) (offsets_of numbers)
header_at c numbers is =
    subst (CardsAt (Stands c) 0) (ten numbers is.count ∙ ap (λ (n : ℕ). n ∷ slice_index numbers 1 ∷ slice_index numbers 2
    ∷ slice_index numbers 3 ∷ slice_index numbers 4 ∷ slice_index numbers 5 ∷ slice_index numbers 6 ∷ slice_index numbers 7
    ∷ slice_index numbers 8 ∷ slice_index numbers 9 ∷ []) is.version) is.stand

-- the parts of a cache, each at the offset that the header says
module _ (c numbers : List ℕ) (b : Lists) (header : IsHeader c numbers)
    (aliases : PairsAt (Stands c) (slice_index numbers 1) (plain_pairs b.aliases.items))
    (parents : ParentsAt (Stands c) (slice_index numbers 2) (plain_pairs b.parents.items))
    (literals : IsLiteralList c (slice_index numbers 3) (plain_rules b.literals.items))
    (tree : IsTreeList c (slice_index numbers 4) b.leaves)
    (globs : IsGlobList c (slice_index numbers 5) (plain_rules b.globs.items))
    (magic : MagicStands c (slice_index numbers 6) (plain_magic b.magic))
    (icons : PairsAt (Stands c) (slice_index numbers 8) (plain_pairs b.icons.items))
    (generic : PairsAt (Stands c) (slice_index numbers 9) (plain_pairs b.generic_icons.items)) where
  -- all rules
  abbrev all : List GlobRule
  all = plain_rules b.literals.items ++ (b.leaves ++ plain_rules b.globs.items)

  -- they are the lists'
  pub spelled : Spells c (plain_lists b)
  spelled =
      let rules = rules_stand c (slice_index numbers 3) (slice_index numbers 4) (slice_index numbers 5) (plain_rules b.literals.items)
      b.leaves (plain_rules b.globs.items) all refl literals tree globs in
      record {
        within = header.within;
        offsets = offsets_of numbers;
        header = header_at c numbers header;
        aliases = aliases;
        parents = parents;
        literals = rules.literals_stand;
        tree = rules.tree_stands;
        globs = rules.globs_stand;
        magic = magic.list;
        icons = icons;
        generic_icons = generic;
      }

  -- they keep their limits
  pub limited : IsWithinLimits (plain_lists b)
  limited = record {
    rules =
        rules_limits c (slice_index numbers 3) (slice_index numbers 4) (slice_index numbers 5) (plain_rules b.literals.items)
        b.leaves (plain_rules b.globs.items) all refl literals tree globs;
    lines = magic.allowed;
  }

  -- they are the lists of the cache, and took their room
  pub are_lists : (old new : Taking) (left : ℕ) → Reaches c numbers GenericIcons left
      → new.records + 8 * length b.generic_icons.items ≡ left → old.records ≡ length c
      → new.value_bytes + value_length (plain_magic b.magic) ≡ old.value_bytes → AreLists c old new b
  are_lists old new left reached taken room values =
      let last = length-map b.generic_icons.items plain_pair in
      let all = all_taken c numbers (plain_lists b) header limited spelled left new.records reached.stand
      (plain_pairs b.generic_icons.items, generic, omega (arith, taken, last)) in
      record { spelled = spelled; limits = limited; records = omega (arith, room, all); values = values }
