-- Names, pairs, icons and magic that a cache has stand where its header that was read says, and what a cache spells it has.
use Rattle.std.proofs.Common.{◌≡◌, ◌≤◌, ℕ, List, length, slice_index, ap, sym, subst, arith}
use Rattle.mime_base.specs.Cache.Bytes.{Stands}
use Rattle.mime_base.specs.Database.{PlainDatabase}
use Rattle.mime_base.specs.Database.Limits.{IsWithinLimits}
use Rattle.mime_base.specs.Format.Header.{HeaderAt, Offsets, header_numbers}
use Rattle.mime_base.specs.Format.Packed.{Packed}
use Rattle.mime_base.specs.Format.Pairs.{PairsAt}
use Rattle.mime_base.specs.Format.Parents.{ParentsAt}
use Rattle.mime_base.specs.Format.Spells.{Spells}
use Rattle.mime_base.specs.Format.Stored.{glob_rules, literal_rules, tree_rules}
use Rattle.mime_base.specs.Format.SuffixTree.{tree_size}
use Rattle.mime_base.specs.Magic.{PlainSection}
use Rattle.mime_base.specs.declared.database.rule.GlobRule.{GlobRule}
use Rattle.mime_load.specs.IconLists.{HasIcons}
use Rattle.mime_load.specs.MagicStanding.{HasMagic, MagicStands}
use Rattle.mime_load.specs.NameLists.{HasNames, rule_bytes}
use Rattle.mime_load.specs.PairLists.{HasPairs}
use Rattle.mime_load.specs.Parts.{IsGlobList, IsLiteralList, IsTreeList}
use Rattle.mime_load.specs.Whole.{IsHeader}
use Rattle.mime_load.proofs.SameLemmas.{same_numbers}
use Rattle.mime_load.proofs.RulesAlone.{globs_alone, literals_alone, tree_alone, tree_alone_size}

-- the numbers of a header that was read
pub same_header : (c numbers : List ℕ) (offsets : Offsets) → IsHeader c numbers → HeaderAt (Stands c) offsets
    → numbers ≡ header_numbers offsets
same_header c numbers offsets is header = same_numbers c 0 numbers (header_numbers offsets) is.count is.stand header

-- The parts that give types to names, where a header that was read says.
pub record ReadsNames (c numbers : List ℕ) (pairs : List (List ℕ × List ℕ)) (rules : List GlobRule) : Type 0 where
  pub aliases : PairsAt (Stands c) (slice_index numbers 1) pairs
  pub literals : IsLiteralList c (slice_index numbers 3) (literal_rules rules)
  pub leaves : IsTreeList c (slice_index numbers 4) (tree_rules rules)
  pub globs : IsGlobList c (slice_index numbers 5) (glob_rules rules)
  pub size : tree_size (tree_rules rules) ≡ tree_size rules

-- they stand there
pub names_read : (c numbers : List ℕ) (pairs : List (List ℕ × List ℕ)) (rules : List GlobRule) → IsHeader c numbers → HasNames c pairs rules
    → ReadsNames c numbers pairs rules
names_read c numbers pairs rules is has =
    let e = same_header c numbers has.offsets is has.header in
    subst (λ (ns : List ℕ). ReadsNames c ns pairs rules) (sym e) (record {
      aliases = has.aliases;
      literals = literals_alone c has.offsets.literals rules has.limits has.rules.literals_stand;
      leaves = tree_alone c has.offsets.tree rules has.limits has.rules.tree_stands;
      globs = globs_alone c has.offsets.globs rules has.limits has.rules.globs_stand;
      size = tree_alone_size c has.offsets.tree rules has.limits;
    })

-- The lists that subclasses are found by, where a header that was read says.
pub record ReadsPairs (c numbers : List ℕ) (alias_pairs parent_pairs : List (List ℕ × List ℕ)) : Type 0 where
  pub aliases : PairsAt (Stands c) (slice_index numbers 1) alias_pairs
  pub parents : ParentsAt (Stands c) (slice_index numbers 2) parent_pairs

-- they stand there
pub pairs_read : (c numbers : List ℕ) (aliases parents : List (List ℕ × List ℕ)) → IsHeader c numbers → HasPairs c aliases parents
    → ReadsPairs c numbers aliases parents
pairs_read c numbers aliases parents is has =
    subst (λ (ns : List ℕ). ReadsPairs c ns aliases parents) (sym (same_header c numbers has.offsets is has.header))
    (record { aliases = has.aliases; parents = has.parents })

-- The lists that icons are found by, where a header that was read says.
pub record ReadsIcons (c numbers : List ℕ) (alias_pairs icon_pairs generic_pairs : List (List ℕ × List ℕ)) : Type 0 where
  pub aliases : PairsAt (Stands c) (slice_index numbers 1) alias_pairs
  pub icons : PairsAt (Stands c) (slice_index numbers 8) icon_pairs
  pub generic_icons : PairsAt (Stands c) (slice_index numbers 9) generic_pairs

-- they stand there
pub icons_read : (c numbers : List ℕ) (aliases icons generic_icons : List (List ℕ × List ℕ)) → IsHeader c numbers
    → HasIcons c aliases icons generic_icons → ReadsIcons c numbers aliases icons generic_icons
icons_read c numbers aliases icons generic_icons is has =
    subst (λ (ns : List ℕ). ReadsIcons c ns aliases icons generic_icons) (sym (same_header c numbers has.offsets is has.header))
    (record { aliases = has.aliases; icons = has.icons; generic_icons = has.generic_icons })

-- the magic list does
pub magic_read : (c numbers : List ℕ) (sections : List PlainSection) → IsHeader c numbers → HasMagic c sections
    → MagicStands c (slice_index numbers 6) sections
magic_read c numbers sections is has =
    subst (λ (at : ℕ). MagicStands c at sections)
    (sym (ap (λ (ns : List ℕ). slice_index ns 6) (same_header c numbers has.offsets is has.header))) has.magic

module _ (c : List ℕ) (b : PlainDatabase) (spelled : Spells c b) (limits : IsWithinLimits b) where
  -- a cache has the aliases and the rules that it spells
  pub spelled_names : HasNames c b.aliases b.rules
  spelled_names = record {
    offsets = spelled.offsets;
    header = spelled.header;
    aliases = spelled.aliases;
    rules = record { literals_stand = spelled.literals; tree_stands = spelled.tree; globs_stand = spelled.globs };
    limits = limits.rules;
  }

  -- the aliases and the parents
  pub spelled_pairs : HasPairs c b.aliases b.parents
  spelled_pairs =
      record { offsets = spelled.offsets; header = spelled.header; aliases = spelled.aliases; parents = spelled.parents }

  -- and the sections
  pub spelled_magic : HasMagic c b.sections
  spelled_magic = record {
    offsets = spelled.offsets;
    header = spelled.header;
    magic = record { list = spelled.magic; allowed = limits.lines };
  }

-- a cache has the icons that it spells
pub spelled_icons : (c : List ℕ) (b : PlainDatabase) → Spells c b → HasIcons c b.aliases b.icons b.generic_icons
spelled_icons c b spelled = record {
  offsets = spelled.offsets;
  header = spelled.header;
  aliases = spelled.aliases;
  icons = spelled.icons;
  generic_icons = spelled.generic_icons;
}

-- the records of its rules have room in a cache that is packed
pub packed_rules : (c : List ℕ) (b : PlainDatabase) → Packed c b → rule_bytes b.rules ≤ length c
packed_rules c b packed = omega (arith, packed.records)

-- The parts of a database, where a header that was read says.
pub record ReadsDatabase (c numbers : List ℕ) (b : PlainDatabase) : Type 0 where
  pub names : ReadsNames c numbers b.aliases b.rules
  pub parents : ParentsAt (Stands c) (slice_index numbers 2) b.parents
  pub magic : MagicStands c (slice_index numbers 6) b.sections
  pub icons : PairsAt (Stands c) (slice_index numbers 8) b.icons
  pub generic_icons : PairsAt (Stands c) (slice_index numbers 9) b.generic_icons

-- they stand there
pub database_read : (c numbers : List ℕ) (b : PlainDatabase) → IsHeader c numbers → IsWithinLimits b → Spells c b
    → ReadsDatabase c numbers b
database_read c numbers b is limits spelled =
    let e = same_header c numbers spelled.offsets is spelled.header in
    record {
      names = names_read c numbers b.aliases b.rules is (spelled_names c b spelled limits);
      parents =
          subst (λ (k : ℕ). ParentsAt (Stands c) k b.parents) (sym (ap (λ (ns : List ℕ). slice_index ns 2) e)) spelled.parents;
      magic = magic_read c numbers b.sections is (spelled_magic c b spelled limits);
      icons = subst (λ (k : ℕ). PairsAt (Stands c) k b.icons) (sym (ap (λ (ns : List ℕ). slice_index ns 8) e)) spelled.icons;
      generic_icons =
          subst (λ (k : ℕ). PairsAt (Stands c) k b.generic_icons) (sym (ap (λ (ns : List ℕ). slice_index ns 9) e)) spelled.generic_icons;
    }
