-- What an index keeps of its database.
use Rattle.std.specs.Prelude.{◌≡◌, ℕ, ◌<◌, List, length, map}
use Rattle.mime_base.specs.Database.{plain_database}
use Rattle.mime_base.specs.Database.PlainPairs.{plain_pairs}
use Rattle.mime_base.specs.Database.Subclass.{resolved}
use Rattle.mime_base.specs.declared.database.Database.{Database}
use Rattle.mime_base.specs.Magic.{PlainSection, plain_sections}
use Rattle.mime_base.specs.declared.database.rule.GlobRule.{GlobRule}
use Rattle.mime_load.specs.declared.line.LentLine.{LentLine}
use Rattle.mime_lookup.specs.CheckingOrder.{read_limit}
use Rattle.mime_lookup.specs.Heads.{AreLineHeads, AreNoneShorter}
use Rattle.mime_lookup.specs.Pairs.{ArePaired}
use Rattle.mime_lookup.specs.Places.{ArePlaced, IsPlaced}
use Rattle.mime_lookup.specs.Tables.{AreTables, OwnsLines}
use Rattle.mime_lookup.specs.TopLines.{PlainTop, lent_matchlet, lent_top, plain_tops, top_lines}
use Rattle.mime_lookup.specs.declared.indexed.line_head.LineHead.{LineHead}
use Rattle.mime_lookup.specs.declared.indexed.magic_line.LentTop.{LentTop}
use Rattle.mime_lookup.specs.declared.indexed.prepared_magic.PreparedMagic.{PreparedMagic}
use Rattle.mime_lookup.specs.declared.indexed.tables.Tables.{Tables}
use Rattle.mime_lookup.specs.declared.indexed.top_line.TopLine.{TopLine}
use Rattle.mime_lookup.specs.declared.places.PlacedPairs.{PlacedPairs}
use Rattle.mime_lookup.specs.declared.places.Places.{Places}
use Rattle.mime_names.specs.Index.{PlainIndex}

-- a rule whose type went one alias step
abbrev pub unaliased_rule : List (List ℕ × List ℕ) → GlobRule → GlobRule
unaliased_rule aliases rule =
    record { weight = rule.weight; kind = resolved aliases rule.kind; pattern = rule.pattern; cased = rule.cased }

-- the rules of an index are a database's, and give their types after one alias step
pub record AreUnaliased (names : PlainIndex) (database : Database) : Type 0 where
  pub are : names.given ≡ map (unaliased_rule (plain_pairs database.aliases.items)) database.rules.items
  pub own : names.own ≡ database.rules.items

-- Each line of indent 0 has its head, and is found by its place and its byte, or is asked by itself, mostly by a pair, and not both; of a
-- content with fewer bytes than `shortest` none is asked.
pub record AreFound (heads : List LineHead) (tables : Tables) (pairs : List ℕ) (shortest : ℕ) (tops : List PlainTop) : Type 0 where
  pub headed : AreLineHeads heads tops
  pub tabled : AreTables tables heads 0
  pub paired : ArePaired pairs tables.others.items heads
  pub none_shorter : AreNoneShorter shortest heads
  pub owned : (owner : ℕ → ℕ) × OwnsLines tables owner (length tops) 0

-- an index of these sections of magic: it has their lines of indent 0, in their order, each with the type and the priority of its section
abbrev pub IsMagicIndex : List LentLine × List (TopLine LentTop) → List PlainSection → Type 0
IsMagicIndex index sections = plain_tops (lent_top index.0) index.1 ≡ top_lines sections

-- the index of a database's rules, and the places of its pairs
pub record IsIndexOf (database : Database) (names : PlainIndex) (pairs : PlacedPairs) : Type 0 where
  pub named : AreUnaliased names database
  pub placed : ArePlaced pairs
  pub aliases : pairs.aliases.pairs.now ≡ database.aliases.items
  pub parents : pairs.parents.pairs.now ≡ database.parents.items

-- Magic that is prepared is a database's.
pub record IsPreparedMagic (database : Database) (magic : PreparedMagic) : Type 0 where
  -- Each of its lines of indent 0 has its head, and is found.
  pub found :
      AreFound magic.heads.lines.items magic.heads.tables magic.heads.pairs.items magic.heads.shortest (plain_tops lent_matchlet magic.heads.tops.items)
  -- They are those of the database's sections, in their order.
  pub whole : plain_tops lent_matchlet magic.heads.tops.items ≡ top_lines (plain_sections database.sections.items)
  -- Of a content so much is read at most.
  pub limits : magic.limit ≡ read_limit (plain_database database)
  -- Something is read.
  pub some : 0 < magic.limit

-- the magic of a database, and the places of its aliases
pub record IsMagicOf (database : Database) (aliases : Places) (magic : PreparedMagic) : Type 0 where
  pub prepared : IsPreparedMagic database magic
  pub placed : IsPlaced aliases
  pub are : aliases.pairs.now ≡ database.aliases.items
