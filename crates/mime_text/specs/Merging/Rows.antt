-- Worked rows of merging, which compute.
use Rattle.std.specs.Prelude.{◌≡◌, ℕ, false, refl, codes, List, [], ◌∷◌, None}
use Rattle.mime_base.specs.Magic.{bare, line, PlainSection}
use Rattle.mime_base.specs.declared.database.rule.GlobRule.{GlobRule}
use Rattle.mime_text.specs.Merging.{PlainDir, merged}

-- a rule of the weight 50
abbrev rule : List ℕ → List ℕ → GlobRule
rule kind pattern = record { weight = 50; kind = kind; pattern = pattern; cased = false }

-- a section that finds the one byte
abbrev section : ℕ → List ℕ → ℕ → PlainSection
section priority kind byte = record {
  priority = priority;
  kind = kind;
  lines = line (record { start = 0; range = 1; word = 1; value = byte ∷ []; mask = None }) bare bare;
}

-- a directory without files
abbrev no_files : PlainDir
no_files = record {
  rules = [];
  deleted_globs = [];
  sections = [];
  deleted_magic = [];
  aliases = [];
  subclasses = [];
  icons = [];
  generic_icons = [];
}

-- a directory of globs: rules, and the types of markers
abbrev of_globs : List GlobRule → List (List ℕ) → PlainDir
of_globs rules deleted = record {
  rules = rules;
  deleted_globs = deleted;
  sections = [];
  deleted_magic = [];
  aliases = [];
  subclasses = [];
  icons = [];
  generic_icons = [];
}

-- a directory of magic: sections, and the types of markers
abbrev of_magic : List PlainSection → List (List ℕ) → PlainDir
of_magic sections deleted = record {
  rules = [];
  deleted_globs = [];
  sections = sections;
  deleted_magic = deleted;
  aliases = [];
  subclasses = [];
  icons = [];
  generic_icons = [];
}

-- a directory of pairs: aliases, subclass pairs and both kinds of icons
abbrev of_pairs : List (List ℕ × List ℕ) → List (List ℕ × List ℕ) → List (List ℕ × List ℕ) → List (List ℕ × List ℕ) → PlainDir
of_pairs aliases subclasses icons generic_icons = record {
  rules = [];
  deleted_globs = [];
  sections = [];
  deleted_magic = [];
  aliases = aliases;
  subclasses = subclasses;
  icons = icons;
  generic_icons = generic_icons;
}

-- ---- globs

-- a directory with a marker and a rule of its type
abbrev with_marker : PlainDir
with_marker = of_globs (rule (codes "t/a") (codes "*.new") ∷ []) (codes "t/a" ∷ [])

-- a directory with a rule of that type
abbrev with_old_rule : PlainDir
with_old_rule = of_globs (rule (codes "t/a") (codes "*.old") ∷ rule (codes "t/b") (codes "*.b") ∷ []) []

-- the marker discards the rule of its type after it, and not the one beside it
pub noglobs_marker-first : (merged (with_marker ∷ with_old_rule ∷ [])).rules
    ≡ rule (codes "t/a") (codes "*.new") ∷ rule (codes "t/b") (codes "*.b") ∷ []
unfolding merged
noglobs_marker-first = refl

-- no rule before it
pub noglobs_marker-last : (merged (with_old_rule ∷ with_marker ∷ [])).rules
    ≡ rule (codes "t/a") (codes "*.old") ∷ rule (codes "t/b") (codes "*.b") ∷ rule (codes "t/a") (codes "*.new") ∷ []
unfolding merged
noglobs_marker-last = refl

-- it counts for all directories after it, and also where another directory stands between
pub noglobs_marker-far : (merged (with_marker ∷ no_files ∷ with_old_rule ∷ with_old_rule ∷ [])).rules
    ≡ rule (codes "t/a") (codes "*.new") ∷ rule (codes "t/b") (codes "*.b") ∷ rule (codes "t/b") (codes "*.b") ∷ []
unfolding merged
noglobs_marker-far = refl

-- ---- magic

-- a marker deletes sections alone, and only after its directory; a marker of globs deletes no section
pub magic_deleted : (merged (of_magic (section 50 (codes "t/a") 97 ∷ []) (codes "t/a" ∷ [])
    ∷ of_magic (section 60 (codes "t/a") 98 ∷ section 40 (codes "t/b") 99 ∷ []) [] ∷ [])).sections
    ≡ section 50 (codes "t/a") 97 ∷ section 40 (codes "t/b") 99 ∷ []
unfolding merged
magic_deleted = refl

pub globs_marker_keeps_sections : (merged (with_marker ∷ of_magic (section 60 (codes "t/a") 98 ∷ []) [] ∷ [])).sections
    ≡ section 60 (codes "t/a") 98 ∷ []
unfolding merged
globs_marker_keeps_sections = refl

-- sections stand by falling priority; those of one priority stay in the order of directories and lines
pub priorities : (merged (of_magic (section 50 (codes "t/a") 97 ∷ section 80 (codes "t/b") 98 ∷ section 50 (codes "t/c") 99 ∷ []) []
    ∷ of_magic (section 80 (codes "t/d") 100 ∷ section 50 (codes "t/a") 101 ∷ section 90 (codes "t/e") 102 ∷ []) [] ∷ [])).sections
    ≡ section 90 (codes "t/e") 102 ∷ section 80 (codes "t/b") 98 ∷ section 80 (codes "t/d") 100
    ∷ section 50 (codes "t/a") 97 ∷ section 50 (codes "t/c") 99 ∷ section 50 (codes "t/a") 101 ∷ []
unfolding merged
priorities = refl

-- ---- pairs

-- the first pair of an alias counts, in one directory and over directories
pub first_alias_pair :
    (merged (of_pairs ((codes "a/b", codes "c/d") ∷ (codes "a/b", codes "e/f") ∷ []) [] [] []
    ∷ of_pairs ((codes "a/b", codes "g/h") ∷ (codes "a/c", codes "c/d") ∷ []) [] [] [] ∷ [])).aliases
    ≡ (codes "a/b", codes "c/d") ∷ (codes "a/c", codes "c/d") ∷ []
unfolding merged
first_alias_pair = refl

-- a subclass pair stands once, at its first place; a type may have many parents
pub subclass_pairs_once :
    (merged (of_pairs [] ((codes "t/a", codes "t/b") ∷ (codes "t/c", codes "t/b") ∷ (codes "t/a", codes "t/b") ∷ []) [] []
    ∷ of_pairs [] ((codes "t/a", codes "t/d") ∷ (codes "t/c", codes "t/b") ∷ []) [] [] ∷ [])).parents
    ≡ (codes "t/a", codes "t/b") ∷ (codes "t/c", codes "t/b") ∷ (codes "t/a", codes "t/d") ∷ []
unfolding merged
subclass_pairs_once = refl

-- the first icon of a type counts, in each of the two lists by itself
pub first_icons :
    (merged (of_pairs [] [] ((codes "t/a", codes "x") ∷ (codes "t/a", codes "y") ∷ []) ((codes "t/b", codes "x") ∷ [])
    ∷ of_pairs [] [] ((codes "t/a", codes "z") ∷ (codes "t/b", codes "z") ∷ []) ((codes "t/a", codes "z") ∷ []) ∷ [])).icons
    ≡ (codes "t/a", codes "x") ∷ (codes "t/b", codes "z") ∷ []
unfolding merged
first_icons = refl

pub first_generic_icons :
    (merged (of_pairs [] [] [] ((codes "t/b", codes "x") ∷ (codes "t/b", codes "y") ∷ [])
    ∷ of_pairs [] [] [] ((codes "t/a", codes "z") ∷ (codes "t/b", codes "z") ∷ []) ∷ [])).generic_icons
    ≡ (codes "t/b", codes "x") ∷ (codes "t/a", codes "z") ∷ []
unfolding merged
first_generic_icons = refl

-- no directories give nothing
pub no_directories : merged [] ≡ record {
  rules = [];
  aliases = [];
  parents = [];
  sections = [];
  icons = [];
  generic_icons = [];
}
unfolding merged
no_directories = refl
