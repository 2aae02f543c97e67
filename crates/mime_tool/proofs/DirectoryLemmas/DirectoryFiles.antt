-- From the six files of a directory to what it gives.
use Rattle.std.proofs.Common.{ℕ, List, Option, codes, refl}
use Rattle.mime_base.specs.Database.PlainPairs.{plain_icons, plain_pairs}
use Rattle.mime_base.specs.Magic.{PlainSection}
use Rattle.mime_base.specs.declared.database.rule.GlobRule.{GlobRule}
use Rattle.mime_text.specs.Lines.Globs2.{is_malformed_rule, markers_of, rules_of}
use Rattle.mime_text.specs.Lines.Icons.{icons_in, is_malformed_icon}
use Rattle.mime_text.specs.Lines.Pairs.{is_malformed_pair, pairs_in}
use Rattle.mime_text.specs.Merging.{PlainDir}
use Rattle.mime_tool.specs.Directories.{AreGlobs, AreIcons, AreLinesAt, ArePairs, IsDirectory, IsMagicAt, path_of}
use Rattle.mime_tool.specs.Files.{Stored}
use Rattle.mime_tool.specs.Loading.{◌>>=◌, Gives}
use Rattle.mime_tool.proofs.DirectoryLemmas.DataFiles.{can_be_lines_at}
use Rattle.mime_tool.proofs.RunLemmas.Loads.{CanBe, can_give, can_then}
use Rattle.mime_tool.proofs.DirectoryLemmas.MagicFiles.{can_be_magic_at}

-- rules and markers of a text `globs2`
abbrev pub Globs : Type 0
Globs = List GlobRule × List (List ℕ)

-- sections and markers of a text `magic`
abbrev pub Magic : Type 0
Magic = List PlainSection × List (List ℕ)

-- pairs of a text of lines
abbrev pub Pairs : Type 0
Pairs = List (List ℕ × List ℕ)

-- ---- the steps

-- what the directory's `globs2` gives, with its messages
abbrev pub AreGlobsIn : (List ℕ → Stored) → List ℕ → Option Globs → List ℕ → Type 0
AreGlobsIn stored dir = AreLinesAt AreGlobs is_malformed_rule stored (path_of dir (codes "globs2"))

-- what its `magic` gives
abbrev pub IsMagicIn : (List ℕ → Stored) → List ℕ → Option Magic → List ℕ → Type 0
IsMagicIn stored dir = IsMagicAt stored (path_of dir (codes "magic"))

-- what its text of pairs of this name gives
abbrev pub ArePairsIn : List ℕ → (List ℕ → Stored) → List ℕ → Option Pairs → List ℕ → Type 0
ArePairsIn name stored dir = AreLinesAt ArePairs is_malformed_pair stored (path_of dir name)

-- what its text of icons of this name gives
abbrev pub AreIconsIn : List ℕ → (List ℕ → Stored) → List ℕ → Option Pairs → List ℕ → Type 0
AreIconsIn name stored dir = AreLinesAt AreIcons is_malformed_icon stored (path_of dir name)

-- a directory of what its six texts give
abbrev pub directory : Globs → Magic → Pairs → Pairs → Pairs → Pairs → PlainDir
directory globs magic aliases subclasses icons generic_icons = record {
  rules = globs.0;
  deleted_globs = globs.1;
  sections = magic.0;
  deleted_magic = magic.1;
  aliases = aliases;
  subclasses = subclasses;
  icons = icons;
  generic_icons = generic_icons;
}

-- ---- what comes after each

-- what a directory gives, once the five texts before `generic-icons` are read
abbrev pub AfterIcons : List ℕ → Globs → Magic → Pairs → Pairs → (List ℕ → Stored) → Pairs → Option PlainDir → List ℕ → Type 0
AfterIcons dir globs magic aliases subclasses stored icons =
    AreIconsIn (codes "generic-icons") stored dir >>= λ generic_icons. Gives (directory globs magic aliases subclasses icons generic_icons)

-- once the four texts before `icons` are read
abbrev pub AfterSubclasses : List ℕ → Globs → Magic → Pairs → (List ℕ → Stored) → Pairs → Option PlainDir → List ℕ → Type 0
AfterSubclasses dir globs magic aliases stored subclasses =
    AreIconsIn (codes "icons") stored dir >>= AfterIcons dir globs magic aliases subclasses stored

-- once the three texts before `subclasses` are read
abbrev pub AfterAliases : List ℕ → Globs → Magic → (List ℕ → Stored) → Pairs → Option PlainDir → List ℕ → Type 0
AfterAliases dir globs magic stored aliases =
    ArePairsIn (codes "subclasses") stored dir >>= AfterSubclasses dir globs magic aliases stored

-- once `globs2` and `magic` are read
abbrev pub AfterMagic : List ℕ → Globs → (List ℕ → Stored) → Magic → Option PlainDir → List ℕ → Type 0
AfterMagic dir globs stored magic = ArePairsIn (codes "aliases") stored dir >>= AfterAliases dir globs magic stored

-- once `globs2` is read
abbrev pub AfterGlobs : List ℕ → (List ℕ → Stored) → Globs → Option PlainDir → List ℕ → Type 0
AfterGlobs dir stored globs = IsMagicIn stored dir >>= AfterMagic dir globs stored

-- ---- each can be done

-- a text of pairs always gives something
can_be_pairs : (name : List ℕ) (stored : List ℕ → Stored) (dir : List ℕ) → CanBe (ArePairsIn name stored dir)
can_be_pairs name stored dir =
    can_be_lines_at Pairs ArePairs is_malformed_pair stored (path_of dir name) (λ text. (plain_pairs (pairs_in text), refl))

-- so does a text of icons
can_be_icons : (name : List ℕ) (stored : List ℕ → Stored) (dir : List ℕ) → CanBe (AreIconsIn name stored dir)
can_be_icons name stored dir =
    can_be_lines_at Pairs AreIcons is_malformed_icon stored (path_of dir name) (λ text. (plain_icons (icons_in text), refl))

-- with all six texts there is a directory
pub after_generic : (dir : List ℕ) (globs : Globs) (magic : Magic) (aliases subclasses icons generic_icons : Pairs)
    → CanBe (Gives (directory globs magic aliases subclasses icons generic_icons))
after_generic dir globs magic aliases subclasses icons generic_icons =
    can_give PlainDir (directory globs magic aliases subclasses icons generic_icons)

-- once five are read there can be one
pub after_icons : (dir : List ℕ) (globs : Globs) (magic : Magic) (aliases subclasses : Pairs) (stored : List ℕ → Stored) (icons : Pairs)
    → CanBe (AfterIcons dir globs magic aliases subclasses stored icons)
after_icons dir globs magic aliases subclasses stored icons =
    can_then Pairs PlainDir (AreIconsIn (codes "generic-icons") stored dir) _ (can_be_icons (codes "generic-icons") stored dir)
    (after_generic dir globs magic aliases subclasses icons)

-- once four are read
pub after_subclasses : (dir : List ℕ) (globs : Globs) (magic : Magic) (aliases : Pairs) (stored : List ℕ → Stored) (subclasses : Pairs)
    → CanBe (AfterSubclasses dir globs magic aliases stored subclasses)
after_subclasses dir globs magic aliases stored subclasses =
    can_then Pairs PlainDir (AreIconsIn (codes "icons") stored dir) (AfterIcons dir globs magic aliases subclasses stored)
    (can_be_icons (codes "icons") stored dir) (after_icons dir globs magic aliases subclasses stored)

-- once three are read
pub after_aliases : (dir : List ℕ) (globs : Globs) (magic : Magic) (stored : List ℕ → Stored) (aliases : Pairs)
    → CanBe (AfterAliases dir globs magic stored aliases)
after_aliases dir globs magic stored aliases =
    can_then Pairs PlainDir (ArePairsIn (codes "subclasses") stored dir) (AfterSubclasses dir globs magic aliases stored)
    (can_be_pairs (codes "subclasses") stored dir) (after_subclasses dir globs magic aliases stored)

-- once two are read
pub after_magic : (dir : List ℕ) (globs : Globs) (stored : List ℕ → Stored) (magic : Magic) → CanBe (AfterMagic dir globs stored magic)
after_magic dir globs stored magic =
    can_then Pairs PlainDir (ArePairsIn (codes "aliases") stored dir) (AfterAliases dir globs magic stored)
    (can_be_pairs (codes "aliases") stored dir) (after_aliases dir globs magic stored)

-- once one is read
pub after_globs : (dir : List ℕ) (stored : List ℕ → Stored) (globs : Globs) → CanBe (AfterGlobs dir stored globs)
after_globs dir stored globs =
    can_then Magic PlainDir (IsMagicIn stored dir) (AfterMagic dir globs stored) (can_be_magic_at stored (path_of dir (codes "magic")))
    (after_magic dir globs stored)

-- a directory can be read
pub can_be_directory : (stored : List ℕ → Stored) (dir : List ℕ) → CanBe (IsDirectory stored dir)
unfolding IsDirectory
can_be_directory stored dir =
    can_then Globs PlainDir (AreGlobsIn stored dir) (AfterGlobs dir stored)
    (can_be_lines_at Globs AreGlobs is_malformed_rule stored (path_of dir (codes "globs2"))
    (λ text. ((rules_of text, markers_of text), (refl, (λ kind. (λ x. x, λ x. x)))))) (after_globs dir stored)
