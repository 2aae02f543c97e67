-- A directory after each of its files.
use Rattle.std.proofs.Common.{◌≡◌, ℕ, List, [], Some, Result, Ok, Err, ap, codes, refl}
use Rattle.mime_base.specs.Database.PlainPairs.{plain_icons, plain_pairs}
use Rattle.mime_text.specs.Merging.{PlainDir, plain_dir}
use Rattle.mime_text.specs.declared.lines.globs2.GlobsFile.{GlobsFile}
use Rattle.mime_text.specs.declared.lines.icons.IconsFile.{IconsFile}
use Rattle.mime_text.specs.declared.lines.pairs.PairsFile.{PairsFile}
use Rattle.mime_text.specs.declared.magic.file.MagicFile.{MagicFile}
use Rattle.mime_text.specs.declared.merging.DirFiles.{DirFiles}
use Rattle.mime_tool.specs.Desk.{State, Works}
use Rattle.mime_tool.specs.Directories.{IsDirectory, plain_magic}
use Rattle.mime_tool.specs.Loading.{Gives, Loads}
use Rattle.mime_tool.specs.declared.stop.Stop.{Stop}
use Rattle.mime_tool.proofs.RunLemmas.Loads.{works_stop, works_then}
use Rattle.mime_tool.proofs.RunLemmas.Ends.{writes_nothing}
use Rattle.mime_tool.proofs.DirectoryLemmas.DirectoryFiles.{AfterAliases, AfterGlobs, AfterIcons, AfterMagic, AfterSubclasses, AreGlobsIn}
use Rattle.mime_tool.proofs.DirectoryLemmas.DirectoryFiles.{AreIconsIn, ArePairsIn}
use Rattle.mime_tool.proofs.DirectoryLemmas.DirectoryFiles.{Globs, IsMagicIn, Magic, Pairs, after_aliases, after_generic, after_globs}
use Rattle.mime_tool.proofs.DirectoryLemmas.DirectoryFiles.{after_icons, after_magic}
use Rattle.mime_tool.proofs.DirectoryLemmas.DirectoryFiles.{after_subclasses, directory}

-- ---- the plain values of the files

-- what a `globs2` gives, as a plain value
abbrev pub plain_globs : GlobsFile → Globs
plain_globs file = (file.rules.items, file.deleted.items)

-- the pairs of a text, as plain values
abbrev pub pairs_in : PairsFile → Pairs
pairs_in file = plain_pairs file.pairs.items

-- the icons of a text, as plain values
abbrev pub icons_in : IconsFile → Pairs
icons_in file = plain_icons file.icons.items

-- ---- a file was read, and what comes after it was done or not

-- `globs2` and what comes after it give the directory
pub globs_read : (dir : List ℕ) (a b c : State) (globs : GlobsFile) (r : Result DirFiles Stop)
    → Works (Loads plain_globs (AreGlobsIn a.stored dir)) a b (Ok globs)
    → Works (Loads plain_dir (AfterGlobs dir b.stored (plain_globs globs))) b c r → Works (Loads plain_dir (IsDirectory a.stored dir)) a c r
unfolding IsDirectory
globs_read dir a b c globs r p q =
    works_then GlobsFile Globs DirFiles PlainDir plain_globs plain_dir (AreGlobsIn a.stored dir) (AfterGlobs dir) a b c globs r p q

-- so do `magic` and what comes after it, after `globs2`
pub magic_read : (dir : List ℕ) (globs : Globs) (a b c : State) (magic : MagicFile) (r : Result DirFiles Stop)
    → Works (Loads plain_magic (IsMagicIn a.stored dir)) a b (Ok magic)
    → Works (Loads plain_dir (AfterMagic dir globs b.stored (plain_magic magic))) b c r
    → Works (Loads plain_dir (AfterGlobs dir a.stored globs)) a c r
magic_read dir globs a b c magic r p q =
    works_then MagicFile Magic DirFiles PlainDir plain_magic plain_dir (IsMagicIn a.stored dir) (AfterMagic dir globs) a b c magic r p q

-- `aliases` and what comes after it
pub aliases_read : (dir : List ℕ) (globs : Globs) (magic : Magic) (a b c : State) (aliases : PairsFile) (r : Result DirFiles Stop)
    → Works (Loads pairs_in (ArePairsIn (codes "aliases") a.stored dir)) a b (Ok aliases)
    → Works (Loads plain_dir (AfterAliases dir globs magic b.stored (pairs_in aliases))) b c r
    → Works (Loads plain_dir (AfterMagic dir globs a.stored magic)) a c r
aliases_read dir globs magic a b c aliases r p q =
    works_then PairsFile Pairs DirFiles PlainDir pairs_in plain_dir (ArePairsIn (codes "aliases") a.stored dir)
    (AfterAliases dir globs magic) a b c aliases r p q

-- `subclasses` and what comes after it
pub subclasses_read : (dir : List ℕ) (globs : Globs) (magic : Magic) (aliases : Pairs) (a b c : State) (subclasses : PairsFile)
    (r : Result DirFiles Stop) → Works (Loads pairs_in (ArePairsIn (codes "subclasses") a.stored dir)) a b (Ok subclasses)
    → Works (Loads plain_dir (AfterSubclasses dir globs magic aliases b.stored (pairs_in subclasses))) b c r
    → Works (Loads plain_dir (AfterAliases dir globs magic a.stored aliases)) a c r
subclasses_read dir globs magic aliases a b c subclasses r p q =
    works_then PairsFile Pairs DirFiles PlainDir pairs_in plain_dir (ArePairsIn (codes "subclasses") a.stored dir)
    (AfterSubclasses dir globs magic aliases) a b c subclasses r p q

-- `icons` and what comes after it
pub icons_read : (dir : List ℕ) (globs : Globs) (magic : Magic) (aliases subclasses : Pairs) (a b c : State) (icons : IconsFile)
    (r : Result DirFiles Stop) → Works (Loads icons_in (AreIconsIn (codes "icons") a.stored dir)) a b (Ok icons)
    → Works (Loads plain_dir (AfterIcons dir globs magic aliases subclasses b.stored (icons_in icons))) b c r
    → Works (Loads plain_dir (AfterSubclasses dir globs magic aliases a.stored subclasses)) a c r
icons_read dir globs magic aliases subclasses a b c icons r p q =
    works_then IconsFile Pairs DirFiles PlainDir icons_in plain_dir (AreIconsIn (codes "icons") a.stored dir)
    (AfterIcons dir globs magic aliases subclasses) a b c icons r p q

-- the last of them
pub generic_read : (dir : List ℕ) (globs : Globs) (magic : Magic) (aliases subclasses icons : Pairs) (a b : State) (generic : IconsFile)
    (files : DirFiles) → plain_dir files ≡ directory globs magic aliases subclasses icons (icons_in generic)
    → Works (Loads icons_in (AreIconsIn (codes "generic-icons") a.stored dir)) a b (Ok generic)
    → Works (Loads plain_dir (AfterIcons dir globs magic aliases subclasses a.stored icons)) a b (Ok files)
generic_read dir globs magic aliases subclasses icons a b generic files are p =
    works_then IconsFile Pairs DirFiles PlainDir icons_in plain_dir (AreIconsIn (codes "generic-icons") a.stored dir)
    (λ _ generic_icons. Gives (directory globs magic aliases subclasses icons generic_icons)) a b b generic (Ok files) p
    (record { same_files = refl; same_setting = refl; sinks = ([], (ap Some are, refl), writes_nothing b.sinks) })

-- ---- a file wasn't read

-- a stop at `globs2` is one of the directory
pub globs_unread : (dir : List ℕ) (a b : State) (s : Stop) → Works (Loads plain_globs (AreGlobsIn a.stored dir)) a b (Err s)
    → Works (Loads plain_dir (IsDirectory a.stored dir)) a b (Err s)
unfolding IsDirectory
globs_unread dir a b s p =
    works_stop GlobsFile Globs DirFiles PlainDir plain_globs plain_dir (AreGlobsIn a.stored dir) (AfterGlobs dir a.stored) a b s p
    (after_globs dir a.stored)

-- so is one at `magic`, after `globs2`
pub magic_unread : (dir : List ℕ) (globs : Globs) (a b : State) (s : Stop) → Works (Loads plain_magic (IsMagicIn a.stored dir)) a b (Err s)
    → Works (Loads plain_dir (AfterGlobs dir a.stored globs)) a b (Err s)
magic_unread dir globs a b s p =
    works_stop MagicFile Magic DirFiles PlainDir plain_magic plain_dir (IsMagicIn a.stored dir) (AfterMagic dir globs a.stored) a b s p
    (after_magic dir globs a.stored)

-- one at `aliases`
pub aliases_unread : (dir : List ℕ) (globs : Globs) (magic : Magic) (a b : State) (s : Stop)
    → Works (Loads pairs_in (ArePairsIn (codes "aliases") a.stored dir)) a b (Err s)
    → Works (Loads plain_dir (AfterMagic dir globs a.stored magic)) a b (Err s)
aliases_unread dir globs magic a b s p =
    works_stop PairsFile Pairs DirFiles PlainDir pairs_in plain_dir (ArePairsIn (codes "aliases") a.stored dir)
    (AfterAliases dir globs magic a.stored) a b s p (after_aliases dir globs magic a.stored)

-- one at `subclasses`
pub subclasses_unread : (dir : List ℕ) (globs : Globs) (magic : Magic) (aliases : Pairs) (a b : State) (s : Stop)
    → Works (Loads pairs_in (ArePairsIn (codes "subclasses") a.stored dir)) a b (Err s)
    → Works (Loads plain_dir (AfterAliases dir globs magic a.stored aliases)) a b (Err s)
subclasses_unread dir globs magic aliases a b s p =
    works_stop PairsFile Pairs DirFiles PlainDir pairs_in plain_dir (ArePairsIn (codes "subclasses") a.stored dir)
    (AfterSubclasses dir globs magic aliases a.stored) a b s p (after_subclasses dir globs magic aliases a.stored)

-- one at `icons`
pub icons_unread : (dir : List ℕ) (globs : Globs) (magic : Magic) (aliases subclasses : Pairs) (a b : State) (s : Stop)
    → Works (Loads icons_in (AreIconsIn (codes "icons") a.stored dir)) a b (Err s)
    → Works (Loads plain_dir (AfterSubclasses dir globs magic aliases a.stored subclasses)) a b (Err s)
icons_unread dir globs magic aliases subclasses a b s p =
    works_stop IconsFile Pairs DirFiles PlainDir icons_in plain_dir (AreIconsIn (codes "icons") a.stored dir)
    (AfterIcons dir globs magic aliases subclasses a.stored) a b s p (after_icons dir globs magic aliases subclasses a.stored)

-- one at `generic-icons`
pub generic_unread : (dir : List ℕ) (globs : Globs) (magic : Magic) (aliases subclasses icons : Pairs) (a b : State) (s : Stop)
    → Works (Loads icons_in (AreIconsIn (codes "generic-icons") a.stored dir)) a b (Err s)
    → Works (Loads plain_dir (AfterIcons dir globs magic aliases subclasses a.stored icons)) a b (Err s)
generic_unread dir globs magic aliases subclasses icons a b s p =
    works_stop IconsFile Pairs DirFiles PlainDir icons_in plain_dir (AreIconsIn (codes "generic-icons") a.stored dir)
    (λ generic_icons. Gives (directory globs magic aliases subclasses icons generic_icons)) a b s p
    (after_generic dir globs magic aliases subclasses icons)
