-- What is printed or said of a FILE.
use Rattle.std.specs.Prelude.{◌≡◌, ◌⊎◌, ◌==◌, ℕ, Bool, true, false, List, [], Option, Some, None, codes, nat_le, length}
use Rattle.std.specs.List.{after_last}
use Rattle.mime_lookup.specs.declared.order.Order.{Order}
use Rattle.mime_lookup.specs.declared.order.Order.TheVariants.{AllGlobs, ContentOnly, GlobsFirst, MagicFirst}
use Rattle.mime_tool.specs.Files.{IsOfKind, Stored, bytes, closed, dangling, folder, nothing, special, unknown, unreadable}
use Rattle.mime_request.specs.declared.request.Options.{Options}
use Rattle.mime_request.specs.declared.request.Output.{Output}
use Rattle.mime_tool.specs.Output.{type_line, written}
use Rattle.mime_tool.specs.Run.{Run, cannot_read, printed, refusal, unanswered}
use Rattle.mime_tool.specs.declared.files.Inode.{Inode}
use Rattle.mime_tool.specs.declared.files.Inode.TheVariants as kind

-- the name of a file: what stands after its last slash (47)
abbrev pub base_name : List ℕ → List ℕ
base_name file = after_last (λ b. b == 47) file

-- what is looked up of a file: its name, but nothing where the content alone is asked
abbrev pub name_for : Order → List ℕ → List ℕ
name_for ContentOnly file = []
name_for GlobsFirst file = base_name file
name_for MagicFirst file = base_name file
name_for AllGlobs file = base_name file

-- a name of at most 4,096 bytes
abbrev pub fits : List ℕ → Bool
fits name = nat_le (length name) 4096

-- the message on a FILE whose name is too long
abbrev pub too_long : List ℕ → List ℕ
too_long file = refusal file (codes "name too long")

-- the message on a FILE that can't be opened
abbrev pub cannot_open : List ℕ → List ℕ
cannot_open file = refusal file (codes "cannot open")

-- the order that is asked for by `--content-only`, else by `--magic-first`, else by `--all-globs`, or without any
abbrev pub order_of : Bool → Bool → Bool → Order
order_of true magic_first all_globs = ContentOnly
order_of false true all_globs = MagicFirst
order_of false false true = AllGlobs
order_of false false false = GlobsFirst

-- the order that the options ask for
abbrev pub asked_order : Options → Order
asked_order options = order_of options.content_only options.magic_first options.all_globs

-- the type of what is no regular file
abbrev pub inode_name : Inode → List ℕ
inode_name kind.Directory = codes "inode/directory"
inode_name kind.CharDevice = codes "inode/chardevice"
inode_name kind.BlockDevice = codes "inode/blockdevice"
inode_name kind.Fifo = codes "inode/fifo"
inode_name kind.Socket = codes "inode/socket"
inode_name kind.Symlink = codes "inode/symlink"

-- how FILEs are looked up: whether by their names alone, whether what is no regular file has its type, what is told of an answer that cost
-- nothing, how answers are written, what is looked up of a FILE, and what the run is over a FILE of this
-- content or of none, over one whose reads all fail, and over one of which nothing is known
pub record PlainLookup : Type 1 where
  pub name_only : Bool
  pub inode : Bool
  pub free : List ℕ
  pub output : Output
  pub name_of : List ℕ → List ℕ
  pub IsTyped : Option (List ℕ) → List ℕ → Run → Type 0
  pub IsUnread : List ℕ → Run → Type 0
  pub IsGuessed : List ℕ → Run → Type 0

-- the run over a file whose name fits, or doesn't; in a message it is written so
abbrev pub IsNamed : Bool → List ℕ → (Run → Type 0) → Run → Type 0
IsNamed true file IsOne run = IsOne run
IsNamed false file IsOne run = run ≡ unanswered (too_long file)

-- the run over a file that is to be opened, where this is stored
abbrev pub IsOpenedRun : PlainLookup → Stored → List ℕ → Run → Type 0
IsOpenedRun lookup nothing file run = run ≡ unanswered (cannot_open (written lookup.output file))
IsOpenedRun lookup dangling file run = run ≡ unanswered (cannot_open (written lookup.output file))
IsOpenedRun lookup (special kind) file run = run ≡ unanswered (cannot_open (written lookup.output file))
IsOpenedRun lookup folder file run = run ≡ unanswered (cannot_read (written lookup.output file))
IsOpenedRun lookup closed file run = run ≡ unanswered (cannot_open (written lookup.output file))
IsOpenedRun lookup unreadable file run = IsNamed (fits (lookup.name_of file)) (written lookup.output file) (lookup.IsUnread file) run
IsOpenedRun lookup (bytes bs) file run = IsNamed (fits (lookup.name_of file)) (written lookup.output file) (lookup.IsTyped (Some bs) file) run
IsOpenedRun lookup unknown file run = (run ≡ unanswered (cannot_open (written lookup.output file)))
    ⊎ (run ≡ unanswered (cannot_read (written lookup.output file)))
    ⊎ IsNamed (fits (lookup.name_of file)) (written lookup.output file) (lookup.IsGuessed file) run

-- the run over a file: by its name alone, or it is opened
abbrev pub IsTypeLineBy : Bool → PlainLookup → Stored → List ℕ → Run → Type 0
IsTypeLineBy true lookup stored file run = IsNamed (fits (lookup.name_of file)) (written lookup.output file) (lookup.IsTyped None file) run
IsTypeLineBy false lookup stored file run = IsOpenedRun lookup stored file run

-- the same, with `--inode` or without it
abbrev pub with_inode : Bool → PlainLookup → PlainLookup
with_inode inode lookup = record lookup { inode = inode }

-- the run over a file of this kind: its type, which cost nothing; or over a regular file or none
abbrev pub IsLineOfKind : Option Inode → PlainLookup → Stored → List ℕ → Run → Type 0
IsLineOfKind (Some kind) lookup stored file run = run ≡ printed (type_line lookup.output file (inode_name kind) lookup.free)
IsLineOfKind None lookup stored file run = IsTypeLineBy lookup.name_only lookup stored file run

-- the kind that is asked for, if it is
abbrev pub IsAskedKind : Bool → Stored → Option Inode → Type 0
IsAskedKind true stored kind = IsOfKind stored kind
IsAskedKind false stored kind = kind ≡ None

-- the run over a file where this is stored
abbrev pub IsLineOf : PlainLookup → Stored → List ℕ → Run → Type 0
IsLineOf lookup stored file run =
    (kind : Option Inode) × IsAskedKind lookup.inode stored kind × IsLineOfKind kind lookup stored file run

-- the run over a file, where this is stored at each path
abbrev pub IsTypeLine : PlainLookup → (List ℕ → Stored) → List ℕ → Run → Type 0
IsTypeLine lookup stored file run = IsLineOf lookup (stored file) file run
