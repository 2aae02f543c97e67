-- What files hold.
use Rattle.std.specs.Prelude.{◌≡◌, ◌≢◌, ◌⊎◌, ℕ, Bool, true, false, List, [], Option, Some, None, Result, Ok, Err, Vec}
use Rattle.std.specs.declared.alloc.Global.{Global}
use Rattle.std.specs.declared.io.ErrorKind.{ErrorKind}
use Rattle.std.specs.declared.io.ErrorKind.TheVariants as kind
use Rattle.mime_lookup.specs.Content.{Health, broken, sound}
use Rattle.mime_tool.specs.declared.files.FileFault.{FileFault}
use Rattle.mime_tool.specs.declared.files.FileFault.TheVariants.{Failed, Folder, OutOfMemory}
use Rattle.mime_tool.specs.declared.files.Inode.{Inode}
use Rattle.mime_tool.specs.declared.files.Inode.TheVariants.{Directory, Fifo, Symlink}

-- what is stored at a path: nothing, a link that leads nowhere, a folder, a device, a pipe or a socket of this kind, something
-- else that can't be opened, a file whose reads all fail, or a file of these bytes; or that isn't known
pub data Stored : Type 0 where
  nothing : Stored
  dangling : Stored
  folder : Stored
  special : Inode → Stored
  closed : Stored
  unreadable : Stored
  bytes : List ℕ → Stored
  unknown : Stored

-- the answer is what is stored, unless memory ran out
abbrev pub Tells : Stored → Result (Option (Vec ℕ Global)) FileFault → Type 0
Tells unknown answer = Unit {0}
Tells stored (Err OutOfMemory) = Unit {0}
Tells stored (Err Folder) = stored ≡ folder
Tells stored (Err Failed) = (stored ≡ closed) ⊎ (stored ≡ unreadable) ⊎ ((kind : Inode) × (stored ≡ special kind))
Tells stored (Ok None) = (stored ≡ nothing) ⊎ (stored ≡ dangling)
Tells stored (Ok (Some v)) = stored ≡ bytes v.items

-- whether something is stored, of whatever kind
abbrev pub IsThere : Stored → Bool → Type 0
IsThere nothing there = there ≡ false
IsThere dangling there = there ≡ false
IsThere unknown there = Unit {0}
IsThere stored there = there ≡ true

-- a reader of what is stored: it gives just the bytes, or its reads all fail
abbrev pub IsReaderOf : {R : Type 0} → (R → Option (List ℕ)) → (R → Health) → Stored → R → Type 0
IsReaderOf remaining health nothing reader = ⊥
IsReaderOf remaining health dangling reader = ⊥
IsReaderOf remaining health folder reader = ⊥
IsReaderOf remaining health (special kind) reader = ⊥
IsReaderOf remaining health closed reader = ⊥
IsReaderOf remaining health unreadable reader = (remaining reader ≡ Some []) × (health reader ≡ broken)
IsReaderOf remaining health (bytes bs) reader = (remaining reader ≡ Some bs) × (health reader ≡ sound)
IsReaderOf remaining health unknown reader = Unit {0}

-- a folder is stored, or that isn't known
abbrev pub IsFolder : Stored → Type 0
IsFolder folder = Unit {0}
IsFolder unknown = Unit {0}
IsFolder _ = ⊥

-- nothing that can be opened is stored, and no folder
abbrev pub IsShut : Stored → Type 0
IsShut nothing = Unit {0}
IsShut dangling = Unit {0}
IsShut folder = ⊥
IsShut (special kind) = Unit {0}
IsShut closed = Unit {0}
IsShut unreadable = ⊥
IsShut (bytes bs) = ⊥
IsShut unknown = Unit {0}

-- a reader of what is stored is given; or it is a folder, it can't be opened, or memory ran out
abbrev pub IsOpening : {R : Type 0} → (R → Option (List ℕ)) → (R → Health) → Stored → Result R FileFault → Type 0
IsOpening remaining health stored (Ok reader) = IsReaderOf remaining health stored reader
IsOpening remaining health stored (Err Folder) = IsFolder stored
IsOpening remaining health stored (Err Failed) = IsShut stored
IsOpening remaining health stored (Err OutOfMemory) = Unit {0}

-- what is stored, as a list of names: what a pipe gives isn't known
abbrev pub as_list : Stored → Stored
as_list (special Fifo) = unknown
as_list stored = stored

-- the kind of what is no regular file: a link is what it leads to, and itself where it leads nowhere
abbrev pub inode_of : Stored → Option Inode
inode_of dangling = Some Symlink
inode_of folder = Some Directory
inode_of (special kind) = Some kind
inode_of _ = None

-- what is stored is of this kind
abbrev pub IsOfKind : Stored → Option Inode → Type 0
IsOfKind unknown kind = Unit {0}
IsOfKind stored kind = kind ≡ inode_of stored

-- what is known of a replacement: that it succeeds, that it fails, or nothing; memory aside
pub data Writing : Type 0 where
  succeeds : Writing
  fails : Writing
  unforeseen : Writing

-- what a path holds after it came to hold this, where it was known what it held
abbrev pub Becomes : Stored → Stored → Stored → Type 0
Becomes unknown this new = Unit {0}
Becomes old this new = new ≡ this

-- a file of these bytes took the place of what was stored at a path; it came by the path temp, where
-- nothing is left, and every other path holds what it held
pub record Replaced (temp path bs : List ℕ) (old new : List ℕ → Stored) : Type 0 where
  pub written : Becomes (old path) (bytes bs) (new path)
  pub moved : temp ≢ path → Becomes (old temp) nothing (new temp)
  pub others : (other : List ℕ) → other ≢ path → other ≢ temp → new other ≡ old other

-- every path but temp holds what it held
abbrev pub Untouched : List ℕ → (List ℕ → Stored) → (List ℕ → Stored) → Type 0
Untouched temp old new = (other : List ℕ) → other ≢ temp → new other ≡ old other

-- the file is replaced; or it is untouched where that failed, or memory ran out
abbrev pub Replaces : List ℕ → List ℕ → List ℕ → Writing → (List ℕ → Stored) → (List ℕ → Stored) → Result (Unit {0}) FileFault → Type 0
Replaces temp path bs writing old new (Ok _) = Replaced temp path bs old new × (writing ≢ fails)
Replaces temp path bs writing old new (Err OutOfMemory) = Untouched temp old new
Replaces temp path bs writing old new (Err fault) = Untouched temp old new × (writing ≢ succeeds)

-- the text of a file: an empty one where there is no file, and none where it can't be read
abbrev pub IsTextOf : Stored → Option (List ℕ) → Type 0
IsTextOf nothing text = text ≡ Some []
IsTextOf dangling text = text ≡ Some []
IsTextOf folder text = text ≡ None
IsTextOf (special kind) text = text ≡ None
IsTextOf closed text = text ≡ None
IsTextOf unreadable text = text ≡ None
IsTextOf (bytes bs) text = text ≡ Some bs
IsTextOf unknown text = Unit {0}

-- the bytes of a file that has to be there: none where there is no file, or it can't be read
abbrev pub IsBytesOf : Stored → Option (List ℕ) → Type 0
IsBytesOf nothing found = found ≡ None
IsBytesOf dangling found = found ≡ None
IsBytesOf folder found = found ≡ None
IsBytesOf (special kind) found = found ≡ None
IsBytesOf closed found = found ≡ None
IsBytesOf unreadable found = found ≡ None
IsBytesOf (bytes bs) found = found ≡ Some bs
IsBytesOf unknown found = Unit {0}

-- ---- errors of the system

-- the fault that an error of the system comes to
abbrev pub fault_of : ErrorKind → FileFault
fault_of kind.OutOfMemory = OutOfMemory
fault_of kind.IsADirectory = Folder
fault_of _ = Failed
