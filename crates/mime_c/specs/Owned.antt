-- What C owns between calls.
use Rattle.std.specs.Prelude.{Option, Some, None}
use Rattle.std.specs.Box.Ownership.{box_owns}
use Rattle.std.specs.contracts.impls.GlobalAllocator.TheImpl.{ghosts}
use Rattle.std.specs.declared.alloc.Global.{Global}
use base.Fml.{Fml, feq}
use denote.RawPtr.{Ptr, null_ptr}
use Rattle.mime_c.specs.Opened.{Opened}
use Rattle.mime_c.specs.contracts.database.open_database.OpenDatabase.{the_row}

-- nothing, at NULL; or a database that is open, and the right to free its block
abbrev pub owns_open : Global → Ptr → Option Opened → Fml
owns_open alloc address None = feq Ptr address null_ptr
owns_open alloc address (Some opened) = box_owns (ghosts.dealloc_token alloc) the_row address opened
