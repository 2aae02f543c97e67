-- Why a cache is not read back.
use Rattle.mime_load.specs.declared.part.LoadFault.{LoadFault}
use Rattle.mime_load.specs.declared.part.LoadFault.TheVariants as load
use Rattle.mime_load.specs.declared.part.Part.{Part}
use Rattle.mime_load.specs.declared.unread.Unread.{Unread}
use Rattle.mime_load.specs.declared.unread.Unread.TheVariants as unread

-- the fault of a part that is not read back
abbrev pub part_fault : Part → Unread → LoadFault
part_fault part unread.NotSpelled = load.NoDatabase part
part_fault part unread.OutOfMemory = load.OutOfMemory
