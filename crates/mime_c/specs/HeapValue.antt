-- What a value on the heap is once it was lent.
use base.Fml.{Fml}
use denote.Follow.{follows}
use denote.RattleType.{RattleType}
use denote.Ref.{MutBor}
use Rattle.std.specs.declared.alloc.Allocator.{Ghosts}
use Rattle.mime_c.specs.contracts.database.heap_value.HeapValue.{the_row}
use Rattle.mime_c.specs.declared.database.heap_value.HeapValue.{HeapValue}

-- another value at the same address
abbrev pub with_value : {X Z : Type 0} → HeapValue X Z → X → HeapValue X Z
with_value it value = record { address = it.address; alloc = it.alloc; value = value }

-- once a reference to the value ends, the last one that was written through it lies there
abbrev pub lends_value : (R Z : RattleType) → Ghosts Z.Denot → MutBor (HeapValue R.Denot Z.Denot) → MutBor R.Denot → Fml
lends_value R Z g it r = follows (the_row R Z g) R it.ghost_name r.ghost_name (with_value it.now)
