use mir.Raw.{raw}
use base.Fraction.{full_share}
use base.Shift.{Keyless}
use denote.Exit.{Exit, unchanged, leaves, hidden, under}
use denote.RattleType.{RattleType}
use denote.Memory.{lone}
use denote.RawPtr.{Ptr, block_ptr, null_ptr, lies_at}
use denote.Builtin.{RawPtr}
use denote.Struct.Struct.{exits_of}
use denote.Struct.Owning.{shape, fields, to}
use denote.Param.Send.{IsSend, Frees, Quiet, owning_send, part_keyless, struct_send, sendable}
use Rattle.std.specs.declared.alloc.Allocator.{Ghosts}
use Rattle.mime_c.specs.contracts.database.heap_value.HeapValue.{the_row, the_type}

-- a pointer may go to another thread
pointer : IsSend RawPtr
pointer = search sendable

-- so may what lies at one, if the value may
lies : (R : RattleType) → IsSend R → (p : Ptr) (x : R.Denot) → Keyless (lies_at R full_share p x)
lies R value (block_ptr b o) x = part_keyless R value full_share x b o
lies R value null_ptr x = tt

-- what is kept of the fields is kept of the struct
quiet : {D X : Type 0} (to : D → X) (e : Exit X) → Quiet e → Quiet (hidden (under to e))
quiet to unchanged q = λ x w. tt
quiet to (leaves L l S s r) q = λ d. q (to d)

-- a value on the heap may go to another thread if the value and the allocator may
pub send : (T A : RattleType) (g : Ghosts A.Denot) → IsSend T → IsSend A → Frees g g.dealloc_token → IsSend (the_row T A g)
send T A g value alloc frees =
    let it = the_type T A g in
    owning_send it (pointer, (alloc, tt)) (λ d. (lies T value d.address d.value, frees.frees d.alloc (raw (lone T.mir)) d.address))
    (λ k. quiet (to it) (exits_of k (fields it)) ((struct_send (shape it) (pointer, (alloc, tt))).leaving k))
