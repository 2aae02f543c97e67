-- That `--inode` changes nothing of what is looked up.
use Rattle.std.proofs.Common.{ℕ, Bool, true, false, List, Ok, Err, Result}
use Rattle.mime_tool.specs.Files.{Stored, bytes, closed, dangling, folder, nothing, special, unknown, unreadable}
use Rattle.mime_tool.specs.Line.{IsTypeLineBy, PlainLookup, with_inode}
use Rattle.mime_tool.specs.LineSteps.{LooksUpFile}
use Rattle.mime_tool.specs.Run.{Run}
use Rattle.mime_tool.specs.declared.line.Outcome.{Outcome}
use Rattle.mime_tool.specs.declared.stop.Stop.{Stop}
use Rattle.mime_tool.specs.declared.stop.Stop.TheVariants as stop

module _ (inode : Bool) (lookup : PlainLookup) (file : List ℕ) where
  -- the line of what is looked up is the same
  same_line : (name_only : Bool) (stored : Stored) (run : Run) → IsTypeLineBy name_only lookup stored file run
      → IsTypeLineBy name_only (with_inode inode lookup) stored file run
  same_line true stored run p = p
  same_line false nothing run p = p
  same_line false dangling run p = p
  same_line false folder run p = p
  same_line false (special kind) run p = p
  same_line false closed run p = p
  same_line false unreadable run p = p
  same_line false (bytes bs) run p = p
  same_line false unknown run p = p

  -- so is what it comes to
  pub same_lookup : (stored : Stored) (r : Result Outcome Stop) → LooksUpFile lookup stored file r → LooksUpFile (with_inode inode lookup) stored file r
  same_lookup stored (Ok o) p = same_line lookup.name_only stored _ p
  same_lookup stored (Err stop.OutOfMemory) p = tt
  same_lookup stored (Err stop.CannotWrite) p = p
  same_lookup stored (Err (stop.Refused m)) p = same_line lookup.name_only stored _ p
