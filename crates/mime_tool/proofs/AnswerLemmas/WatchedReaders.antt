-- A content that is watched reads as its reader does.
use Rattle.std.proofs.Common.{◌≡◌, ◌∙◌, ℕ, Bool, List, Option, Some, true, false}
use Rattle.mime_lookup.specs.Content.{Health}
use Rattle.mime_tool.specs.LineSteps.{IsContent}
use Rattle.mime_tool.specs.Files.{IsReaderOf, Stored, bytes, closed, dangling, folder, nothing, special, unknown, unreadable}

-- what tells what a reader of what is stored tells is one
pub watched_reads : {R W : Type 0} (remaining : R → Option (List ℕ)) (health : R → Health)
    (left : W → Option (List ℕ)) (told : W → Health) (stored : Stored) (reader : R) (w : W)
    → left w ≡ remaining reader → told w ≡ health reader
    → IsReaderOf remaining health stored reader → IsReaderOf left told stored w
watched_reads remaining health left told nothing reader w same_left same_told is = is
watched_reads remaining health left told dangling reader w same_left same_told is = is
watched_reads remaining health left told folder reader w same_left same_told is = is
watched_reads remaining health left told (special kind) reader w same_left same_told is = is
watched_reads remaining health left told closed reader w same_left same_told is = is
watched_reads remaining health left told unreadable reader w same_left same_told is = (same_left ∙ is.0, same_told ∙ is.1)
watched_reads remaining health left told (bytes bs) reader w same_left same_told is = (same_left ∙ is.0, same_told ∙ is.1)
watched_reads remaining health left told unknown reader w same_left same_told is = is

-- so does one that is there, where one is to be
pub watched_content : {R W : Type 0} (remaining : R → Option (List ℕ)) (health : R → Health)
    (left : W → Option (List ℕ)) (told : W → Health) (name_only : Bool) (stored : Stored) (reader : R) (w : W)
    → left w ≡ remaining reader → told w ≡ health reader
    → IsContent remaining health name_only stored (Some reader) → IsContent left told name_only stored (Some w)
watched_content remaining health left told true stored reader w same_left same_told is = is
watched_content remaining health left told false stored reader w same_left same_told is =
    watched_reads remaining health left told stored reader w same_left same_told is
