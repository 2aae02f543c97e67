-- What a text that was read, and a file of lines, give.
use Rattle.std.proofs.Common.{◌≡◌, ℕ, Bool, List, [], Option, Some, None, Result, Ok, Err, Vec, ap, refl, subst, sym}
use Rattle.std.specs.List.{flat_map}
use Rattle.std.specs.declared.alloc.Global.{Global}
use Rattle.mime_text.specs.Lines.{skipped_of}
use Rattle.mime_tool.specs.Desk.{Does, ReadsWhole, State, Works}
use Rattle.mime_tool.specs.Directories.{AreFileLines, AreLinesAt, IsTextAt, all_ignored, ignored, unread}
use Rattle.mime_tool.specs.Files.{IsTextOf, Stored, bytes, closed, dangling, folder, nothing, special, unknown, unreadable}
use Rattle.mime_tool.specs.Finish.{Sinks}
use Rattle.mime_tool.specs.Loading.{Loads}
use Rattle.mime_tool.specs.Run.{said}
use Rattle.mime_tool.specs.declared.stop.Stop.{Stop}
use Rattle.mime_tool.specs.declared.stop.Stop.TheVariants as stop
use Rattle.mime_tool.proofs.RunLemmas.Ends.{writes_same}
use Rattle.mime_tool.proofs.RunLemmas.Loads.{CanBe, can_then, loads_nothing}

-- ---- texts

-- there is some text, or none
some_text : (stored : Stored) → (text : Option (List ℕ)) × IsTextOf stored text
some_text nothing = (Some [], refl)
some_text dangling = (Some [], refl)
some_text folder = (None, refl)
some_text (special kind) = (None, refl)
some_text closed = (None, refl)
some_text unreadable = (None, refl)
some_text (bytes bs) = (Some bs, refl)
some_text unknown = (None, tt)

-- the text of a file can be read or not
pub can_be_text : (stored : List ℕ → Stored) (path : List ℕ) → CanBe (IsTextAt stored path)
can_be_text stored path =
    let t = some_text (stored path) in
    (t.0, unread path t.0, (t.1, refl))

-- a text that was read is that of the file
text_read : (stored : List ℕ → Stored) (path : List ℕ) (a b : Sinks) (r : Result (Vec ℕ Global) Stop)
    → ReadsWhole (IsTextOf (stored path)) path a b r → Loads (λ (v : Vec ℕ Global). v.items) (IsTextAt stored path) a b r
text_read stored path a b (Ok v) p = ([], (p.1, refl), writes_same a b p.0)
text_read stored path a b (Err stop.OutOfMemory) p =
    subst (λ (s : Sinks). Loads (λ (v : Vec ℕ Global). v.items) (IsTextAt stored path) a s (Err stop.OutOfMemory)) (sym p)
    (loads_nothing (Vec ℕ Global) (List ℕ) (λ v. v.items) (IsTextAt stored path) a (can_be_text stored path))
text_read stored path a b (Err stop.CannotWrite) p = absurd p
text_read stored path a b (Err (stop.Refused m)) p = ([], (p.1, p.2), writes_same a b p.0)

-- the same over a desk
pub works_text : (path : List ℕ) (a b : State) (r : Result (Vec ℕ Global) Stop) → Works (ReadsWhole (IsTextOf (a.stored path)) path) a b r
    → Works (Loads (λ (v : Vec ℕ Global). v.items) (IsTextAt a.stored path)) a b r
works_text path a b r p = record {
  same_files = p.same_files;
  same_setting = p.same_setting;
  sinks = text_read a.stored path a.sinks b.sinks r p.sinks;
}

-- ---- files of lines

-- lines can be parsed
pub can_be_lines : (X : Type 0) (Spells : List ℕ → X → Type 0) (is_malformed : List ℕ → Bool) (path text : List ℕ)
    → ((t : List ℕ) → (x : X) × Spells t x) → CanBe (AreFileLines Spells is_malformed path text)
can_be_lines X Spells is_malformed path text total =
    let x = total text in
    (Some x.0, all_ignored is_malformed path text, (x.1, refl))

-- so can the lines of a file
pub can_be_lines_at : (X : Type 0) (Spells : List ℕ → X → Type 0) (is_malformed : List ℕ → Bool) (stored : List ℕ → Stored) (path : List ℕ)
    → ((t : List ℕ) → (x : X) × Spells t x) → CanBe (AreLinesAt Spells is_malformed stored path)
can_be_lines_at X Spells is_malformed stored path total =
    can_then (List ℕ) X (IsTextAt stored path) (AreFileLines Spells is_malformed path) (can_be_text stored path)
    (λ text. can_be_lines X Spells is_malformed path text total)

-- the messages on malformed lines were written
pub lines_said : (F X U : Type 0) (plain : F → X) (Spells : List ℕ → X → Type 0) (is_malformed : List ℕ → Bool) (path text numbers : List ℕ)
    (a b : Sinks) (u : U) (file : F) → numbers ≡ skipped_of is_malformed text → Spells text (plain file)
    → Does {X = U} (said (flat_map (ignored path) numbers)) a b (Ok u)
    → Loads plain (AreFileLines Spells is_malformed path text) a b (Ok file)
lines_said F X U plain Spells is_malformed path text numbers a b u file are spells w =
    (flat_map (ignored path) numbers, (spells, ap (flat_map (ignored path)) are), w)

-- or weren't
pub lines_unsaid : (F X U : Type 0) (plain : F → X) (Spells : List ℕ → X → Type 0) (is_malformed : List ℕ → Bool)
    (path text numbers : List ℕ) (a b : Sinks) (file : F) (s : Stop) → numbers ≡ skipped_of is_malformed text → Spells text (plain file)
    → Does {X = U} (said (flat_map (ignored path) numbers)) a b (Err s)
    → Loads plain (AreFileLines Spells is_malformed path text) a b (Err s)
lines_unsaid F X U plain Spells is_malformed path text numbers a b file stop.OutOfMemory are spells w =
    (Some (plain file), flat_map (ignored path) numbers, (spells, ap (flat_map (ignored path)) are), w)
lines_unsaid F X U plain Spells is_malformed path text numbers a b file stop.CannotWrite are spells w = w
lines_unsaid F X U plain Spells is_malformed path text numbers a b file (stop.Refused m) are spells w = absurd w
