-- After whole lines and sections, a line or a head that fails fails them all.
use Rattle.std.proofs.Common.{◌≡◌, ℕ, zero, suc, ◌+◌, ◌<◌, ◌≤◌, List, [], ◌∷◌, ◌++◌, length, length-append, Option, Some, None, Ok, Err}
use Rattle.std.proofs.Common.{refl, sym, ap, subst, ◌∙◌, append_assoc, arith, inl, inr}
use Rattle.mime_text.specs.declared.magic.fault.Fault.{Fault}
use Rattle.mime_text.specs.Magic.Entries.{PlainEntry, PlainFlatSection}
use Rattle.mime_text.specs.Magic.Reading.{line_at, marker_at, marked, entry_at, lines_at, head_at, section_at, sections_at}
use Rattle.mime_text.specs.Magic.Text.{BeginsMarker, IsEntry, AreLines, IsSection, AreSections}
use Rattle.mime_text.specs.Magic.FaultTable.{limit_after}
use Rattle.mime_text.proofs.MagicLemmas.EntryFound.{marker_found}
use Rattle.mime_text.proofs.MagicLemmas.EntryOnly.{entry_only}
use Rattle.mime_text.proofs.MagicLemmas.SectionsFound.{EndsLines, regroup_section}
use Rattle.mime_text.proofs.MagicLemmas.SectionsOnly.{head_only, section_only}
use Rattle.mime_text.proofs.MagicLemmas.LinesLoop.{lines_on}
use Rattle.mime_text.proofs.MagicLemmas.SectionsLoop.{sections_on}
use Rattle.mime_text.proofs.FaultLemmas.FaultSteps.{bind_fails, bind_to}
use Rattle.mime_text.proofs.FaultLemmas.FaultStarts.{StartsLine, indent_starts}

-- a line that fails, where no marker stands, is an entry that fails
pub entry_then : (limit : ℕ) (line : List ℕ) (f : Fault) → (BeginsMarker line → ⊥) → line_at limit line ≡ Err f
    → entry_at limit line ≡ Err f
unfolding entry_at
entry_then limit line f never e = go (marker_at line) refl
  where
    go : (o : Option (List ℕ)) → marker_at line ≡ o → marked (marker_at line) (line_at limit line) ≡ Err f
    go (Some rest) is = let m = marker_found line rest is in absurd (never (m.0, rest, m.3, m.1))
    go None is = ap (λ (o : Option (List ℕ)). marked o (line_at limit line)) is ∙ e

-- an entry starts as lines do
entry_starts : (limit : ℕ) (text tail : List ℕ) (item : PlainEntry) → IsEntry limit text item → StartsLine (text ++ tail)
entry_starts limit text tail item (inl (inl is, same)) = subst (λ (t : List ℕ). StartsLine (t ++ tail)) (sym is) refl
entry_starts limit text tail item (inl (inr (inl is), same)) = subst (λ (t : List ℕ). StartsLine (t ++ tail)) (sym is) refl
entry_starts limit text tail item (inl (inr (inr is), same)) = subst (λ (t : List ℕ). StartsLine (t ++ tail)) (sym is) refl
entry_starts limit text tail item (inr is) =
    let whole : text ++ tail ≡ is.1.indent ++ 62 ∷ (is.1.rest ++ tail) =
    ap (λ (t : List ℕ). t ++ tail) is.1.whole ∙ append_assoc is.1.indent (62 ∷ is.1.rest) tail in
    subst StartsLine (sym whole) (indent_starts is.1.indent (is.1.rest ++ tail) item.indent is.1.indent_is)

-- the first line fails
lines_first : (room limit : ℕ) (line : List ℕ) (f : Fault) → StartsLine line → entry_at limit line ≡ Err f → length line ≤ room
    → lines_at room limit line ≡ Err f
lines_first room limit [] f starts e enough = absurd starts
lines_first zero limit (b ∷ bytes) f starts e enough = absurd (omega (arith, enough))
lines_first (suc room) limit (b ∷ bytes) f starts e enough =
    lines_on room limit b bytes starts ∙ bind_fails (entry_at limit (b ∷ bytes)) _ f e

-- a later line fails
lines_later : (room limit : ℕ) (bytes tail : List ℕ) (item : PlainEntry) (f : Fault) → StartsLine bytes
    → entry_at limit bytes ≡ Ok (item, tail) → lines_at room (item.indent + 1) tail ≡ Err f → lines_at (suc room) limit bytes ≡ Err f
lines_later room limit [] tail item f starts e h = absurd starts
lines_later room limit (b ∷ bytes) tail item f starts e h =
    lines_on room limit b bytes starts ∙ bind_to (entry_at limit (b ∷ bytes)) (item, tail) _ (Err f) e
    (bind_fails (lines_at room (item.indent + 1) tail) _ f h)

-- bytes that start a line are some
pub starts_some : (bytes : List ℕ) → StartsLine bytes → 0 < length bytes
starts_some [] starts = absurd starts
starts_some (b ∷ bytes) starts = omega arith

-- whole lines before one that fails
pub lines_then : (room limit : ℕ) (text : List ℕ) (entries : List PlainEntry) (line : List ℕ) (f : Fault) → AreLines limit text entries
    → StartsLine line → entry_at (limit_after limit entries) line ≡ Err f
    → length (text ++ line) ≤ room → lines_at room limit (text ++ line) ≡ Err f
lines_then room limit text [] line f are starts e enough =
    let none : text ++ line ≡ line = ap (λ (t : List ℕ). t ++ line) are in
    ap (lines_at room limit) none ∙ lines_first room limit line f starts e (omega (arith, enough, ap length none))
lines_then zero limit text (item ∷ entries) line f are starts e enough =
    absurd (omega (arith, enough, length-append text line, starts_some line starts))
lines_then (suc room) limit text (item ∷ entries) line f are starts e enough =
    let tail : List ℕ = are.1 ++ line in
    let whole : text ++ line ≡ are.0 ++ tail = ap (λ (t : List ℕ). t ++ line) are.2 ∙ append_assoc are.0 are.1 line in
    let one : entry_at limit (are.0 ++ tail) ≡ Ok (item, tail) = entry_only limit are.0 item tail are.3 in
    let first : StartsLine (are.0 ++ tail) = entry_starts limit are.0 tail item are.3 in
    let fewer : length tail ≤ room = omega (arith, enough, ap length whole, length-append are.0 tail, first_some limit are.0 item are.3) in
    ap (lines_at (suc room) limit) whole ∙ lines_later room limit (are.0 ++ tail) tail item f first one
    (lines_then room (item.indent + 1) are.1 entries line f are.4 starts e fewer)
  where
    first_some : (limit : ℕ) (first : List ℕ) (item : PlainEntry) → IsEntry limit first item → 0 < length first
    first_some limit first item is = omega (arith, starts_some (first ++ []) (entry_starts limit first [] item is), length-append first [])

-- whole lines of a section before one that fails
pub section_then : (last line : List ℕ) (section : PlainFlatSection) (f : Fault) → IsSection last section → StartsLine line
    → entry_at (limit_after 0 section.entries) line ≡ Err f → section_at (last ++ line) ≡ Err f
unfolding section_at
section_then last line section f is starts e =
    let tail : List ℕ = is.lines ++ line in
    let whole : last ++ line ≡ 91 ∷ (is.priority ++ (58 ∷ (section.kind ++ (93 ∷ 10 ∷ tail)))) =
    ap (λ (t : List ℕ). t ++ line) is.whole ∙ regroup_section is.priority section.kind is.lines line in
    bind_to (head_at (last ++ line)) ((section.priority, section.kind), tail) _ (Err f)
    (ap head_at whole ∙ head_only is.priority section.priority section.kind tail is.priority_is is.kind_is)
    (bind_fails (lines_at (length tail) 0 tail) _ f
    (lines_then (length tail) 0 is.lines section.entries line f is.lines_are starts e (omega arith)))

-- after sections comes no byte that starts a line
abbrev pub Follows : List PlainFlatSection → List ℕ → Type 0
Follows [] rest = Unit {0}
Follows (part ∷ parts) rest = EndsLines rest

-- it follows the later ones too
follows_later : (parts : List PlainFlatSection) (part : PlainFlatSection) (rest : List ℕ) → Follows (part ∷ parts) rest → Follows parts rest
follows_later [] part rest follows = tt
follows_later (next ∷ parts) part rest follows = follows

-- a section ends where the next begins, or what follows
next_ends : (text rest : List ℕ) (parts : List PlainFlatSection) → AreSections text parts → EndsLines rest → EndsLines (text ++ rest)
next_ends text rest [] are ends = subst (λ (t : List ℕ). EndsLines (t ++ rest)) (sym are) ends
next_ends text rest (s ∷ parts) are ends =
    subst (λ (t : List ℕ). EndsLines (t ++ rest)) (sym (are.2 ∙ ap (λ (t : List ℕ). t ++ are.1) are.3.whole)) refl

-- the next section fails
sections_first : (room : ℕ) (rest : List ℕ) (f : Fault) → 0 < length rest → section_at rest ≡ Err f → length rest ≤ room
    → sections_at room rest ≡ Err f
sections_first zero rest f some e enough = absurd (omega (arith, some, enough))
sections_first (suc room) rest f some e enough = sections_on room rest some ∙ bind_fails (section_at rest) _ f e

-- whole sections before one that fails
pub sections_then : (room : ℕ) (text : List ℕ) (parts : List PlainFlatSection) (rest : List ℕ) (f : Fault) → AreSections text parts
    → Follows parts rest → 0 < length rest → section_at rest ≡ Err f
    → length (text ++ rest) ≤ room → sections_at room (text ++ rest) ≡ Err f
sections_then room text [] rest f are follows some e enough =
    let none : text ++ rest ≡ rest = ap (λ (t : List ℕ). t ++ rest) are in
    ap (sections_at room) none ∙ sections_first room rest f some e (omega (arith, enough, ap length none))
sections_then zero text (s ∷ parts) rest f are follows some e enough = absurd (omega (arith, enough, length-append text rest, some))
sections_then (suc room) text (s ∷ parts) rest f are follows some e enough =
    let tail : List ℕ = are.1 ++ rest in
    let whole : text ++ rest ≡ are.0 ++ tail = ap (λ (t : List ℕ). t ++ rest) are.2 ∙ append_assoc are.0 are.1 rest in
    let fewer : length tail ≤ room = omega (arith, enough, ap length whole, length-append are.0 tail, ap length are.3.whole) in
    ap (sections_at (suc room)) whole ∙ sections_on room (are.0 ++ tail) (omega (arith, length-append are.0 tail, ap length are.3.whole))
    ∙ bind_to (section_at (are.0 ++ tail)) (s, tail) _ (Err f) (section_only are.0 s tail are.3 (next_ends are.1 rest parts are.4 follows))
    (bind_fails (sections_at room tail) _ f (sections_then room are.1 parts rest f are.4 (follows_later parts s rest follows) some e fewer))
