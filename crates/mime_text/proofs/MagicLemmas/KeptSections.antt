-- The sections that keep a line, and the types that a marker deletes.
use Rattle.std.proofs.Common.{◌≡◌, ℕ, ◌<◌, ◌≤◌, Bool, true, false, cond, ◌||◌, List, [], ◌∷◌, ◌++◌, length, refl, sym, ap, ◌∙◌, arith}
use Rattle.std.specs.List.{list_any}
use Rattle.std.proofs.lemmas.List.{map_push, append-nil}
use Rattle.mime_base.specs.declared.magic.matchlet.Matchlet.{Matchlet}
use Rattle.mime_base.specs.declared.magic.Section.{Section}
use Rattle.mime_base.specs.Magic.{Forest, bare, line, PlainSection, forest_of, plain_matchlets, plain_section, plain_sections}
use Rattle.mime_text.specs.declared.magic.entry.MagicEntry.{MagicEntry}
use Rattle.mime_text.specs.declared.magic.entry.FlatSection.{FlatSection}
use Rattle.mime_text.specs.Magic.Entries.{PlainFlatSection, plain_role, plain_entries, plain_flat_section, plain_flat_sections}
use Rattle.mime_text.specs.Magic.File.{with_forest, unless_bare, kept_sections, is_marker, holds_marker, deleted_kinds}

-- ---- kept sections

-- a section before others
unless_bare-append : (s : PlainSection) (f : Forest) (xs ys : List PlainSection) → unless_bare s f (xs ++ ys) ≡ unless_bare s f xs ++ ys
unless_bare-append s bare xs ys = refl
unless_bare-append s (line own children rest) xs ys = refl

-- a section after others
kept_sections-push : (ps : List PlainFlatSection) (p : PlainFlatSection)
    → kept_sections (ps ++ p ∷ []) ≡ kept_sections ps ++ unless_bare (with_forest p) (with_forest p).lines []
kept_sections-push [] p = refl
kept_sections-push (q ∷ ps) p = ap (unless_bare (with_forest q) (with_forest q).lines) (kept_sections-push ps p)
    ∙ unless_bare-append (with_forest q) (with_forest q).lines (kept_sections ps) (unless_bare (with_forest p) (with_forest p).lines [])

-- the same over the code's values
kept_so_far : (ss : List FlatSection) (s : FlatSection)
    → kept_sections (plain_flat_sections (ss ++ s ∷ []))
    ≡ kept_sections (plain_flat_sections ss) ++ unless_bare (with_forest (plain_flat_section s))
    (with_forest (plain_flat_section s)).lines []
kept_so_far ss s = ap kept_sections (map_push plain_flat_section ss s) ∙ kept_sections-push (plain_flat_sections ss) (plain_flat_section s)

-- without lines it is left out
no_lines : (s : PlainSection) (ms : List Matchlet) → length ms ≤ 0 → unless_bare s (forest_of (plain_matchlets ms)) [] ≡ []
no_lines s [] e = refl
no_lines s (m ∷ ms) e = absurd (omega (arith, e))

-- with lines it is kept
some_lines : (s : PlainSection) (ms : List Matchlet) → 0 < length ms → unless_bare s (forest_of (plain_matchlets ms)) [] ≡ s ∷ []
some_lines s [] e = absurd (omega (arith, e))
some_lines s (m ∷ ms) e = refl

-- a section with lines is kept: the sections so far and it are the kept ones of one section more
pub keeps : (kept new : List Section) (ss : List FlatSection) (s : FlatSection) (m : Section)
    → plain_sections kept ≡ kept_sections (plain_flat_sections ss) → plain_section m ≡ with_forest (plain_flat_section s)
    → 0 < length m.lines.items → new ≡ kept ++ m ∷ []
    → plain_sections new ≡ kept_sections (plain_flat_sections (ss ++ s ∷ []))
keeps kept new ss s m so_far is some pushed =
    let one : unless_bare (with_forest (plain_flat_section s)) (with_forest (plain_flat_section s)).lines [] ≡ plain_section m ∷ [] =
    ap (λ (x : PlainSection). unless_bare x x.lines []) (sym is) ∙ some_lines (plain_section m) m.lines.items some in
    ap plain_sections pushed ∙ map_push plain_section kept m ∙ ap (λ (x : List PlainSection). x ++ plain_section m ∷ []) so_far
    ∙ ap (λ (x : List PlainSection). kept_sections (plain_flat_sections ss) ++ x) (sym one) ∙ sym (kept_so_far ss s)

-- a section without lines is left out: the sections so far are the kept ones of one section more
pub leaves : (kept : List Section) (ss : List FlatSection) (s : FlatSection) (m : Section)
    → plain_sections kept ≡ kept_sections (plain_flat_sections ss) → plain_section m ≡ with_forest (plain_flat_section s)
    → length m.lines.items ≤ 0
    → plain_sections kept ≡ kept_sections (plain_flat_sections (ss ++ s ∷ []))
leaves kept ss s m so_far is none =
    let one : unless_bare (with_forest (plain_flat_section s)) (with_forest (plain_flat_section s)).lines [] ≡ [] =
    ap (λ (x : PlainSection). unless_bare x x.lines []) (sym is) ∙ no_lines (plain_section m) m.lines.items none in
    so_far ∙ sym (append-nil (kept_sections (plain_flat_sections ss)))
    ∙ ap (λ (x : List PlainSection). kept_sections (plain_flat_sections ss) ++ x) (sym one) ∙ sym (kept_so_far ss s)

-- ---- deleted types

-- whether entries of the code hold a marker
abbrev pub any_marker : List MagicEntry → Bool
any_marker es = list_any (λ e. is_marker (plain_role e.role)) es

-- that is whether their plain values hold one
any_marker-holds : (es : List MagicEntry) → any_marker es ≡ list_any (λ i. is_marker i.role) (plain_entries es)
any_marker-holds [] = refl
any_marker-holds (e ∷ es) = ap (λ (b : Bool). is_marker (plain_role e.role) || b) (any_marker-holds es)

-- the types of sections one after another
deleted_kinds-append : (ps qs : List PlainFlatSection) → deleted_kinds (ps ++ qs) ≡ deleted_kinds ps ++ deleted_kinds qs
deleted_kinds-append [] qs = refl
deleted_kinds-append (p ∷ ps) qs =
    let go : (b : Bool) → cond b (p.kind ∷ deleted_kinds (ps ++ qs)) (deleted_kinds (ps ++ qs))
    ≡ cond b (p.kind ∷ deleted_kinds ps) (deleted_kinds ps) ++ deleted_kinds qs = λ b.
    elim b as (λ b. cond b (p.kind ∷ deleted_kinds (ps ++ qs)) (deleted_kinds (ps ++ qs))
    ≡ cond b (p.kind ∷ deleted_kinds ps) (deleted_kinds ps) ++ deleted_kinds qs) [
      | true ↦ ap (λ (t : List (List ℕ)). p.kind ∷ t) (deleted_kinds-append ps qs)
      | false ↦ deleted_kinds-append ps qs
    ] in
    go (holds_marker p)

-- the same over the code's values
deleted_so_far : (ss : List FlatSection) (s : FlatSection)
    → deleted_kinds (plain_flat_sections (ss ++ s ∷ [])) ≡ deleted_kinds (plain_flat_sections ss) ++ cond (any_marker s.entries.items)
    (s.kind ∷ []) []
deleted_so_far ss s =
    ap deleted_kinds (map_push plain_flat_section ss s) ∙ deleted_kinds-append (plain_flat_sections ss) (plain_flat_section s ∷ [])
    ∙ ap (λ (b : Bool). deleted_kinds (plain_flat_sections ss) ++ cond b (s.kind ∷ []) []) (sym (any_marker-holds s.entries.items))

-- a section that holds a marker adds its type to the deleted ones
pub deletes : (kinds new : List (List ℕ)) (ss : List FlatSection) (s : FlatSection) → kinds ≡ deleted_kinds (plain_flat_sections ss)
    → any_marker s.entries.items ≡ true → new ≡ kinds ++ s.kind ∷ [] → new ≡ deleted_kinds (plain_flat_sections (ss ++ s ∷ []))
deletes kinds new ss s so_far marked pushed =
    pushed ∙ ap (λ (x : List (List ℕ)). x ++ s.kind ∷ []) so_far
    ∙ ap (λ (b : Bool). deleted_kinds (plain_flat_sections ss) ++ cond b (s.kind ∷ []) []) (sym marked) ∙ sym (deleted_so_far ss s)

-- a section that holds no marker leaves the deleted types as they are
pub spares : (kinds : List (List ℕ)) (ss : List FlatSection) (s : FlatSection) → kinds ≡ deleted_kinds (plain_flat_sections ss)
    → any_marker s.entries.items ≡ false → kinds ≡ deleted_kinds (plain_flat_sections (ss ++ s ∷ []))
spares kinds ss s so_far none =
    so_far ∙ sym (append-nil (deleted_kinds (plain_flat_sections ss)))
    ∙ ap (λ (b : Bool). deleted_kinds (plain_flat_sections ss) ++ cond b (s.kind ∷ []) []) (sym none) ∙ sym (deleted_so_far ss s)
