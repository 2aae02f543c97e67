-- The forest of a section's lines by their indents.
use Rattle.std.specs.Prelude.{◌≡◌, ℕ, List, [], ◌∷◌, map, reverse, Option, Some, None, nat_lt, if◌then◌else◌}
use Rattle.mime_base.specs.declared.magic.matchlet.Matchlet.{Matchlet}
use Rattle.mime_base.specs.Magic.{Forest, bare, line, PlainMatchlet, forest_of, plain_matchlet}
use Rattle.mime_text.specs.Magic.Entries.{PlainRole, kept, ignored, marker, PlainEntry}
use Rattle.mime_text.specs.declared.magic.forest.Root.{Root}

-- an entry that is no deeper than any before it; its matchlet, if the line is kept
pub record PlainRoot : Type 0 where
  pub indent : ℕ
  pub matchlet : Option PlainMatchlet

-- the first roots, as long as they are deeper
abbrev pub deeper : ℕ → List PlainRoot → List PlainRoot
deeper d [] = []
deeper d (t ∷ ts) = if nat_lt d t.indent then t ∷ deeper d ts else []

-- the roots from the first on that is not deeper
abbrev pub others : ℕ → List PlainRoot → List PlainRoot
others d [] = []
others d (t ∷ ts) = if nat_lt d t.indent then others d ts else t ∷ ts

-- matchlets, and before them one more if there is one
abbrev pub and_matchlet : Option PlainMatchlet → List PlainMatchlet → List PlainMatchlet
and_matchlet None matchlets = matchlets
and_matchlet (Some t) matchlets = t ∷ matchlets

-- the matchlets of the lines that are kept
abbrev pub kept_matchlets : List PlainRoot → List PlainMatchlet
kept_matchlets [] = []
kept_matchlets (t ∷ ts) = and_matchlet t.matchlet (kept_matchlets ts)

-- a line that is kept stands over its children
abbrev pub matchlet_of : PlainRole → Forest → Option PlainMatchlet
matchlet_of (kept own) children = Some (record { own = own; children = children })
matchlet_of ignored children = None
matchlet_of marker children = None

-- the children of an entry are the deeper roots directly after it
abbrev pub root_over : PlainEntry → List PlainRoot → PlainRoot
root_over i ts =
    let children = forest_of (kept_matchlets (deeper i.indent ts)) in
    record { indent = i.indent; matchlet = matchlet_of i.role children }

-- the entries that are no deeper than any before them, each with its matchlet
unfoldable pub roots_of : List PlainEntry → List PlainRoot
roots_of [] = []
roots_of (i ∷ is) = root_over i (roots_of is) ∷ others i.indent (roots_of is)

-- the lines that are kept, with their children; what is below an ignored line or a marker is dropped with it
unfoldable pub forest : List PlainEntry → Forest
forest is = forest_of (kept_matchlets (roots_of is))

-- ---- the same in other words

-- the first entries, as long as they are deeper
abbrev pub run : ℕ → List PlainEntry → List PlainEntry
run d [] = []
run d (i ∷ is) = if nat_lt d i.indent then i ∷ run d is else []

-- the entries after that run
abbrev pub after_run : ℕ → List PlainEntry → List PlainEntry
after_run d [] = []
after_run d (i ∷ is) = if nat_lt d i.indent then after_run d is else i ∷ is

-- a kept line stands over its children; one that is ignored and a marker are dropped with theirs
abbrev pub with_children : PlainRole → Forest → Forest → Forest
with_children (kept own) children rest = line own children rest
with_children ignored children rest = rest
with_children marker children rest = rest

-- the run of deeper entries directly after an entry is the forest of its children
pub record IsByRuns (f : List PlainEntry → Forest) : Type 0 where
  pub none : f [] ≡ bare
  pub some : (i : PlainEntry) (is : List PlainEntry) →
      f (i ∷ is) ≡ with_children i.role (f (run i.indent is)) (f (after_run i.indent is))

-- ---- the values of the code

-- a matchlet of the code, if there is one
abbrev pub plain_optional_matchlet : Option Matchlet → Option PlainMatchlet
plain_optional_matchlet None = None
plain_optional_matchlet (Some m) = Some (plain_matchlet m)

-- a root of the code
abbrev pub plain_root : Root → PlainRoot
plain_root r = record { indent = r.indent; matchlet = plain_optional_matchlet r.matchlet }

-- the roots on the stack, the nearest first
abbrev pub stack : List Root → List PlainRoot
stack rs = map plain_root (reverse rs)
