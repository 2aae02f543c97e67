-- Forests of allowed lines, and so the sections of a text, keep what magic allows.
use Rattle.std.proofs.Common.{◌≡◌, ℕ, zero, suc, ◌-◌, ◌<◌, ◌≤◌, ◌&&◌, true, ltb, List, [], ◌∷◌, ◌++◌, Option, Some, None, refl, sym, subst}
use Rattle.std.proofs.Common.{arith, inl, inr}
use Rattle.std.specs.List.{AllByRecursion}
use Rattle.std.proofs.lemmas.Bool.{and_parts, and_from, ltb-true, cases_Bool, cond-true, cond-false}
use Rattle.mime_base.specs.Magic.{Forest, bare, line, PlainSection, PlainMatchlet, forest_of, is_allowed, are_allowed, are_allowed_sections}
use Rattle.mime_text.specs.Magic.Entries.{PlainRole, kept, ignored, marker, PlainEntry, PlainFlatSection}
use Rattle.mime_text.specs.Magic.Reading.{header}
use Rattle.mime_text.specs.Magic.Text.{IsSection, AreSections, MagicText}
use Rattle.mime_text.specs.Magic.Forest.{PlainRoot, and_matchlet, deeper, others, kept_matchlets, matchlet_of, roots_of, forest}
use Rattle.mime_text.specs.Magic.File.{with_forest, unless_bare, kept_sections}
use Rattle.mime_text.proofs.MagicLemmas.AllowedLines.{AreBytes, bytes_of_two, AllowedRole, AllowedEntries, lines_allowed}

-- what needs few levels needs no more
more_levels : (a b : ℕ) (f : Forest) → a ≤ b → are_allowed a f ≡ true → are_allowed b f ≡ true
more_levels a b bare le e = refl
more_levels zero b (line own children rest) le e = absurd cc
more_levels (suc a) zero (line own children rest) le e = absurd (omega (arith, le))
more_levels (suc a) (suc b) (line own children rest) le e =
    let p = and_parts (is_allowed own && are_allowed a children) (are_allowed (suc a) rest) e in
    let q = and_parts (is_allowed own) (are_allowed a children) p.0 in
    and_from _ _ (and_from _ _ q.0 (more_levels a b children (omega (arith, le)) q.1)) (more_levels (suc a) (suc b) rest le p.1)

-- a matchlet whose children have at most that many levels
abbrev AllowedMatchlet : ℕ → Option PlainMatchlet → Type 0
AllowedMatchlet levels None = Unit {0}
AllowedMatchlet levels (Some t) = (is_allowed t.own ≡ true) × (are_allowed levels t.children ≡ true)

-- the levels left below an entry are those below its indent
record AllowedRoot (levels : ℕ) (t : PlainRoot) : Type 0 where
  shallow : t.indent < 64
  fewer : 63 - t.indent < levels
  matchlet_so : AllowedMatchlet (63 - t.indent) t.matchlet

-- entries with fewer levels below them than there are
abbrev AllowedRoots : ℕ → List PlainRoot → Type 0
AllowedRoots levels ts = AllByRecursion (AllowedRoot levels) ts

-- a matchlet before others
one_more : (below levels : ℕ) (o : Option PlainMatchlet) (matchlets : List PlainMatchlet) → AllowedMatchlet below o → below < levels
    → are_allowed levels (forest_of matchlets) ≡ true → are_allowed levels (forest_of (and_matchlet o matchlets)) ≡ true
one_more below levels None matchlets so lt e = e
one_more below zero (Some t) matchlets so lt e = absurd (omega (arith, lt))
one_more below (suc levels) (Some t) matchlets so lt e =
    and_from _ _ (and_from _ _ so.0 (more_levels below levels t.children (omega (arith, lt)) so.1)) e

-- the matchlets of such entries have that many levels
matchlets_allowed : (levels : ℕ) (ts : List PlainRoot) → AllowedRoots levels ts → are_allowed levels (forest_of (kept_matchlets ts)) ≡ true
matchlets_allowed levels [] are = refl
matchlets_allowed levels (t ∷ ts) are =
    one_more (63 - t.indent) levels t.matchlet (kept_matchlets ts) are.0.matchlet_so are.0.fewer (matchlets_allowed levels ts are.1)

-- below an indent fewer levels are left
deeper_allowed : (d : ℕ) (ts : List PlainRoot) → AllowedRoots 64 ts → AllowedRoots (63 - d) (deeper d ts)
deeper_allowed d [] are = tt
deeper_allowed d (t ∷ ts) are =
    elim (cases_Bool (ltb d t.indent)) [
      | inl deep ↦
          let lt : d < t.indent = ltb-true d t.indent deep in
          let here : AllowedRoot (63 - d) t = record {
            shallow = are.0.shallow;
            fewer = omega (arith, are.0.shallow, lt);
            matchlet_so = are.0.matchlet_so;
          } in
          subst (AllowedRoots (63 - d)) (sym (cond-true (ltb d t.indent) (t ∷ deeper d ts) [] deep)) (here, deeper_allowed d ts are.1)
      | inr off ↦ subst (AllowedRoots (63 - d)) (sym (cond-false (ltb d t.indent) (t ∷ deeper d ts) [] off)) tt
    ]

-- after the deeper entries nothing changes
others_allowed : (d : ℕ) (ts : List PlainRoot) → AllowedRoots 64 ts → AllowedRoots 64 (others d ts)
others_allowed d [] are = tt
others_allowed d (t ∷ ts) are =
    elim (cases_Bool (ltb d t.indent)) [
      | inl deep ↦ subst (AllowedRoots 64) (sym (cond-true (ltb d t.indent) (others d ts) (t ∷ ts) deep)) (others_allowed d ts are.1)
      | inr off ↦ subst (AllowedRoots 64) (sym (cond-false (ltb d t.indent) (others d ts) (t ∷ ts) off)) are
    ]

-- a line over allowed children
over_allowed : (levels : ℕ) (role : PlainRole) (children : Forest) → AllowedRole role → are_allowed levels children ≡ true
    → AllowedMatchlet levels (matchlet_of role children)
over_allowed levels (kept own) children so e = (so, e)
over_allowed levels ignored children so e = tt
over_allowed levels marker children so e = tt

-- the roots of allowed entries
roots_allowed : (is : List PlainEntry) → AllowedEntries is → AllowedRoots 64 (roots_of is)
unfolding roots_of
roots_allowed [] are = tt
roots_allowed (i ∷ is) are =
    let below = roots_allowed is are.1 in
    let children : are_allowed (63 - i.indent) (forest_of (kept_matchlets (deeper i.indent (roots_of is)))) ≡ true =
    matchlets_allowed (63 - i.indent) (deeper i.indent (roots_of is)) (deeper_allowed i.indent (roots_of is) below) in (
      record {
        shallow = are.0.shallow;
        fewer = omega arith;
        matchlet_so = over_allowed (63 - i.indent) i.role _ are.0.role_so children;
      },
      others_allowed i.indent (roots_of is) below,
    )

-- their forest has at most 64 levels
forest_allowed : (is : List PlainEntry) → AllowedEntries is → are_allowed 64 (forest is) ≡ true
unfolding forest
forest_allowed is are = matchlets_allowed 64 (roots_of is) (roots_allowed is are)

-- a section that is left out changes nothing
unless_bare_allowed : (s : PlainSection) (f : Forest) (rest : List PlainSection) → are_allowed 64 s.lines ≡ true
    → are_allowed_sections rest ≡ true → are_allowed_sections (unless_bare s f rest) ≡ true
unless_bare_allowed s bare rest so e = e
unless_bare_allowed s (line own children others) rest so e = and_from _ _ so e

-- a section that is spelled so
section_allowed : (text : List ℕ) (p : PlainFlatSection) → AreBytes text → IsSection text p → are_allowed 64 (forest p.entries) ≡ true
section_allowed text p bytes is =
    let whole : AreBytes (91 ∷ (is.priority ++ (58 ∷ (p.kind ++ (93 ∷ 10 ∷ is.lines))))) = subst AreBytes is.whole bytes in
    let after_prefix = (bytes_of_two is.priority _ whole.1).1 in
    let lines = (bytes_of_two p.kind _ after_prefix.1).1 in
    forest_allowed p.entries (lines_allowed 0 is.lines p.entries lines.1.1 is.lines_are)

-- sections one after another
sections_allowed : (text : List ℕ) (ps : List PlainFlatSection) → AreBytes text → AreSections text ps
    → are_allowed_sections (kept_sections ps) ≡ true
sections_allowed text [] bytes are = refl
sections_allowed text (p ∷ ps) bytes are =
    let two = bytes_of_two are.0 are.1 (subst AreBytes are.2 bytes) in
    unless_bare_allowed (with_forest p) (forest p.entries) (kept_sections ps) (section_allowed are.0 p two.0 are.3)
    (sections_allowed are.1 ps two.1 are.4)

-- what a text of bytes spells is allowed
pub text_allowed : (text : List ℕ) (ps : List PlainFlatSection) → AreBytes text → MagicText text ps
    → are_allowed_sections (kept_sections ps) ≡ true
text_allowed text ps bytes (inl is) = subst (λ (x : List PlainFlatSection). are_allowed_sections (kept_sections x) ≡ true) (sym is.1) refl
text_allowed text ps bytes (inr is) = sections_allowed is.0 ps (bytes_of_two header is.0 (subst AreBytes is.1 bytes)).1 is.2
