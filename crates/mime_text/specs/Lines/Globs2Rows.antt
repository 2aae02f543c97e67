-- Lines and texts of globs2, computed.
use Rattle.std.specs.Prelude.{◌≡◌, ℕ, Bool, true, false, List, [], ◌∷◌, ◌++◌, map, codes, refl}
use Rattle.std.specs.List.{join_with_byte}
use Rattle.mime_base.specs.Names.{is_type_name, is_pattern}
use Rattle.mime_base.specs.declared.database.rule.GlobRule.{GlobRule}
use Rattle.mime_text.specs.declared.lines.file.Line.{Line}
use Rattle.mime_text.specs.declared.lines.file.Line.TheVariants.{Spelled, Passed, Malformed}
use Rattle.mime_text.specs.declared.lines.globs2.GlobEntry.{GlobEntry}
use Rattle.mime_text.specs.declared.lines.globs2.GlobEntry.TheVariants.{Rule, Marker}
use Rattle.mime_text.specs.Lines.{skipped_of}
use Rattle.mime_text.specs.Lines.File.{entries_by, line_by}
use Rattle.mime_text.specs.Lines.Globs2.{weight_of, has_cs, entry, entry_of, is_malformed_rule, rules_of, markers_of}

-- the rule that gives t/a
abbrev rule : ℕ → List ℕ → Bool → GlobRule
rule weight pattern cased =
    record { weight = weight; kind = codes "t/a"; pattern = pattern; cased = cased }

-- a line that spells that rule
abbrev spells : ℕ → List ℕ → Bool → Line GlobEntry
spells weight pattern cased = Spelled (Rule (rule weight pattern cased))

-- each line spells what stands beside it
abbrev Spell : List (List ℕ × Line GlobEntry) → Type 0
Spell rows = map (λ row. line_by entry_of row.0) rows ≡ map (λ row. row.1) rows

-- a weight is digits of any number, with a value up to 255
pub weights : Spell (
    (codes "0:t/a:*.x", spells 0 (codes "*.x") false) ∷
    (codes "255:t/a:*.x", spells 255 (codes "*.x") false) ∷
    (codes "256:t/a:*.x", Malformed) ∷
    (codes "000000000000000050:t/a:*.x", spells 50 (codes "*.x") false) ∷
    (codes "18446744073709551616:t/a:*.x", Malformed) ∷
    (codes ":t/a:*.x", Malformed) ∷
    (codes "5x:t/a:*.x", Malformed) ∷
    (codes " 5:t/a:*.x", Malformed) ∷
    (codes "+5:t/a:*.x", Malformed) ∷ [])
unfolding weight_of has_cs entry entry_of is_type_name is_pattern
weights = refl

-- a flag counts as it stands, in the fourth field alone
pub flags : Spell (
    (codes "50:t/a:*.x:cs", spells 50 (codes "*.x") true) ∷
    (codes "50:t/a:*.x:zz,cs:more", spells 50 (codes "*.x") true) ∷
    (codes "50:t/a:*.x:", spells 50 (codes "*.x") false) ∷
    (codes "50:t/a:*.x:CS", spells 50 (codes "*.x") false) ∷
    (codes "50:t/a:*.x: cs", spells 50 (codes "*.x") false) ∷
    (codes "50:t/a:*.x:csx", spells 50 (codes "*.x") false) ∷
    (codes "50:t/a:*.x:cs" ++ 13 ∷ [], spells 50 (codes "*.x") false) ∷
    (codes "50:t/a:*.x::cs", spells 50 (codes "*.x") false) ∷ [])
unfolding weight_of has_cs entry entry_of is_type_name is_pattern
flags = refl

-- a type and a pattern keep their limits; a carriage return is past those of a type alone
pub names : Spell (
    (codes "50:t/a:*.x" ++ 13 ∷ [], spells 50 (codes "*.x" ++ 13 ∷ []) false) ∷
    (codes "50:t/a" ++ 13 ∷ codes ":*.x", Malformed) ∷
    (codes "50:t/a:", Malformed) ∷
    (codes "50:ta:*.x", Malformed) ∷
    (codes "50:t/a", Malformed) ∷
    (codes "50", Malformed) ∷ [])
unfolding weight_of has_cs entry entry_of is_type_name is_pattern
names = refl

-- a marker needs a weight and a type like any line
pub markers : Spell (
    (codes "0:t/a:__NOGLOBS__", Spelled (Marker (codes "t/a"))) ∷
    (codes "255:t/a:__NOGLOBS__:cs:more", Spelled (Marker (codes "t/a"))) ∷
    (codes "256:t/a:__NOGLOBS__", Malformed) ∷
    (codes "0:ta:__NOGLOBS__", Malformed) ∷
    (codes "0:t/a:__NOGLOBS__x", spells 0 (codes "__NOGLOBS__x") false) ∷ [])
unfolding weight_of has_cs entry entry_of is_type_name is_pattern
markers = refl

-- an empty line and one that begins with # are skipped
pub passed : Spell (
    ([], Passed) ∷
    (codes "#", Passed) ∷
    (codes "#50:t/a:*.x", Passed) ∷
    (codes " #", Malformed) ∷ [])
unfolding weight_of has_cs entry entry_of is_type_name is_pattern
passed = refl

-- two malformed lines, and a last one without its newline
abbrev globs2_lines : List ℕ
globs2_lines = join_with_byte 10 (codes "50:t/a" ∷ codes "300:t/a:*.x" ∷ codes "50:t/a:*.y:cs,zz:more" ∷ [])

pub globs2_lines-rules : rules_of globs2_lines ≡ rule 50 (codes "*.y") true ∷ []
unfolding weight_of has_cs entry entry_of entries_by rules_of is_type_name is_pattern
globs2_lines-rules = refl

pub globs2_lines-skipped : skipped_of is_malformed_rule globs2_lines ≡ 1 ∷ 2 ∷ []
unfolding weight_of has_cs entry entry_of skipped_of is_type_name is_pattern
globs2_lines-skipped = refl

-- a marker beside a rule, and a malformed line after a comment and an empty line
abbrev noglobs_marker : List ℕ
noglobs_marker = join_with_byte 10 (codes "0:t/a:__NOGLOBS__" ∷ codes "# x" ∷ [] ∷ codes "y" ∷ codes "50:t/a:*.new" ∷ [] ∷ [])

pub noglobs_marker-rules : rules_of noglobs_marker ≡ rule 50 (codes "*.new") false ∷ []
unfolding weight_of has_cs entry entry_of entries_by rules_of is_type_name is_pattern
noglobs_marker-rules = refl

pub noglobs_marker-markers : markers_of noglobs_marker ≡ codes "t/a" ∷ []
unfolding weight_of has_cs entry entry_of entries_by markers_of is_type_name is_pattern
noglobs_marker-markers = refl

pub noglobs_marker-skipped : skipped_of is_malformed_rule noglobs_marker ≡ 4 ∷ []
unfolding weight_of has_cs entry entry_of skipped_of is_type_name is_pattern
noglobs_marker-skipped = refl
