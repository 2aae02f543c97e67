-- Lines and texts of aliases and subclasses, computed.
use Rattle.std.specs.Prelude.{◌≡◌, ℕ, List, [], ◌∷◌, ◌++◌, map, codes, refl}
use Rattle.std.specs.List.{join_with_byte}
use Rattle.mime_base.specs.Names.{is_type_name}
use Rattle.mime_base.specs.declared.database.pair.Pair.{Pair}
use Rattle.mime_text.specs.declared.lines.file.Line.TheVariants.{Spelled, Passed, Malformed}
use Rattle.mime_text.specs.Lines.{skipped_of}
use Rattle.mime_text.specs.Lines.File.{entries_by, line_by}
use Rattle.mime_text.specs.Lines.Pairs.{pair_of, is_malformed_pair, pairs_in}

abbrev pair : List ℕ → List ℕ → Pair
pair name target = record { name = name; target = target }

-- two types with just one space between them
pub pair_lines : map (line_by pair_of) (
    codes "a/b c/d" ∷
    codes "# a/b c/d" ∷
    [] ∷
    codes "a/b  c/d" ∷
    codes "a/b c/d " ∷
    codes " a/b c/d" ∷
    codes "a/b" ∷
    codes "a/b c/d e/f" ∷
    (codes "a/b c/d" ++ 13 ∷ []) ∷
    (codes "a/b" ++ 9 ∷ codes "c/d") ∷
    codes "x y" ∷ [])
    ≡ Spelled (pair (codes "a/b") (codes "c/d")) ∷
    Passed ∷
    Passed ∷
    Malformed ∷
    Malformed ∷
    Malformed ∷
    Malformed ∷
    Malformed ∷
    Malformed ∷
    Malformed ∷
    Malformed ∷ []
unfolding pair_of is_type_name
pair_lines = refl

-- two pairs of one alias, with a malformed line and a comment
abbrev first_alias_pair : List ℕ
first_alias_pair = join_with_byte 10 (codes "a/b c/d" ∷ codes "x y" ∷ codes "a/b e/f" ∷ codes "# z" ∷ [])

pub first_alias_pair-pairs : pairs_in first_alias_pair ≡ pair (codes "a/b") (codes "c/d") ∷ pair (codes "a/b") (codes "e/f") ∷ []
unfolding pair_of entries_by is_type_name
first_alias_pair-pairs = refl

pub first_alias_pair-skipped : skipped_of is_malformed_pair first_alias_pair ≡ 2 ∷ []
unfolding pair_of skipped_of is_type_name
first_alias_pair-skipped = refl
