-- Worked rows of twins, which compute.
use Rattle.std.specs.Prelude.{◌≡◌, Bool, true, false, refl, codes, List, [], ◌∷◌, map}
use Rattle.mime_base.specs.Kept.Classes.{class_of}
use Rattle.mime_base.specs.Kept.Hidden.{is_hidden, visible}
use Rattle.mime_base.specs.Kept.HiddenRows.{line}
use Rattle.mime_base.specs.Kept.Twins.{is_twin, without_twins}
use Rattle.mime_base.specs.declared.database.rule.GlobRule.{GlobRule}

-- which of the rules are twins
abbrev twins : List GlobRule → List Bool
twins rules = map (is_twin rules) rules

-- the twin of a case-sensitive literal; it isn't hidden, since `CORE` is no rule's pattern
abbrev core : List GlobRule
core = line 50 (codes "a/core") (codes "core") true ∷ line 50 (codes "a/core") (codes "core") false ∷ []

pub twins-literal : twins core ≡ false ∷ true ∷ []
unfolding is_twin
twins-literal = refl

pub twins-literal_visible : visible core ≡ core
unfolding is_hidden visible class_of
twins-literal_visible = refl

pub without_twins-literal : without_twins core ≡ line 50 (codes "a/core") (codes "core") true ∷ []
unfolding is_twin without_twins
without_twins-literal = refl

-- of suffixes, in whichever order the two stand
pub twins-suffix :
    twins
    (line 50 (codes "t/g") (codes "*.gs") false ∷ line 50 (codes "t/g") (codes "*.gs") true
    ∷ line 50 (codes "t/c") (codes "*.C") true ∷ line 50 (codes "t/c") (codes "*.C") false ∷ [])
    ≡ true ∷ false ∷ false ∷ true ∷ []
unfolding is_twin
twins-suffix = refl

-- each twin, where there are several
pub twins-two :
    twins
    (line 50 (codes "t/a") (codes "1") false ∷ line 50 (codes "t/a") (codes "1") true ∷ line 50 (codes "t/a") (codes "1") false ∷ [])
    ≡ true ∷ false ∷ true ∷ []
unfolding is_twin
twins-two = refl

-- a Full one too
pub twins-full :
    twins (line 50 (codes "t/a") (codes "*.[12]") true ∷ line 50 (codes "t/a") (codes "*.[12]") false ∷ []) ≡ false ∷ true ∷ []
unfolding is_twin
twins-full = refl

-- not where the weight differs
pub twins-weight : twins (line 50 (codes "t/a") (codes "1") true ∷ line 40 (codes "t/a") (codes "1") false ∷ []) ≡ false ∷ false ∷ []
unfolding is_twin
twins-weight = refl

-- nor where the type does
pub twins-type : twins (line 50 (codes "t/a") (codes "1") true ∷ line 50 (codes "t/b") (codes "1") false ∷ []) ≡ false ∷ false ∷ []
unfolding is_twin
twins-type = refl

-- nor where the pattern does, if only in case
pub twins-pattern :
    twins (line 50 (codes "t/a") (codes "*.c") true ∷ line 50 (codes "t/a") (codes "*.C") false ∷ []) ≡ false ∷ false ∷ []
unfolding is_twin
twins-pattern = refl

-- nor where neither has `cs`
pub twins-without_case :
    twins (line 50 (codes "t/a") (codes "1") false ∷ line 50 (codes "t/a") (codes "1") false ∷ []) ≡ false ∷ false ∷ []
unfolding is_twin
twins-without_case = refl
