-- Worked rows of the rules that are never kept, which compute.
use Rattle.std.specs.Prelude.{◌≡◌, ℕ, Bool, true, false, refl, codes, List, [], ◌∷◌, map}
use Rattle.mime_base.specs.Kept.Classes.{class_of}
use Rattle.mime_base.specs.Kept.Hidden.{is_hidden, spellings}
use Rattle.mime_base.specs.declared.database.rule.GlobRule.{GlobRule}

-- the rule of a line `weight:type:pattern`, with or without the flag `cs`
abbrev pub line : ℕ → List ℕ → List ℕ → Bool → GlobRule
line weight kind pattern cased = record { weight = weight; kind = kind; pattern = pattern; cased = cased }

-- which of the rules are hidden
abbrev hidden : List GlobRule → List Bool
hidden rules = map (is_hidden rules) rules

pub spellings-letters : spellings (codes "*.7z") ≡ codes "*.7z" ∷ codes "*.7Z" ∷ []
spellings-letters = refl

pub hidden-both_twins :
    hidden
    (line 50 (codes "a/p") (codes "*.C") true ∷ line 50 (codes "a/p") (codes "*.C") false
    ∷ line 50 (codes "a/c") (codes "*.c") true ∷ line 50 (codes "a/c") (codes "*.c") false ∷ [])
    ≡ false ∷ true ∷ false ∷ true ∷ []
unfolding is_hidden class_of
hidden-both_twins = refl

pub hidden-no_capital :
    hidden (line 50 (codes "t/a") (codes "*.c") true ∷ line 50 (codes "t/a") (codes "*.c") false ∷ []) ≡ false ∷ false ∷ []
unfolding is_hidden class_of
hidden-no_capital = refl

pub hidden-lighter_capital :
    hidden
    (line 50 (codes "t/a") (codes "*.c") true ∷ line 40 (codes "t/b") (codes "*.C") true ∷ line 50 (codes "t/a") (codes "*.c") false ∷ [])
    ≡ false ∷ false ∷ false ∷ []
unfolding is_hidden class_of
hidden-lighter_capital = refl

pub hidden-light_itself :
    hidden
    (line 50 (codes "t/a") (codes "*.c") true ∷ line 40 (codes "t/b") (codes "*.C") true ∷ line 40 (codes "t/a") (codes "*.c") false ∷ [])
    ≡ false ∷ false ∷ true ∷ []
unfolding is_hidden class_of
hidden-light_itself = refl

pub hidden-no_letters : hidden (line 50 (codes "t/a") (codes "1") true ∷ line 50 (codes "t/b") (codes "1") false ∷ []) ≡ false ∷ true ∷ []
unfolding is_hidden class_of
hidden-no_letters = refl

pub hidden-star_alone : hidden (line 50 (codes "t/a") (codes "*") true ∷ line 50 (codes "t/b") (codes "*") false ∷ []) ≡ false ∷ true ∷ []
unfolding is_hidden class_of
hidden-star_alone = refl

pub hidden-full :
    hidden (line 50 (codes "t/a") (codes "*.[12]") true ∷ line 50 (codes "t/a") (codes "*.[12]") false ∷ []) ≡ false ∷ false ∷ []
unfolding is_hidden class_of
hidden-full = refl

pub hidden-full_of_letters :
    hidden (line 50 (codes "t/a") (codes "*.[ab]") true ∷ line 50 (codes "t/a") (codes "*.[ab]") false ∷ []) ≡ false ∷ false ∷ []
unfolding is_hidden class_of
hidden-full_of_letters = refl

pub hidden-twins_without_case :
    hidden (line 50 (codes "t/a") (codes "1") false ∷ line 50 (codes "t/b") (codes "1") false ∷ []) ≡ false ∷ false ∷ []
unfolding is_hidden class_of
hidden-twins_without_case = refl

pub hidden-cased_twins :
    hidden (line 50 (codes "t/a") (codes "1") true ∷ line 50 (codes "t/b") (codes "1") true ∷ []) ≡ false ∷ false ∷ []
unfolding is_hidden class_of
hidden-cased_twins = refl
