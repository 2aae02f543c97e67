-- Worked rows of the kept rules, which compute.
use Rattle.std.specs.Prelude.{◌≡◌, ℕ, Bool, true, false, refl, codes, List, [], ◌∷◌, map}
use Rattle.mime_base.specs.Kept.{kept_rules, preferred}
use Rattle.mime_base.specs.Kept.Classes.{class_of}
use Rattle.mime_base.specs.Matching.Elements.{elements}
use Rattle.mime_base.specs.Matching.Matches.{matches, rule_matches}
use Rattle.mime_base.specs.declared.database.rule.GlobRule.{GlobRule}

-- the rule of a line `weight:type:pattern`, with or without the flag `cs`
abbrev line : ℕ → List ℕ → List ℕ → Bool → GlobRule
line weight kind pattern cased = record { weight = weight; kind = kind; pattern = pattern; cased = cased }

-- the types of the kept rules
abbrev kept_types : List GlobRule → List ℕ → List (List ℕ)
kept_types rules name = map (λ rule. rule.kind) (kept_rules rules name)

abbrev archives : List GlobRule
archives =
    line 50 (codes "application/gzip") (codes "*.gz") false
    ∷ line 50 (codes "application/x-compressed-tar") (codes "*.tar.gz") false ∷ []

abbrev sources : List GlobRule
sources = line 50 (codes "text/x-c++src") (codes "*.C") true ∷ line 50 (codes "text/x-csrc") (codes "*.c") false ∷ []

pub longest_suffix : kept_types archives (codes "Data.tar.gz") ≡ codes "application/x-compressed-tar" ∷ []
unfolding kept_rules preferred rule_matches matches elements class_of
longest_suffix = refl

pub literal_before_weight :
    kept_types (line 50 (codes "t/m") (codes "makefile") false ∷ line 90 (codes "t/f") (codes "*file") false ∷ []) (codes "Makefile")
    ≡ codes "t/m" ∷ []
unfolding kept_rules preferred rule_matches matches elements class_of
literal_before_weight = refl

pub weight_before_length :
    kept_types (line 60 (codes "t/g") (codes "*.gz") false ∷ line 50 (codes "t/t") (codes "*.tar.gz") false ∷ []) (codes "a.tar.gz")
    ≡ codes "t/g" ∷ []
unfolding kept_rules preferred rule_matches matches elements class_of
weight_before_length = refl

pub case_preference-capital : kept_types sources (codes "main.C") ≡ codes "text/x-c++src" ∷ []
unfolding kept_rules preferred rule_matches matches elements class_of
case_preference-capital = refl

pub case_preference-small : kept_types sources (codes "main.c") ≡ codes "text/x-csrc" ∷ []
unfolding kept_rules preferred rule_matches matches elements class_of
case_preference-small = refl

pub case_preference-mixed : kept_types archives (codes "Foo.TAR.gz") ≡ codes "application/x-compressed-tar" ∷ []
unfolding kept_rules preferred rule_matches matches elements class_of
case_preference-mixed = refl

pub star_weight :
    kept_types (line 50 (codes "t/any") (codes "*") false ∷ line 10 (codes "t/g") (codes "*.gz") false ∷ []) (codes "a.gz")
    ≡ codes "t/any" ∷ []
unfolding kept_rules preferred rule_matches matches elements class_of
star_weight = refl

pub conflict_textual :
    kept_types
    (line 50 (codes "application/msword") (codes "*.doc") false ∷ line 50 (codes "text/x-notes") (codes "*.doc") false ∷ [])
    (codes "a.doc")
    ≡ codes "application/msword" ∷ codes "text/x-notes" ∷ []
unfolding kept_rules preferred rule_matches matches elements class_of
conflict_textual = refl
