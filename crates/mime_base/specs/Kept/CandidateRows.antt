-- Worked rows of the candidates, which compute.
use Rattle.std.specs.Prelude.{◌≡◌, ℕ, Bool, true, false, refl, codes, List, [], ◌∷◌, map}
use Rattle.mime_base.specs.Kept.{candidate_rules, rank}
use Rattle.mime_base.specs.Kept.Classes.{class_of}
use Rattle.mime_base.specs.Matching.Elements.{elements}
use Rattle.mime_base.specs.Matching.Matches.{matches, rule_matches}
use Rattle.mime_base.specs.declared.database.rule.GlobRule.{GlobRule}

-- the rule of a line `weight:type:pattern`, with or without the flag `cs`
abbrev line : ℕ → List ℕ → List ℕ → Bool → GlobRule
line weight kind pattern cased = record { weight = weight; kind = kind; pattern = pattern; cased = cased }

-- the types of the candidates
abbrev candidate_types : List GlobRule → List ℕ → List (List ℕ)
candidate_types rules name = map (λ rule. rule.kind) (candidate_rules rules name)

pub longer_ending_first :
    candidate_types (line 50 (codes "t/g") (codes "*.gz") false ∷ line 50 (codes "t/t") (codes "*.tar.gz") false ∷ []) (codes "a.tar.gz")
    ≡ codes "t/t" ∷ codes "t/g" ∷ []
unfolding candidate_rules rule_matches matches elements class_of rank
longer_ending_first = refl

pub one_ending_matches :
    candidate_types (line 50 (codes "t/t") (codes "*.tar.gz") false ∷ line 50 (codes "t/g") (codes "*.gz") false ∷ []) (codes "a.gz")
    ≡ codes "t/g" ∷ []
unfolding candidate_rules rule_matches matches elements class_of rank
one_ending_matches = refl

pub greater_weight_first :
    candidate_types (line 40 (codes "text/x-b") (codes "*.py") false ∷ line 50 (codes "text/x-a") (codes "*.py") false ∷ []) (codes "x.py")
    ≡ codes "text/x-a" ∷ codes "text/x-b" ∷ []
unfolding candidate_rules rule_matches matches elements class_of rank
greater_weight_first = refl

pub literal_ending_other :
    candidate_types
    (line 50 (codes "t/a") (codes "m*") false ∷ line 90 (codes "t/e") (codes "*k") false ∷ line 50 (codes "t/m") (codes "mk") false ∷ [])
    (codes "mk")
    ≡ codes "t/m" ∷ codes "t/e" ∷ codes "t/a" ∷ []
unfolding candidate_rules rule_matches matches elements class_of rank
literal_ending_other = refl

pub case_sensitive_first :
    candidate_types
    (line 50 (codes "a/c") (codes "*.C") false ∷ line 50 (codes "a/p") (codes "*.C") true ∷ line 50 (codes "a/d") (codes "*.c") false ∷ [])
    (codes "main.C")
    ≡ codes "a/p" ∷ codes "a/c" ∷ codes "a/d" ∷ []
unfolding candidate_rules rule_matches matches elements class_of rank
case_sensitive_first = refl

pub ties_in_merged_order :
    candidate_types
    (line 50 (codes "t/b") (codes "*.o") false ∷ line 60 (codes "t/c") (codes "*.o") false ∷ line 50 (codes "t/a") (codes "*.o") false ∷ [])
    (codes "a.o")
    ≡ codes "t/c" ∷ codes "t/b" ∷ codes "t/a" ∷ []
unfolding candidate_rules rule_matches matches elements class_of rank
ties_in_merged_order = refl
