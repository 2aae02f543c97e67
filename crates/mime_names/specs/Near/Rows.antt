-- Worked rows of the rules near a name, which compute.
use Rattle.std.specs.Prelude.{◌≡◌, ℕ, ◌+◌, true, false, refl, codes, List, [], ◌∷◌, drop}
use Rattle.mime_base.specs.Kept.Classes.{class_of}
use Rattle.mime_base.specs.declared.database.rule.GlobRule.{GlobRule}
use Rattle.mime_names.specs.Near.{general_rules, is_mostly_general, longest, near_bytes, near_nodes, near_rules, near_texts, rule_bytes, text_bytes}

-- a rule of a pattern
abbrev rule : List ℕ → GlobRule
rule pattern = record { weight = 50; kind = codes "t/t"; pattern = pattern; cased = false }

-- a literal, two endings, and three general patterns, of which the last may match any name
abbrev six : List GlobRule
six = rule (codes "makefile") ∷ rule (codes "*.c") ∷ rule (codes "*.tar.gz") ∷ rule (codes "m[ak]*") ∷ rule (codes "readme.*") ∷ rule
    (codes "*.[ch]")
    ∷ []

-- the ending, and the pattern that begins with a star
near_ending : near_rules (codes "a.c") six ≡ 2
unfolding class_of
near_ending = refl

near_ending_alone : near_texts (codes "a.c") six ≡ 1
unfolding class_of
near_ending_alone = refl

-- capitals are alike, and a pattern of the same first byte is near though it doesn't match
near_capitals : near_rules (codes "MAKEFILE.C") six ≡ 3
unfolding class_of
near_capitals = refl

-- a name doesn't end with more than itself
near_part_of_ending : near_texts (codes "a.gz") six ≡ 0
unfolding class_of
near_part_of_ending = refl

-- a space has the symbol that begins a name
near_after_space : near_texts (codes "a makefile") six ≡ 1
unfolding class_of
near_after_space = refl

near_of_no_name : near_rules [] six ≡ 1
unfolding class_of
near_of_no_name = refl

near_of_no_rules : near_rules (codes "makefile") [] ≡ 0
near_of_no_rules = refl

-- three of the six are general patterns, which is no more than half; of the last five they are most
general_of_six : general_rules six ≡ 3
unfolding class_of
general_of_six = refl

half_are_not_most : is_mostly_general six ≡ false
unfolding class_of
half_are_not_most = refl

more_are_most : is_mostly_general (drop 1 six) ≡ true
unfolding class_of
more_are_most = refl

none_are_most_of_none : is_mostly_general [] ≡ false
none_are_most_of_none = refl

-- what is counted for nothing, and what one byte or one rule more allows
nodes_of_nothing : near_nodes 0 0 ≡ 6
nodes_of_nothing = refl

nodes_of_a_byte : near_nodes 1 0 ≡ 6 + 3
nodes_of_a_byte = refl

nodes_of_a_rule : near_nodes 0 1 ≡ 6 + 1
nodes_of_a_rule = refl

-- the longest pattern of the six is *.tar.gz, and of two that are as long it is either
longest_of_six : longest six ≡ 8
unfolding longest
longest_of_six = refl

longest_of_none : longest [] ≡ 0
unfolding longest
longest_of_none = refl

-- a pattern of eight bytes is tried from four places of a name of three
bytes_of_a_rule : rule_bytes 3 8 ≡ 36
bytes_of_a_rule = refl

-- two rules of patterns of up to eight bytes, a name of three, and a text more at each of four nodes
bytes_of_two : near_bytes 3 8 2 ≡ 72 + 12
bytes_of_two = refl

bytes_of_no_rule : near_bytes 3 8 0 ≡ 12
bytes_of_no_rule = refl

bytes_of_no_name : near_bytes 0 8 2 ≡ 18
bytes_of_no_name = refl

-- two texts near a name of three bytes, and one more at each of four nodes
bytes_of_two_texts : text_bytes 3 2 ≡ 18
bytes_of_two_texts = refl
