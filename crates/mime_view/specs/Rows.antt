-- Worked rows of what a cache offers for a name, of its lists and of what is taken for them, which compute.
use Rattle.std.specs.Prelude.{◌≡◌, ℕ, ◌+◌, ◌*◌, Bool, true, false, refl, codes, List, [], ◌∷◌, map, length, None, Some}
use Rattle.mime_base.specs.Format.Sorted.{text_lt}
use Rattle.mime_base.specs.Kept.Classes.{class_of}
use Rattle.mime_base.specs.Matching.Elements.{elements}
use Rattle.mime_base.specs.Matching.Matches.{matches, rule_matches}
use Rattle.mime_base.specs.Format.Tree.{bare, leaf, node}
use Rattle.mime_base.specs.declared.database.rule.GlobRule.{GlobRule}
use Rattle.mime_view.specs.Hits.{ending_rules, glob_list_hits, hit_visits, literal_visits, near, tree_visits}
use Rattle.mime_view.specs.Lists.{place_of}
use Rattle.mime_view.specs.NameHits.{has_capitals, list_records, near_records}
use Rattle.mime_view.specs.Opening.{version_number}
use Rattle.mime_view.specs.Pairs.{looked_up}
use Rattle.mime_view.specs.Parents.{has_place, unmarked_parents, with_place}
use Rattle.mime_view.specs.Spending.{halving}
use Rattle.mime_view.specs.SuffixTree.{below_character, scan_visits}

-- a rule of a pattern, with or without the flag `cs`
abbrev rule : List ℕ → Bool → GlobRule
rule pattern cased = record { weight = 50; kind = codes "t/t"; pattern = pattern; cased = cased }

-- two literals, two endings and a general pattern
abbrev five : List GlobRule
five = rule (codes "README") true ∷ rule (codes "readme") false ∷ rule (codes "*.gz") false ∷ rule (codes "*.C") true
    ∷ rule (codes "m[ak]*") false ∷ []

-- the general pattern is near any name, and of the others those that match once both are folded
near_both_cases : near (codes "readme") five ≡ 3
unfolding rule_matches matches elements class_of
near_both_cases = refl

near_capitals : near (codes "A.GZ") five ≡ 2
unfolding rule_matches matches elements class_of
near_capitals = refl

near_no_ending : near (codes "x") five ≡ 1
unfolding rule_matches matches elements class_of
near_no_ending = refl

near_general_once : near (codes "makefile") five ≡ 1
unfolding rule_matches matches elements class_of
near_general_once = refl

near_of_no_rules : near (codes "readme") [] ≡ 0
near_of_no_rules = refl

-- of two literals the one of the name and the one after it; of no literal of the name one, and of no literals none
visits_of_literal : literal_visits (codes "readme") five ≡ 2
unfolding class_of
visits_of_literal = refl

visits_of_other : literal_visits (codes "a.gz") five ≡ 1
unfolding class_of
visits_of_other = refl

visits_of_no_literals : literal_visits (codes "a.gz") [] ≡ 0
visits_of_no_literals = refl

-- the leaf of each ending and one for each byte of the name, but no more than the tree has: 4 of `.gz` and 3 of `.C`
visits_of_ending : tree_visits (codes "a.gz") five ≡ 1 + 4
unfolding class_of
visits_of_ending = refl

visits_of_all : tree_visits (codes "a name that is long") five ≡ 4 + 3
unfolding class_of
visits_of_all = refl

visits_of_nothing : tree_visits [] five ≡ 0
unfolding class_of
visits_of_nothing = refl

-- for a name of small letters each search counts twice, and the glob list once
visits_of_name : hit_visits (codes "a.gz") five ≡ 2 * 1 + 2 * 5 + 1
unfolding class_of
visits_of_name = refl

visits_of_readme : hit_visits (codes "README") five ≡ 2 * 2 + 2 * 6 + 1
unfolding class_of
visits_of_readme = refl

visits_of_no_rules : hit_visits (codes "README") [] ≡ 0
visits_of_no_rules = refl

-- `.C` ends `a.C` and not `a.c`
ends_in_capital : map (λ r. r.pattern) (ending_rules (codes "a.C") five) ≡ codes "*.C" ∷ []
unfolding class_of
ends_in_capital = refl

ends_in_small : ending_rules (codes "a.c") five ≡ []
unfolding class_of
ends_in_small = refl

-- `m[ak]*` is in the glob list, and matches capitals
general_matches : length (glob_list_hits (codes "MAKEFILE") five) ≡ 1
unfolding rule_matches matches elements class_of
general_matches = refl

general_differs : glob_list_hits (codes "mix") five ≡ []
unfolding rule_matches matches elements class_of
general_differs = refl

-- two for each of 2 entries and 7 nodes, and one for the general pattern
records_of_lists : list_records five ≡ 2 * 2 + 2 * 7 + 1
unfolding class_of
records_of_lists = refl

-- two for each of 3 rules and 6 bytes, and two
records_near : near_records (codes "readme") five ≡ 2 * 3 + 2 * 6 + 2
unfolding rule_matches matches elements class_of
records_near = refl

-- for each byte and for the literals 29 in each of two cases, and one
halving_of_two : halving (codes "ab") ≡ 29 * 6 + 1
halving_of_two = refl

-- A and Z are capitals, and what is next to them is none
capitals_at_ends : map has_capitals (codes "A" ∷ codes "aZ" ∷ codes "@[" ∷ codes "az" ∷ [] ∷ []) ≡ true ∷ true ∷ false ∷ false ∷ false ∷ []
capitals_at_ends = refl

-- the first number of version 1.2 has the bytes 0, 1, 0 and 2
version_of_caches : version_number 1 2 ≡ 0x00010002
version_of_caches = refl

-- of equal texts the first is found, and pairs by the first name
place_of_first : place_of (codes "a" ∷ codes "b" ∷ codes "b" ∷ []) (codes "b") ≡ Some 1
place_of_first = refl

place_of_none : place_of (codes "a" ∷ codes "b" ∷ []) (codes "ab") ≡ None
place_of_none = refl

looked_up_first : looked_up ((codes "a", codes "x") ∷ (codes "b", codes "y") ∷ (codes "b", codes "z") ∷ []) (codes "b") ≡ Some (codes "y")
looked_up_first = refl

looked_up_none : looked_up ((codes "a", codes "x") ∷ []) (codes "x") ≡ None
looked_up_none = refl

-- a front comes before the whole, and no text before itself
less_by_bytes : text_lt (codes "a") (codes "ab") ≡ true
less_by_bytes = refl

not_less_than_itself : text_lt (codes "ab") (codes "ab") ≡ false
not_less_than_itself = refl

-- places stand once and rise
places_rise : with_place (with_place (with_place [] 7) 3) 7 ≡ 3 ∷ 7 ∷ []
places_rise = refl

place_is_had : has_place (3 ∷ 7 ∷ []) 7 ≡ true
place_is_had = refl

place_is_not_had : has_place (3 ∷ 7 ∷ []) 5 ≡ false
place_is_not_had = refl

-- a type has no parents where its entry is marked
marked_type : unmarked_parents ((codes "t/a", codes "t/b") ∷ []) true (codes "t/a") ≡ []
marked_type = refl

-- two leaves before a node: a scan visits all three, and of a node alone just that
leaves_before_node : scan_visits (leaf (rule (codes "*a") false) (leaf (rule (codes "*a") true) (node 98 bare bare))) ≡ 3
leaves_before_node = refl

node_alone : scan_visits (node 98 (leaf (rule (codes "*ba") false) bare) bare) ≡ 1
node_alone = refl

-- the siblings below a character, and none below another
below_its_node : below_character 98 (node 97 bare (node 98 (node 99 bare bare) bare)) ≡ node 99 bare bare
below_its_node = refl

below_no_node : below_character 99 (node 97 bare (node 98 (node 99 bare bare) bare)) ≡ bare
below_no_node = refl
