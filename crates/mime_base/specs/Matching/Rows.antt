-- Worked rows of patterns, which compute.
use Rattle.std.specs.Prelude.{◌≡◌, true, false, refl, codes, ◌++◌, [], ◌∷◌}
use Rattle.mime_base.specs.Matching.Elements.{elements}
use Rattle.mime_base.specs.Matching.Folding.{compared}
use Rattle.mime_base.specs.Matching.Matches.{matches, rule_matches}

-- the row glob-elements

pub glob_elements-negated_set :
    (rule_matches (codes "[!a-c]x") true (codes "dx") ≡ true)
    × (rule_matches (codes "[!a-c]x") true (codes "bx") ≡ false)
unfolding rule_matches matches elements
glob_elements-negated_set = (refl, refl)

pub glob_elements-bracket_first :
    (rule_matches (codes "[]]") true (codes "]") ≡ true)
    × (rule_matches (codes "[]]") true (codes "x") ≡ false)
unfolding rule_matches matches elements
glob_elements-bracket_first = (refl, refl)

pub glob_elements-dash_last :
    (rule_matches (codes "[a-]") true (codes "-") ≡ true)
    × (rule_matches (codes "[a-]") true (codes "a") ≡ true)
    × (rule_matches (codes "[a-]") true (codes "b") ≡ false)
unfolding rule_matches matches elements
glob_elements-dash_last = (refl, refl, refl)

pub glob_elements-set_without_end :
    (rule_matches (codes "a[b") true (codes "a[b") ≡ true)
    × (rule_matches (codes "a[b") true (codes "ab") ≡ false)
unfolding rule_matches matches elements
glob_elements-set_without_end = (refl, refl)

pub glob_elements-escaped_star :
    (rule_matches (codes "x\\*") true (codes "x*") ≡ true)
    × (rule_matches (codes "x\\*") true (codes "xy") ≡ false)
unfolding rule_matches matches elements
glob_elements-escaped_star = (refl, refl)

pub glob_elements-last_backslash :
    (rule_matches (codes "a\\") true (codes "a\\") ≡ true)
    × (rule_matches (codes "a\\") true (codes "a") ≡ false)
unfolding rule_matches matches elements
glob_elements-last_backslash = (refl, refl)

-- stars and marks

pub glob_elements-star :
    (rule_matches (codes "*") true [] ≡ true)
    × (rule_matches (codes "*") true (codes "a") ≡ true)
    × (rule_matches (codes "a*b*c") true (codes "axbbyc") ≡ true)
    × (rule_matches (codes "a*b*c") true (codes "axbbyd") ≡ false)
unfolding rule_matches matches elements
glob_elements-star = (refl, refl, refl, refl)

pub glob_elements-star_takes_none :
    (rule_matches (codes "*a*") true (codes "a") ≡ true)
    × (rule_matches (codes "**") true [] ≡ true)
unfolding rule_matches matches elements
glob_elements-star_takes_none = (refl, refl)

pub glob_elements-question :
    (rule_matches (codes "*[0-9]?") true (codes "ab12") ≡ true)
    × (rule_matches (codes "*[0-9]?") true (codes "ab1") ≡ false)
    × (rule_matches (codes "?") true [] ≡ false)
    × (rule_matches (codes "?") true (codes "/") ≡ true)
unfolding rule_matches matches elements
glob_elements-question = (refl, refl, refl, refl)

pub glob_elements-leading_dot :
    (rule_matches (codes "*") true (codes ".hidden") ≡ true)
    × (rule_matches (codes "?ab") true (codes "/ab") ≡ true)
unfolding rule_matches matches elements
glob_elements-leading_dot = (refl, refl)

-- odd sets

pub glob_elements-negated_without_end :
    (rule_matches (codes "[!]") true (codes "[!]") ≡ true)
    × (rule_matches (codes "[!]") true (codes "!") ≡ false)
    × (rule_matches (codes "[^]") true (codes "[^]") ≡ true)
unfolding rule_matches matches elements
glob_elements-negated_without_end = (refl, refl, refl)

pub glob_elements-negated_bracket :
    (rule_matches (codes "[!]]") true (codes "a") ≡ true)
    × (rule_matches (codes "[!]]") true (codes "]") ≡ false)
    × (rule_matches (codes "[^]]") true (codes "a") ≡ true)
    × (rule_matches (codes "[^]]") true (codes "]") ≡ false)
unfolding rule_matches matches elements
glob_elements-negated_bracket = (refl, refl, refl, refl)

pub glob_elements-bracket_ends :
    (rule_matches (codes "[a-]]") true (codes "-]") ≡ true)
    × (rule_matches (codes "[a-]]") true (codes "a]") ≡ true)
    × (rule_matches (codes "[a-]]") true (codes "]") ≡ false)
unfolding rule_matches matches elements
glob_elements-bracket_ends = (refl, refl, refl)

pub glob_elements-range_from_bracket :
    (rule_matches (codes "[]-a]") true (codes "]") ≡ true)
    × (rule_matches (codes "[]-a]") true (codes "^") ≡ true)
    × (rule_matches (codes "[]-a]") true (codes "a") ≡ true)
    × (rule_matches (codes "[]-a]") true (codes "b") ≡ false)
unfolding rule_matches matches elements
glob_elements-range_from_bracket = (refl, refl, refl, refl)

pub glob_elements-range_then_dash :
    (rule_matches (codes "[a-c-e]") true (codes "b") ≡ true)
    × (rule_matches (codes "[a-c-e]") true (codes "-") ≡ true)
    × (rule_matches (codes "[a-c-e]") true (codes "e") ≡ true)
    × (rule_matches (codes "[a-c-e]") true (codes "d") ≡ false)
unfolding rule_matches matches elements
glob_elements-range_then_dash = (refl, refl, refl, refl)

pub glob_elements-range_of_dashes :
    (rule_matches (codes "[--/]") true (codes "-") ≡ true)
    × (rule_matches (codes "[--/]") true (codes ".") ≡ true)
    × (rule_matches (codes "[--/]") true (codes "/") ≡ true)
    × (rule_matches (codes "[--/]") true (codes ",") ≡ false)
unfolding rule_matches matches elements
glob_elements-range_of_dashes = (refl, refl, refl, refl)

pub glob_elements-empty_range :
    (rule_matches (codes "[c-a]") true (codes "b") ≡ false)
    × (rule_matches (codes "[c-a]") true (codes "c") ≡ false)
    × (rule_matches (codes "[!c-a]") true (codes "b") ≡ true)
unfolding rule_matches matches elements
glob_elements-empty_range = (refl, refl, refl)

pub glob_elements-backslash_in_set :
    (rule_matches (codes "[\\]") true (codes "\\") ≡ true)
    × (rule_matches (codes "[\\]]") true (codes "\\]") ≡ true)
unfolding rule_matches matches elements
glob_elements-backslash_in_set = (refl, refl)

pub glob_elements-mark_inside :
    (rule_matches (codes "[a!]") true (codes "!") ≡ true)
    × (rule_matches (codes "[*?[]") true (codes "[") ≡ true)
    × (rule_matches (codes "[*?[]") true (codes "x") ≡ false)
unfolding rule_matches matches elements
glob_elements-mark_inside = (refl, refl, refl)

-- without case: the text of the pattern is folded before its elements are read

pub folded_suffix : rule_matches (codes "*.TAR.gz") false (codes "Data.tar.GZ") ≡ true
unfolding rule_matches matches elements
folded_suffix = refl

pub folded_range :
    (rule_matches (codes "[A-Z]") false (codes "q") ≡ true)
    × (rule_matches (codes "[A-Z]") false (codes "Q") ≡ true)
unfolding rule_matches matches elements
folded_range = (refl, refl)

pub folded_empty_range :
    (rule_matches (codes "[Z-a]") false (codes "a") ≡ false)
    × (rule_matches (codes "[Z-a]") false (codes "z") ≡ false)
    × (rule_matches (codes "[!Z-a]") false (codes "a") ≡ true)
unfolding rule_matches matches elements
folded_empty_range = (refl, refl, refl)

pub folded_escape :
    (rule_matches (codes "\\A") false (codes "a") ≡ true)
    × (rule_matches (codes "\\A") false (codes "A") ≡ true)
unfolding rule_matches matches elements
folded_escape = (refl, refl)

pub cased_as_it_is :
    (rule_matches (codes "[A-Z]") true (codes "q") ≡ false)
    × (rule_matches (codes "\\A") true (codes "a") ≡ false)
    × (rule_matches (codes "*.TAR.gz") true (codes "Data.tar.gz") ≡ false)
unfolding rule_matches matches elements
cased_as_it_is = (refl, refl, refl)

pub fold-bytes : compared false (codes "Ab" ++ 195 ∷ 132 ∷ []) ≡ codes "ab" ++ 195 ∷ 132 ∷ []
fold-bytes = refl
