-- Worked rows of counts, which compute.
use Rattle.std.specs.Prelude.{◌≡◌, true, false, refl, codes, []}
use Rattle.mime_base.specs.Matching.Count.{rule_tests, tests_of}
use Rattle.mime_base.specs.Matching.Elements.{elements}

pub count-no_star : (rule_tests (codes "abc") true (codes "abd") ≡ 3) × (rule_tests (codes "a") true [] ≡ 1)
unfolding rule_tests tests_of elements
count-no_star = (refl, refl)

pub count-star_to_star : rule_tests (codes "a*b*c") true (codes "axbbyc") ≡ 4
unfolding rule_tests tests_of elements
count-star_to_star = refl

pub count-each_place : (rule_tests (codes "*b*c") true (codes "aaa") ≡ 4) × (rule_tests (codes "*ab*") true (codes "aaa") ≡ 6)
unfolding rule_tests tests_of elements
count-each_place = (refl, refl)

pub count-at_the_end :
    (rule_tests (codes "*[0-9]?") true (codes "a1b2c") ≡ 2)
    × (rule_tests (codes "*.tar.gz") true (codes "a.gz") ≡ 1)
    × (rule_tests (codes "*.GZ") false (codes "a.xz") ≡ 2)
unfolding rule_tests tests_of elements
count-at_the_end = (refl, refl, refl)
