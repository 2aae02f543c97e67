-- How twins are found: by the weight, type and pattern of each case-sensitive rule.
use Rattle.std.specs.Prelude.{ℕ, Bool, not, ◌||◌, List}
use Rattle.std.specs.Cmp.Lexicographic.{slice_cmp}
use Rattle.std.specs.Ordering.{nat_cmp, ordering_then}
use Rattle.std.specs.Borrow.{Bor}
use Rattle.std.specs.BTreeSet.{BTreeSet, contains_by}
use Rattle.mime_base.specs.declared.database.rule.GlobRule.{GlobRule}

-- whether the weight, type and pattern of a rule are in a set
abbrev pub has_key_of : BTreeSet (ℕ × Bor (List ℕ) × Bor (List ℕ)) → GlobRule → Bool
has_key_of keys rule =
    contains_by (λ key. ordering_then (ordering_then (nat_cmp rule.weight key.0) (slice_cmp nat_cmp rule.kind key.1.now))
    (slice_cmp nat_cmp rule.pattern key.2.now)) keys

-- whether a rule is no twin, by the keys of the case-sensitive ones
abbrev pub is_kept : BTreeSet (ℕ × Bor (List ℕ) × Bor (List ℕ)) → GlobRule → Bool
is_kept cased rule = rule.cased || not (has_key_of cased rule)
