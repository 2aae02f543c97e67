-- Worked rows of the bytes of a lookup over an index, which compute.
use Rattle.std.specs.Prelude.{◌≡◌, ℕ, ◌+◌, true, false, refl, codes, List, [], ◌∷◌}
use Rattle.mime_base.specs.Format.Sample.{empty_database}
use Rattle.mime_base.specs.Kept.Classes.{class_of}
use Rattle.mime_base.specs.Matching.Elements.{elements}
use Rattle.mime_base.specs.Matching.Matches.{matches, rule_matches}
use Rattle.mime_base.specs.declared.database.rule.GlobRule.{GlobRule}
use Rattle.mime_lookup.specs.IndexBytes.{all_bytes, choice_bytes, hits_bytes, kept_bytes, order_bytes, search_bytes, tried_bytes}
use Rattle.mime_lookup.specs.declared.order.Order.TheVariants.{AllGlobs, ContentOnly, GlobsFirst, MagicFirst}
use Rattle.mime_names.specs.Near.{longest}

-- a rule of a pattern
abbrev rule : List ℕ → GlobRule
rule pattern = record { weight = 50; kind = codes "t/t"; pattern = pattern; cased = false }

-- two endings and a general pattern, of which no more than half are general
abbrev few_general : List GlobRule
few_general = rule (codes "*.c") ∷ rule (codes "*.gz") ∷ rule (codes "*.[ch]") ∷ []

-- an ending and two general patterns
abbrev most_general : List GlobRule
most_general = rule (codes "*.c") ∷ rule (codes "*.[ch]") ∷ rule (codes "m[ak]") ∷ []

-- three rules of patterns of up to six bytes, for a name of three
tried_of_three : tried_bytes few_general (codes "a.c") ≡ 84
unfolding longest
tried_of_three = refl

-- a text matches: it alone is near, and at each of four nodes there may be one more
kept_of_text : kept_bytes few_general (codes "a.c") ≡ 15
unfolding longest class_of rule_matches matches elements
kept_of_text = refl

-- none matches: the general pattern is near
kept_of_other : kept_bytes few_general (codes "a.h") ≡ 28 + 12
unfolding longest class_of rule_matches matches elements
kept_of_other = refl

-- for all that match both are compared
all_of_text : all_bytes few_general (codes "a.c") ≡ 56 + 12
unfolding longest class_of
all_of_text = refl

-- where most are general each is tried
kept_of_most : kept_bytes most_general (codes "a.c") ≡ 84
unfolding longest class_of rule_matches matches elements
kept_of_most = refl

all_of_most : all_bytes most_general (codes "a.c") ≡ 84
unfolding longest class_of
all_of_most = refl

-- the rules themselves are found by those near the name
hits_of_most : hits_bytes most_general (codes "a.c") ≡ 56 + 12
unfolding longest class_of
hits_of_most = refl

-- two types and three pairs, for a base of ten bytes
search_of_two : search_bytes 2 3 10 ≡ 310
search_of_two = refl

search_of_none : search_bytes 0 0 10 ≡ 0
search_of_none = refl

-- without a rule and a pair nothing is chosen among
choice_of_nothing : choice_bytes empty_database (codes "a.c") ≡ 0
choice_of_nothing = refl

-- what is asked of a name that the globs decide, and of another
of_decided : order_bytes GlobsFirst true 1 2 4 8 ≡ 1
of_decided = refl

of_undecided : order_bytes GlobsFirst false 1 2 4 8 ≡ 1 + 4 + 8
of_undecided = refl

of_all_decided : order_bytes AllGlobs true 1 2 4 8 ≡ 2
of_all_decided = refl

of_all_undecided : order_bytes AllGlobs false 1 2 4 8 ≡ 2 + 4 + 8
of_all_undecided = refl

of_magic : order_bytes MagicFirst false 1 2 4 8 ≡ 1 + 4 + 8
of_magic = refl

of_content : order_bytes ContentOnly false 1 2 4 8 ≡ 4
of_content = refl
