-- A parent list that stands in a cache is read as its types with their parents.
use Rattle.std.proofs.Common.{◌≡◌, ℕ, ◌+◌, ◌*◌, ◌<◌, List, [], ◌∷◌, length, get_or, sym, ap, subst, ◌∙◌}
use Rattle.std.specs.Prelude.{MatchResult, Option, Result}
use Rattle.mime_base.specs.Cache.Bytes.{Stands, field}
use Rattle.mime_base.specs.Cache.Texts.{text_at}
use Rattle.mime_base.specs.Database.Subclass.{parents}
use Rattle.mime_base.specs.Format.Parents.{IsName, IsSubclass, ParentsAt}
use Rattle.mime_base.specs.Format.Header.{HeaderAt, Offsets}
use Rattle.mime_base.specs.Format.Records.{CardsAt, ListAt, RecordsAt}
use Rattle.mime_base.proofs.FormatLemmas.Subclasses.{kinds_have_parents, kinds_once}
use Rattle.mime_view.specs.Lists.{KeysAt}
use Rattle.mime_view.specs.Parents.{ReadsParents, ReadsTexts, StopsParents, TakesParents, is_marked, parents_at}
use Rattle.mime_view.specs.declared.fault.CacheFault.{CacheFault}
use Rattle.mime_view.specs.declared.parents.Parents.{Parents}
use Rattle.mime_view.specs.declared.spending.Spending.{Spending}
use Rattle.mime_view.proofs.ListLemmas.Headers.{parents_read}
use Rattle.mime_view.proofs.ListLemmas.Records.{count_read, first_read, list_inside, record_at, second_read, text_read}
use Rattle.mime_view.proofs.ParentsLemmas.Subclasses.{others_have_none}

-- types, each with one of its parents
abbrev Pairs : Type 0
Pairs = List (List ℕ × List ℕ)

-- offsets of names that stand
names_read : (c : List ℕ) (at : ℕ) (names : List (List ℕ)) → RecordsAt (Stands c) 4 (IsName (Stands c)) at names → KeysAt c at 4 names
names_read c at [] stand = stand
names_read c at (name ∷ names) (numbers, here, (text, are, is), rest) =
    let first = first_read c at text [] (rw are at here) in
    (ap (text_at c) first ∙ text_read c text name is, names_read c (at + 4) names rest)

-- the number of a name takes 4 bytes
name_size : (c name numbers : List ℕ) → IsName (Stands c) name numbers → 4 * length numbers ≡ 4
name_size c name numbers (text, are, is) = ap (λ (ns : List ℕ). 4 * length ns) are

-- a list of names that stands
texts_read : (c : List ℕ) (at : ℕ) (names : List (List ℕ)) → ListAt (Stands c) 4 (IsName (Stands c)) at names → ReadsTexts c at names
texts_read c at names stand = record {
  count = count_read c 4 (IsName (Stands c)) at names stand;
  inside = list_inside c 4 (IsName (Stands c)) at names (name_size c) stand;
  named = names_read c (at + 4) names stand.records;
}

-- entries that stand have their types as first texts
kinds_read : (c : List ℕ) (pairs : Pairs) (at : ℕ) (kinds : List (List ℕ)) → RecordsAt (Stands c) 8 (IsSubclass (Stands c) pairs) at kinds
    → KeysAt c at 8 kinds
kinds_read c pairs at [] stand = stand
kinds_read c pairs at (kind ∷ kinds) (numbers, here, (text, list, are, is, above), rest) =
    let first = first_read c at text (list ∷ []) (rw are at here) in
    (ap (text_at c) first ∙ text_read c text kind is, kinds_read c pairs (at + 8) kinds rest)

-- the numbers of an entry take 8 bytes
entry_size : (c : List ℕ) (pairs : Pairs) (kind numbers : List ℕ) → IsSubclass (Stands c) pairs kind numbers → 4 * length numbers ≡ 8
entry_size c pairs kind numbers (text, list, are, is, above) = ap (λ (ns : List ℕ). 4 * length ns) are

-- the parents of the entry i stand
above_read : (c : List ℕ) (at : ℕ) (pairs : Pairs) (kinds : List (List ℕ)) → ListAt (Stands c) 8 (IsSubclass (Stands c) pairs) at kinds
    → (i : ℕ) → i < length kinds → ReadsTexts c (parents_at c at i) (parents pairs (get_or kinds i []))
above_read c at pairs kinds stand i l =
    by_record (record_at c 8 (IsSubclass (Stands c) pairs) (at + 4) kinds i [] l stand.records)
  where
    by_record : (numbers : List ℕ) × CardsAt (Stands c) (at + 4 + 8 * i) numbers × IsSubclass (Stands c) pairs (get_or kinds i []) numbers
        → ReadsTexts c (parents_at c at i) (parents pairs (get_or kinds i []))
    by_record (numbers, here, (text, list, are, is, above)) =
        let second = second_read c (at + 4 + 8 * i) text list [] (rw are at here) in
        subst (λ (n : ℕ). ReadsTexts c n (parents pairs (get_or kinds i []))) (sym second)
        (texts_read c list (parents pairs (get_or kinds i [])) above)

-- a list that stands is read as its types with their parents
parents_reads : (c : List ℕ) (at : ℕ) (pairs : Pairs) → (stand : ParentsAt (Stands c) at pairs) → ReadsParents c at pairs stand.kinds
parents_reads c at pairs stand = record {
  types = record {
    count = count_read c 8 (IsSubclass (Stands c) pairs) at stand.kinds stand.stand;
    inside = list_inside c 8 (IsSubclass (Stands c) pairs) at stand.kinds (entry_size c pairs) stand.stand;
    texts = kinds_read c pairs (at + 4) stand.kinds stand.stand.records;
    sorted = stand.in_order;
  };
  once = kinds_once pairs stand.kinds stand.permuted;
  above = above_read c at pairs stand.kinds stand.stand;
  some = kinds_have_parents pairs stand.kinds stand.permuted;
  all = others_have_none pairs stand.kinds stand.permuted;
}

-- the same by the number of the header that names the list, on bytes that are the cache's
pub parents_named : (c d : List ℕ) (at : ℕ) (offsets : Offsets) (pairs : Pairs) → d ≡ c → at ≡ field d 0 2 → HeaderAt (Stands c) offsets
    → (stand : ParentsAt (Stands c) offsets.parents pairs) → ReadsParents d at pairs stand.kinds
parents_named c d at offsets pairs same number header stand =
    let here : at ≡ offsets.parents = number ∙ ap (λ (bytes : List ℕ). field bytes 0 2) same ∙ parents_read c offsets header in
    let reads = subst (λ (n : ℕ). ReadsParents c n pairs stand.kinds) (sym here) (parents_reads c offsets.parents pairs stand) in
    subst (λ (bytes : List ℕ). ReadsParents bytes at pairs stand.kinds) (sym same) reads

-- a type is marked by the list that the header names
pub marked_named : (c d : List ℕ) (at : ℕ) (marks kind : List ℕ) → d ≡ c → at ≡ field d 0 2
    → is_marked d at marks kind ≡ is_marked c (field c 0 2) marks kind
marked_named c d at marks kind same number =
    ap (λ (n : ℕ). is_marked d n marks kind) number ∙ ap (λ (bytes : List ℕ). is_marked bytes (field bytes 0 2) marks kind) same

-- what is taken by that list, and why nothing is
pub taken_named : (c d : List ℕ) (at : ℕ) (kind : List ℕ) (old new : Spending) (before after : List ℕ)
    (r : Result (Option Parents) CacheFault) → d ≡ c → at ≡ field d 0 2
    → MatchResult r (TakesParents d at kind old new before after) (StopsParents d at kind old new before after)
    → MatchResult r (TakesParents c (field c 0 2) kind old new before after) (StopsParents c (field c 0 2) kind old new before after)
taken_named c d at kind old new before after r same number taken =
    let here : at ≡ field c 0 2 = number ∙ ap (λ (bytes : List ℕ). field bytes 0 2) same in
    subst (λ (n : ℕ). MatchResult r (TakesParents c n kind old new before after) (StopsParents c n kind old new before after)) here
    (subst (λ (bytes : List ℕ). MatchResult r (TakesParents bytes at kind old new before after)
    (StopsParents bytes at kind old new before after)) same taken)
