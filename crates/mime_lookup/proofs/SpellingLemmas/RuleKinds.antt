-- The types of the rules and of the aliases that a cache spells are texts of the cache.
use Rattle.std.proofs.Common.{ℕ, ◌+◌, Bool, true, false, cond, not, ◌&&◌, ◌==◌, List, [], ◌∷◌, subst, bytes_eq}
use Rattle.std.specs.List.{All}
use Rattle.std.proofs.lemmas.List.Elements.{All-append, All-cons, All-head, All-nil, All-tail}
use Rattle.std.proofs.lemmas.List.Sorted.{All-permutation, IsPermutation-sym}
use Rattle.mime_base.specs.Cache.Bytes.{Stands}
use Rattle.mime_base.specs.Format.Pairs.{IsPair, PairsAt}
use Rattle.mime_base.specs.Format.Records.{RecordsAt, TextAt}
use Rattle.mime_base.specs.Format.Rules.{IsRule}
use Rattle.mime_base.specs.Format.Sorted.{with_key}
use Rattle.mime_base.specs.Format.Stored.{is_in_literals, is_in_tree, glob_rules, literal_rules, reversed_ending, tree_rules}
use Rattle.mime_base.specs.Format.Tree.{Tree, TreeAt, bare, leaf, leaves_at, node}
use Rattle.mime_base.specs.declared.database.rule.GlobRule.{GlobRule}
use Rattle.mime_base.proofs.CacheLemmas.TextsStand.{text_at-standing}
use Rattle.mime_view.proofs.HitsLemmas.SameKeys.{bytes_eq-same, first_of}
use Rattle.mime_lookup.specs.Cached.{IsCacheText}
use Rattle.mime_lookup.proofs.SpellingLemmas.Offered.{GlobRulesAt}

-- the type of a rule is a text of the cache
abbrev pub HasText : List ℕ → GlobRule → Type 0
HasText c rule = IsCacheText c rule.kind

-- a text that stands
text_of : (c : List ℕ) (at : ℕ) (text : List ℕ) → TextAt (Stands c) at text → IsCacheText c text
text_of c at text stands = (at, text_at-standing c at text stands.is_text stands.stand)

-- what holds of each member whose record stands holds of all
records_all : {X : Type 0} (P : X → Type 0) (c : List ℕ) (size : ℕ) (Is : X → List ℕ → Type 0)
    → ((x : X) (numbers : List ℕ) → Is x numbers → P x)
    → (at : ℕ) (xs : List X) → RecordsAt (Stands c) size Is at xs → All P xs
records_all P c size Is each at [] stand = All-nil P
records_all P c size Is each at (x ∷ xs) (numbers, cards, is, rest) =
    All-cons P x xs (each x numbers is) (records_all P c size Is each (at + size) xs rest)

-- the targets of aliases
pub targets_texts : (c : List ℕ) (at : ℕ) (pairs : List (List ℕ × List ℕ)) → PairsAt (Stands c) at pairs
    → All (λ pair. IsCacheText c pair.1) pairs
targets_texts c at pairs stand =
    All-permutation (λ (pair : List ℕ × List ℕ). IsCacheText c pair.1) stand.entries pairs
    (IsPermutation-sym pairs stand.entries stand.sorted.permuted)
    (records_all (λ (pair : List ℕ × List ℕ). IsCacheText c pair.1) c 8 (IsPair (Stands c))
    (λ pair numbers is. text_of c is.1 pair.1 is.4) (at + 4) stand.entries stand.stand.records)

-- what holds of the rules of each place holds of all rules
all_of_places : (P : GlobRule → Type 0) (rules : List GlobRule) → All P (literal_rules rules) → All P (tree_rules rules)
    → All P (glob_rules rules)
    → All P rules
all_of_places P [] literals tree globs = All-nil P
all_of_places P (rule ∷ rules) literals tree globs =
    by_place (is_in_literals rule) (is_in_tree rule) literals tree globs (all_of_places P rules)
  where
    by_place : (s t : Bool) → All P (cond s (rule ∷ literal_rules rules) (literal_rules rules))
        → All P (cond t (rule ∷ tree_rules rules) (tree_rules rules))
        → All P (cond (not s && not t) (rule ∷ glob_rules rules) (glob_rules rules))
        → (All P (literal_rules rules) → All P (tree_rules rules) → All P (glob_rules rules) → All P rules) → All P (rule ∷ rules)
    by_place true true literals tree globs more =
        All-cons P rule rules (All-head P rule (literal_rules rules) literals)
        (more (All-tail P rule (literal_rules rules) literals) (All-tail P rule (tree_rules rules) tree) globs)
    by_place true false literals tree globs more =
        All-cons P rule rules (All-head P rule (literal_rules rules) literals)
        (more (All-tail P rule (literal_rules rules) literals) tree globs)
    by_place false true literals tree globs more =
        All-cons P rule rules (All-head P rule (tree_rules rules) tree)
        (more literals (All-tail P rule (tree_rules rules) tree) globs)
    by_place false false literals tree globs more =
        All-cons P rule rules (All-head P rule (glob_rules rules) globs)
        (more literals tree (All-tail P rule (glob_rules rules) globs))

-- the leaves at a path
leaves_texts : (c : List ℕ) (at : ℕ) (path : List ℕ) (tree : Tree) → TreeAt (Stands c) at tree → All (HasText c) (leaves_at path tree)
leaves_texts c at path bare stand = All-nil (HasText c)
leaves_texts c at [] (leaf rule rest) (kind, cards, text, later) =
    All-cons (HasText c) rule (leaves_at [] rest) (text_of c kind rule.kind text) (leaves_texts c (at + 12) [] rest later)
leaves_texts c at (b ∷ path) (leaf rule rest) (kind, cards, text, later) = leaves_texts c (at + 12) (b ∷ path) rest later
leaves_texts c at [] (node character below rest) (first, cards, down, later) = leaves_texts c (at + 12) [] rest later
leaves_texts c at (b ∷ path) (node character below rest) (first, cards, down, later) =
    All-append (HasText c) (cond (character == b) (leaves_at path below) []) (leaves_at (b ∷ path) rest)
    (by_first (character == b) (leaves_texts c first path below down)) (leaves_texts c (at + 12) (b ∷ path) rest later)
  where
    by_first : (t : Bool) → All (HasText c) (leaves_at path below) → All (HasText c) (cond t (leaves_at path below) [])
    by_first true texts = texts
    by_first false texts = All-nil (HasText c)

-- what holds of the members of each key holds of all
all_of_keys : {X : Type 0} (P : X → Type 0) (key : X → List ℕ) (xs : List X) → ((text : List ℕ) → All P (with_key key text xs)) → All P xs
all_of_keys P key [] each = All-nil P
all_of_keys {X = X} P key (x ∷ xs) each =
    let own : All P (x ∷ with_key key (key x) xs) =
    subst (All P) (first_of key (key x) x xs (bytes_eq-same (key x))) (each (key x)) in
    All-cons P x xs (All-head P x (with_key key (key x) xs) own)
    (all_of_keys P key xs (λ text. by_test text (bytes_eq (key x) text) (each text)))
  where
    by_test : (text : List ℕ) (t : Bool) → All P (cond t (x ∷ with_key key text xs) (with_key key text xs)) → All P (with_key key text xs)
    by_test text true all = All-tail P x (with_key key text xs) all
    by_test text false all = all

-- the types of all rules
pub rules_texts : (c : List ℕ) (literals tree globs : ℕ) (rules : List GlobRule) → GlobRulesAt c literals tree globs rules
    → All (HasText c) rules
rules_texts c literals tree globs rules stand =
    let of_rule = λ (rule : GlobRule) (numbers : List ℕ) (is : IsRule (Stands c) rule numbers). text_of c is.1 rule.kind is.4 in
    let entries = stand.literals_stand.entries in
    all_of_places (HasText c) rules
    (All-permutation (HasText c) entries (literal_rules rules)
    (IsPermutation-sym (literal_rules rules) entries stand.literals_stand.sorted.permuted)
    (records_all (HasText c) c 12 (IsRule (Stands c)) of_rule (literals + 4) entries stand.literals_stand.stand.records))
    (all_of_keys (HasText c) reversed_ending (tree_rules rules)
    (λ path. subst (All (HasText c)) (stand.tree_stands.leaves path)
    (leaves_texts c stand.tree_stands.first path stand.tree_stands.tree stand.tree_stands.stand)))
    (records_all (HasText c) c 12 (IsRule (Stands c)) of_rule (globs + 4) (glob_rules rules) stand.globs_stand.records)
