-- The lists of a cache that spells some rules are read as they are listed.
use Rattle.std.proofs.Common.{◌≡◌, ℕ, ◌+◌, ◌*◌, ◌≤◌, List, [], ◌++◌, length, get_or, map, sym, ap, subst, ◌∙◌, arith}
use Rattle.std.specs.List.{All}
use Rattle.std.proofs.lemmas.List.{map-append}
use Rattle.std.proofs.lemmas.List.Elements.{All-filter}
use Rattle.std.proofs.lemmas.List.Sorted.{All-permutation, length_permutation}
use Rattle.mime_base.specs.Cache.Bytes.{Stands, field}
use Rattle.mime_base.specs.Database.Limits.{KeepsLimits}
use Rattle.mime_base.specs.Format.Header.{HeaderAt, Offsets}
use Rattle.mime_base.specs.Format.Rules.{GlobsAt, LiteralsAt}
use Rattle.mime_base.specs.Format.Sorted.{IsSortedByText}
use Rattle.mime_base.specs.Format.Stored.{glob_rules, is_in_globs, is_in_literals, literal_rules, reversed_ending, stored_text, tree_rules}
use Rattle.mime_base.specs.Format.SuffixTree.{SuffixTreeAt, tree_size}
use Rattle.mime_base.specs.Format.Tree.{Tree, node_count, rules_in}
use Rattle.mime_base.specs.declared.database.rule.GlobRule.{GlobRule}
use Rattle.mime_view.specs.Listing.{IsListing, PlainListed, listed_rule}
use Rattle.mime_view.specs.Listing.Faults.{IsListingFault, IsListsFault}
use Rattle.mime_view.specs.Listing.Reads.{ReadsListedRules, ReadsSuffixTree}
use Rattle.mime_view.specs.declared.fault.CacheFault.{CacheFault}
use Rattle.mime_view.proofs.ListLemmas.Headers.{header_read}
use Rattle.mime_view.proofs.ListLemmas.Records.{numbers_read, record_inside}
use Rattle.mime_view.proofs.ListingLemmas.ListedEntries.{rules_read}
use Rattle.mime_view.proofs.ListingLemmas.ListedTree.{ended_leaves, listed_by_ending}
use Rattle.mime_view.proofs.SuffixTreeLemmas.TreesRead.{siblings_inside, tree_read}

-- a suffix tree that stands is read
suffix_tree_read : (c : List ℕ) (at : ℕ) (rules : List GlobRule) → All KeepsLimits rules → (stand : SuffixTreeAt (Stands c) at rules)
    → ReadsSuffixTree c at stand.tree
suffix_tree_read c at rules fit stand =
    let read = numbers_read c at _ stand.head in
    let inside : at + 4 * 2 ≤ length c = record_inside c at _ stand.head in
    let at_first : field c at 1 ≡ stand.first = ap (λ (ns : List ℕ). get_or ns 1 0) read in
    record {
      head = omega arith;
      count = ap (λ (ns : List ℕ). get_or ns 0 0) read;
      block = rw at_first (record { inside = λ some. siblings_inside c stand.first stand.tree stand.stand some });
      siblings = rw at_first (tree_read c stand.first [] 0 stand.tree stand.stand stand.ordered
          (ended_leaves rules stand.tree stand.leaves fit));
    }

-- the three lists at these offsets are of these rules
pub record AllRead (c : List ℕ) (literals tree globs : ℕ) (rules : List GlobRule) : Type 0 where
  pub first : List GlobRule
  pub roots : Tree
  pub by_text : IsSortedByText stored_text (literal_rules rules) first
  pub by_ending : IsSortedByText reversed_ending (tree_rules rules) (rules_in roots)
  pub literals_read : ReadsListedRules c literals first
  pub tree_reads : ReadsSuffixTree c tree roots
  pub globs_read : ReadsListedRules c globs (glob_rules rules)
  pub count : length first ≡ length (literal_rules rules)
  pub size : node_count roots ≡ tree_size rules

-- all three lists that stand are read
all_stand : (c : List ℕ) (literals tree globs : ℕ) (offsets : Offsets) (rules : List GlobRule) → literals ≡ field c 0 3
    → tree ≡ field c 0 4 → globs ≡ field c 0 5 → HeaderAt (Stands c) offsets → All KeepsLimits rules
    → LiteralsAt (Stands c) offsets.literals rules → SuffixTreeAt (Stands c) offsets.tree rules → GlobsAt (Stands c) offsets.globs rules
    → AllRead c literals tree globs rules
all_stand c literals tree globs offsets rules is3 is4 is5 header fit by_literals by_tree by_globs =
    let numbers = header_read c offsets header in
    let at_literals : literals ≡ offsets.literals = is3 ∙ ap (λ (ns : List ℕ). get_or ns 3 0) numbers in
    let at_tree : tree ≡ offsets.tree = is4 ∙ ap (λ (ns : List ℕ). get_or ns 4 0) numbers in
    let at_globs : globs ≡ offsets.globs = is5 ∙ ap (λ (ns : List ℕ). get_or ns 5 0) numbers in
    let fit_literals = All-permutation KeepsLimits (literal_rules rules) by_literals.entries by_literals.sorted.permuted
    (All-filter is_in_literals KeepsLimits rules fit) in
    record {
      first = by_literals.entries;
      roots = by_tree.tree;
      by_text = by_literals.sorted;
      by_ending = listed_by_ending rules by_tree.tree by_tree.ordered by_tree.leaves fit;
      literals_read = subst (λ (n : ℕ). ReadsListedRules c n by_literals.entries) (sym at_literals)
          (rules_read c offsets.literals by_literals.entries fit_literals by_literals.stand);
      tree_reads = subst (λ (n : ℕ). ReadsSuffixTree c n by_tree.tree) (sym at_tree)
          (suffix_tree_read c offsets.tree rules fit by_tree);
      globs_read = subst (λ (n : ℕ). ReadsListedRules c n (glob_rules rules)) (sym at_globs)
          (rules_read c offsets.globs (glob_rules rules) (All-filter is_in_globs KeepsLimits rules fit) by_globs);
      count = length_permutation (literal_rules rules) by_literals.entries by_literals.sorted.permuted;
      size = by_tree.size;
    }

-- the same on bytes that are the cache's
pub all_read : (c d : List ℕ) (literals tree globs : ℕ) (offsets : Offsets) (rules : List GlobRule) → d ≡ c → literals ≡ field d 0 3
    → tree ≡ field d 0 4 → globs ≡ field d 0 5 → HeaderAt (Stands c) offsets → All KeepsLimits rules
    → LiteralsAt (Stands c) offsets.literals rules → SuffixTreeAt (Stands c) offsets.tree rules → GlobsAt (Stands c) offsets.globs rules
    → AllRead d literals tree globs rules
all_read c d literals tree globs offsets rules same is3 is4 is5 header fit by_literals by_tree by_globs =
    all_stand d literals tree globs offsets rules is3 is4 is5
    (subst (λ (bytes : List ℕ). HeaderAt (Stands bytes) offsets) (sym same) header) fit
    (subst (λ (bytes : List ℕ). LiteralsAt (Stands bytes) offsets.literals rules) (sym same) by_literals)
    (subst (λ (bytes : List ℕ). SuffixTreeAt (Stands bytes) offsets.tree rules) (sym same) by_tree)
    (subst (λ (bytes : List ℕ). GlobsAt (Stands bytes) offsets.globs rules) (sym same) by_globs)

-- what is listed then
pub are_listed : (c : List ℕ) (literals tree globs : ℕ) (rules : List GlobRule) (listed : List PlainListed)
    → (read : AllRead c literals tree globs rules)
    → listed ≡ map listed_rule read.first ++ (map listed_rule (rules_in read.roots) ++ map listed_rule (glob_rules rules))
    → IsListing rules listed
are_listed c literals tree globs rules listed read is = record {
  literals = read.first;
  leaves = rules_in read.roots;
  sorted_literals = read.by_text;
  sorted_leaves = read.by_ending;
  is = is ∙ ap (λ (xs : List PlainListed). map listed_rule read.first ++ xs)
      (sym (map-append listed_rule (rules_in read.roots) (glob_rules rules)))
      ∙ sym (map-append listed_rule read.first (rules_in read.roots ++ glob_rules rules));
}

-- why nothing is listed, by the numbers of the header
pub listing_fault : (c d : List ℕ) (literals tree globs left : ℕ) (e : CacheFault) → d ≡ c → literals ≡ field d 0 3 → tree ≡ field d 0 4
    → globs ≡ field d 0 5 → IsListsFault d literals tree globs left e → IsListingFault c left e
listing_fault c d literals tree globs left e same is3 is4 is5 fault =
    let named = rw (is3, is4, is5) at fault in
    subst (λ (bytes : List ℕ). IsListingFault bytes left e) same named
