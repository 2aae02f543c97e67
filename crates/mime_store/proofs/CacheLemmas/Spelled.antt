-- The parts of a database, once they are written, are its cache, and take what it takes.
use Rattle.std.proofs.Common.{◌≡◌, ℕ, ◌+◌, List, map, ap, ◌∙◌}
use Rattle.std.proofs.Common.{arith}
use Rattle.std.proofs.lemmas.List.Sorted.{sum_by-IsPermutation}
use Rattle.mime_base.specs.Database.{plain_database}
use Rattle.mime_base.specs.Format.Magic.{IsSectionRecord, MagicAt}
use Rattle.mime_base.specs.Format.Pairs.{IsPair, PairsAt}
use Rattle.mime_base.specs.Format.Records.{ListAt, Standing}
use Rattle.mime_base.specs.Format.Room.{pairs_room, room, rules_room, text_room}
use Rattle.mime_base.specs.Format.Rules.{IsRule, LiteralsAt}
use Rattle.mime_base.specs.Format.Runs.{AreRuns, first_text}
use Rattle.mime_base.specs.Format.Sorted.{IsSortedByText}
use Rattle.mime_base.specs.Format.Stored.{literal_rules, stored_text, tree_rules}
use Rattle.mime_base.specs.Format.SuffixTree.{SuffixTreeAt}
use Rattle.mime_base.specs.declared.database.Database as code
use Rattle.mime_base.specs.declared.database.rule.GlobRule.{GlobRule}
use Rattle.mime_store.specs.SuffixTree.{AreEndings, PathRule, TreeOf}
use Rattle.mime_store.specs.Parts.{AreParts, parts_room}
use Rattle.mime_store.specs.Runs.{plain_run}
use Rattle.mime_store.specs.Views.{pair_texts}
use Rattle.mime_store.specs.declared.run.Run.{Run}
use Rattle.mime_store.specs.declared.parts.Parts.{Parts}
use Rattle.mime_store.proofs.ListLemmas.Entries.{cards_carry, records_carry}
use Rattle.mime_store.proofs.ListLemmas.Gather.{Keeps, Records}
use Rattle.mime_store.proofs.MagicLemmas.Lines.{section_keeps}
use Rattle.mime_store.proofs.ParentsLemmas.ParentLists.{runs_room-is}
use Rattle.mime_store.proofs.SuffixTreeLemmas.Siblings.{tree_carry}
use Rattle.mime_store.proofs.BytesLemmas.Written.{Carries}

-- a list that stands stays as more is written
pub list_carry : {Y : Type 0} (Is : Records Y) → Keeps Is → (S S' : Standing) → Carries S S' → (size at : ℕ) (ys : List Y)
    → ListAt S size (Is S) at ys → ListAt S' size (Is S') at ys
list_carry Is keeps S S' f size at ys list = record {
  count = cards_carry S S' f at _ list.count;
  records = records_carry Is keeps S S' f size (at + 4) ys list.records;
}

-- a magic list that stands stays as more is written
pub magic_carry : (S S' : Standing) → Carries S S' → (at : ℕ) (sections : List _) → MagicAt S at sections → MagicAt S' at sections
magic_carry S S' f at sections m = record {
  first = m.first;
  head = cards_carry S S' f at _ m.head;
  stand = records_carry IsSectionRecord section_keeps S S' f 16 m.first sections m.stand;
}

-- a suffix tree that stands stays as more is written
pub tree_of_carry : (S S' : Standing) → Carries S S' → (at : ℕ) (es : List PathRule) → TreeOf S at es → TreeOf S' at es
tree_of_carry S S' f at es t = record {
  tree = t.tree;
  first = t.first;
  head = cards_carry S S' f at _ t.head;
  stand = tree_carry S S' f t.first t.tree t.stand;
  ordered = t.ordered;
  leaves = t.leaves;
  size = t.size;
}

-- a list of sorted pairs is that of the pairs
pub pairs_stand : (S : Standing) (at : ℕ) (pairs sorted : List (List ℕ × List ℕ)) → IsSortedByText first_text pairs sorted
    → ListAt S 8 (IsPair S) at sorted → PairsAt S at pairs
pairs_stand S at pairs sorted by_text list = record { entries = sorted; sorted = by_text; stand = list }

-- a list of sorted literal rules is the literal list
pub literals_stand : (S : Standing) (at : ℕ) (rules sorted : List GlobRule) → IsSortedByText stored_text (literal_rules rules) sorted
    → ListAt S 12 (IsRule S) at sorted → LiteralsAt S at rules
literals_stand S at rules sorted by_text list = record { entries = sorted; sorted = by_text; stand = list }

-- a tree of sorted endings is the suffix tree
pub suffix_tree_stands : (S : Standing) (at : ℕ) (rules : List GlobRule) (es : List PathRule) → AreEndings es (tree_rules rules)
    → TreeOf S at es → SuffixTreeAt S at rules
suffix_tree_stands S at rules es are t = record {
  tree = t.tree;
  first = t.first;
  head = t.head;
  stand = t.stand;
  ordered = t.ordered;
  leaves = λ path. t.leaves path ∙ are.leaves path;
  size = t.size ∙ are.size;
}

-- sorted pairs take what the pairs take
pairs_room-sorted : (pairs sorted : List (List ℕ × List ℕ)) → IsSortedByText first_text pairs sorted → pairs_room sorted ≡ pairs_room pairs
pairs_room-sorted pairs sorted by_text =
    sum_by-IsPermutation (λ (pair : List ℕ × List ℕ). 8 + (text_room pair.0 + text_room pair.1)) pairs sorted by_text.permuted

-- sorted rules take what the rules take
rules_room-sorted : (rules sorted : List GlobRule) → IsSortedByText stored_text rules sorted → rules_room sorted ≡ rules_room rules
rules_room-sorted rules sorted by_text =
    sum_by-IsPermutation (λ (rule : GlobRule). 12 + (text_room (stored_text rule) + text_room rule.kind)) rules sorted by_text.permuted

-- the parts take what the database takes
pub parts_room-is : (parts : Parts) (runs : List Run) (b : code.Database) → AreParts parts b
    → AreRuns (map plain_run runs) (map pair_texts parts.parents.items) → parts_room parts runs b.sections.items ≡ room (plain_database b)
parts_room-is parts runs b are h =
    omega (
      arith,
      pairs_room-sorted _ _ are.aliases,
      runs_room-is _ _ (map plain_run runs) are.parents h,
      rules_room-sorted _ _ are.literals,
      are.endings.size,
      are.endings.kinds,
      ap rules_room are.globs,
      pairs_room-sorted _ _ are.icons,
      pairs_room-sorted _ _ are.generic_icons,
    )
