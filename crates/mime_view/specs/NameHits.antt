-- What the three lists of rules give for a name, and why nothing is said of it.
use Rattle.std.specs.Prelude.{◌≡◌, ◌⊎◌, ℕ, ◌+◌, ◌*◌, ◌≤◌, ◌&&◌, Bool, false, List, length, map, nat_le, Result, Ok, IfOk, IfErr, All}
use Rattle.std.specs.List.{list_any}
use Rattle.mime_base.specs.Cache.Bytes.{Stands, field}
use Rattle.mime_base.specs.Cache.Texts.{text_at}
use Rattle.mime_base.specs.Format.Header.{HeaderAt, Offsets}
use Rattle.mime_base.specs.Format.Rules.{GlobsAt, LiteralsAt}
use Rattle.mime_base.specs.Format.Stored.{glob_rules, literal_rules}
use Rattle.mime_base.specs.Format.SuffixTree.{SuffixTreeAt, tree_size}
use Rattle.mime_base.specs.Kept.{FitsRank, kept_rules}
use Rattle.mime_base.specs.Matching.Folding.{compared}
use Rattle.mime_base.specs.declared.database.rule.GlobRule.{GlobRule}
use Rattle.mime_view.specs.Gathered.{asked_rules}
use Rattle.mime_view.specs.Hits.{hit_visits, near}
use Rattle.mime_view.specs.Lists.{IsNoText, LiesList}
use Rattle.mime_view.specs.Spending.{halving}
use Rattle.mime_view.specs.Steps.{Part, Searches, either_part, list_part}
use Rattle.mime_view.specs.SuffixTree.{LiesTree, tree_part}
use Rattle.mime_view.specs.declared.budget.Budget.{Budget}
use Rattle.mime_view.specs.declared.fault.CacheFault.{CacheFault}
use Rattle.mime_view.specs.declared.fault.CacheFault.TheVariants.{OutOfMemory, Spent}
use Rattle.mime_view.specs.declared.name.RuleLists.{RuleLists}
use Rattle.mime_view.specs.declared.name_hits.NameHits.{NameHits}
use Rattle.mime_view.specs.declared.name_hits.Which.{Which}
use Rattle.mime_view.specs.declared.query.Progress.{Progress}
use Rattle.mime_view.specs.declared.query.Query.{Query}
use Rattle.mime_view.specs.declared.spending.Spending.{Spending}

-- whether one of A to Z is among the bytes
abbrev pub has_capitals : List ℕ → Bool
has_capitals name = list_any (λ b. nat_le 65 b && nat_le b 90) name

-- The rules stand in the three lists.
pub record RulesAt (c : List ℕ) (lists : RuleLists) (rules : List GlobRule) : Type 0 where
  -- Those without a special byte stand in the literal list.
  pub literals : LiteralsAt (Stands c) lists.literals rules
  -- Those of an ending stand in the tree.
  pub tree : SuffixTreeAt (Stands c) lists.tree rules
  -- The others stand in the glob list.
  pub globs : GlobsAt (Stands c) lists.globs rules

-- where the header of a cache says that the three lists stand
abbrev pub lists_of : List ℕ → RuleLists
lists_of c = record { literals = field c 0 3; tree = field c 0 4; globs = field c 0 5 }

-- The rules stand in the three lists that the header of a cache names.
pub record SpellsRules (c : List ℕ) (rules : List GlobRule) : Type 0 where
  -- The numbers of the header.
  pub offsets : Offsets
  -- They stand at its begin.
  pub header : HeaderAt (Stands c) offsets
  -- The literal list.
  pub literals : LiteralsAt (Stands c) offsets.literals rules
  -- The tree.
  pub tree : SuffixTreeAt (Stands c) offsets.tree rules
  -- The glob list.
  pub globs : GlobsAt (Stands c) offsets.globs rules

-- the tree at `at` along a name, and along the folded name
abbrev pub walks_part : List ℕ → ℕ → List ℕ → Part
walks_part c at name = either_part (tree_part c at name) (tree_part c at (compared false name))

-- the three lists as they are read for a name: the literal list, the tree, and the glob list
abbrev pub lists_part : List ℕ → RuleLists → List ℕ → Part
lists_part c lists name =
    either_part (list_part c lists.literals) (either_part (walks_part c lists.tree name) (list_part c lists.globs))

-- The three lists lie in the cache, the tree as far as a walk along a name and along the folded name begins there.
pub record LieLists (c : List ℕ) (lists : RuleLists) (name : List ℕ) : Type 0 where
  -- The literal list.
  pub literals : LiesList c lists.literals 12
  -- The tree.
  pub tree : LiesTree c lists.tree name
  -- The glob list.
  pub globs : LiesList c lists.globs 12

-- a search of the three lists on any bytes: a record costs as in the glob list; the halving comes besides, for both cases
abbrev pub SearchesLists : Query → RuleLists → Progress → Progress → Result (Unit {0}) CacheFault → Type 0
SearchesLists query lists old new result =
    Searches (lists_part query.counted.now lists query.key.now) (256 * (length query.key.now + 2)) (halving query.key.now) old new result

-- No text stands where a part says that the type of one of its rules does.
pub record IsKindFault (c : List ℕ) (part : Part) (e : CacheFault) : Type 0 where
  -- Where it would stand.
  pub place : ℕ
  -- The part says so.
  pub named : part.Kind place
  -- There is none.
  pub no_text : IsNoText c place e

-- why nothing is said of the types of a name: the three lists, the type of a rule, what is left, or memory
abbrev pub IsHitsFault : List ℕ → RuleLists → List ℕ → Budget → CacheFault → Type 0
IsHitsFault c lists name after e =
    (lists_part c lists name).Fault e ⊎ IsKindFault c (lists_part c lists name) e
    ⊎ ((e ≡ Spent) × (after.records ≡ 0)) ⊎ (e ≡ OutOfMemory)

-- the records that are taken for a name at most: for each entry of a list, two where one search serves both cases
abbrev pub list_records : List GlobRule → ℕ
list_records rules = 2 * length (literal_rules rules) + 2 * tree_size rules + length (glob_rules rules)

-- and by the rules near it: two for each, for each of its bytes, and for the literals
abbrev pub near_records : List ℕ → List GlobRule → ℕ
near_records name rules = 2 * near name rules + 2 * length name + 2

-- The types of the rules that are asked for, and how many of these are kept.
pub record AreHits (which : Which) (name : List ℕ) (rules : List GlobRule) (hits : NameHits) : Type 0 where
  -- The types, in the order of the rules.
  pub types : hits.kinds ≡ map (λ rule. rule.kind) (asked_rules which rules name)
  -- Those of kept rules come first.
  pub count : hits.kept ≡ length (kept_rules rules name)

-- What a cache gives for a name where these rules stand.
pub record GivesHits {X : Type 0} (Answer : List ℕ → List GlobRule → X → Type 0) (name : List ℕ) (rules : List GlobRule)
    (old new : Budget) (result : Result X CacheFault) : Type 0 where
  -- The answer for the rules, if their ranks have room for them.
  pub answer : All FitsRank rules → IfOk result (Answer name rules)
  -- With records for all entries, or for those near the name, only memory can be short.
  pub need : All FitsRank rules → (list_records rules ≤ old.records) ⊎ (near_records name rules ≤ old.records)
      → IfErr result (λ e. e ≡ OutOfMemory)
  -- No more records are taken than for all entries.
  pub within : old.records ≤ new.records + list_records rules
  -- Nor more than for those near the name.
  pub nearly : old.records ≤ new.records + near_records name rules

-- What is found for a name where these rules stand.
pub record FindsHits {X : Type 0} (Answer : List ℕ → List GlobRule → X → Type 0) (name : List ℕ) (rules : List GlobRule)
    (old new : Spending) (result : Result X CacheFault) : Type 0 where
  -- The answer for the rules, if their ranks have room for them.
  pub answer : All FitsRank rules → IfOk result (Answer name rules)
  -- Where that many records are left, it stops only if it is out of memory.
  pub need : All FitsRank rules → hit_visits name rules ≤ old.budget.records → IfErr result (λ e. e ≡ OutOfMemory)
  -- It takes no more of them.
  pub most : old.budget.records ≤ new.budget.records + hit_visits name rules

-- what is found for a name of the rules that stand in the three lists
abbrev pub FindsInLists : {X : Type 0} → (List ℕ → List GlobRule → X → Type 0) → Query → RuleLists → Spending → Spending
    → Result X CacheFault → Type 0
FindsInLists Answer query lists old new result =
    (rules : List GlobRule) → RulesAt query.counted.now lists rules → FindsHits Answer query.key.now rules old new result

-- What is given for a name, whatever the bytes are.
pub record GivesTexts (c : List ℕ) (old new : Spending) (result : Result NameHits CacheFault) : Type 0 where
  -- Each type is a text of the cache.
  pub text : IfOk result (λ hits. All (λ kind. (at : ℕ) × (text_at c at ≡ Ok kind)) hits.kinds)
  -- Each was paid for by a record.
  pub count : IfOk result (λ hits. length hits.kinds + new.budget.records ≤ old.budget.records)
  -- No more of them are kept than there are.
  pub front : IfOk result (λ hits. hits.kept ≤ length hits.kinds)
