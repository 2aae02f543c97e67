-- The two halves of a lookup over a cache: what a name gives without its content, and what it leaves to a front of that.
use Rattle.std.specs.Prelude.{◌≡◌, ℕ, ◌+◌, ◌*◌, ◌≤◌, true, false, All, OnOk, List, length, Option, None, Some}
use Rattle.std.specs.Prelude.{Result, Ok, Err, option_map, ⊤}
use Rattle.std.specs.Borrow.{Bor}
use Rattle.mime_base.specs.Database.{PlainDatabase, pairs_of}
use Rattle.mime_base.specs.Format.Packed.{value_length}
use Rattle.mime_base.specs.declared.magic.host.Host.{Host}
use Rattle.mime_lookup.specs.Affords.{magic_records, rule_records}
use Rattle.mime_lookup.specs.Bounds.{near_max}
use Rattle.mime_lookup.specs.Cached.{IsCacheText, asked_count}
use Rattle.mime_lookup.specs.CheckingOrder.{Chooses, are_one_type, globs_suffice}
use Rattle.mime_lookup.specs.Choice.{candidates, kept}
use Rattle.mime_lookup.specs.Costs.{CostsOwing, glob_cost, record_cost}
use Rattle.mime_lookup.specs.Spelling.{SpellsGlobs}
use Rattle.mime_lookup.specs.declared.cached.by_name.NameDecision.{NameDecision}
use Rattle.mime_lookup.specs.declared.cached.by_name.NameDecision.TheVariants.{Decided, Left}
use Rattle.mime_lookup.specs.declared.cached.by_name.Candidates.{Candidates}
use Rattle.mime_lookup.specs.declared.cached.by_name.Candidates.TheVariants.{Every, Ignored, Kept, Unasked}
use Rattle.mime_lookup.specs.declared.order.Order.{Order}
use Rattle.mime_lookup.specs.declared.order.Order.TheVariants.{AllGlobs, ContentOnly, GlobsFirst, MagicFirst}
use Rattle.mime_view.specs.Hits.{near}
use Rattle.mime_view.specs.declared.budget.Budget.{Budget}
use Rattle.mime_view.specs.declared.fault.CacheFault.{CacheFault}
use Rattle.mime_view.specs.declared.spending.Spending.{Spending}

-- the order under which these are left
abbrev pub order_left : Candidates → Order
order_left (Kept kinds) = GlobsFirst
order_left (Every kinds asked) = AllGlobs
order_left Unasked = MagicFirst
order_left Ignored = ContentOnly

-- over a database a name leaves the types that are kept of it, or all, where they are not one type, or all to be asked, or none
abbrev pub Leaves : PlainDatabase → List ℕ → Candidates → Type 0
Leaves b name (Kept kinds) =
    (are_one_type (kept (pairs_of b) b.rules name) ≡ false) × (kinds ≡ kept (pairs_of b) b.rules name)
Leaves b name (Every kinds asked) =
    (are_one_type (candidates (pairs_of b) b.rules name) ≡ false) × (kinds ≡ candidates (pairs_of b) b.rules name)
    × (asked ≡ asked_count (kept (pairs_of b) b.rules name))
Leaves b name Unasked = ⊤
Leaves b name Ignored = ⊤

-- over a database a name gives a type where the globs suffice, whatever the content is, else what it leaves
abbrev pub Decides : PlainDatabase → List ℕ → Order → NameDecision → Type 0
Decides b name order (Decided kind) = (globs_suffice b name order ≡ true)
    × ((content : Option (List ℕ)) (host : Host) → Chooses b name content host order kind.now)
Decides b name order (Left candidates) =
    (globs_suffice b name order ≡ false) × (order_left candidates ≡ order) × Leaves b name candidates

-- the types of candidates are texts of the cache, and no more of them are asked than there are
abbrev pub AreCandidateTexts : List ℕ → Candidates → Type 0
AreCandidateTexts c (Kept kinds) = All (IsCacheText c) kinds
AreCandidateTexts c (Every kinds asked) = All (IsCacheText c) kinds × (asked ≤ length kinds)
AreCandidateTexts c Unasked = ⊤
AreCandidateTexts c Ignored = ⊤

-- and so are those that a name gives
abbrev pub AreTextsByName : List ℕ → NameDecision → Type 0
AreTextsByName c (Decided kind) = IsCacheText c kind.now
AreTextsByName c (Left candidates) = AreCandidateTexts c candidates

-- the nodes that candidates may still need, for a name of that many bytes: 29 for each type, or those of a search
abbrev pub owed_nodes : ℕ → Candidates → ℕ
owed_nodes name (Kept kinds) = 29 * length kinds
owed_nodes name (Every kinds asked) = 29 * length kinds
owed_nodes name Unasked = glob_cost name
owed_nodes name Ignored = 0

-- the records of the glob rules that they may still need
abbrev pub owed_records : PlainDatabase → Candidates → ℕ
owed_records b (Kept kinds) = 0
owed_records b (Every kinds asked) = 0
owed_records b Unasked = rule_records b
owed_records b Ignored = 0

-- the nodes that they may still need where the globs decide alone: an alias step, or all
abbrev pub owed_near : PlainDatabase → List ℕ → Candidates → ℕ
owed_near b name (Kept kinds) = 30
owed_near b name (Every kinds asked) = 30
owed_near b name Unasked = near_max (length name) (near name b.rules)
owed_near b name Ignored = 30

-- the records and the value bytes that are left to be taken after a name was asked
pub record AffordsRest (b : PlainDatabase) (candidates : Candidates) (budget : Budget) : Type 0 where
  -- A record for each glob rule that is still to be asked, for each section and line of magic, and for each parent.
  pub records : owed_records b candidates + magic_records b + length b.parents ≤ budget.records
  -- A byte for each byte of the values of magic.
  pub value_bytes : value_length b.sections ≤ budget.value_bytes

-- what is owed after a name was asked: by its candidates, and nothing by a type or a fault
abbrev pub owed : (Candidates → ℕ) → ℕ → Result NameDecision CacheFault → ℕ
owed by_candidates else (Ok (Decided kind)) = else
owed by_candidates else (Ok (Left candidates)) = by_candidates candidates
owed by_candidates else (Err e) = else

-- What a name costs, with what it leaves to be paid.
pub record CostsByName (c name : List ℕ) (old new : Spending) (result : Result NameDecision CacheFault) : Type 0 where
  -- Where the glob rules stand, no more records are taken than they have, now and later.
  pub takes : (b : PlainDatabase) → SpellsGlobs c b →
      old.budget.records + owed (owed_records b) 0 result ≤ new.budget.records + rule_records b
  -- And the nodes, now and later, keep to the bound by the rules near the name, but for the header's one.
  pub near : (b : PlainDatabase) → SpellsGlobs c b → OnOk result
      (new.meter.nodes + owed (owed_near b name) 1 result ≤ old.meter.nodes + near_max (length name) (near name b.rules))
  -- Whatever the bytes are, the nodes and the bytes, now and later, keep to the cost of a search; no value byte is taken.
  pub cost : CostsOwing (owed (owed_nodes (length name)) 0 result) (record_cost (length name)) 0 (glob_cost (length name)) old new

-- the bytes of a front
abbrev pub bytes_of : Option (Bor (List ℕ)) → Option (List ℕ)
bytes_of = option_map (λ (front : Bor (List ℕ)). front.now)

-- how many there are
abbrev pub front_length : Option (List ℕ) → ℕ
front_length None = 0
front_length (Some front) = length front
