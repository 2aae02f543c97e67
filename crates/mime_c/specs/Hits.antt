-- Which rules match a name by a cache of any bytes, and what C gets of them.
use Rattle.std.specs.Prelude.{◌≡◌, ℕ, ◌+◌, ◌*◌, ◌/◌, ◌<◌, ◌≤◌, Bool, if◌then◌else◌, List, [], ◌∷◌, ◌++◌, length, drop, map, take}
use Rattle.std.specs.Prelude.{All, Result, Ok, IfErr, IfOk}
use Rattle.mime_base.specs.Cache.Texts.{text_at}
use Rattle.mime_base.specs.Database.{PlainDatabase}
use Rattle.mime_base.specs.Format.Packed.{Packed}
use Rattle.mime_base.specs.Kept.{FitsRank}
use Rattle.mime_c.specs.Parents.{AreWritten}
use Rattle.mime_base.specs.declared.meter.Meter.{Meter}
use Rattle.mime_c.specs.Reader.{IsReaderCall, IsReaderReport}
use Rattle.mime_c.specs.Report.{IsStatusAlone}
use Rattle.mime_c.specs.Status.{status_name_too_long}
use Rattle.mime_c.specs.declared.hits.Hit.{Hit}
use Rattle.mime_c.specs.declared.report.Report.{Report}
use Rattle.mime_view.specs.NameHits.{IsHitsFault, SpellsRules, lists_of}
use Rattle.mime_view.specs.RuleHits.{AreRuleHits, types_alone}
use Rattle.mime_view.specs.declared.budget.Budget.{Budget}
use Rattle.mime_view.specs.declared.fault.CacheFault.{CacheFault}
use Rattle.mime_view.specs.declared.fault.CacheFault.TheVariants.{OutOfMemory}
use Rattle.mime_view.specs.declared.rule_hits.RuleHit.{RuleHit}
use Rattle.mime_view.specs.declared.rule_hits.RuleHits.{RuleHits}

-- All that is promised of the rules of a name over a cache that opens.
pub record IsHits (c name : List ℕ) (result : Result RuleHits CacheFault) : Type 0 where
  -- Where the rules of a database stand, they are those that match, by falling rank, and it is said how many are kept.
  pub answer : (b : PlainDatabase) → SpellsRules c b.rules → All FitsRank b.rules → IfOk result (AreRuleHits name b.rules)
  -- Then only memory is refused, if it is packed.
  pub need : (b : PlainDatabase) → SpellsRules c b.rules → All FitsRank b.rules → Packed c b → IfErr result (λ e. e ≡ OutOfMemory)
  -- On any bytes each type is a text of the cache.
  pub texts : IfOk result (λ hits. All (λ kind. (at : ℕ) × (text_at c at ≡ Ok kind)) (types_alone hits).kinds)
  -- There is at most one for four bytes of it.
  pub count : IfOk result (λ hits. length hits.rules.items ≤ length c / 4)
  -- No more are kept than there are.
  pub front : IfOk result (λ hits. hits.kept ≤ length hits.rules.items)
  -- A fault is one of the lists of rules, of the tree along the name or of a text that they name; or the budget was spent, or memory was refused.
  pub fault : IfErr result (λ e. (left : Budget) × IsHitsFault c (lists_of c) name left e)

-- a hit as C gets it
pub record GivenHit : Type 0 where
  pub kind : List ℕ
  pub weight : ℕ
  pub cased : ℕ
  pub kept : ℕ
  pub spare : List ℕ

-- the plain value of what is written
abbrev pub plain_given : Hit → GivenHit
plain_given hit = record { kind = hit.kind.bytes.now; weight = hit.weight; cased = hit.cased; kept = hit.kept; spare = hit.spare }

-- 1 for yes, 0 for no
abbrev pub one_if : Bool → ℕ
one_if is = if is then 1 else 0

-- a rule, and whether it is kept
abbrev pub given : ℕ → RuleHit → GivenHit
given kept hit = record { kind = hit.kind.now; weight = hit.weight; cased = one_if hit.cased; kept = kept; spare = 0 ∷ 0 ∷ [] }

-- all rules, of which the first are kept
abbrev pub given_hits : RuleHits → List GivenHit
given_hits found = map (given 1) (take found.kept found.rules.items) ++ map (given 0) (drop found.kept found.rules.items)

-- records that are visited at most, for the lengths of the name and of the cache
abbrev pub hits_nodes : ℕ → ℕ → ℕ
hits_nodes name cache = 58 * name + 60 + cache / 4

-- bytes that are read or compared at most
abbrev pub hits_bytes : ℕ → ℕ → ℕ
hits_bytes name cache = 256 * (58 * name + 59) + 256 * (name + 3) * (cache / 4)

-- an array of hits, and how many there are to be written
pub record HitSlots : Type 0 where
  pub hits : List Hit
  pub count : ℕ

-- the array has the hits as far as there is room, and the count is of all
abbrev pub AreGivenHits : HitSlots → HitSlots → RuleHits → Type 0
AreGivenHits before after found =
    AreWritten plain_given (given_hits found) before.hits after.hits × (after.count ≡ length found.rules.items)

-- so they go out; where there are none to be given, both stay
abbrev pub IsHitsReport : HitSlots → HitSlots → Result RuleHits CacheFault → Meter → Report → Type 0
IsHitsReport before after found meter told = IsReaderReport (AreGivenHits before after) (after ≡ before) found meter told

-- What C gets of a name.
pub record IsAskedHits (c name : List ℕ) (before after : HitSlots) (told : Report) : Type 0 where
  -- A name of more than 4,096 bytes is too long, before anything else.
  pub too_long : 4096 < length name → (after ≡ before) × IsStatusAlone status_name_too_long told
  -- Else the array has the hits as far as there is room, and the count is of all; where there are none to be given, both stay.
  pub asked : length name ≤ 4096 →
      IsReaderCall c (IsHits c name) (hits_nodes (length name) (length c)) (hits_bytes (length name) (length c))
      (AreGivenHits before after) (after ≡ before) told
