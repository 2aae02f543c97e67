-- What `list` prints.
use Rattle.std.specs.Prelude.{◌≡◌, ◌⊎◌, ℕ, Bool, true, false, All, List, [], ◌++◌, codes, decimal, Option}
use Rattle.std.specs.List.{flat_map}
use Rattle.mime_base.specs.Database.{PlainDatabase}
use Rattle.mime_base.specs.Format.Spells.{Spells}
use Rattle.mime_base.specs.Database.Limits.{KeepsLimits}
use Rattle.mime_view.specs.Listing.{IsListed, IsListing, PlainListed}
use Rattle.mime_view.specs.Listing.Faults.{IsListingFault}
use Rattle.mime_view.specs.Opening.{IsOpenFault}
use Rattle.mime_view.specs.declared.fault.CacheFault.{CacheFault}
use Rattle.mime_request.specs.Request.{PlainSource}
use Rattle.mime_tool.specs.Cache.{IsAnsweredOr, IsCacheRefusal}
use Rattle.mime_tool.specs.Environment.{PlainEnvironment}
use Rattle.mime_tool.specs.Files.{Stored}
use Rattle.mime_tool.specs.Run.{Run, printed}
use Rattle.mime_tool.specs.Sources.{IsSourceCommand}

-- `:cs` after a rule that is case-sensitive
abbrev pub cased_mark : Bool → List ℕ
cased_mark true = codes ":cs"
cased_mark false = []

-- the line of a rule: `WEIGHT:TYPE:PATTERN`, and its mark
abbrev pub rule_line : PlainListed → List ℕ
rule_line rule =
    decimal rule.weight ++ (codes ":" ++ (rule.kind ++ (codes ":" ++ (rule.pattern ++ (cased_mark rule.cased ++ codes "\n")))))

-- the limits of what `list` looks at in a database
abbrev pub HasListedRules : PlainDatabase → Type 0
HasListedRules b = All KeepsLimits b.rules

-- the rules that are listed of a cache: all that it spells, where it spells some, and for each a type that is a text of it
pub record AreRulesOf (cache : List ℕ) (listed : List PlainListed) : Type 0 where
  pub spelled : (b : PlainDatabase) → HasListedRules b → Spells cache b → IsListing b.rules listed
  pub texts : All (IsListed cache) listed

-- why the rules of a cache are not listed: its header, or one of its three lists
abbrev pub IsUnlisted : List ℕ → CacheFault → Type 0
IsUnlisted cache f = IsOpenFault cache f ⊎ ((left : ℕ) × IsListingFault cache left f)

-- `list` refuses the cache for this fault
abbrev pub RefusesRules : List ℕ → CacheFault → Type 0
RefusesRules cache = IsCacheRefusal cache (IsUnlisted cache) HasListedRules

-- the lines of the rules of a cache are printed
abbrev pub AreRuleLines : List ℕ → Run → Type 0
AreRuleLines cache run = (listed : List PlainListed) × AreRulesOf cache listed × (run ≡ printed (flat_map rule_line listed))

-- the run of `list` over a cache that lies at this path
abbrev pub IsListOver : List ℕ → List ℕ → List (List ℕ) → Run → Type 0
IsListOver path cache files run = IsAnsweredOr path (RefusesRules cache) (AreRuleLines cache) run

-- the run of `list`
abbrev pub IsList : (List ℕ → Stored) → Option PlainEnvironment → PlainSource → List (List ℕ) → Run → Type 0
IsList stored environment source = IsSourceCommand stored environment source IsListOver
