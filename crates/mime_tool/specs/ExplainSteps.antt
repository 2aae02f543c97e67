-- What the parts of an explanation give.
use Rattle.std.specs.Prelude.{◌≡◌, ◌⊎◌, ℕ, Bool, true, false, List, [], ◌∷◌, Option, Some, None, IfSome, Result, Ok, Err}
use Rattle.std.specs.Prelude.{Vec, if◌then◌else◌, is_some, map, nat_le, option_map}
use Rattle.std.specs.Borrow.{Bor}
use Rattle.std.specs.declared.alloc.Global.{Global}
use Rattle.mime_base.specs.Database.{PlainDatabase, pairs_of}
use Rattle.mime_base.specs.Database.Lent.{plain_rule}
use Rattle.mime_base.specs.Database.Subclass.{IsA, Pairs}
use Rattle.mime_base.specs.Kept.{candidate_rules, kept_rules, rank_of_rule}
use Rattle.mime_base.specs.declared.database.lent.LentRule.{LentRule}
use Rattle.mime_base.specs.declared.database.rule.GlobRule.{GlobRule}
use Rattle.mime_base.specs.declared.magic.host.Host.TheVariants.{Little}
use Rattle.mime_load.specs.Lent.{plain_lists}
use Rattle.mime_lookup.specs.CheckingOrder.{Chooses}
use Rattle.mime_lookup.specs.Choice.{candidates, kept}
use Rattle.mime_lookup.specs.Content.{Health, sound, broken}
use Rattle.mime_lookup.specs.Fronts.{IsEnough}
use Rattle.mime_lookup.specs.Sniffing.{sniffed}
use Rattle.mime_lookup.specs.declared.order.Order.{Order}
use Rattle.mime_lookup.specs.declared.order.Order.TheVariants.{AllGlobs, ContentOnly, GlobsFirst, MagicFirst}
use Rattle.mime_lookup.specs.declared.stopped.Cause.{Cause}
use Rattle.mime_lookup.specs.declared.stopped.Cause.TheVariants as cause
use Rattle.mime_tool.specs.Check.{IsReadBack}
use Rattle.mime_tool.specs.Explain.{IsBy, explained_by, section_in}
use Rattle.mime_tool.specs.Files.{Stored}
use Rattle.mime_tool.specs.Finish.{Sinks}
use Rattle.mime_tool.specs.Line.{IsLineOfKind, PlainLookup, cannot_open, too_long}
use Rattle.mime_tool.specs.Output.{written}
use Rattle.mime_tool.specs.Run.{Run, cannot_read, printed, unanswered}
use Rattle.mime_tool.specs.declared.explain.Explained.{Explained}
use Rattle.mime_tool.specs.declared.explain.Explained.TheVariants as explained
use Rattle.mime_tool.specs.declared.explain.Explaining.{Explaining}
use Rattle.mime_tool.specs.declared.explain.decision.DecidedBy.TheVariants as by
use Rattle.mime_tool.specs.declared.explain.decision.Decision.{Decision}
use Rattle.mime_tool.specs.declared.explain.decision.Seen.{Seen}
use Rattle.mime_tool.specs.declared.explain.rules.Matches.{Matches}
use Rattle.mime_tool.specs.declared.stop.Stop.{Stop}
use Rattle.mime_tool.specs.declared.stop.Stop.TheVariants as stop

-- the database that was read back
abbrev pub database_of : Explaining → PlainDatabase
database_of explaining = plain_lists explaining.lists.now

-- A cache was read back, and the rules are those of its lists.
pub record IsReady (explaining : Explaining) : Type 0 where
  pub back : IsReadBack explaining.bytes.now (database_of explaining)
  pub rules : map plain_rule explaining.rules.now ≡ (database_of explaining).rules

-- how FILEs are explained
abbrev pub looks_of : Explaining → PlainLookup
looks_of explaining = explained_by (database_of explaining) explaining.name_only explaining.output explaining.order

-- ---- what a file comes to

-- what is written of a file that comes to this, where its name is written so
abbrev pub run_of_text : List ℕ → Explained → Run
run_of_text name (explained.Lines lines) = printed lines.items
run_of_text name explained.CannotOpen = unanswered (cannot_open name)
run_of_text name explained.NameTooLong = unanswered (too_long name)
run_of_text name explained.CannotRead = unanswered (cannot_read name)

-- what is written of what a file comes to are its lines, unless memory ran out
abbrev pub GivesText : PlainLookup → Stored → List ℕ → Result Explained Stop → Type 0
GivesText looks stored file (Ok text) = IsLineOfKind None looks stored file (run_of_text (written looks.output file) text)
GivesText looks stored file (Err s) = s ≡ stop.OutOfMemory

-- the same, and nothing is written yet
abbrev pub ComesToText : PlainLookup → Stored → List ℕ → Sinks → Sinks → Result Explained Stop → Type 0
ComesToText looks stored file old new result = (new ≡ old) × GivesText looks stored file result

-- ---- rules

-- the types that references name
abbrev pub kinds_of : List (Bor (List ℕ)) → List (List ℕ)
kinds_of kinds = map (λ kind. kind.now) kinds

-- an offer as a plain value
abbrev pub plain_offer : ℕ × LentRule → ℕ × GlobRule
plain_offer offer = (offer.0, plain_rule offer.1)

-- a rule with its rank
abbrev pub offer_of : GlobRule → ℕ × GlobRule
offer_of rule = (rank_of_rule rule, rule)

-- the offers are these rules, each with its rank
abbrev pub AreRanked : List GlobRule → List (ℕ × LentRule) → Type 0
AreRanked rules offers = map plain_offer offers ≡ map offer_of rules

-- the rules that match are those that are kept of the name, and all
abbrev pub AreMatches : PlainDatabase → List ℕ → Matches → Type 0
AreMatches b name matches = (map plain_rule matches.kept.items ≡ kept_rules b.rules name)
    × (map plain_rule matches.candidates.items ≡ candidate_rules b.rules name)

-- ---- contents

-- the bytes of a front, if there is one
abbrev pub bytes_of : Option (Bor (List ℕ)) → Option (List ℕ)
bytes_of front = option_map (λ bytes. bytes.now) front

-- the front that is read is enough, or a read failed that could, or memory ran out
abbrev pub ReadsEnough : {R : Type 0} → (R → Option (List ℕ)) → (R → Health) → PlainDatabase → Option R
    → Result (Option (Vec ℕ Global)) Cause → Type 0
ReadsEnough remaining health b None (Ok front) = front ≡ None
ReadsEnough remaining health b None (Err stop) = ⊥
ReadsEnough remaining health b (Some reader) (Ok None) = ⊥
ReadsEnough remaining health b (Some reader) (Ok (Some front)) =
    ((health reader ≡ broken) → ⊥) × IfSome (remaining reader) (λ whole. IsEnough b (Some whole) (Some front.items))
ReadsEnough remaining health b (Some reader) (Err cause.Read) = (health reader ≡ sound) → ⊥
ReadsEnough remaining health b (Some reader) (Err cause.OutOfMemory) = Unit {0}
ReadsEnough remaining health b (Some reader) (Err cause.NameTooLong) = ⊥
ReadsEnough remaining health b (Some reader) (Err (cause.Cache fault)) = ⊥

-- ---- decisions

-- What is seen of a name and of a content, over a database.
pub record IsSeen (b : PlainDatabase) (name : List ℕ) (content : Option (List ℕ)) (seen : Seen) : Type 0 where
  pub kept : kinds_of seen.kept.now ≡ kept (pairs_of b) b.rules name
  pub candidates : kinds_of seen.candidates.now ≡ candidates (pairs_of b) b.rules name
  pub priority : seen.priority ≡ option_map (λ section. section.1) (section_in b content)
  pub sniffed : seen.sniffed.now ≡ sniffed b content Little
  pub is_read : seen.is_read ≡ is_some content

-- whether the content decides before the globs are asked, by the priority of the section that holds
abbrev pub is_content_first : Order → Option ℕ → Bool
is_content_first ContentOnly priority = true
is_content_first MagicFirst None = false
is_content_first MagicFirst (Some priority) = nat_le 80 priority
is_content_first GlobsFirst priority = false
is_content_first AllGlobs priority = false

-- whether all candidates are asked, and not the kept ones alone
abbrev pub is_every : Order → Bool → Bool
is_every AllGlobs by_magic = by_magic
is_every order by_magic = false

-- a decision is the type that the order gives, and what decides it
abbrev pub IsDecision : PlainDatabase → List ℕ → Option (List ℕ) → Order → Decision → Type 0
IsDecision b name content order decision =
    Chooses b name content Little order decision.kind.now × IsBy b name content order decision.kind.now decision.by

-- the first of the types that is the base or a subclass of it, if one is
abbrev pub IsFirstBelow : Pairs → List ℕ → List (List ℕ) → Option (List ℕ) → Type 0
IsFirstBelow pairs base [] found = found ≡ None
IsFirstBelow pairs base (kind ∷ kinds) found =
    (IsA pairs kind base × (found ≡ Some kind)) ⊎ ((IsA pairs kind base → ⊥) × IsFirstBelow pairs base kinds found)

-- of a first that is, and the first of all: which one, and what decides
abbrev pub preferred : Option (Bor (List ℕ)) → Bor (List ℕ) → Bool → Decision
preferred None first is_read = record { kind = first; by = by.Default }
preferred (Some kind) first is_read = record { kind = kind; by = if is_read then by.Both else by.Default }
