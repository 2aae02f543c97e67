-- What `explain` prints.
pub mod Rows
use Rattle.std.specs.Prelude.{◌≡◌, ◌⊎◌, MatchBool, MatchOption, ℕ, Bool, true, false, List, [], ◌∷◌, ◌++◌, Option, Some, None, bytes_eq, codes}
use Rattle.std.specs.Prelude.{decimal, drop, if◌then◌else◌, is_some, length}
use Rattle.std.specs.List.{flat_map}
use Rattle.mime_base.specs.Database.{PlainDatabase, pairs_of}
use Rattle.mime_base.specs.Database.Subclass.{IsA, resolved}
use Rattle.mime_base.specs.Kept.{candidate_rules, kept_rules}
use Rattle.mime_base.specs.Magic.Holds.{first_magic}
use Rattle.mime_base.specs.declared.database.rule.GlobRule.{GlobRule}
use Rattle.mime_base.specs.declared.magic.host.Host.TheVariants.{Little}
use Rattle.mime_load.specs.declared.part.Part.{Part}
use Rattle.mime_lookup.specs.CheckingOrder.{Chooses, are_one_type, asked_types, before_globs}
use Rattle.mime_lookup.specs.Sniffing.{sniffed, sniffed_by_bytes}
use Rattle.mime_lookup.specs.declared.order.Order.{Order}
use Rattle.mime_lookup.specs.declared.order.Order.TheVariants.{AllGlobs, ContentOnly, GlobsFirst, MagicFirst}
use Rattle.mime_request.specs.Request.{PlainSource}
use Rattle.mime_request.specs.declared.request.Options.{Options}
use Rattle.mime_request.specs.declared.request.Output.{Output}
use Rattle.mime_tool.specs.Cache.{IsAnsweredOr}
use Rattle.mime_tool.specs.Check.{IsNoDatabase, IsReadBack, RefusesToOpen, no_database}
use Rattle.mime_tool.specs.Environment.{PlainEnvironment}
use Rattle.mime_tool.specs.Files.{Stored}
use Rattle.mime_tool.specs.Line.{IsTypeLine, PlainLookup, asked_order, name_for}
use Rattle.mime_tool.specs.Output.{type_line, written}
use Rattle.mime_tool.specs.Run.{IsEach, Run, cannot_read, printed, refusal, unanswered}
use Rattle.mime_tool.specs.Sources.{IsSourceCommand}
use Rattle.mime_tool.specs.declared.explain.decision.DecidedBy.{DecidedBy}
use Rattle.mime_tool.specs.declared.explain.decision.DecidedBy.TheVariants as by

-- ---- what decides

-- of types that aren't one type: the content, if it was looked at and the answer is what it was sniffed as or a subclass of that
abbrev pub IsByContent : Bool → Type 0 → DecidedBy → Type 0
IsByContent seen Below way = ((seen ≡ true) × Below × (way ≡ by.Both)) ⊎ (((seen ≡ true) → Below → ⊥) × (way ≡ by.Default))

-- where the globs ask for these types, and the content was looked at or not
abbrev pub IsByTypes : Bool → Type 0 → List (List ℕ) → DecidedBy → Type 0
IsByTypes seen Below [] way = way ≡ (if seen then by.Content else by.Default)
IsByTypes seen Below (first ∷ more) way = MatchBool (are_one_type (first ∷ more)) (way ≡ by.Name) (IsByContent seen Below way)

-- what decides that a name and a content have this type: the content, where it is asked before the globs; else the globs, where they
-- give one type; the content, where they give none; both; or neither
abbrev pub IsBy : PlainDatabase → List ℕ → Option (List ℕ) → Order → List ℕ → DecidedBy → Type 0
IsBy b name content order answer way =
    MatchOption (before_globs b content Little order)
    (IsByTypes (is_some content) (IsA (pairs_of b) answer (sniffed b content Little)) (asked_types b name content Little order) way)
    (λ _. way ≡ by.Content)

-- ---- lines

-- ` -> OTHER` where the alias step gives another type
abbrev pub alias_mark : Output → List (List ℕ × List ℕ) → List ℕ → List ℕ
alias_mark output aliases kind =
    if bytes_eq (resolved aliases kind) kind then [] else codes " -> " ++ written output (resolved aliases kind)

-- ` cs` behind a rule that is case-sensitive
abbrev pub cased_mark : Bool → List ℕ
cased_mark cased = if cased then codes " cs" else []

-- ` kept` behind a rule that is kept
abbrev pub kept_mark : Bool → List ℕ
kept_mark kept = if kept then codes " kept" else []

-- the line of a rule, which is kept or not
abbrev pub glob_line : Output → List (List ℕ × List ℕ) → Bool → GlobRule → List ℕ
glob_line output aliases kept rule =
    codes "  glob " ++ (decimal rule.weight ++ (codes " " ++ (written output rule.pattern ++ (codes " " ++ (written output rule.kind
    ++ (cased_mark rule.cased ++ (kept_mark kept ++ (alias_mark output aliases rule.kind ++ codes "\n"))))))))

-- the lines of rules that match, of which some are kept: of these, and of the others in their order; none where the content alone is asked
abbrev pub rule_lines : Output → List (List ℕ × List ℕ) → Order → List GlobRule → List GlobRule → List ℕ
rule_lines output aliases ContentOnly kept candidates = []
rule_lines output aliases order kept candidates =
    flat_map (glob_line output aliases true) kept ++ flat_map (glob_line output aliases false) (drop (length kept) candidates)

-- the lines of the rules that match a name: those that are kept come first of all
abbrev pub glob_lines : Output → PlainDatabase → Order → List ℕ → List ℕ
glob_lines output b order name = rule_lines output b.aliases order (kept_rules b.rules name) (candidate_rules b.rules name)

-- the first section that holds, if there is a content
abbrev pub section_in : PlainDatabase → Option (List ℕ) → Option (List ℕ × ℕ)
section_in b None = None
section_in b (Some content) = first_magic b.sections content Little

-- the line of the first section that holds, by its type and its priority; or of none, with the type by the bytes alone
abbrev pub section_line : Output → List (List ℕ × List ℕ) → Option (List ℕ × ℕ) → List ℕ → List ℕ
section_line output aliases None content = codes "  magic none " ++ (sniffed_by_bytes content ++ codes "\n")
section_line output aliases (Some section) content =
    codes "  magic " ++ (decimal section.1 ++ (codes " " ++ (written output section.0
    ++ (alias_mark output aliases section.0 ++ codes "\n"))))

-- the line of magic, none where no content is looked at
abbrev pub magic_line : Output → List (List ℕ × List ℕ) → Option (List ℕ × ℕ) → Option (List ℕ) → List ℕ
magic_line output aliases section None = []
magic_line output aliases section (Some content) = section_line output aliases section content

-- the line of what decided
abbrev pub by_line : DecidedBy → List ℕ
by_line by.Name = codes "  by name\n"
by_line by.Content = codes "  by content\n"
by_line by.Both = codes "  by both\n"
by_line by.Default = codes "  by default\n"

-- the lines of a file of this content, or whose name alone is asked, that has this type by this
abbrev pub explanation : Output → PlainDatabase → Order → Option (List ℕ) → List ℕ → List ℕ → DecidedBy → List ℕ
explanation output b order content file kind way =
    type_line output file kind []
    ++ (glob_lines output b order (name_for order file) ++ (magic_line output b.aliases (section_in b content) content ++ by_line way))

-- ---- runs

-- The lines of a file over a database.
pub record IsExplained (b : PlainDatabase) (output : Output) (order : Order) (content : Option (List ℕ)) (file : List ℕ) (run : Run) :
    Type 0 where
  pub kind : List ℕ
  pub way : DecidedBy
  -- The type is the one that the checking order gives to the name and the content.
  pub chosen : Chooses b (name_for order file) content Little order kind
  -- That decides it.
  pub decided : IsBy b (name_for order file) content order kind way
  -- The lines are of the rules that match the name, of the first section of magic that holds, and of what decides.
  pub is : run ≡ printed (explanation output b order content file kind way)

-- the file can't be read
abbrev pub IsUnreadable : Output → List ℕ → Run → Type 0
IsUnreadable output file run = run ≡ unanswered (cannot_read (written output file))

-- how FILEs are explained over a database: the content is read whether or not the globs suffice
abbrev pub explained_by : PlainDatabase → Bool → Output → Order → PlainLookup
explained_by b name_only output order = record {
  name_only = name_only;
  inode = false;
  free = [];
  output = output;
  name_of = name_for order;
  IsTyped = IsExplained b output order;
  IsUnread = IsUnreadable output;
  IsGuessed = λ file run. ((content : List ℕ) × IsExplained b output order (Some content) file run) ⊎ IsUnreadable output file run;
}

-- the run over files by a database, with these options
abbrev pub IsExplainedBack : (List ℕ → Stored) → Options → PlainDatabase → List (List ℕ) → Run → Type 0
IsExplainedBack stored options b =
    IsEach (IsTypeLine (explained_by b options.name_only options.output (asked_order options)) stored)

-- the run over a cache that opens: it is read back, and the lines are those over the database that it spells; or, with status 1, it
-- spells none, and the first part that is not read back is named
abbrev pub IsExplainedOrNot : (List ℕ → Stored) → Options → List ℕ → List ℕ → List (List ℕ) → Run → Type 0
IsExplainedOrNot stored options path cache files run =
    ((b : PlainDatabase) × IsReadBack cache b × IsExplainedBack stored options b files run)
    ⊎ ((part : Part) × IsNoDatabase cache part × (run ≡ unanswered (refusal path (no_database part))))

-- the run of `explain` over a cache that lies at this path
abbrev pub IsExplainOver : (List ℕ → Stored) → Options → List ℕ → List ℕ → List (List ℕ) → Run → Type 0
IsExplainOver stored options path cache files run =
    IsAnsweredOr path (RefusesToOpen cache) (IsExplainedOrNot stored options path cache files) run

-- the run of `explain`
abbrev pub IsExplain : (List ℕ → Stored) → Option PlainEnvironment → PlainSource → Options → List (List ℕ) → Run → Type 0
IsExplain stored environment source options = IsSourceCommand stored environment source (IsExplainOver stored options)
