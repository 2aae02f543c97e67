-- Over the visible rules of a database the checking order says what it says over all.
use Rattle.std.proofs.Common.{◌≡◌, ℕ, List, Option, Some, None, ap, ap₂, ◌∙◌, cond, map, refl, subst, sym}
use Rattle.std.specs.Prelude.{◌≢◌, MatchOption}
use Rattle.mime_base.specs.Database.{PlainDatabase, pairs_of}
use Rattle.mime_base.specs.Database.Subclass.{resolved}
use Rattle.mime_base.specs.Kept.Hidden.{visible}
use Rattle.mime_base.specs.declared.database.rule.GlobRule.{GlobRule}
use Rattle.mime_base.specs.declared.magic.host.Host.{Host}
use Rattle.mime_base.proofs.KeptLemmas.Hidden.{kept_rules-visible}
use Rattle.mime_lookup.specs.CheckingOrder.{Chooses, are_one_type, asked_types, before_globs, front_size, globs_suffice, read_limit, read_of}
use Rattle.mime_lookup.specs.Choice.{ChoosesAmong, kept}
use Rattle.mime_lookup.specs.Sniffing.{sniffed}
use Rattle.mime_lookup.specs.declared.order.Order.{Order}
use Rattle.mime_lookup.specs.declared.order.Order.TheVariants.{AllGlobs, ContentOnly, GlobsFirst, MagicFirst}
use Rattle.mime_text.specs.Merging.{visible_database}
use Rattle.mime_tool.specs.FromTexts.{VisibleChoosesAlike, VisibleReadsAlike, VisibleSufficesAlike}

-- the same types are kept
kept-visible : (b : PlainDatabase) (name : List ℕ) → kept (pairs_of b) (visible b.rules) name ≡ kept (pairs_of b) b.rules name
unfolding kept
kept-visible b name = ap (map (λ (rule : GlobRule). resolved b.aliases rule.kind)) (kept_rules-visible b.rules name)

-- a content is sniffed alike
sniffed-visible : (b : PlainDatabase) (content : Option (List ℕ)) (host : Host)
    → sniffed (visible_database b) content host ≡ sniffed b content host
unfolding sniffed
sniffed-visible b None host = refl
sniffed-visible b (Some content) host = refl

-- content says the same before the globs
before_globs-visible : (b : PlainDatabase) (content : Option (List ℕ)) (host : Host) (order : Order)
    → before_globs (visible_database b) content host order ≡ before_globs b content host order
unfolding before_globs
before_globs-visible b content host GlobsFirst = refl
before_globs-visible b None host MagicFirst = refl
before_globs-visible b (Some content) host MagicFirst = refl
before_globs-visible b content host AllGlobs = refl
before_globs-visible b content host ContentOnly = ap (λ (kind : List ℕ). Some kind) (sniffed-visible b content host)

-- the same types are asked
asked_types-visible : (b : PlainDatabase) (name : List ℕ) (content : Option (List ℕ)) (host : Host) (order : Order) → order ≢ AllGlobs
    → asked_types (visible_database b) name content host order ≡ asked_types b name content host order
asked_types-visible b name content host GlobsFirst other = kept-visible b name
asked_types-visible b name content host MagicFirst other = kept-visible b name
asked_types-visible b name content host AllGlobs other = absurd (other refl)
asked_types-visible b name content host ContentOnly other = kept-visible b name

-- the types that are chosen, by what magic says first, the types that are asked and what is sniffed
abbrev Choice : PlainDatabase → List ℕ → Option (List ℕ) → List (List ℕ) → List ℕ → Type 0
Choice b answer first kinds base = MatchOption first (ChoosesAmong (pairs_of b) kinds base answer) (λ kind. answer ≡ kind)

-- the same type is chosen
same_choice : (b : PlainDatabase) (name : List ℕ) (content : Option (List ℕ)) (host : Host) (order : Order) (kind : List ℕ)
    → order ≢ AllGlobs → Chooses (visible_database b) name content host order kind ≡ Chooses b name content host order kind
unfolding Chooses
same_choice b name content host order kind other =
    ap (λ first. Choice b kind first (asked_types (visible_database b) name content host order) (sniffed (visible_database b) content host))
    (before_globs-visible b content host order)
    ∙ ap₂ (Choice b kind (before_globs b content host order)) (asked_types-visible b name content host order other)
    (sniffed-visible b content host)

-- it is chosen over both or over neither
pub chooses_alike : VisibleChoosesAlike
chooses_alike b name content host order kind other =
    let same = same_choice b name content host order kind other in (subst (λ t. t) same, subst (λ t. t) (sym same))

-- the globs alone decide over both or over neither
pub suffices_alike : VisibleSufficesAlike
unfolding globs_suffice
suffices_alike b name GlobsFirst other = ap are_one_type (kept-visible b name)
suffices_alike b name MagicFirst other = refl
suffices_alike b name AllGlobs other = absurd (other refl)
suffices_alike b name ContentOnly other = refl

-- as much is read of a content
front_size-visible : (b : PlainDatabase) (content : Option (List ℕ)) → front_size (visible_database b) content ≡ front_size b content
unfolding read_limit
front_size-visible b None = refl
front_size-visible b (Some content) = refl

-- as much is read
pub reads_alike : VisibleReadsAlike
unfolding read_of
reads_alike b name content order other =
    ap₂ (λ decide size. cond decide 0 size) (suffices_alike b name order other) (front_size-visible b content)
