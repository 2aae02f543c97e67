-- From what is seen of a name and a content to the type that the order gives, and what decides it.
use Rattle.std.proofs.Common.{◌≡◌, ◌∙◌, ℕ, Bool, true, false, cond, List, [], ◌∷◌, IfOk, Ok, Err, Option, Result, Some, None, ap, inl, inr, is_some}
use Rattle.std.proofs.Common.{option_map, refl, subst, sym}
use Rattle.std.proofs.lemmas.Bool.{true≢false}
use Rattle.std.specs.List.{list_all}
use Rattle.std.specs.Prelude.{bytes_eq}
use denote.Bor.{Bor}
use Rattle.mime_base.specs.Database.{PlainDatabase, pairs_of}
use Rattle.mime_base.specs.Database.Subclass.{IsA, Pairs}
use Rattle.mime_base.specs.declared.magic.host.Host.TheVariants.{Little}
use Rattle.mime_lookup.specs.CheckingOrder.{Chooses, asked_types, before_globs, has_magic, is_section, of_high_priority}
use Rattle.mime_lookup.specs.Choice.{ChoosesAmong, IsFirst}
use Rattle.mime_lookup.specs.Sniffing.{sniffed, sniffed_by_magic}
use Rattle.mime_lookup.specs.declared.order.Order.{Order}
use Rattle.mime_lookup.specs.declared.order.Order.TheVariants.{AllGlobs, ContentOnly, GlobsFirst, MagicFirst}
use Rattle.mime_tool.specs.Explain.{IsByTypes, section_in}
use Rattle.mime_tool.specs.ExplainSteps.{IsDecision, IsFirstBelow, IsSeen, is_content_first, is_every, kinds_of, preferred}
use Rattle.mime_tool.specs.declared.explain.decision.DecidedBy.TheVariants as by
use Rattle.mime_tool.specs.declared.explain.decision.Decision.{Decision}
use Rattle.mime_tool.specs.declared.explain.decision.Seen.{Seen}

-- a section of high priority gives the type that the content is sniffed as
high_section : (b : PlainDatabase) (section : Option (List ℕ × ℕ)) (content kind : List ℕ) → kind ≡ sniffed_by_magic b section content
    → of_high_priority b section
    ≡ cond (is_content_first MagicFirst (option_map (λ s. s.1) section)) (Some kind) None
high_section b None content kind is = refl
high_section b (Some section) content kind is = rw is refl

module _ (b : PlainDatabase) (name : List ℕ) (content : Option (List ℕ)) (seen : Seen) (is : IsSeen b name content seen) where
  -- the content is asked before the globs just where its priority says so
  content_first : (order : Order) → before_globs b content Little order
      ≡ cond (is_content_first order seen.priority) (Some seen.sniffed.now) None
  unfolding before_globs sniffed
  content_first GlobsFirst = refl
  content_first AllGlobs = refl
  content_first ContentOnly = ap Some (sym is.sniffed)
  content_first MagicFirst = rw is.priority (go content is.sniffed)
    where
      go : (content : Option (List ℕ)) → seen.sniffed.now ≡ sniffed b content Little
          → before_globs b content Little MagicFirst
          ≡ cond (is_content_first MagicFirst (option_map (λ s. s.1) (section_in b content))) (Some seen.sniffed.now) None
      go None same = refl
      go (Some whole) same = high_section b (section_in b (Some whole)) whole seen.sniffed.now same

  -- where the content is asked first it decides
  pub first_decides : (order : Order) → is_content_first order seen.priority ≡ true
      → IsDecision b name content order (record { kind = seen.sniffed; by = by.Content })
  unfolding Chooses
  first_decides order first =
      let before : before_globs b content Little order ≡ Some seen.sniffed.now = content_first order ∙ rw first refl in
      (rw before refl, rw before refl)

  -- where it is not, the types of the globs decide
  types_decide : (order : Order) (decision : Decision) → is_content_first order seen.priority ≡ false
      → ChoosesAmong (pairs_of b) (asked_types b name content Little order) seen.sniffed.now decision.kind.now
      → IsByTypes seen.is_read (IsA (pairs_of b) decision.kind.now seen.sniffed.now) (asked_types b name content Little order) decision.by
      → IsDecision b name content order decision
  unfolding Chooses
  types_decide order decision later chosen decided =
      let before : before_globs b content Little order ≡ None = content_first order ∙ rw later refl in
      (rw (before, ← is.sniffed) chosen, rw (before, ← is.sniffed, ← is.is_read) decided)

  -- a section holds just where there is a priority
  has_section : has_magic b content Little ≡ is_some seen.priority
  has_section = rw is.priority (go content)
    where
      by_section : (section : Option (List ℕ × ℕ)) → is_section section ≡ is_some (option_map (λ s. s.1) section)
      by_section None = refl
      by_section (Some section) = refl

      go : (content : Option (List ℕ)) → has_magic b content Little ≡ is_some (option_map (λ s. s.1) (section_in b content))
      go None = refl
      go (Some whole) = by_section (section_in b (Some whole))

  -- the types that are asked, by whether a section holds
  asked_seen : (order : Order) → asked_types b name content Little order
      ≡ cond (is_every order (is_some seen.priority)) (kinds_of seen.candidates.now) (kinds_of seen.kept.now)
  asked_seen GlobsFirst = sym is.kept
  asked_seen MagicFirst = sym is.kept
  asked_seen ContentOnly = sym is.kept
  asked_seen AllGlobs = rw (has_section, is.kept, is.candidates) refl

  -- the types that are asked are those that the order asks
  asked_are : (order : Order) (kinds : List (Bor (List ℕ))) → kinds ≡ cond (is_every order (is_some seen.priority)) seen.candidates.now seen.kept.now
      → kinds_of kinds ≡ asked_types b name content Little order
  asked_are order kinds asked = ap kinds_of asked ∙ by_cases (is_every order (is_some seen.priority)) ∙ sym (asked_seen order)
    where
      by_cases : (every : Bool) → kinds_of (cond every seen.candidates.now seen.kept.now)
          ≡ cond every (kinds_of seen.candidates.now) (kinds_of seen.kept.now)
      by_cases true = refl
      by_cases false = refl

  -- so what is chosen among them is the decision
  pub kinds_decide : {E : Type 0} (order : Order) (kinds : List (Bor (List ℕ))) (result : Result Decision E) → is_content_first order seen.priority ≡ false
      → kinds ≡ cond (is_every order (is_some seen.priority)) seen.candidates.now seen.kept.now
      → IfOk result (λ decision. ChoosesAmong (pairs_of b) (kinds_of kinds) seen.sniffed.now decision.kind.now)
      → IfOk result (λ decision. IsByTypes seen.is_read (IsA (pairs_of b) decision.kind.now seen.sniffed.now) (kinds_of kinds) decision.by)
      → IfOk result (IsDecision b name content order)
  kinds_decide order kinds (Err e) later asked chosen decided = tt
  kinds_decide order kinds (Ok decision) later asked chosen decided =
      types_decide order decision later
      (subst (λ (all : List (List ℕ)). ChoosesAmong (pairs_of b) all seen.sniffed.now decision.kind.now) (asked_are order kinds asked) chosen)
      (subst (λ (all : List (List ℕ)). IsByTypes seen.is_read (IsA (pairs_of b) decision.kind.now seen.sniffed.now) all decision.by)
      (asked_are order kinds asked) decided)

-- ---- types of which one may be below what was sniffed

module _ (pairs : Pairs) (base : List ℕ) where
  -- what was found, else a default
  abbrev found_or : Option (List ℕ) → List ℕ → List ℕ
  found_or None default = default
  found_or (Some kind) default = kind

  -- the first that is below, else the default
  first_below : (default : List ℕ) (kinds : List (List ℕ)) (found : Option (List ℕ)) → IsFirstBelow pairs base kinds found
      → IsFirst pairs base default kinds (found_or found default)
  first_below default [] found is = rw is refl
  first_below default (kind ∷ kinds) found (inl here) = inl (here.0, rw here.1 refl)
  first_below default (kind ∷ kinds) found (inr later) = inr (later.0, first_below default kinds found later.1)

  -- what was found is below
  found_below : (kinds : List (List ℕ)) (kind : List ℕ) → IsFirstBelow pairs base kinds (Some kind) → IsA pairs kind base
  found_below [] kind is = absurd (cc)
  found_below (other ∷ kinds) kind (inl here) = let same : kind ≡ other = cc in subst (λ (k : List ℕ). IsA pairs k base) (sym same) here.0
  found_below (other ∷ kinds) kind (inr later) = found_below kinds kind later.1

  -- where none was found the first is not below
  none_below : (first : List ℕ) (more : List (List ℕ)) → IsFirstBelow pairs base (first ∷ more) None → IsA pairs first base → ⊥
  none_below first more (inl here) is_a = absurd (cc)
  none_below first more (inr later) is_a = later.0 is_a

  -- of types that differ, the one that was found is chosen, or the first
  pub chooses_preferred : (first : Bor (List ℕ)) (more : List (List ℕ)) (is_read : Bool) (found : Option (Bor (List ℕ)))
      → list_all (bytes_eq first.now) more ≡ false
      → IsFirstBelow pairs base (first.now ∷ more) (option_map (λ kind. kind.now) found)
      → ChoosesAmong pairs (first.now ∷ more) base (preferred found first is_read).kind.now
  chooses_preferred first more is_read None differ is =
      rw differ (first_below first.now (first.now ∷ more) None is)
  chooses_preferred first more is_read (Some kind) differ is =
      rw differ (first_below first.now (first.now ∷ more) (Some kind.now) is)

  -- and that decides
  pub by_preferred : (first : Bor (List ℕ)) (more : List (List ℕ)) (is_read : Bool) (found : Option (Bor (List ℕ)))
      → list_all (bytes_eq first.now) more ≡ false
      → IsFirstBelow pairs base (first.now ∷ more) (option_map (λ kind. kind.now) found)
      → IsByTypes is_read (IsA pairs (preferred found first is_read).kind.now base) (first.now ∷ more) (preferred found first is_read).by
  by_preferred first more is_read None differ is = rw differ (inr (λ _ is_a. none_below first.now more is is_a, refl))
  by_preferred first more true (Some kind) differ is =
      rw differ (inl (refl, found_below (first.now ∷ more) kind.now is, refl))
  by_preferred first more false (Some kind) differ is = rw differ (inr (λ read _. true≢false (sym read), refl))
