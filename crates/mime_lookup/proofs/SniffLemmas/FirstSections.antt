-- The first section that holds, in the steps of a pass over sections.
use Rattle.std.proofs.Common.{◌≡◌, ℕ, ◌+◌, ◌<◌, ◌≤◌, true, false, cond, List, [], ◌∷◌, length, get_or, drop, None, Some, refl, ap, ◌∙◌}
use Rattle.std.proofs.lemmas.Bool.{cond-false, cond-true}
use Rattle.std.proofs.lemmas.List.{drop_all}
use Rattle.mime_base.specs.Magic.Holds.{first_magic, some_holds}
use Rattle.mime_base.specs.Magic.{PlainSection, forest_of, plain_matchlets, plain_section, plain_sections}
use Rattle.mime_base.specs.declared.magic.host.Host.{Host}
use Rattle.mime_base.specs.declared.magic.Section.{Section}
use Rattle.mime_lookup.proofs.AncestryLemmas.PairSteps.{items_from}

module _ (content : List ℕ) (host : Host) where
  -- the first section gives its type where one of its lines holds
  pub first_magic-section : (section : PlainSection) (sections : List PlainSection) →
      first_magic (section ∷ sections) content host
      ≡ cond (some_holds section.lines content host) (Some (section.kind, section.priority)) (first_magic sections content host)
  unfolding first_magic
  first_magic-section section sections = refl

  -- without sections there is none
  pub first_magic-nil : first_magic [] content host ≡ None
  unfolding first_magic
  first_magic-nil = refl

  module _ (sections : List Section) (i : ℕ) where
    first_magic-from : (section : Section) → i < length sections → section ≡ get_or sections i section →
        first_magic (plain_sections (drop i sections)) content host
        ≡ cond (some_holds (forest_of (plain_matchlets section.lines.items)) content host) (Some (section.kind, section.priority))
        (first_magic (plain_sections (drop (i + 1) sections)) content host)
    first_magic-from section within is =
        ap (λ ss. first_magic (plain_sections ss) content host) (items_from sections i section within is)
        ∙ first_magic-section (plain_section section) (plain_sections (drop (i + 1) sections))

    -- it holds
    pub first_magic-here : (section : Section) → i < length sections → section ≡ get_or sections i section →
        some_holds (forest_of (plain_matchlets section.lines.items)) content host ≡ true →
        first_magic (plain_sections (drop i sections)) content host ≡ Some (section.kind, section.priority)
    first_magic-here section within is holds = first_magic-from section within is ∙ cond-true _ _ _ holds

    -- it does not
    pub first_magic-past : (section : Section) → i < length sections → section ≡ get_or sections i section →
        some_holds (forest_of (plain_matchlets section.lines.items)) content host ≡ false →
        first_magic (plain_sections (drop i sections)) content host ≡ first_magic (plain_sections (drop (i + 1) sections)) content host
    first_magic-past section within is fails = first_magic-from section within is ∙ cond-false _ _ _ fails

    -- none is left
    pub first_magic-none : length sections ≤ i → first_magic (plain_sections (drop i sections)) content host ≡ None
    first_magic-none end = ap (λ ss. first_magic (plain_sections ss) content host) (drop_all i sections end) ∙ first_magic-nil
