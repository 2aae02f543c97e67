-- A front that is as long as a lookup reads is sniffed as the whole content that it was taken of.
use Rattle.std.proofs.Common.{◌≡◌, ◌∙◌, ◌⊎◌, ℕ, ◌≤◌, List, [], ◌++◌, Option, Some, length, take, drop, inl, inr, ⊎_elim, ap, sym, arith, append-nil}
use Rattle.std.proofs.lemmas.Bool.{cases_lt}
use Rattle.std.proofs.lemmas.List.{drop_all, length-take-le, take-append-drop}
use Rattle.std.specs.Option.{option_map}
use Rattle.mime_base.proofs.MagicLemmas.Fronts.{first_magic-front}
use Rattle.mime_base.specs.Database.{PlainDatabase}
use Rattle.mime_base.specs.Magic.Extent.{extent}
use Rattle.mime_base.specs.Magic.Holds.{first_magic}
use Rattle.mime_base.specs.declared.magic.host.Host.{Host}
use Rattle.mime_lookup.specs.CheckingOrder.{read_limit}
use Rattle.mime_lookup.specs.ContentAlone.{IsSniffedAs, first_priority}
use Rattle.mime_lookup.specs.Sniffing.{sniffed}
use Rattle.mime_lookup.proofs.SniffLemmas.Sniffs.{front_is_enough}

module _ (b : PlainDatabase) (host : Host) (content : List ℕ) (limit : ℕ) (is : limit ≡ read_limit b) where
  -- nothing is left, or the front is as long as magic and the test for text can look
  long : (drop limit content ≡ []) ⊎ ((128 ≤ length (take limit content)) × (extent b ≤ length (take limit content)))
  unfolding read_limit
  long =
      ⊎_elim
      (λ shorter. let size = length-take-le limit content (omega arith) in inr (omega (arith, is, size), omega (arith, is, size)))
      (λ whole. inl (drop_all limit content whole))
      (cases_lt limit (length content))

  -- the same section holds for both
  section_by : (drop limit content ≡ []) ⊎ ((128 ≤ length (take limit content)) × (extent b ≤ length (take limit content))) →
      first_magic b.sections (take limit content ++ drop limit content) host ≡ first_magic b.sections (take limit content) host
  section_by (inl none) = ap (λ rest. first_magic b.sections (take limit content ++ rest) host) none
      ∙ ap (λ bytes. first_magic b.sections bytes host) (append-nil (take limit content))
  section_by (inr full) = first_magic-front (take limit content) (drop limit content) b.sections host full.1

  -- so it has the same priority
  priority_taken : first_priority b (take limit content) host ≡ first_priority b content host
  priority_taken = ap (option_map (λ (section : List ℕ × ℕ). section.1))
      (sym (section_by long) ∙ ap (λ bytes. first_magic b.sections bytes host) (take-append-drop limit content))

  -- what the front is sniffed as, so is the content
  pub taken_front : (kind : List ℕ) (priority : Option ℕ) → IsSniffedAs b (take limit content) host kind priority →
      IsSniffedAs b content host kind priority
  taken_front kind priority sniffs = (
    sniffs.0 ∙ front_is_enough b (take limit content) (drop limit content) host long
        ∙ ap (λ bytes. sniffed b (Some bytes) host) (take-append-drop limit content),
    sniffs.1 ∙ priority_taken,
  )
