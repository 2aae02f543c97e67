-- From what a lookup over a cache answers to the line of a file.
use Rattle.std.proofs.Common.{◌≡◌, ℕ, Bool, true, false, IfSome, List, [], ap, inl, inr, length, subst}
use Rattle.std.proofs.Common.{Option, Some, None}
use Rattle.std.specs.Bool.{⊤}
use Rattle.std.specs.Option.{option_map}
use Rattle.mime_base.specs.Database.{PlainDatabase}
use Rattle.mime_base.specs.Database.Limits.{IsWithinLimits}
use Rattle.mime_base.specs.Format.Spells.{Spells}
use Rattle.mime_base.specs.declared.magic.host.Host.TheVariants.{Little}
use Rattle.mime_base.specs.declared.meter.Meter.{Meter}
use Rattle.mime_lookup.specs.Bounds.{KeepsBounds}
use Rattle.mime_lookup.specs.Cached.{IsKind}
use Rattle.mime_lookup.specs.CheckingOrder.{Chooses, globs_suffice, read_of}
use Rattle.mime_lookup.specs.Content.{Health, OfReader, broken, known_content}
use Rattle.mime_lookup.specs.declared.order.Order.{Order}
use Rattle.mime_tool.specs.Files.{IsReaderOf, Stored, bytes, closed, dangling, folder, nothing, special, unknown, unreadable}
use Rattle.mime_tool.specs.Line.{IsOpenedRun, IsTypeLineBy, fits, name_for}
use Rattle.mime_tool.specs.LineSteps.{IsContent}
use Rattle.mime_request.specs.declared.request.Output.{Output}
use Rattle.mime_tool.specs.Output.{type_line, written}
use Rattle.mime_tool.specs.Run.{printed}
use Rattle.mime_tool.specs.Types.{IsChosen, IsChosenByGlobs, IsLookUpLine, cost_tail, lookup_by}
use Rattle.mime_tool.proofs.AnswerLemmas.CachedStops.{named}

-- what is known of a content that a reader tells
known : (P : Option (List ℕ) → Type 0) (told : Option (List ℕ)) (bs : List ℕ) → told ≡ Some bs
    → IfSome (option_map (λ (b : List ℕ). Some b) told) P → P (Some bs)
known P told bs is p = subst (λ (o : Option (List ℕ)). IfSome (option_map (λ (b : List ℕ). Some b) o) P) is p

-- two facts of a known content
both : (o : Option (Option (List ℕ))) (P Q : Option (List ℕ) → Type 0) → IfSome o P → IfSome o Q → IfSome o (λ it. P it × Q it)
both None P Q p q = tt
both (Some it) P Q p q = (p, q)

module _ {R : Type 0} (remaining : R → Option (List ℕ)) (health : R → Health) (path cache : List ℕ) (cost : Bool) (output : Output)
    (order : Order) (file : List ℕ) where
  -- what a lookup says of each database that the cache spells
  abbrev OfSpelled : (PlainDatabase → Type 0) → Type 0
  OfSpelled Says = (b : PlainDatabase) → IsWithinLimits b → Spells cache b → Says b

  -- the line of a type
  line : (IsSaid : PlainDatabase → List ℕ → ℕ → Type 0) (kind : List ℕ) (meter : Meter) (read : ℕ) (tail : List ℕ)
      → tail ≡ cost_tail cost meter read → IsKind cache kind → KeepsBounds (length (name_for order file)) cache read meter
      → OfSpelled (λ b. IsSaid b kind read) → IsLookUpLine cache cost output order file IsSaid (printed (type_line output file kind tail))
  line IsSaid kind meter read tail told is_kind bounds says = record {
    kind = kind;
    meter = meter;
    read = read;
    is_kind = is_kind;
    bounds = bounds;
    spelled = says;
    is = ap (λ (t : List ℕ). printed (type_line output file kind t)) told;
  }

  -- what a reader that stays was asked
  of_reader : (P : R → Type 0) (before : R) (after : Option R) → OfReader (λ old _. P old) ⊤ (Some before) after → P before
  of_reader P before None p = absurd p
  of_reader P before (Some later) p = p

  -- an answer is the line of a file that was opened
  opened : (name_only : Bool) (stored : Stored) (reader : R) (kind : List ℕ) (meter : Meter) (read : ℕ) (tail : List ℕ)
      → tail ≡ cost_tail cost meter read → fits (name_for order file) ≡ true → IsKind cache kind
      → KeepsBounds (length (name_for order file)) cache read meter
      → OfSpelled (λ b. IfSome (known_content remaining (Some reader)) (λ it. IsChosen it order file b kind read))
      → OfSpelled (λ b. health reader ≡ broken → globs_suffice b (name_for order file) order ≡ true)
      → IsReaderOf remaining health stored reader
      → IsOpenedRun (lookup_by path name_only cost output order cache) stored file (printed (type_line output file kind tail))
  opened name_only nothing reader kind meter read tail told fit is_kind bounds chosen asked has = absurd has
  opened name_only folder reader kind meter read tail told fit is_kind bounds chosen asked has = absurd has
  opened name_only closed reader kind meter read tail told fit is_kind bounds chosen asked has = absurd has
  opened name_only dangling reader kind meter read tail told fit is_kind bounds chosen asked has = absurd has
  opened name_only (special special_kind) reader kind meter read tail told fit is_kind bounds chosen asked has = absurd has
  opened name_only unreadable reader kind meter read tail told fit is_kind bounds chosen asked has =
      named (fits (name_for order file)) (written output file) _ _ fit (inl (inl (line (IsChosenByGlobs order file) kind meter read tail told is_kind bounds
      (λ b limits spells. (
        asked b limits spells has.1,
        known (λ it. IsChosen it order file b kind read) (remaining reader) [] has.0 (chosen b limits spells),
      )))))
  opened name_only (bytes bs) reader kind meter read tail told fit is_kind bounds chosen asked has =
      named (fits (name_for order file)) (written output file) _ _ fit (inl (line (IsChosen (Some bs) order file) kind meter read tail told is_kind bounds
      (λ b limits spells. known (λ it. IsChosen it order file b kind read) (remaining reader) bs has.0 (chosen b limits spells))))
  opened name_only unknown reader kind meter read tail told fit is_kind bounds chosen asked has =
      inr (inr (named (fits (name_for order file)) (written output file) _ _ fit (inl (inl (line (λ _ _ _. ⊤) kind meter read tail told is_kind bounds
      (λ b limits spells. tt))))))

  -- an answer is the line of a file
  pub line_found : (content after : Option R) (kind : List ℕ) (meter : Meter) (read : ℕ) (tail : List ℕ)
      → tail ≡ cost_tail cost meter read
      → fits (name_for order file) ≡ true → IsKind cache kind → KeepsBounds (length (name_for order file)) cache read meter
      → OfSpelled (λ b. IfSome (known_content remaining content) (λ it. Chooses b (name_for order file) it Little order kind))
      → OfSpelled (λ b. IfSome (known_content remaining content) (λ it. read ≡ read_of b (name_for order file) it order))
      → OfSpelled (λ b. OfReader (λ before _. health before ≡ broken → globs_suffice b (name_for order file) order ≡ true) ⊤ content
      after)
      → (stored : Stored) (name_only : Bool) → IsContent remaining health name_only stored content
      → IsTypeLineBy name_only (lookup_by path name_only cost output order cache) stored file (printed (type_line output file kind tail))
  line_found None after kind meter read tail told fit is_kind bounds chosen reads asked stored true has =
      named (fits (name_for order file)) (written output file) _ _ fit (inl (line (IsChosen None order file) kind meter read tail told is_kind bounds
      (λ b limits spells. (chosen b limits spells, reads b limits spells))))
  line_found (Some reader) after kind meter read tail told fit is_kind bounds chosen reads asked stored true has = absurd has
  line_found None after kind meter read tail told fit is_kind bounds chosen reads asked stored false has = absurd has
  line_found (Some reader) after kind meter read tail told fit is_kind bounds chosen reads asked stored false has =
      opened false stored reader kind meter read tail told fit is_kind bounds
      (λ b limits spells. both (known_content remaining (Some reader)) _ _ (chosen b limits spells) (reads b limits spells))
      (λ b limits spells. of_reader (λ before. health before ≡ broken → globs_suffice b (name_for order file) order ≡ true) reader
      after
      (asked b limits spells)) has
