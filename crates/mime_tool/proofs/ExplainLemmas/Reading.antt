-- What is seen of a front that is enough is seen of the whole content.
use Rattle.std.proofs.Common.{◌≡◌, ◌⊎◌, ◌∙◌, ℕ, ◌≤◌, true, List, [], ◌++◌, Option, Some, None, ap, append-nil, codes, inl, inr, length, refl, subst, sym}
use Rattle.mime_base.specs.Database.{PlainDatabase, pairs_of}
use Rattle.mime_base.specs.Database.Subclass.{IsA}
use Rattle.mime_base.specs.Magic.Extent.{extent}
use Rattle.mime_base.specs.Magic.Holds.{first_magic}
use Rattle.mime_base.specs.declared.magic.host.Host.TheVariants.{Little}
use Rattle.mime_base.proofs.MagicLemmas.Fronts.{first_magic-front}
use Rattle.mime_lookup.specs.CheckingOrder.{before_globs}
use Rattle.mime_lookup.specs.Choice.{kept}
use Rattle.mime_lookup.specs.Fronts.{IsEnoughFront}
use Rattle.mime_lookup.specs.declared.order.Order.{Order}
use Rattle.mime_lookup.specs.declared.order.Order.TheVariants.{AllGlobs, ContentOnly, GlobsFirst, MagicFirst}
use Rattle.mime_lookup.proofs.SniffLemmas.Front.{chooses_enough}
use Rattle.mime_lookup.proofs.SniffLemmas.Sniffs.{by_bytes-front, front_is_enough}
use Rattle.mime_request.specs.declared.request.Output.{Output}
use Rattle.mime_tool.specs.Explain.{IsBy, IsByTypes, IsExplained, by_line, explanation, glob_lines, section_line}
use Rattle.mime_tool.specs.Line.{name_for}
use Rattle.mime_tool.specs.Output.{type_line}
use Rattle.mime_tool.specs.Run.{Run, printed}
use Rattle.mime_tool.specs.declared.explain.decision.DecidedBy.{DecidedBy}

module _ (b : PlainDatabase) (front rest : List ℕ) (least : 128 ≤ length front) (long : extent b ≤ length front) where
  -- the first section that holds is the same
  same_section : first_magic b.sections (front ++ rest) Little ≡ first_magic b.sections front Little
  same_section = first_magic-front front rest b.sections Little long

  -- so is what decides
  by_front : (name kind : List ℕ) (order : Order) (way : DecidedBy) → IsBy b name (Some front) order kind way
      → IsBy b name (Some (front ++ rest)) order kind way
  unfolding before_globs
  by_front name kind GlobsFirst way is =
      subst (λ (base : List ℕ). IsByTypes true (IsA (pairs_of b) kind base) (kept (pairs_of b) b.rules name) way)
      (front_is_enough b front rest Little (inr (least, long))) is
  by_front name kind MagicFirst way is = rw (same_section, ← front_is_enough b front rest Little (inr (least, long))) is
  by_front name kind AllGlobs way is = rw (same_section, ← front_is_enough b front rest Little (inr (least, long))) is
  by_front name kind ContentOnly way is = is

  -- and the line of magic
  section_front : (output : Output) (section : Option (List ℕ × ℕ))
      → section_line output b.aliases section (front ++ rest) ≡ section_line output b.aliases section front
  section_front output None =
      ap (λ (kind : List ℕ). codes "  magic none " ++ (kind ++ codes "\n")) (by_bytes-front front rest least)
  section_front output (Some section) = refl

  -- so are all lines
  lines_front : (output : Output) (order : Order) (file kind : List ℕ) (way : DecidedBy)
      → explanation output b order (Some (front ++ rest)) file kind way ≡ explanation output b order (Some front) file kind way
  lines_front output order file kind way =
      ap (λ (line : List ℕ). type_line output file kind [] ++ (glob_lines output b order (name_for order file) ++ (line ++ by_line way)))
      (ap (λ section. section_line output b.aliases section (front ++ rest)) same_section
      ∙ section_front output (first_magic b.sections front Little))

module _ (b : PlainDatabase) (output : Output) (order : Order) (whole front file : List ℕ) (run : Run) where
  -- the whole is the front, where nothing comes after it
  all_read : (rest : List ℕ) → whole ≡ front ++ rest → rest ≡ [] → whole ≡ front
  all_read rest split none = split ∙ ap (λ (end : List ℕ). front ++ end) none ∙ append-nil front

  -- the lines of a front that is enough are those of the whole
  pub explained_whole : IsEnoughFront b whole front → IsExplained b output order (Some front) file run → IsExplained b output order (Some whole) file run
  explained_whole read is = go read.long
    where
      go : (read.rest ≡ []) ⊎ ((128 ≤ length front) × (extent b ≤ length front)) → IsExplained b output order (Some whole) file run
      go (inl none) = subst (λ (content : List ℕ). IsExplained b output order (Some content) file run) (sym (all_read read.rest read.split none)) is
      go (inr long) = record {
        kind = is.kind;
        way = is.way;
        chosen = chooses_enough b (name_for order file) Little is.kind order (Some whole) (Some front) read is.chosen;
        decided = subst (λ (content : List ℕ). IsBy b (name_for order file) (Some content) order is.kind is.way) (sym read.split)
            (by_front b front read.rest long.0 long.1 (name_for order file) is.kind order is.way is.decided);
        is = is.is ∙ ap printed (sym (ap (λ (content : List ℕ). explanation output b order (Some content) file is.kind is.way) read.split
            ∙ lines_front b front read.rest long.0 long.1 output order file is.kind is.way));
      }
