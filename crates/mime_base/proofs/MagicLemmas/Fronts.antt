-- What holds for a content and for a front of it that is long enough.
use Rattle.std.proofs.Common.{◌≡◌, ℕ, zero, suc, ◌+◌, ◌≤◌, ◌&&◌, ◌||◌, not, List, [], ◌∷◌, ◌++◌}
use Rattle.std.proofs.Common.{length, take, drop, Some, refl, sym, ap, ◌∙◌, arith, cond}
use Rattle.std.proofs.lemmas.Bool.{le-leb}
use Rattle.std.proofs.lemmas.List.{drop-append-le, length-append, length-drop, take-append-le}
use Rattle.std.specs.List.{list_any}
use Rattle.mime_base.specs.Magic.Extent.{forest_extent, sections_extent}
use Rattle.mime_base.specs.Magic.Holds.{bytes_of_mask, equals_at, equals_from, first_magic, is_bare, some_holds}
use Rattle.mime_base.specs.Magic.{Forest, PlainLine, PlainSection, bare, line}
use Rattle.mime_base.specs.Magic.Masking.{window_equals}
use Rattle.mime_base.specs.Magic.Textual.{is_control, looks_textual}
use Rattle.mime_base.specs.declared.magic.host.Host.{Host}

module _ (front rest : List ℕ) where
  -- a window that lies in the front
  window-front : (at size : ℕ) → at + size ≤ length front → take size (drop at (front ++ rest)) ≡ take size (drop at front)
  window-front at size within =
      let place : at ≤ length front = omega arith in
      let room : size ≤ length (drop at front) = omega (arith, length-drop at front) in
      ap (take size) (drop-append-le at front rest place) ∙ take-append-le size (drop at front) rest room

  -- a place within the front is compared by the front alone
  equals_at-front : (own : PlainLine) (host : Host) (at : ℕ) → at + length own.value ≤ length front →
      equals_at own host (front ++ rest) at ≡ equals_at own host front at
  equals_at-front own host at within =
      let all : at + length own.value ≤ length (front ++ rest) = omega (arith, length-append front rest) in
      ap (λ b. b && window_equals own.value (bytes_of_mask own.mask) own.word host (take (length own.value) (drop at (front ++ rest))))
      (le-leb (at + length own.value) (length (front ++ rest)) all)
      ∙ ap (λ window. window_equals own.value (bytes_of_mask own.mask) own.word host window) (window-front at (length own.value) within)
      ∙ sym (ap (λ b. b && window_equals own.value (bytes_of_mask own.mask) own.word host (take (length own.value) (drop at front)))
      (le-leb (at + length own.value) (length front) within))

  -- so are all places of a range within it
  equals_from-front : (own : PlainLine) (host : Host) (at range : ℕ) → at + range + length own.value ≤ length front →
      equals_from own host (front ++ rest) at range ≡ equals_from own host front at range
  unfolding equals_from
  equals_from-front own host at zero within = refl
  equals_from-front own host at (suc range) within =
      let here : at + length own.value ≤ length front = omega arith in
      let later : suc at + range + length own.value ≤ length front = omega arith in
      ap (λ b. b || equals_from own host (front ++ rest) (suc at) range) (equals_at-front own host at here)
      ∙ ap (λ b. equals_at own host front at || b) (equals_from-front own host (suc at) range later)

  -- lines whose extent lies in the front
  some_holds-front : (forest : Forest) (host : Host) → forest_extent forest ≤ length front →
      some_holds forest (front ++ rest) host ≡ some_holds forest front host
  unfolding some_holds
  some_holds-front bare host within = refl
  some_holds-front (line own children more) host within =
      let own_within : own.start + own.range + length own.value ≤ length front = omega arith in
      let children_within : forest_extent children ≤ length front = omega arith in
      let more_within : forest_extent more ≤ length front = omega arith in
      ap (λ b. (b && (is_bare children || some_holds children (front ++ rest) host)) || some_holds more (front ++ rest) host)
      (equals_from-front own host own.start own.range own_within)
      ∙ ap (λ b. (equals_from own host front own.start own.range && (is_bare children || b)) || some_holds more (front ++ rest) host)
      (some_holds-front children host children_within)
      ∙ ap (λ b. (equals_from own host front own.start own.range && (is_bare children || some_holds children front host)) || b)
      (some_holds-front more host more_within)

  -- sections whose extent does
  pub first_magic-front : (sections : List PlainSection) (host : Host) → sections_extent sections ≤ length front →
      first_magic sections (front ++ rest) host ≡ first_magic sections front host
  unfolding first_magic
  first_magic-front [] host within = refl
  first_magic-front (section ∷ sections) host within =
      let here : forest_extent section.lines ≤ length front = omega arith in
      let later : sections_extent sections ≤ length front = omega arith in
      ap (λ b. cond b (Some (section.kind, section.priority)) (first_magic sections (front ++ rest) host))
      (some_holds-front section.lines host here)
      ∙ ap (λ more. cond (some_holds section.lines front host) (Some (section.kind, section.priority)) more)
      (first_magic-front sections host later)

  -- the test of the first bytes
  pub looks_textual-front : 128 ≤ length front → looks_textual (front ++ rest) ≡ looks_textual front
  unfolding looks_textual
  looks_textual-front within = ap (λ bytes. not (list_any is_control bytes)) (take-append-le 128 front rest within)
