-- Lines of magic: what stands stays, the room that they take, and their records.
use Rattle.std.proofs.Common.{◌≡◌, ℕ, ◌+◌, ◌*◌, max, List, [], ◌∷◌, length, map}
use Rattle.std.proofs.Common.{sum_by, Option, Some, None, refl, sym, ap, subst, ◌∙◌, arith}
use Rattle.std.proofs.lemmas.List.{length-map}
use Rattle.std.proofs.lemmas.List.Sums.{sum_by-cons}
use Rattle.mime_base.specs.Format.Magic.{IsSectionRecord, LinesAt, MaskAt, width}
use Rattle.mime_base.specs.Format.Records.{CardsAt, RecordsAt, Standing}
use Rattle.mime_base.specs.Format.Room.{lines_room, mask_room, padded}
use Rattle.mime_base.specs.Magic.Extent.{forest_extent}
use Rattle.mime_base.specs.Magic.{Forest, PlainMatchlet, bare, forest_of, line, line_from, mask_bytes, plain_matchlet}
use Rattle.mime_base.specs.Magic.{plain_matchlet_over, plain_matchlets}
use Rattle.mime_base.specs.declared.magic.matchlet.Matchlet.{Matchlet}
use Rattle.mime_base.specs.declared.magic.matchlet.Matchlet.TheFolds.{fold_out-Matchlet}
use Rattle.mime_base.specs.declared.magic.matchlet.Matchlet.TheViews.{out-Matchlet}
use Rattle.mime_store.specs.Lines.{IsLineRecord, matchlet_extent, matchlet_parts_room}
use Rattle.mime_store.specs.Lists.{IsRow}
use Rattle.mime_store.specs.Written.{Grew, Written}
use Rattle.mime_store.proofs.ListLemmas.Entries.{cards_carry, text_carry}
use Rattle.mime_store.proofs.ListLemmas.Gather.{Keeps, row_is}
use Rattle.mime_store.proofs.BytesLemmas.Written.{Carries, written_more}

-- a mask that stands stays as more is written
pub mask_carry : (S S' : Standing) → Carries S S' → (at : ℕ) (mask : Option (List ℕ)) → MaskAt S at mask → MaskAt S' at mask
mask_carry S S' f at None h = h
mask_carry S S' f at (Some mask) h = (h.0, f at mask h.1)

-- lines that stand stay as more is written
pub lines_carry : (S S' : Standing) → Carries S S' → (at : ℕ) (lines : Forest) → LinesAt S at lines → LinesAt S' at lines
lines_carry S S' f at bare h = tt
lines_carry S S' f at (line own children rest) h = (
  h.0,
  h.1,
  h.2,
  cards_carry S S' f at _ h.3,
  f h.0 own.value h.4,
  mask_carry S S' f h.1 own.mask h.5,
  lines_carry S S' f h.2 children h.6,
  lines_carry S S' f (at + 32) rest h.7,
)

-- a line's record stays one as more is written
pub line_keeps : Keeps IsLineRecord
line_keeps S S' f m row h = (
  h.0,
  h.1,
  h.2,
  h.3,
  f h.0 m.own.value h.4,
  mask_carry S S' f h.1 m.own.mask h.5,
  lines_carry S S' f h.2 m.children h.6,
)

-- a section's record stays one as more is written
pub section_keeps : Keeps IsSectionRecord
section_keeps S S' f section row h = (h.0, h.1, h.2, text_carry S S' f h.0 section.kind h.3, lines_carry S S' f h.1 section.lines h.4)

-- records of lines are a forest
pub lines_from_records : (S : Standing) (at : ℕ) (ms : List PlainMatchlet) → RecordsAt S 32 (IsLineRecord S) at ms
    → LinesAt S at (forest_of ms)
lines_from_records S at [] h = tt
lines_from_records S at (m ∷ ms) h =
    let is = h.2 in
    (is.0, is.1, is.2, subst (CardsAt S at) is.3 h.1, is.4, is.5, is.6, lines_from_records S (at + 32) ms h.3)

-- a forest is as wide as its lines are many
pub width-forest_of : (ms : List PlainMatchlet) → width (forest_of ms) ≡ length ms
width-forest_of [] = refl
width-forest_of (m ∷ ms) = omega (arith, width-forest_of ms)

-- the same of the lines of the code
pub width-lines : (ms : List Matchlet) → width (forest_of (plain_matchlets ms)) ≡ length ms
width-lines ms = width-forest_of (plain_matchlets ms) ∙ length-map ms plain_matchlet

-- what a forest takes, by its lines
room-forest_of : (ms : List PlainMatchlet) → lines_room (forest_of ms) ≡ 32 * length ms + sum_by matchlet_parts_room ms
room-forest_of [] = refl
room-forest_of (m ∷ ms) = omega (arith, room-forest_of ms, sum_by-cons matchlet_parts_room m ms)

-- the same of the lines of the code
pub room-lines : (ms : List Matchlet)
    → lines_room (forest_of (plain_matchlets ms)) ≡ 32 * length ms + sum_by matchlet_parts_room (map plain_matchlet ms)
room-lines ms = omega (arith, room-forest_of (plain_matchlets ms), length-map ms plain_matchlet)

-- one level of a matchlet
abbrev out_line : Matchlet → PlainMatchlet
out_line m = record {
  own = line_from (out-Matchlet m).start (out-Matchlet m).range (out-Matchlet m).word (out-Matchlet m).value.items
      (mask_bytes (out-Matchlet m).mask);
  children = forest_of (plain_matchlets (out-Matchlet m).children.items);
}

-- a matchlet is its own line and its children
matchlet_out : (m : Matchlet) → plain_matchlet m ≡ out_line m
matchlet_out m = fold_out-Matchlet PlainMatchlet plain_matchlet_over m

-- what a matchlet takes, by its parts
pub room_out : (m : Matchlet) → matchlet_parts_room (plain_matchlet m)
    ≡ padded (length (out-Matchlet m).value.items) + mask_room (mask_bytes (out-Matchlet m).mask)
    + lines_room (forest_of (plain_matchlets (out-Matchlet m).children.items))
room_out m = ap matchlet_parts_room (matchlet_out m)

-- the extent of a matchlet, by its parts
pub extent_out : (m : Matchlet) → matchlet_extent (plain_matchlet m)
    ≡ max ((out-Matchlet m).start + (out-Matchlet m).range + length (out-Matchlet m).value.items)
    (forest_extent (forest_of (plain_matchlets (out-Matchlet m).children.items)))
extent_out m = ap matchlet_extent (matchlet_out m)

-- the row of a line, whose value, mask and children were written one after another
pub line_row : (c mid mid' new : List ℕ) (m : Matchlet) (value mask first w n by by' : ℕ)
    → w ≡ length (out-Matchlet m).value.items → n ≡ length (out-Matchlet m).children.items
    → Written mid value (out-Matchlet m).value.items → Grew mid mid' by
    → MaskAt (Written mid') mask (mask_bytes (out-Matchlet m).mask) → Grew mid' new by'
    → LinesAt (Written new) first (forest_of (plain_matchlets (out-Matchlet m).children.items))
    → IsRow IsLineRecord 8 new (plain_matchlet m)
    ((out-Matchlet m).start ∷ (out-Matchlet m).range ∷ (out-Matchlet m).word ∷ w ∷ value ∷ mask ∷ n ∷ first ∷ [])
line_row c mid mid' new m value mask first w n by by' ew en sv g sm g' sl =
    let to_mid' = written_more mid mid' by g in
    let to_new = written_more mid' new by' g' in
    let o = out-Matchlet m in
    let count : n ≡ width (forest_of (plain_matchlets o.children.items)) = en ∙ sym (width-lines o.children.items) in
    row_is IsLineRecord line_keeps 8 new (plain_matchlet m)
    (o.start ∷ o.range ∷ o.word ∷ w ∷ value ∷ mask ∷ n ∷ first ∷ []) refl
    (subst (λ (l : PlainMatchlet). IsLineRecord (Written new) l (o.start ∷ o.range ∷ o.word ∷ w ∷ value ∷ mask ∷ n ∷ first ∷ []))
    (sym (matchlet_out m)) (
      value,
      mask,
      first,
      rw (← ew, ← count) refl,
      to_new value o.value.items (to_mid' value o.value.items sv),
      mask_carry (Written mid') (Written new) to_new mask (mask_bytes o.mask) sm,
      sl,
    ))
