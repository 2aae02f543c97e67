-- The bytes of a lookup, by its order: those of the name, then of the content, then of the choice among types.
use Rattle.std.proofs.Common.{◌≡◌, ℕ, ◌+◌, ◌*◌, ◌≤◌, Bool, false, List, length, refl, subst, sym, arith}
use Rattle.std.proofs.Math.Nat.{mul-le-mul_left, mul-le-mul_right}
use Rattle.mime_base.specs.Database.{PlainDatabase}
use Rattle.mime_base.specs.Kept.{hits}
use Rattle.mime_lookup.specs.IndexBytes.{choice_bytes, order_bytes, search_bytes}
use Rattle.mime_lookup.specs.IndexNodes.{nodes_after, nodes_before}
use Rattle.mime_lookup.specs.declared.order.Order.{Order}
use Rattle.mime_lookup.specs.declared.order.Order.TheVariants.{AllGlobs, ContentOnly, GlobsFirst, MagicFirst}

-- a search among the types of a name, for a base of at most 255 bytes
pub choice-le : (b : PlainDatabase) (name : List ℕ) (kinds base : ℕ) → kinds ≤ length (hits b.rules name) → base ≤ 255 →
    search_bytes kinds (length b.parents) base ≤ choice_bytes b name
choice-le b name kinds base few short =
    let pairs = length b.parents in
    let many = length (hits b.rules name) in
    let one : (kinds + pairs) * (base + 52) ≤ (kinds + pairs) * 307 = mul-le-mul_left (kinds + pairs) (omega (arith, short)) in
    let two : (kinds + pairs) * 307 ≤ (many + pairs) * 307 = mul-le-mul_right 307 (omega (arith, few)) in
    omega (arith, one, two)

module _ (kept all content choice old : ℕ) where
  -- what the name takes before the content is asked
  pub named-bytes : (order : Order) (suffice : Bool) (named : ℕ) → named ≤ old + nodes_before order kept all →
      named ≤ old + order_bytes order suffice kept all content choice
  named-bytes GlobsFirst suffice named before = omega (arith, before)
  named-bytes MagicFirst suffice named before = omega (arith, before)
  named-bytes AllGlobs suffice named before = omega (arith, before)
  named-bytes ContentOnly suffice named before = omega (arith, before)

  module _ (named : ℕ) where
    -- where the globs don't suffice, then the content
    undecided : (order : Order) (found : ℕ) → named ≤ old + nodes_before order kept all → found ≤ named + content →
        found ≤ old + order_bytes order false kept all content choice
    undecided GlobsFirst found before sniffed = omega (arith, before, sniffed)
    undecided MagicFirst found before sniffed = omega (arith, before, sniffed)
    undecided AllGlobs found before sniffed = omega (arith, before, sniffed)
    undecided ContentOnly found before sniffed = omega (arith, before, sniffed)

    pub sniffed-bytes : (order : Order) (suffice : Bool) (found : ℕ) → suffice ≡ false → named ≤ old + nodes_before order kept all →
        found ≤ named + content → found ≤ old + order_bytes order suffice kept all content choice
    sniffed-bytes order suffice found several before sniffed =
        subst (λ (is : Bool). found ≤ old + order_bytes order is kept all content choice) (sym several) (undecided order found before sniffed)

    -- and then the types, and a choice among them, where the content isn't asked alone
    chosen : (order : Order) (found asked : ℕ) → (order ≡ ContentOnly → ⊥) → named ≤ old + nodes_before order kept all →
        found ≤ named + content → asked ≤ found + nodes_after order kept + choice →
        asked ≤ old + order_bytes order false kept all content choice
    chosen GlobsFirst found asked some before sniffed after = omega (arith, before, sniffed, after)
    chosen MagicFirst found asked some before sniffed after = omega (arith, before, sniffed, after)
    chosen AllGlobs found asked some before sniffed after = omega (arith, before, sniffed, after)
    chosen ContentOnly found asked some before sniffed after = absurd (some refl)

    pub chosen-bytes : (order : Order) (suffice : Bool) (found asked : ℕ) → suffice ≡ false → (order ≡ ContentOnly → ⊥) →
        named ≤ old + nodes_before order kept all → found ≤ named + content → asked ≤ found + nodes_after order kept + choice →
        asked ≤ old + order_bytes order suffice kept all content choice
    chosen-bytes order suffice found asked several some before sniffed after =
        subst (λ (is : Bool). asked ≤ old + order_bytes order is kept all content choice) (sym several)
        (chosen order found asked some before sniffed after)
