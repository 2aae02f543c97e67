-- A front that is long enough is sniffed as the whole content.
use Rattle.std.proofs.Common.{◌≡◌, ◌⊎◌, ℕ, ◌+◌, ◌<◌, ◌≤◌, cond, max, List, [], ◌∷◌, ◌++◌, length, Option, None, Some}
use Rattle.std.proofs.Common.{refl, sym, ap, ◌∙◌, inl, inr, ⊎_elim, arith, append-nil}
use Rattle.std.specs.Prelude.{codes, IfSome}
use Rattle.std.proofs.lemmas.Bool.{cases_lt}
use Rattle.std.proofs.lemmas.List.{length-append}
use Rattle.std.specs.Io.KnownBytes.{Consumes, IsAtEnd}
use Rattle.std.specs.Option.{option_map}
use Rattle.mime_base.specs.Database.{PlainDatabase}
use Rattle.mime_base.specs.Magic.Extent.{extent}
use Rattle.mime_base.specs.Magic.Holds.{first_magic}
use Rattle.mime_base.specs.declared.magic.host.Host.{Host}
use Rattle.mime_base.proofs.MagicLemmas.Fronts.{first_magic-front, looks_textual-front}
use Rattle.mime_lookup.specs.CheckingOrder.{IsSniffed, before_globs, front_size, has_magic, is_section, of_high_priority, read_limit}
use Rattle.mime_lookup.specs.Fronts.{IsEnoughFront}
use Rattle.mime_lookup.specs.declared.sniff.Sniffed.{Sniffed}
use Rattle.mime_lookup.specs.Sniffing.{FrontIsEnough, sniffed, sniffed_by_bytes, sniffed_by_magic}
use Rattle.mime_lookup.specs.declared.order.Order.TheVariants.{MagicFirst}

-- the type by the bytes alone
pub by_bytes-front : (front rest : List ℕ) → 128 ≤ length front → sniffed_by_bytes (front ++ rest) ≡ sniffed_by_bytes front
by_bytes-front [] rest long = absurd (omega arith)
by_bytes-front (byte ∷ front) rest long =
    ap (λ b. cond b (codes "text/plain") (codes "application/octet-stream")) (looks_textual-front (byte ∷ front) rest long)

-- what magic gives to a content it gives to a front of 128 bytes or more
by_magic-front : (b : PlainDatabase) (section : Option (List ℕ × ℕ)) (front rest : List ℕ) → 128 ≤ length front →
    sniffed_by_magic b section (front ++ rest) ≡ sniffed_by_magic b section front
by_magic-front b None front rest long = by_bytes-front front rest long
by_magic-front b (Some section) front rest long = refl

-- the law on fronts
pub front_is_enough : FrontIsEnough
unfolding sniffed
front_is_enough b front rest host (inl none) =
    ap (λ content. sniffed_by_magic b (first_magic b.sections content host) content)
    (sym (append-nil front) ∙ ap (λ end. front ++ end) (sym none))
front_is_enough b front rest host (inr long) =
    sym (ap (λ section. sniffed_by_magic b section (front ++ rest)) (first_magic-front front rest b.sections host long.1)
    ∙ by_magic-front b (first_magic b.sections front host) front rest long.0)

-- the same of what comes before the globs
pub before_globs-front : (b : PlainDatabase) (front rest : List ℕ) (host : Host) →
    (rest ≡ []) ⊎ ((128 ≤ length front) × (extent b ≤ length front)) →
    before_globs b (Some front) host MagicFirst ≡ before_globs b (Some (front ++ rest)) host MagicFirst
unfolding before_globs
before_globs-front b front rest host (inl none) =
    ap (λ content. of_high_priority b (first_magic b.sections content host))
    (sym (append-nil front) ∙ ap (λ end. front ++ end) (sym none))
before_globs-front b front rest host (inr long) =
    sym (ap (of_high_priority b) (first_magic-front front rest b.sections host long.1))

-- and of whether a section holds
pub has_magic-front : (b : PlainDatabase) (front rest : List ℕ) (host : Host) →
    (rest ≡ []) ⊎ ((128 ≤ length front) × (extent b ≤ length front)) →
    has_magic b (Some front) host ≡ has_magic b (Some (front ++ rest)) host
has_magic-front b front rest host (inl none) =
    ap (λ content. is_section (first_magic b.sections content host)) (sym (append-nil front) ∙ ap (λ end. front ++ end) (sym none))
has_magic-front b front rest host (inr long) =
    sym (ap is_section (first_magic-front front rest b.sections host long.1))

-- what was read of a content with these bytes
pub is_read : (b : PlainDatabase) (whole front : List ℕ) (after : Option (List ℕ)) → Consumes (Some whole) after front →
    length front ≤ read_limit b → (length front < read_limit b → IsAtEnd after) → IsEnoughFront b whole front
unfolding read_limit
is_read b whole front None consumed limited ends = absurd consumed
is_read b whole front (Some rest) consumed limited ends =
    let sizes : length whole ≡ length front + length rest = ap length consumed ∙ length-append front rest in
    ⊎_elim
    (λ short.
    let none : rest ≡ [] = ends short in
    record { rest = rest; split = consumed; long = inl none; size = omega (arith, sizes, ap length none) })
    (λ full. record { rest = rest; split = consumed; long = inr (omega arith, omega arith); size = omega (arith, sizes) })
    (cases_lt (length front) (max 128 (extent b)))

-- what a reader gave is sniffed as its whole content, where that is known
module _ (b : PlainDatabase) (host : Host) (known after : Option (List ℕ)) (front : List ℕ)
    (consumed : Consumes known after front) (limited : length front ≤ read_limit b)
    (ends : length front < read_limit b → IsAtEnd after) where
  -- what the front is sniffed as the content is
  pub is_sniffed-known : (found : Sniffed) → IsSniffed b (Some front) host found →
      IfSome (option_map (λ bytes. Some bytes) known) (λ content. IsSniffed b content host found)
  is_sniffed-known found is = by_cases known consumed
    where
      by_cases : (known : Option (List ℕ)) → Consumes known after front →
          IfSome (option_map (λ bytes. Some bytes) known) (λ content. IsSniffed b content host found)
      by_cases None consumed = tt
      by_cases (Some whole) consumed =
          let read = is_read b whole front after consumed limited ends in
          record {
            kind = is.kind ∙ front_is_enough b front read.rest host read.long ∙ ap (λ bytes. sniffed b (Some bytes) host) (sym read.split);
            high = is.high ∙ before_globs-front b front read.rest host read.long
                ∙ ap (λ bytes. before_globs b (Some bytes) host MagicFirst) (sym read.split);
            magic = is.magic ∙ has_magic-front b front read.rest host read.long ∙ ap (λ bytes. has_magic b (Some bytes) host) (sym read.split);
          }

  -- and the size of the front is what is looked at
  pub front_size-known : (count : ℕ) → length front ≡ count →
      IfSome (option_map (λ bytes. Some bytes) known) (λ content. count ≡ front_size b content)
  front_size-known count is = by_cases known consumed
    where
      by_cases : (known : Option (List ℕ)) → Consumes known after front →
          IfSome (option_map (λ bytes. Some bytes) known) (λ content. count ≡ front_size b content)
      by_cases None consumed = tt
      by_cases (Some whole) consumed = sym is ∙ (is_read b whole front after consumed limited ends).size
