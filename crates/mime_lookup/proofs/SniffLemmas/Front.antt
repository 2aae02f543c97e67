-- A front that is enough gives what the whole content gives.
use Rattle.std.proofs.Common.{◌≡◌, ◌∙◌, ℕ, ◌<◌, ◌≤◌, List, Option, None, Some, cond, length, refl, sym, ap}
use Rattle.std.specs.Prelude.{IfSome}
use Rattle.std.specs.Io.KnownBytes.{Consumes, IsAtEnd}
use Rattle.std.specs.Option.{option_map}
use Rattle.mime_base.specs.Database.{PlainDatabase, pairs_of}
use Rattle.mime_base.specs.declared.magic.host.Host.{Host}
use Rattle.mime_lookup.specs.CheckingOrder.{Chooses, asked_types, before_globs, front_size, has_magic, read_limit}
use Rattle.mime_lookup.specs.Choice.{candidates, kept}
use Rattle.mime_lookup.specs.Fronts.{IsEnough}
use Rattle.mime_lookup.specs.Halves.{front_length}
use Rattle.mime_lookup.specs.Sniffing.{sniffed}
use Rattle.mime_lookup.specs.declared.order.Order.{Order}
use Rattle.mime_lookup.specs.declared.order.Order.TheVariants.{AllGlobs, ContentOnly, GlobsFirst, MagicFirst}
use Rattle.mime_lookup.proofs.SniffLemmas.Sniffs.{before_globs-front, front_is_enough, has_magic-front, is_read}

-- what was read up to the limit, or to the end
pub enough_read : (b : PlainDatabase) (known after : Option (List ℕ)) (front : List ℕ) → Consumes known after front →
    length front ≤ read_limit b → (length front < read_limit b → IsAtEnd after) →
    IfSome (option_map (λ bytes. Some bytes) known) (λ content. IsEnough b content (Some front))
enough_read b None after front consumed limited ends = tt
enough_read b (Some whole) after front consumed limited ends = is_read b whole front after consumed limited ends

module _ (b : PlainDatabase) (name : List ℕ) (host : Host) (kind : List ℕ) where
  -- what is sniffed is the same
  sniffed-enough : (content front : Option (List ℕ)) → IsEnough b content front → sniffed b front host ≡ sniffed b content host
  sniffed-enough None None is = refl
  sniffed-enough None (Some front) is = absurd is
  sniffed-enough (Some whole) None is = absurd is
  sniffed-enough (Some whole) (Some front) is =
      front_is_enough b front is.rest host is.long ∙ ap (λ bytes. sniffed b (Some bytes) host) (sym is.split)

  -- and what comes before the globs
  before-enough : (order : Order) (content front : Option (List ℕ)) → IsEnough b content front
      → before_globs b front host order ≡ before_globs b content host order
  unfolding before_globs
  before-enough GlobsFirst content front is = refl
  before-enough AllGlobs content front is = refl
  before-enough MagicFirst None None is = refl
  before-enough MagicFirst None (Some front) is = absurd is
  before-enough MagicFirst (Some whole) None is = absurd is
  before-enough MagicFirst (Some whole) (Some front) is =
      before_globs-front b front is.rest host is.long ∙ ap (λ bytes. before_globs b (Some bytes) host MagicFirst) (sym is.split)
  before-enough ContentOnly content front is = ap (λ kind. Some kind) (sniffed-enough content front is)

  -- whether a section holds is the same
  has_magic-enough : (content front : Option (List ℕ)) → IsEnough b content front → has_magic b front host ≡ has_magic b content host
  has_magic-enough None None is = refl
  has_magic-enough None (Some front) is = absurd is
  has_magic-enough (Some whole) None is = absurd is
  has_magic-enough (Some whole) (Some front) is =
      has_magic-front b front is.rest host is.long ∙ ap (λ bytes. has_magic b (Some bytes) host) (sym is.split)

  -- and so are the types that are asked
  asked-enough : (order : Order) (content front : Option (List ℕ)) → IsEnough b content front
      → asked_types b name front host order ≡ asked_types b name content host order
  asked-enough GlobsFirst content front is = refl
  asked-enough MagicFirst content front is = refl
  asked-enough AllGlobs content front is =
      ap (λ magic. cond magic (candidates (pairs_of b) b.rules name) (kept (pairs_of b) b.rules name)) (has_magic-enough content front is)
  asked-enough ContentOnly content front is = refl

  -- so the choice is
  pub chooses_enough : (order : Order) (content front : Option (List ℕ)) → IsEnough b content front
      → Chooses b name front host order kind → Chooses b name content host order kind
  unfolding Chooses
  chooses_enough order content front is chosen =
      rw (← before-enough order content front is, ← asked-enough order content front is, ← sniffed-enough content front is) chosen

  -- where the content is known
  pub chooses_known : (order : Order) (known : Option (Option (List ℕ))) (front : Option (List ℕ))
      → IfSome known (λ content. IsEnough b content front) → Chooses b name front host order kind
      → IfSome known (λ content. Chooses b name content host order kind)
  chooses_known order None front is chosen = tt
  chooses_known order (Some content) front is chosen = chooses_enough order content front is chosen

-- and as much is read as there is
pub size_enough : (b : PlainDatabase) (content front : Option (List ℕ)) → IsEnough b content front
    → front_length front ≡ front_size b content
size_enough b None None is = refl
size_enough b None (Some front) is = absurd is
size_enough b (Some whole) None is = absurd is
size_enough b (Some whole) (Some front) is = is.size

-- the bytes of a front that is enough are as many as are looked at
pub size_known : (b : PlainDatabase) (known : Option (Option (List ℕ))) (front : Option (List ℕ)) (read : ℕ) → read ≡ front_length front
    → IfSome known (λ content. IsEnough b content front) → IfSome known (λ content. read ≡ front_size b content)
size_known b None front read size is = tt
size_known b (Some content) front read size is = size ∙ size_enough b content front is
