-- How much of a content a lookup wants, which a lookup of the name alone says.
use Rattle.std.specs.Prelude.{◌≡◌, ◌⊎◌, ◌++◌, ℕ, ◌≤◌, true, max, if◌then◌else◌, List, [], length, Option, None, Some}
use Rattle.mime_base.specs.Database.{PlainDatabase}
use Rattle.mime_base.specs.declared.magic.host.Host.{Host}
use Rattle.mime_lookup.specs.Bounds.{stated_extent}
use Rattle.mime_lookup.specs.CheckingOrder.{Chooses, globs_suffice, read_limit}
use Rattle.mime_lookup.specs.Spelling.{SpellsGlobs, SpellsMagic}
use Rattle.mime_lookup.specs.declared.order.Order.{Order}

-- how much a lookup reads at most by a database: nothing where the globs suffice
abbrev pub wanted_of : PlainDatabase → List ℕ → Order → ℕ
wanted_of b name order = if globs_suffice b name order then 0 else read_limit b

-- That much of a content gives the type of the whole.
pub record IsFrontEnough (b : PlainDatabase) (name : List ℕ) (order : Order) (wanted : ℕ) : Type 0 where
  -- A front of that much, or the whole, has the type of the whole.
  pub front : (host : Host) (content rest kind : List ℕ) → (rest ≡ []) ⊎ (wanted ≤ length content) →
      Chooses b name (Some content) host order kind → Chooses b name (Some (content ++ rest)) host order kind
  -- Where nothing is wanted, so has no content.
  pub unopened : wanted ≡ 0 → (host : Host) (content : Option (List ℕ)) (kind : List ℕ) →
      Chooses b name None host order kind → Chooses b name content host order kind

-- How much a lookup of a name wants.
pub record IsWanted (c name : List ℕ) (order : Order) (wanted : ℕ) : Type 0 where
  -- Whatever the bytes are, it is nothing, or the greater of 128 bytes and the extent that the cache states.
  pub any_bytes : (wanted ≡ 0) ⊎ (wanted ≡ max 128 (stated_extent c))
  -- Where the glob rules stand, it is nothing just where they suffice.
  pub globs : (b : PlainDatabase) → SpellsGlobs c b →
      wanted ≡ (if globs_suffice b name order then 0 else max 128 (stated_extent c))
  -- Where the magic stands too, it is what a lookup reads at most.
  pub most : (b : PlainDatabase) → SpellsGlobs c b → SpellsMagic c b → wanted ≡ wanted_of b name order
  -- And that much is enough.
  pub enough : (b : PlainDatabase) → SpellsGlobs c b → SpellsMagic c b → IsFrontEnough b name order wanted

-- enough of a database stands to say how much is wanted: glob rules that suffice, or these and the magic
abbrev pub SufficesForWanted : List ℕ → List ℕ → Order → PlainDatabase → Type 0
SufficesForWanted c name order b = SpellsGlobs c b × ((globs_suffice b name order ≡ true) ⊎ SpellsMagic c b)
