-- The front of a content that a lookup reads.
use Rattle.std.specs.Prelude.{◌≡◌, ◌⊎◌, ℕ, ◌<◌, ◌≤◌, false, max, min, List, [], ◌++◌, length, Option, None, Some, Result, IfSome, ⊤}
use Rattle.mime_base.specs.Cache.Bytes.{field}
use Rattle.mime_base.specs.Database.{PlainDatabase}
use Rattle.mime_base.specs.Magic.Extent.{extent}
use Rattle.mime_lookup.specs.Bounds.{stated_extent}
use Rattle.mime_lookup.specs.CheckingOrder.{read_limit}
use Rattle.mime_lookup.specs.Content.{Health, Tally, known_content}
use Rattle.mime_lookup.specs.Halves.{front_length}
use Rattle.mime_lookup.specs.Reads.{UsesReader}
use Rattle.mime_lookup.specs.Spelling.{SpellsMagic}
use Rattle.mime_lookup.specs.declared.stopped.Cause.{Cause}
use Rattle.mime_view.specs.Lists.{LiesHead}

-- A front of a content that is enough for a lookup over a database.
pub record IsEnoughFront (b : PlainDatabase) (whole front : List ℕ) : Type 0 where
  pub rest : List ℕ
  -- The content begins with it.
  pub split : whole ≡ front ++ rest
  -- It is all of the content, or as long as magic and the test for text can look.
  pub long : (rest ≡ []) ⊎ ((128 ≤ length front) × (extent b ≤ length front))
  -- It is no longer than that.
  pub size : length front ≡ min (length whole) (read_limit b)

-- a front is enough for a content, and there is one where the content is available
abbrev pub IsEnough : PlainDatabase → Option (List ℕ) → Option (List ℕ) → Type 0
IsEnough b None None = ⊤
IsEnough b None (Some front) = ⊥
IsEnough b (Some whole) None = ⊥
IsEnough b (Some whole) (Some front) = IsEnoughFront b whole front

-- How a reader is used to read a front.
pub record TakesFront {R X : Type 0} (remaining : R → Option (List ℕ)) (tally : R → Option Tally) (health : R → Health) (c : List ℕ)
    (before after : Option R) (read : ℕ) (result : Result X Cause) : Type 0 where
  -- It is asked, for no more than 128 bytes or the extent that the cache states.
  pub uses : UsesReader remaining tally health (max 128 (stated_extent c)) false before after read result
  -- Nothing is read where the head of magic, which states the extent, does not lie in the cache.
  pub head : 0 < read → LiesHead c (field c 0 6) 12

-- What is read of a content.
pub record ReadsFront {R : Type 0} (remaining : R → Option (List ℕ)) (c : List ℕ) (content : Option R) (read : ℕ)
    (front : Option (List ℕ)) : Type 0 where
  -- Over each database whose magic stands in the cache the front is enough for the content, where that is known.
  pub enough : (b : PlainDatabase) → SpellsMagic c b → IfSome (known_content remaining content) (λ known. IsEnough b known front)
  -- That many bytes were read.
  pub size : read ≡ front_length front
  -- There is no front where no content is available.
  pub absent : content ≡ None → front ≡ None
