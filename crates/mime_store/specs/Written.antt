-- Bytes that were written at the end of others.
use Rattle.std.specs.Prelude.{◌≡◌, ◌≤◌, ℕ, List, ◌++◌, length}
use Rattle.mime_base.specs.Cache.Bytes.{Stands}

-- these bytes stand there, and not in the header, which is written last
pub record Written (c : List ℕ) (at : ℕ) (bytes : List ℕ) : Type 0 where
  pub stands : Stands c at bytes
  pub after : 40 ≤ at

-- `new` is `old` and that many bytes more
pub record Grew (old new : List ℕ) (size : ℕ) : Type 0 where
  pub more : List ℕ
  pub is : new ≡ old ++ more
  pub long : length more ≡ size
