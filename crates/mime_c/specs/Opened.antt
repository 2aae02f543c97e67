-- What a clause sees of a database that is open.
use Rattle.std.specs.Prelude.{ℕ, List, Option, [], Some, None}

-- The bytes that are open, and the memory that closing gives back to be freed.
pub record Opened : Type 0 where
  -- The bytes of the cache.
  pub cache : List ℕ
  -- The memory: of bytes that the caller keeps none.
  pub memory : List ℕ

-- a cache whose memory is the caller's
abbrev pub of_caller : List ℕ → Opened
of_caller cache = record { cache = cache; memory = [] }

-- a cache that was made, whose memory is given back
abbrev pub of_made : List ℕ → Opened
of_made cache = record { cache = cache; memory = cache }

-- the memory that closing gives back
abbrev pub given_back : Option Opened → List ℕ
given_back None = []
given_back (Some opened) = opened.memory
