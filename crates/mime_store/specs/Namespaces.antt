-- The list of XML namespaces of a cache. A database has none.
use Rattle.std.specs.Prelude.{[], ◌∷◌, ℕ, List}
use Rattle.mime_base.specs.Cache.Bytes.{Stands}
use Rattle.mime_base.specs.Format.Header.{HeaderAt, Offsets}
use Rattle.mime_base.specs.Format.Records.{CardsAt}

-- a header stands, and at its offset for namespaces a list of none
pub record HasNoNamespaces (c : List ℕ) : Type 0 where
  pub offsets : Offsets
  pub header : HeaderAt (Stands c) offsets
  pub none : CardsAt (Stands c) offsets.namespaces (0 ∷ [])
