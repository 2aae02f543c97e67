-- What an index keeps of its database, said of the database.
use Rattle.std.proofs.Common.{◌≡◌, ap, ap₂, ◌∙◌}
use Rattle.mime_base.specs.Database.{pairs_of, plain_database}
use Rattle.mime_base.specs.declared.database.Database.{Database}
use Rattle.mime_lookup.specs.Indexed.{IsIndexOf}
use Rattle.mime_lookup.specs.Places.{pairs_at, placed}
use Rattle.mime_names.specs.Index.{PlainIndex}
use Rattle.mime_lookup.specs.declared.places.PlacedPairs.{PlacedPairs}

module _ (inside database : Database) (names : PlainIndex) (pairs : PlacedPairs) (is : IsIndexOf inside names pairs)
    (same : inside ≡ database) where
  -- the pairs are the database's
  pub indexed_pairs : placed pairs ≡ pairs_of (plain_database database)
  indexed_pairs = ap₂ pairs_at is.aliases is.parents ∙ ap (λ (d : Database). pairs_of (plain_database d)) same
