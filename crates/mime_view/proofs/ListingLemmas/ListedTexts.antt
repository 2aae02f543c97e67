-- What is listed of a rule that was read: its type is a text of the cache, and its pattern is short.
use Rattle.std.proofs.Common.{◌≡◌, ℕ, ◌<◌, List, [], ◌∷◌, ◌++◌, length, Ok, ap, arith}
use Rattle.std.specs.Prelude.{All}
use Rattle.std.proofs.lemmas.List.Elements.{All-push}
use Rattle.mime_base.specs.Cache.Texts.{text_at}
use Rattle.mime_base.proofs.CacheLemmas.TextsStand.{text_at-read}
use Rattle.mime_view.specs.Listing.{IsListed, PlainListed, listed_by}

-- one rule more
pub listed_more : (c kind pattern : List ℕ) (flags place : ℕ) (old new : List PlainListed)
    → new ≡ old ++ listed_by flags kind pattern ∷ [] → text_at c place ≡ Ok kind → length pattern < 256
    → All (IsListed c) old → All (IsListed c) new
listed_more c kind pattern flags place old new is read short all =
    rw is (All-push (IsListed c) old (listed_by flags kind pattern) all ((place, read), short))

-- a pattern that was read has at most 255 bytes
pub short_text : (c text : List ℕ) (place : ℕ) → text_at c place ≡ Ok text → length text < 256
short_text c text place read = let r = text_at-read c place text read in r.0.short

-- what is listed from no rules on in three steps
pub all_listed : (c : List ℕ) (none first second third all : List PlainListed) → none ≡ []
    → (All (IsListed c) none → All (IsListed c) first)
    → (All (IsListed c) first → All (IsListed c) second) → (All (IsListed c) second → All (IsListed c) third) → all ≡ third
    → All (IsListed c) all
all_listed c none first second third all empty to_first to_second to_third is =
    let at_first : All (IsListed c) none = λ k d l. absurd (omega (arith, ap (λ (xs : List PlainListed). length xs) empty)) in
    rw is (to_third (to_second (to_first at_first)))
