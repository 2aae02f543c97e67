-- The bytes of windows that lines compare, in the steps of a pass over the lines.
use Rattle.std.proofs.Common.{◌≡◌, ℕ, ◌+◌, ◌<◌, ◌≤◌, List, ◌∷◌, length, get_or, drop, Option, Some, refl, sym, ap, ◌∙◌, arith}
use Rattle.std.proofs.lemmas.List.{drop_more}
use Rattle.mime_base.specs.Magic.Ranges.{compared_from}
use Rattle.mime_base.specs.Magic.WindowBytes.{forest_bytes, line_bytes, window_bytes}
use Rattle.mime_base.specs.Magic.{Forest, PlainMatchlet, bare, forest_of, line, line_from, plain_matchlet, plain_matchlets}
use Rattle.mime_base.specs.Meter.{CountsBytes}
use Rattle.mime_base.specs.declared.magic.host.Host.{Host}
use Rattle.mime_base.specs.declared.magic.matchlet.Matchlet.{Matchlet}
use Rattle.mime_base.specs.declared.meter.Meter.{Meter}
use Rattle.mime_base.proofs.MagicLemmas.MostCompared.{compared_from-windows}

-- what is compared in a range is counted, whatever its mask: at most the bytes of its windows
pub counted-windows : (start range word : ℕ) (value bits : List ℕ) (mask : Option (List ℕ)) (host : Host) (content : List ℕ) (old new : Meter) →
    CountsBytes (compared_from (line_from start range word value (Some bits)) host content start range) old new →
    new.bytes ≤ old.bytes + window_bytes (length content) (line_from start range word value mask)
unfolding window_bytes
counted-windows start range word value bits mask host content old new counts =
    omega (arith, compared_from-windows (line_from start range word value (Some bits)) host content start range, counts.bytes)

module _ (size : ℕ) where
  -- no line compares nothing
  pub forest_bytes-none : forest_bytes size bare ≡ 0
  unfolding forest_bytes
  forest_bytes-none = refl

  -- the first line, and those after it
  pub forest_bytes-line : (m : PlainMatchlet) (rest : Forest) →
      forest_bytes size (line m.own m.children rest) ≡ line_bytes size m + forest_bytes size rest
  unfolding forest_bytes
  forest_bytes-line m rest = refl

  -- the lines from one on
  pub forest_bytes-from : (lines : List Matchlet) (i : ℕ) (m : Matchlet) → i < length lines → m ≡ get_or lines i m →
      forest_bytes size (forest_of (plain_matchlets (drop i lines)))
      ≡ line_bytes size (plain_matchlet m) + forest_bytes size (forest_of (plain_matchlets (drop (i + 1) lines)))
  forest_bytes-from lines i m within is =
      ap (λ ms. forest_bytes size (forest_of (plain_matchlets ms)))
      (drop_more lines i m within ∙ ap (λ first. first ∷ drop (i + 1) lines) (sym is))
      ∙ forest_bytes-line (plain_matchlet m) (forest_of (plain_matchlets (drop (i + 1) lines)))
