-- Matchlets that hold, in the steps of a pass over them.
use Rattle.std.proofs.Common.{◌≡◌, ℕ, ◌+◌, ◌<◌, ◌||◌, true, List, ◌∷◌, length, get_or, drop, sym, ap, ◌∙◌, arith}
use Rattle.std.proofs.lemmas.List.{drop_more, length-map}
use Rattle.mime_base.specs.Magic.Holds.{equals_from, line_holds, some_holds}
use Rattle.mime_base.specs.Magic.{PlainMatchlet, forest_of, line_from, mask_bytes}
use Rattle.mime_base.specs.Magic.{plain_matchlet, plain_matchlet_over, plain_matchlets}
use Rattle.mime_base.specs.declared.magic.host.Host.{Host}
use Rattle.mime_base.specs.declared.magic.matchlet.Matchlet.{Matchlet}
use Rattle.mime_base.specs.declared.magic.matchlet.Matchlet.TheFolds.{fold_out-Matchlet}
use Rattle.mime_base.specs.declared.magic.matchlet.Matchlet.TheViews.{out-Matchlet}
use Rattle.mime_base.proofs.MagicLemmas.HoldingLines.{holds-alone, holds-parent, some_holds-line}

-- a matchlet of the code, one level opened
pub plain_matchlet-out : (m : Matchlet) → plain_matchlet m ≡ record {
  own = line_from (out-Matchlet m).start (out-Matchlet m).range (out-Matchlet m).word (out-Matchlet m).value.items
      (mask_bytes (out-Matchlet m).mask);
  children = forest_of (plain_matchlets (out-Matchlet m).children.items);
}
plain_matchlet-out = fold_out-Matchlet PlainMatchlet plain_matchlet_over

module _ (content : List ℕ) (host : Host) where
  -- the lines from one on
  pub some_holds-from : (lines : List Matchlet) (i : ℕ) (m : Matchlet) → i < length lines → m ≡ get_or lines i m →
      some_holds (forest_of (plain_matchlets (drop i lines))) content host
      ≡ (line_holds (plain_matchlet m) content host
      || some_holds (forest_of (plain_matchlets (drop (i + 1) lines))) content host)
  some_holds-from lines i m within is =
      ap (λ ms. some_holds (forest_of (plain_matchlets ms)) content host)
      (drop_more lines i m within ∙ ap (λ first. first ∷ drop (i + 1) lines) (sym is))
      ∙ some_holds-line content host (plain_matchlet m) (forest_of (plain_matchlets (drop (i + 1) lines)))

  -- of the code's matchlet the children
  pub children_of : (m : Matchlet) → (plain_matchlet m).children ≡ forest_of (plain_matchlets (out-Matchlet m).children.items)
  children_of m = ap (λ (p : PlainMatchlet). p.children) (plain_matchlet-out m)

  -- a matchlet without children that equals its value holds
  pub line_holds-alone : (m : Matchlet) →
      equals_from (plain_matchlet m).own host content (plain_matchlet m).own.start (plain_matchlet m).own.range ≡ true →
      length (out-Matchlet m).children.items ≡ 0 → line_holds (plain_matchlet m) content host ≡ true
  line_holds-alone m equal alone =
      holds-alone content host (plain_matchlet m) (plain_matchlets (out-Matchlet m).children.items) (children_of m) equal
      (length-map (out-Matchlet m).children.items plain_matchlet ∙ alone)

  -- one with children holds if some child does
  pub line_holds-parent : (m : Matchlet) →
      equals_from (plain_matchlet m).own host content (plain_matchlet m).own.start (plain_matchlet m).own.range ≡ true →
      0 < length (out-Matchlet m).children.items →
      line_holds (plain_matchlet m) content host ≡ some_holds (forest_of (plain_matchlets (out-Matchlet m).children.items)) content host
  line_holds-parent m equal some =
      holds-parent content host (plain_matchlet m) (plain_matchlets (out-Matchlet m).children.items) (children_of m) equal
      (omega (arith, some, length-map (out-Matchlet m).children.items plain_matchlet))
