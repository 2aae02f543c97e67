-- What is looked at for a content is no less for a longer one.
use Rattle.std.proofs.Common.{ℕ, ◌≤◌, List, length, arith}
use Rattle.std.proofs.Math.Nat.{mul-le-mul_right}
use Rattle.std.proofs.lemmas.List.Sums.{sum_by-le-sum_by}
use Rattle.mime_base.specs.Magic.WindowBytes.{forest_bytes, window_bytes, windows_in}
use Rattle.mime_base.specs.Magic.{Forest, PlainLine, bare, line}
use Rattle.mime_lookup.specs.LineBytes.{index_bytes, top_bytes}
use Rattle.mime_lookup.specs.TopLines.{PlainTop}

module _ (less size : ℕ) (longer : less ≤ size) where
  -- no fewer windows lie in it
  windows_in-longer : (own : PlainLine) → windows_in less own ≤ windows_in size own
  windows_in-longer own = omega arith

  -- they have no fewer bytes
  window_bytes-longer : (own : PlainLine) → window_bytes less own ≤ window_bytes size own
  unfolding window_bytes
  window_bytes-longer own = mul-le-mul_right (length own.value) (windows_in-longer own)

  -- nor have those of lines and their children
  forest_bytes-longer : (lines : Forest) → forest_bytes less lines ≤ forest_bytes size lines
  unfolding forest_bytes
  forest_bytes-longer bare = omega arith
  forest_bytes-longer (line own children rest) =
      omega (arith, window_bytes-longer own, forest_bytes-longer children, forest_bytes-longer rest)

  -- nor of a line of indent 0
  top_bytes-longer : (top : PlainTop) → top_bytes less top ≤ top_bytes size top
  top_bytes-longer top =
      omega (
        arith,
        windows_in-longer top.line.own,
        window_bytes-longer top.line.own,
        forest_bytes-longer top.line.children,
      )

  -- an index looks at no less
  pub index_bytes-longer : (tops : List PlainTop) → index_bytes less tops ≤ index_bytes size tops
  unfolding index_bytes
  index_bytes-longer tops = omega (arith, sum_by-le-sum_by (top_bytes less) (top_bytes size) tops top_bytes-longer)
