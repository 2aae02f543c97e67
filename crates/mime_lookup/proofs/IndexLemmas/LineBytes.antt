-- What lines add to what is looked at for a content, by the table that owns each.
use Rattle.std.proofs.Common.{◌≡◌, ℕ, zero, suc, ◌+◌, ◌<◌, ◌≤◌, Bool, true, false, cond, min}
use Rattle.std.proofs.Common.{List, [], length, get_or, take, None, ap, arith}
use Rattle.std.proofs.Math.Dec.{ltb}
use Rattle.std.proofs.lemmas.List.Sums.{sum_by_more}
use Rattle.std.proofs.lemmas.List.{get_or-map, get_or_default, take_all}
use Rattle.std.specs.List.{sum_by}
use Rattle.mime_base.specs.Magic.WindowBytes.{line_bytes}
use Rattle.mime_base.specs.Magic.{bare, line_from}
use Rattle.mime_lookup.specs.Heads.{AreLineHeads, head_windows}
use Rattle.mime_lookup.specs.LineBytes.{asked_bytes, index_bytes, owned_sum, sum_before, table_bytes, tables_bytes, top_bytes}
use Rattle.mime_lookup.specs.TopLines.{PlainTop}
use Rattle.mime_lookup.specs.declared.indexed.line_head.LineHead.{LineHead}
use Rattle.mime_lookup.proofs.IndexLemmas.FoundLines.{head_at}
use Rattle.mime_lookup.proofs.IndexLemmas.OwnedSums.{owned_sum-more, owned_sum-own, sum_before-next, sum_before-none, sum_before-suc}

-- a part is no more than the whole
at_most : (part : Bool) (n : ℕ) → cond part n 0 ≤ n
at_most true n = omega arith
at_most false n = omega arith

-- no line
abbrev pub no_top : PlainTop
no_top = record { kind = []; priority = 0; line = record { own = line_from 0 0 1 [] None; children = bare } }

module _ (size : ℕ) (tops : List PlainTop) where
  -- asking a line
  pub asked_bytes-of : (line : ℕ) (top : PlainTop) → line < length tops → top ≡ get_or tops line top →
      asked_bytes size tops line ≡ top_bytes size top + 1
  unfolding asked_bytes
  asked_bytes-of line top within is =
      let found = get_or-map (top_bytes size) tops line top 0 within in
      let same = ap (top_bytes size) is in
      omega (arith, found, same)

  -- at least one for the line
  pub asked_bytes-one : (line : ℕ) → 1 ≤ asked_bytes size tops line
  unfolding asked_bytes
  asked_bytes-one line = omega arith

  -- what its head and it look at
  pub asked_bytes-least : (heads : List LineHead) → AreLineHeads heads tops → (line : ℕ) (head : LineHead) (top : PlainTop) →
      line < length tops → head ≡ get_or heads line head → top ≡ get_or tops line top →
      head_windows size head + line_bytes size top.line + 1 ≤ asked_bytes size tops line
  asked_bytes-least heads are line head top within is top_is =
      omega (
        arith,
        (head_at line heads tops head top are within is top_is).within size,
        asked_bytes-of line top within top_is,
      )

  module _ (owner : ℕ → ℕ) where
    -- a line that one owns is after those before it
    pub table_bytes-line : (this less line : ℕ) → owner line ≡ this → less ≤ line →
        owned_sum (asked_bytes size tops) owner this less + asked_bytes size tops line ≤ owned_sum (asked_bytes size tops) owner this (line + 1)
    table_bytes-line this less line own within =
        omega (
          arith,
          owned_sum-more (asked_bytes size tops) owner this less line within,
          owned_sum-own (asked_bytes size tops) owner this line own,
        )

    -- some of the lines before one add no more than all of these
    sum_before-all : (this end : ℕ) → end ≤ length tops →
        sum_before (asked_bytes size tops) owner this end ≤ sum_by (top_bytes size) (take end tops) + end
    sum_before-all this zero within = omega (arith, sum_before-none (asked_bytes size tops) owner this)
    sum_before-all this (suc end) within =
        let top : PlainTop = get_or tops end no_top in
        let inside : end < length tops = omega arith in
        let next : suc end ≡ end + 1 = omega arith in
        omega (
          arith,
          sum_before-all this end (omega arith),
          sum_before-suc (asked_bytes size tops) owner this end,
          at_most (ltb (owner end) this) (asked_bytes size tops end),
          asked_bytes-of end top inside (get_or_default tops end no_top top inside),
          sum_by_more (top_bytes size) tops end no_top inside,
          ap (λ (n : ℕ). sum_by (top_bytes size) (take n tops)) next,
        )

    -- those of all tables, and those of none
    pub tables_bytes-all : (tables : ℕ) →
        tables_bytes size tops owner tables + table_bytes size tops owner tables ≤ sum_by (top_bytes size) tops + length tops
    tables_bytes-all tables =
        omega (
          arith,
          sum_before-next (asked_bytes size tops) owner tables (length tops),
          sum_before-all (tables + 1) (length tops) (omega arith),
          ap (sum_by (top_bytes size)) (take_all (length tops) tops (omega arith)),
        )

    -- with the front and the tables, of which there are no more than lines, they are at most all that an index looks at
    pub index_bytes-all : (tables front : ℕ) → tables ≤ length tops → front ≤ min size 288 →
        front + tables + tables_bytes size tops owner tables + table_bytes size tops owner tables ≤ index_bytes size tops
    unfolding index_bytes
    index_bytes-all tables front few near = omega (arith, tables_bytes-all tables)
