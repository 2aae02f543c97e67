use Rattle.std.proofs.Common.{◌≡◌, length, sym, subst, ap, ◌∙◌, arith}
use Rattle.std.proofs.lemmas.List.{length-map}
use Rattle.mime_lookup.specs.Tables.{IsFirst, OwnsLines, OwnsOthers}
use Rattle.mime_lookup.specs.TopLines.{plain_top, plain_tops}
use Rattle.mime_base.specs.declared.meter.Meter.{Meter}
use Rattle.mime_lookup.proofs.IndexLemmas.LineBytes.{index_bytes-all}
use Rattle.mime_lookup.proofs.IndexLemmas.FoundLines.{is_first, none_is_first}
use Rattle.mime_lookup.proofs.IndexLemmas.TopLines.{tops-length}
use Rattle.mime_lookup.proofs.indexed.first_line.first_line.Goals as goal

pub among_tables-found-requires-clause-size : goal.among_tables-found-requires-clause-size
among_tables-found-requires-clause-size g c =
    let heads = c.args.heads.now in
    c.requires.found.tabled.size ∙ tops-length (g.S.MagicLines.plain heads.source) heads.lines.items heads.tops.items c.requires.found.headed
    ∙ ap (λ xs. length xs) (sym c.deref-2.ensures.value)

pub returns-clause-first : goal.returns-clause-first
returns-clause-first g c =
    let heads = c.args.heads.now in
    let tops = plain_tops (g.S.MagicLines.plain heads.source) heads.tops.items in
    is_first heads.lines.items tops c.args.content.now c.args.host c.requires.found.headed (λ i. omega (arith, c.type_inv.content i)) heads.tables
    c.among_tables-found.result c.among_others.result c.requires.found.tabled
    (rw (c.deref-2.ensures.value, c.new-noted.ensures, ← length-map heads.tops.items (plain_top (g.S.MagicLines.plain heads.source))) at c.among_tables-found.ensures.narrows)
    (rw (c.deref-2.ensures.value, c.new-noted.ensures) at c.among_others.ensures.narrows)
    (rw (c.deref-2.ensures.value, c.new-noted.ensures) at c.among_tables-found.ensures.fail)
    (rw (c.deref-2.ensures.value, c.new-noted.ensures, c.deref-3.ensures.value) at c.among_others.ensures.fail)

pub returns-then-content-heads-clause-first : goal.returns-then-content-heads-clause-first
returns-then-content-heads-clause-first g c =
    let heads = c.args.heads.now in
    let tops = plain_tops (g.S.MagicLines.plain heads.source) heads.tops.items in
    let all : length tops ≡ c.len.result =
    omega (arith, length-map heads.tops.items (plain_top (g.S.MagicLines.plain heads.source)), c.len.ensures) in
    subst (IsFirst tops c.args.content.now c.args.host) all
    (none_is_first heads.lines.items tops c.args.content.now c.args.host c.requires.found.headed heads.shortest
    c.requires.found.none_shorter
    (omega (arith, c.if-content-heads.true)))

pub returns-clause-bytes : goal.returns-clause-bytes
returns-clause-bytes g c =
    let heads = c.args.heads.now in
    let plain = g.S.MagicLines.plain heads.source in
    let tops = plain_tops plain heads.tops.items in
    let size = length c.args.content.now in
    let owner = c.requires.found.owned.0 in
    let owns : OwnsLines heads.tables owner (length c.deref-2.result.now) 0 =
    subst (λ n. OwnsLines heads.tables owner n 0)
    (length-map heads.tops.items (plain_top plain) ∙ ap (λ xs. length xs) (sym c.deref-2.ensures.value)) c.requires.found.owned.1 in
    let tables = length heads.tables.places.items in
    let others = subst (λ xs. OwnsOthers xs owner tables (length c.deref-2.result.now)) (sym c.deref-3.ensures.value) owns.others in
    let told = rw (c.deref-2.ensures.value, c.new-noted.ensures) at (c.among_tables-found.ensures.bytes owner owns) in
    let asked = rw (c.deref-2.ensures.value, c.new-noted.ensures) at (c.among_others.ensures.bytes owner tables others) in
    omega (
      arith,
      told,
      asked,
      ap (λ (m : Meter). m.bytes) c.add_bytes.ensures.added,
      index_bytes-all size tops owner tables c.min.result c.requires.found.owned.1.few (omega (arith, c.min.ensures)),
    )
