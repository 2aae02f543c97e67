use Rattle.std.proofs.Common.{◌≡◌, ◌+◌, [], ◌∷◌, ◌++◌, map, take, sym, subst, ap, ◌∙◌, arith}
use Rattle.std.proofs.lemmas.List.{map_more, take_all}
use Rattle.mime_lookup.specs.Heads.{AreLineHeads}
use Rattle.mime_lookup.specs.Tables.{OwnsLines}
use Rattle.mime_lookup.specs.TopLines.{plain_top}
use Rattle.mime_lookup.proofs.IndexLemmas.LineHeads.{line_heads-length, line_heads-more, none_shorter-more}
use Rattle.mime_lookup.proofs.indexed.heads.heads_of.Goals as goal

pub loop-top-preserved : goal.loop-top-preserved
loop-top-preserved g c =
    let plain = plain_top (g.S.MagicLines.plain c.args.source) in
    let tops = c.deref-top-items.result.now in
    let top = c.top-item.result in
    let i = c.loop-top.top-index in
    let more : map plain (take (i + 1) tops) ≡ map plain (take i tops) ++ plain top ∷ [] =
    map_more plain tops i top c.loop-top-test.true ∙ ap (λ t. map plain (take i tops) ++ plain t ∷ []) (sym c.top-item.is) in
    let before = c.loop-top.invariant in
    record {
      headed = rw (c.push_reserved.ensures.items, more)
          (line_heads-more c.loop-top.lines.items (map plain (take i tops)) c.head-head.result (plain top) before.headed
          c.head-head.ensures);
      none_shorter = rw c.push_reserved.ensures.items
          (none_shorter-more c.loop-top.lines.items c.head-head.result c.loop-top.shortest _
          (omega (arith, c.min-shortest.ensures)) (omega (arith, c.min-shortest.ensures, c.least_length.ensures)) before.none_shorter);
      many = omega (arith, c.push_reserved.ensures.len, before.many);
      room = omega (arith, c.push_reserved.ensures.capacity, before.room);
    }

pub returns-clause-found : goal.returns-clause-found
returns-clause-found g c =
    let plain = g.S.MagicLines.plain c.args.source in
    let items = c.deref-top-items.result.now in
    let all : take c.loop-top.top-index items ≡ items = take_all c.loop-top.top-index items (omega (arith, c.loop-top-test.false)) in
    let headed : AreLineHeads c.loop-top.lines.items (map (plain_top plain) c.args.tops.items) =
    subst (λ ts. AreLineHeads c.loop-top.lines.items (map (plain_top plain) ts)) (all ∙ c.deref-top-items.ensures.value)
    c.loop-top.invariant.headed in
    let told = rw c.deref.ensures.value at c.in_ok-tables.ensures.owned in
    record {
      headed = headed;
      tabled = rw c.deref.ensures.value at c.in_ok-tables.ensures.found;
      paired = rw (c.deref-2.ensures.value, c.deref-3.ensures.value) at c.in_ok-pairs.ensures;
      none_shorter = c.loop-top.invariant.none_shorter;
      owned = (
        told.0,
        subst (λ n. OwnsLines c.in_ok-tables.tables told.0 n 0)
            (line_heads-length c.loop-top.lines.items (map (plain_top plain) c.args.tops.items) headed) told.1,
      );
    }

pub push_reserved-requires : goal.push_reserved-requires
push_reserved-requires g c = omega (arith, c.loop-top.invariant.many, c.loop-top.invariant.room, c.loop-top-test.true)
