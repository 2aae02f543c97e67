use Rattle.std.proofs.Common.{◌+◌, ◌*◌, arith, rules, ◌∙◌, ap, inl, refl, sym, get_or}
use Rattle.std.proofs.lemmas.Result.{err_from_is_err_and}
use Rattle.mime_view.specs.SuffixTree.{IsNamedBlock, IsSibling}
use Rattle.mime_view.specs.declared.suffixes.Siblings.{Siblings}
use Rattle.mime_view.proofs.SuffixTreeLemmas.TreeBlocks.{below_character-past, block_read, node_below, none_below}
use Rattle.mime_view.proofs.suffixes.block_below.Goals as goal

pub returns-then-byte-eq0-clause-below : goal.returns-then-byte-eq0-clause-below
returns-then-byte-eq0-clause-below c = record {
  lies = tt;
  named = tt;
  none = record {
    place = 0;
    found = record { within = omega arith; before = λ i next. absurd (omega arith); after = λ within. omega (arith, c.if-byte-eq0.true) };
    other = λ some. absurd (omega (arith, c.if-byte-eq0.true));
  };
  reads = λ tree reads.
      below_character-past c.args.byte 0 tree (omega (arith, c.if-byte-eq0.true)) reads.ordered;
}

pub returns-then-place-block-clause-below : goal.returns-then-place-block-clause-below
returns-then-place-block-clause-below c = record {
  lies = tt;
  named = tt;
  none = record {
    place = c.first_not_below-place.result;
    found = c.first_not_below-place.ensures.place;
    other = λ some within. absurd (omega (arith, c.if-place-block.true));
  };
  reads = λ tree reads.
      none_below c.args.query.now.counted.now c.args.block c.args.byte c.first_not_below-place.result tree (omega (arith, c.if-byte-eq0.false)) reads
      c.first_not_below-place.ensures.place (λ within is. omega (arith, c.if-place-block.true));
}

pub returns-then-character-from-clause-below : goal.returns-then-character-from-clause-below
returns-then-character-from-clause-below c = record {
  lies = tt;
  named = tt;
  none = record {
    place = c.first_not_below-place.result;
    found = c.first_not_below-place.ensures.place;
    other = λ some within is.
        let read = ap (λ xs. get_or xs 0 0) c.cards_within.ensures.numbers in
        c.if-character-from.true (read ∙ is ∙ sym c.from.ensures);
  };
  reads = λ tree reads.
      let read = ap (λ xs. get_or xs 0 0) c.cards_within.ensures.numbers in
      none_below c.args.query.now.counted.now c.args.block c.args.byte c.first_not_below-place.result tree (omega (arith, c.if-byte-eq0.false)) reads
      c.first_not_below-place.ensures.place (λ within is. c.if-character-from.true (read ∙ is ∙ sym c.from.ensures));
}

pub returns-in_err-block_of-clause-finds : goal.returns-in_err-block_of-clause-finds
returns-in_err-block_of-clause-finds c = λ tree reads.
    let same = sym (ap (λ xs. get_or xs 0 0) c.cards_within.ensures.numbers) ∙ c.if-character-from.false ∙ c.from.ensures in
    let node = node_below c.args.query.now.counted.now c.args.block c.args.byte c.first_not_below-place.result tree (omega (arith, c.if-byte-eq0.false)) reads
    c.first_not_below-place.ensures.place c.if-place-block.false same in
    let count = ap (λ xs. get_or xs 1 0) c.cards_within.ensures.numbers in
    let first = ap (λ xs. get_or xs 2 0) c.cards_within.ensures.numbers in
    let lies = node.block.inside (omega (arith, count, node.count, c.in_err-block_of.ensures.fault.some)) in
    absurd (omega (arith, lies, count, first, node.count, c.in_err-block_of.ensures.fault.outside))

pub returns-clause-below : goal.returns-clause-below
returns-clause-below c = record {
  lies = c.in_ok-block_of.ensures.lies;
  none = tt;
  named =
      let same = sym (ap (λ xs. get_or xs 0 0) c.cards_within.ensures.numbers) ∙ c.if-character-from.false ∙ c.from.ensures in
      record {
        node = c.args.block.first + 12 * c.first_not_below-place.result;
        among = record {
          lies = c.requires.lies;
          i = c.first_not_below-place.result;
          within = omega (arith, c.first_not_below-place.ensures.place.within, c.if-place-block.false);
          is = refl;
        };
        of = record { some = omega (arith, c.if-byte-eq0.false); is = same };
        first = c.in_ok-block_of.ensures.block.0 ∙ ap (λ xs. get_or xs 2 0) c.cards_within.ensures.numbers;
        count = c.in_ok-block_of.ensures.block.1 ∙ ap (λ xs. get_or xs 1 0) c.cards_within.ensures.numbers;
      };
  reads = λ tree reads.
      let same = sym (ap (λ xs. get_or xs 0 0) c.cards_within.ensures.numbers) ∙ c.if-character-from.false ∙ c.from.ensures in
      let node = node_below c.args.query.now.counted.now c.args.block c.args.byte c.first_not_below-place.result tree (omega (arith, c.if-byte-eq0.false)) reads
      c.first_not_below-place.ensures.place c.if-place-block.false same in
      block_read c.args.query.now.counted.now _ c.in_ok-block_of.field-0 _
      (c.in_ok-block_of.ensures.block.0 ∙ ap (λ xs. get_or xs 2 0) c.cards_within.ensures.numbers)
      (c.in_ok-block_of.ensures.block.1 ∙ ap (λ xs. get_or xs 1 0) c.cards_within.ensures.numbers) node;
}

pub returns-in_err-block_of-clause-searches : goal.returns-in_err-block_of-clause-searches
returns-in_err-block_of-clause-searches c =
    let same = sym (ap (λ xs. get_or xs 0 0) c.cards_within.ensures.numbers) ∙ c.if-character-from.false ∙ c.from.ensures in
    let p = err_from_is_err_and c.from_residual.result c.from_residual.ensures.1 in
    let block : Siblings = record { first = get_or c.cards_within.result 2 0; count = get_or c.cards_within.result 1 0 } in
    let named : IsNamedBlock c.args.query.now.counted.now (IsSibling c.args.query.now.counted.now c.args.block) c.args.byte block =
    record {
      node = c.args.block.first + 12 * c.first_not_below-place.result;
      among = record {
        lies = c.requires.lies;
        i = c.first_not_below-place.result;
        within = omega (arith, c.first_not_below-place.ensures.place.within, c.if-place-block.false);
        is = refl;
      };
      of = record { some = omega (arith, c.if-byte-eq0.false); is = same };
      first = ap (λ xs. get_or xs 2 0) c.cards_within.ensures.numbers;
      count = ap (λ xs. get_or xs 1 0) c.cards_within.ensures.numbers;
    } in
    rw (p.1, p.2) record {
      fault = inl (block, named, c.in_err-block_of.ensures.fault);
      asked = tt;
      few = tt;
      added = tt;
      cost = search rules;
    }
