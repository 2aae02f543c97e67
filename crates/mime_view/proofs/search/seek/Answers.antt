use Rattle.std.proofs.Common.{◌≡◌, ℕ, ◌+◌, ◌-◌, ◌*◌, ◌/◌, Equal, nat_cmp, true≢false, arith, ◌∙◌, sym, ap, get_or}
use Rattle.std.proofs.lemmas.Result.{err_from_is_err_and}
use Rattle.std.specs.Cmp.Lexicographic.{slice_cmp}
use Rattle.mime_view.proofs.ListLemmas.EqualTexts.{equal_text}
use Rattle.mime_base.specs.Cache.Bytes.{field}
use Rattle.mime_base.specs.Cache.Texts.{text_at}
use Rattle.mime_view.proofs.SearchLemmas.Halving.{count_small, halved, few}
use Rattle.mime_view.proofs.ListLemmas.OneText.{same_text}
use Rattle.mime_view.proofs.SearchLemmas.Places.{splits-found, key_at}
use Rattle.mime_view.proofs.search.seek.Goals as goal

pub returns-in_err-compare_key-clause-answer : goal.returns-in_err-compare_key-clause-answer
returns-in_err-compare_key-clause-answer c = λ keys n stand.
    let middle : ℕ = (c.loop-low.low + c.loop-low.high) / 2 in
    let text = key_at c.args.counted.now c.args.first c.args.size keys middle stand (omega arith) in
    let at : c.from.result ≡ field c.args.counted.now (c.args.first + c.args.size * middle) 0 =
    c.from.ensures ∙ ap (λ xs. get_or xs 0 0) c.cards_within.ensures.numbers in
    let order = c.in_err-compare_key.ensures.text _ (ap (text_at c.args.counted.now) at ∙ text) in
    absurd (cc order)

pub returns-in_err-compare_key-clause-sought : goal.returns-in_err-compare_key-clause-sought
returns-in_err-compare_key-clause-sought c =
    let middle : ℕ = (c.loop-low.low + c.loop-low.high) / 2 in
    let at : c.from.result ≡ field c.args.counted.now (c.args.first + c.args.size * middle) 0 =
    c.from.ensures ∙ ap (λ xs. get_or xs 0 0) c.cards_within.ensures.numbers in
    let p = err_from_is_err_and c.from_residual.result c.from_residual.ensures.1 in
    rw p.1 (record {
      i = middle;
      within = omega arith;
      text = record {
        fault = c.in_err-compare_key.field-0.0;
        no_text = ap (text_at c.args.counted.now) (sym at) ∙ c.in_err-compare_key.ensures.fault;
        is = p.2;
      };
    })

pub returns-clause-answer : goal.returns-clause-answer
returns-clause-answer c = λ keys n stand sorted.
    let e : c.loop-low.high ≡ c.loop-low.low = omega arith in
    splits-found c.args.counted.now c.args.first c.args.size c.args.count c.args.key.now c.loop-low.low keys n
    (record { within = omega arith; before = c.loop-low.invariant.before; after = rw e at c.loop-low.invariant.after })
    stand sorted

pub returns-clause-sought : goal.returns-clause-sought
returns-clause-sought c =
    let e : c.loop-low.high ≡ c.loop-low.low = omega arith in
    record {
      found = record { within = omega arith; before = c.loop-low.invariant.before; after = rw e at c.loop-low.invariant.after };
      same = rw e at c.loop-low.invariant.equal;
      other = rw e at c.loop-low.invariant.other;
    }

pub loop-low-preserved-in-Less : goal.loop-low-preserved-in-Less
loop-low-preserved-in-Less c =
    let middle : ℕ = (c.loop-low.low + c.loop-low.high) / 2 in
    let p : ℕ = c.loop-low.invariant.probes.0 in
    let wide : ℕ = c.loop-low.high - c.loop-low.low in
    let small = count_small c.args.first c.args.size c.args.count _ c.requires.size c.requires.fits c.requires.limit in
    let early = few p wide c.args.count c.loop-low.invariant.probes.2 (omega arith) small in
    record {
      order = omega arith;
      within = c.loop-low.invariant.within;
      before = λ i text e stands.
          let m : middle ≡ i = omega arith in
          let read : c.from.result ≡ field c.args.counted.now (c.args.first + c.args.size * middle) 0 =
          c.from.ensures ∙ ap (λ xs. get_or xs 0 0) c.cards_within.ensures.numbers in
          let at = read ∙ ap (λ (j : ℕ). field c.args.counted.now (c.args.first + c.args.size * j) 0) m in
          let order = c.in_ok-compare_key.ensures.text text (ap (text_at c.args.counted.now) at ∙ stands) in
          cc (order, c.in-Less.is);
      after = c.loop-low.invariant.after;
      equal = c.loop-low.invariant.equal;
      other = c.loop-low.invariant.other;
      rises = omega arith;
      bytes_rise = omega arith;
      probes = (p + 1, omega arith, halved p wide _ _ c.loop-low.invariant.probes.2 (omega arith), omega arith, omega arith);
    }

pub loop-low-preserved-in-Equal : goal.loop-low-preserved-in-Equal
loop-low-preserved-in-Equal c =
    let middle : ℕ = (c.loop-low.low + c.loop-low.high) / 2 in
    let p : ℕ = c.loop-low.invariant.probes.0 in
    let wide : ℕ = c.loop-low.high - c.loop-low.low in
    let small = count_small c.args.first c.args.size c.args.count _ c.requires.size c.requires.fits c.requires.limit in
    let early = few p wide c.args.count c.loop-low.invariant.probes.2 (omega arith) small in
    let at : c.from.result ≡ field c.args.counted.now (c.args.first + c.args.size * middle) 0 =
    c.from.ensures ∙ ap (λ xs. get_or xs 0 0) c.cards_within.ensures.numbers in
    record {
      order = omega arith;
      within = omega arith;
      before = c.loop-low.invariant.before;
      after = λ text h stands less.
          let order = c.in_ok-compare_key.ensures.text text (ap (text_at c.args.counted.now) at ∙ stands) in
          cc (order, less, c.in-Equal.is);
      equal = λ yes. (
        omega arith,
        ap (text_at c.args.counted.now) (sym at)
            ∙ equal_text c.args.counted.now c.from.result c.args.key.now (cc (c.in_ok-compare_key.ensures.order, c.in-Equal.is)),
      );
      other = λ no. absurd (true≢false no);
      rises = omega arith;
      bytes_rise = omega arith;
      probes = (p + 1, omega arith, halved p wide _ _ c.loop-low.invariant.probes.2 (omega arith), omega arith, omega arith);
    }

pub loop-low-preserved : goal.loop-low-preserved
loop-low-preserved c =
    let middle : ℕ = (c.loop-low.low + c.loop-low.high) / 2 in
    let p : ℕ = c.loop-low.invariant.probes.0 in
    let wide : ℕ = c.loop-low.high - c.loop-low.low in
    let small = count_small c.args.first c.args.size c.args.count _ c.requires.size c.requires.fits c.requires.limit in
    let early = few p wide c.args.count c.loop-low.invariant.probes.2 (omega arith) small in
    let at : c.from.result ≡ field c.args.counted.now (c.args.first + c.args.size * middle) 0 =
    c.from.ensures ∙ ap (λ xs. get_or xs 0 0) c.cards_within.ensures.numbers in
    record {
      order = omega arith;
      within = omega arith;
      before = c.loop-low.invariant.before;
      after = λ text h stands less.
          let order = c.in_ok-compare_key.ensures.text text (ap (text_at c.args.counted.now) at ∙ stands) in
          cc (order, less, c.in-Greater.is);
      equal = λ yes. absurd (true≢false (sym yes));
      other = λ no text h stands same.
          let order = c.in_ok-compare_key.ensures.text text (ap (text_at c.args.counted.now) at ∙ stands) in
          let alike : slice_cmp nat_cmp text c.args.key.now ≡ Equal = same_text text c.args.key.now same in
          cc (order, alike, c.in-Greater.is);
      rises = omega arith;
      bytes_rise = omega arith;
      probes = (p + 1, omega arith, halved p wide _ _ c.loop-low.invariant.probes.2 (omega arith), omega arith, omega arith);
    }
