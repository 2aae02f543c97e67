use Rattle.std.proofs.Common.{◌-◌, ◌++◌, List, ℕ, take, arith, rules}
use Rattle.std.proofs.lemmas.List.{length-append, length-take-le}
use Rattle.std.proofs.KnownBytes.{Consumes-trans}
use Rattle.mime_lookup.proofs.ContentLemmas.Tallies.{interrupts-trans}
use Rattle.mime_lookup.proofs.reading.read_front.Goals as goal

pub returns-in_err-count-clause-reader : goal.returns-in_err-count-clause-reader
returns-in_err-count-clause-reader g c = record {
  gives_up = search rules;
  goes = search rules;
  fails = search rules;
  advances = search rules;
  within = search rules;
}

pub returns-then-count-eq0-clause-reader : goal.returns-then-count-eq0-clause-reader
returns-then-count-eq0-clause-reader g c = record {
  gives_up = tt;
  goes = (
    1000 - c.read_block.new.retries,
    omega arith,
    interrupts-trans (g.R.Content.tally c.args.reader.now) (g.R.Content.tally c.loop-block.reader) (g.R.Content.tally c.read_block.new.reader)
        (1000 - c.loop-block.retries) (c.loop-block.retries - c.read_block.new.retries) (1000 - c.read_block.new.retries)
        (omega (arith, c.loop-block.invariant.fewer, c.read_block.ensures.fewer)) c.loop-block.invariant.goes c.in_ok-count.ensures.tally,
  );
  fails = tt;
  advances = search rules;
  within = search rules;
}

pub returns-in_err-extend_from_slice-clause-reader : goal.returns-in_err-extend_from_slice-clause-reader
returns-in_err-extend_from_slice-clause-reader g c =
    let piece : List ℕ = take c.in_ok-count.count c.read_block.new.block in
    record {
      gives_up = search rules;
      goes = search rules;
      fails = search rules;
      advances = (
        c.loop-block.front.items ++ piece,
        Consumes-trans (g.R.Read.remaining c.args.reader.now) (g.R.Read.remaining c.loop-block.reader)
            (g.R.Read.remaining c.read_block.new.reader) c.loop-block.front.items piece
            c.loop-block.invariant.consumed c.in_ok-count.ensures.bytes.0,
        omega (
          arith,
          length-append c.loop-block.front.items piece,
          length-take-le c.in_ok-count.count c.read_block.new.block c.in_ok-count.ensures.within,
          c.loop-block.invariant.read,
          c.loop-block.front.ok.0,
        ),
      );
      within = search rules;
    }
