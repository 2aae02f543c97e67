use Rattle.std.proofs.Common.{◌≤◌, Some, length, arith, refl}
use Rattle.mime_lookup.specs.CheckingOrder.{read_limit}
use Rattle.mime_lookup.proofs.SniffLemmas.Sniffs.{front_size-known, is_sniffed-known}
use Rattle.mime_lookup.proofs.sniff.sniff_content.Goals as goal

pub returns-in_ok-front-in-Some-clause-answers : goal.returns-in_ok-front-in-Some-clause-answers
returns-in_ok-front-in-Some-clause-answers g c =
    let front = c.in_ok-front-in-Some.front.items in
    let read = c.in_ok-front-in-Some.ensures in
    let limited : length front ≤ read_limit (g.A.Asked.plain c.args.database.now) =
    omega (arith, read.front.0, c.read_front.ensures.reader.within, c.front_limit-limit.ensures.limit) in
    let is = rw c.deref.ensures.value at c.sniff.ensures.sniffed in
    rw c.in-Some.is (record {
      sniffed = is_sniffed-known (g.A.Asked.plain c.args.database.now) c.args.host _ _ front read.front.1 limited
          (λ short. read.whole (omega (arith, short, read.front.0, c.front_limit-limit.ensures.limit))) _ is;
      some = (Some front, (front, refl), is);
    })

pub returns-in_ok-front-in-Some-clause-read : goal.returns-in_ok-front-in-Some-clause-read
returns-in_ok-front-in-Some-clause-read g c =
    let front = c.in_ok-front-in-Some.front.items in
    let read = c.in_ok-front-in-Some.ensures in
    let limited : length front ≤ read_limit (g.A.Asked.plain c.args.database.now) =
    omega (arith, read.front.0, c.read_front.ensures.reader.within, c.front_limit-limit.ensures.limit) in
    rw c.in-Some.is
    (front_size-known (g.A.Asked.plain c.args.database.now) c.args.host _ _ front read.front.1 limited
    (λ short. read.whole (omega (arith, short, read.front.0, c.front_limit-limit.ensures.limit)))
    _ (read.front.0))

pub returns-in_ok-front-in-Some-clause-bytes : goal.returns-in_ok-front-in-Some-clause-bytes
returns-in_ok-front-in-Some-clause-bytes g c =
    rw (c.deref.ensures.value, c.in_ok-front-in-Some.ensures.front.0) at c.sniff.ensures.bytes
