use Rattle.std.proofs.Common.{◌≡◌, length, refl, arith}
use Rattle.mime_lookup.specs.NameMap.{other_of}
use Rattle.mime_lookup.proofs.NameMapLemmas.Added.{updates-added}
use Rattle.mime_lookup.proofs.name_map.add_entry.Goals as goal

pub returns-clause-updates : goal.returns-clause-updates
returns-clause-updates g c =
    let map = c.args.map.now in
    let number : c.len-number.result ≡ length map.entries.items = omega (arith, c.len-number.ensures, map.entries.ok.0) in
    rw (c.in_ok-push.ensures.items, number)
    (updates-added map.numbers.items map.entries.items _ c.args.at (omega (arith, c.requires.within, c.requires.map.many))
    (omega (arith, number, c.from.ensures, c.if-number-from.false)) c.requires.map.empty (other_of map) c.args.name.now
    c.requires.mark c.requires.first refl)
