use Rattle.std.proofs.Common.{◌≡◌, ℕ, List, get_or, sym, ap}
use Rattle.mime_base.specs.Cache.Bytes.{field}
use Rattle.mime_view.proofs.MagicLemmas.MagicLists.{magic_named}
use Rattle.mime_view.proofs.cache.Cache.sniff.Goals as goal

pub returns-clause-answers : goal.returns-clause-answers
returns-clause-answers c = λ offsets sections header allowed stand.
    let number : get_or c.self.inside.header 6 0 ≡ field c.self.inside.counted 0 6 = ap (λ (ns : List ℕ). get_or ns 6 0) c.self.invariant.0 in
    let reads = magic_named c.args.self.now c.self.inside.counted _ offsets sections c.self.view_is number header allowed stand in
    let found = c.sniff-found.ensures.sections sections reads in
    record { answer = rw (sym c.new.ensures) found.answer; need = λ _. found.need allowed; takes = found.takes; counted = rw (sym c.new.ensures) found.counted }
