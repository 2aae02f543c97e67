use Rattle.std.proofs.Common.{◌≡◌, ◌+◌, ◌-◌, ◌*◌, take, drop, ap, ◌∙◌, arith}
use Rattle.mime_base.specs.Cache.Bytes.{value_at}
use Rattle.mime_base.proofs.CacheLemmas.Numbers.{fields-read}
use Rattle.mime_base.proofs.cache.Counted.cards_within.Goals as goal

pub returns-clause-numbers : goal.returns-clause-numbers
returns-clause-numbers g c =
    let size : c.args.at + 4 * g.row.N - c.args.at ≡ 4 * g.row.N = omega arith in
    let record_bytes : take (c.args.at + 4 * g.row.N - c.args.at) (drop c.args.at c.self.inside.bytes.now)
    ≡ value_at c.args.self.now c.args.at (4 * g.row.N) =
    ap (λ n. take n (drop c.args.at c.self.inside.bytes.now)) size
    ∙ ap (λ b. value_at b c.args.at (4 * g.row.N)) c.self.view_is in
    fields-read c.args.self.now _ _ c.args.at g.row.N record_bytes c.read_u32_into.ensures (omega arith)
