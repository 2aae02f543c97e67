use Rattle.std.proofs.Common.{◌≡◌, ℕ, List, Ok, get_or, ap, sym, ◌∙◌}
use Rattle.std.specs.Ordering.{nat_cmp}
use Rattle.mime_base.specs.Cache.Texts.{padded}
use Rattle.mime_base.proofs.CacheLemmas.Orders.{order-differs}
use Rattle.mime_base.proofs.CacheLemmas.Padding.{get_or-padded}
use Rattle.mime_base.proofs.cache.key.Key.order_at.Goals as goal

pub returns-clause-order : goal.returns-clause-order
returns-clause-order c =
    let b : ℕ = get_or c.args.rest.now c.args.place 0 in
    let other : get_or c.self.inside.front c.args.place 0 ≡ get_or c.args.self.now c.args.place 0 =
    ap (λ (bytes : List ℕ). get_or bytes c.args.place 0) (c.self.invariant ∙ ap (padded 16) c.self.view_is)
    ∙ get_or-padded 16 c.args.place c.args.self.now c.requires.early in
    let order = order-differs 256 c.args.place c.args.rest.now c.args.self.now c.requires.place c.requires.inside
    (λ e. c.if-byte-other.false (e ∙ sym other)) in
    ap Ok (c.cmp.ensures ∙ ap (nat_cmp b) other ∙ sym order)
