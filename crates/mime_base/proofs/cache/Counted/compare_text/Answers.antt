use Rattle.std.proofs.Common.{◌≡◌, length, drop, take, Err, ap, ◌∙◌, sym, rules, arith}
use Rattle.std.proofs.lemmas.Grind.{common_steps}
use Rattle.std.proofs.lemmas.List.{length-take}
use Rattle.std.proofs.lemmas.Slice.{between_to_end}
use Rattle.mime_base.specs.Cache.Texts.{front, order_at, order_cost, text_at, text_in}
use Rattle.mime_base.proofs.CacheLemmas.Zeros.{text_in-untold}
use Rattle.mime_base.proofs.cache.Counted.compare_text.Goals as goal

pub returns-in-None : goal.returns-in-None
unfolding text_at order_at order_cost
returns-in-None c =
    let rest = between_to_end c.self.inside.bytes.now c.args.at (length c.self.inside.bytes.now) (omega arith) in
    let bytes : c.front_of-front.result.now ≡ front 256 c.args.self.now c.args.at =
    c.front_of-front.ensures.front ∙ ap (take 256) rest ∙ ap (λ b. front 256 b c.args.at) c.self.view_is in
    let untold = text_in-untold 256 c.args.at c.front_of-front.result.now c.args.key.now _
    (sym c.in-None.is ∙ c.compare_all-order.ensures.order) in
    let fault = ap (text_in 256 c.args.at) (sym bytes) ∙ untold ∙ ap Err (sym c.unended.ensures) in
    record {
      order = search rules;
      text = λ text is. absurd cc;
      fault = fault;
      nodes = search rules;
      bytes = search rules;
      limit = search rules;
      rises = search rules;
    }

pub returns-in-Some : goal.returns-in-Some
unfolding text_at order_at order_cost
returns-in-Some c = record {
  order = grind (arith, common_steps);
  text = grind (arith, common_steps);
  fault = search rules;
  nodes = search rules;
  bytes = grind (arith, common_steps);
  limit = omega (arith, length-take 256 (drop c.args.at c.args.self.now));
  rises = search rules;
}
