use Rattle.std.proofs.Common.{◌≡◌, ◌<◌, ◌∙◌, ap, ap₂, arith, inl, inr, map, nat_lt, not, refl, true, false}
use Rattle.std.proofs.lemmas.Bool.{le-ltb}
use Rattle.mime_base.specs.Kept.Classes.{class_of}
use Rattle.mime_base.specs.Kept.Hidden.{is_by_text, spellings}
use Rattle.mime_base.specs.Matching.Folding.{compared, folded}
use Rattle.mime_text.specs.Merging.Hiding.{least, weight_in}
use Rattle.mime_text.proofs.Merges.Spelled.{below-least, own-decides}
use Rattle.mime_text.proofs.Merges.Twins.{fold-compared, last-decides, last-fails}
use Rattle.mime_text.proofs.merging.hidden.is_outweighed.Goals as goal
use Rattle.mime_text.proofs.merging.hidden.is_outweighed.Goals.{then-rule-via-then-rule}
use Rattle.mime_text.proofs.merging.hidden.is_outweighed.Goals.{then-rule-via-else-rule+then-weight_of-weight}

pub returns-then-rule-clause-hidden : goal.returns-then-rule-clause-hidden
returns-then-rule-clause-hidden c =
    let f = weight_in c.args.weights.now in
    let rule = c.args.rule.now in
    elim c.then-rule.branch [
      | then-rule-via-then-rule w ↦ rw w.if-rule.true refl
      | then-rule-via-else-rule+then-weight_of-weight w ↦
          let own = w.weight_of.ensures ∙ ap f w.bytes.ensures.text in
          let light = le-ltb rule.weight (f rule.pattern) (omega (arith, own, w.if-weight_of-weight.true, c.from-weight.ensures)) in
          last-fails (not rule.cased) (is_by_text (class_of rule.pattern)) _ (own-decides f rule.weight rule.pattern light)
    ]

pub returns-in_ok-known_least-in-Literal : goal.returns-in_ok-known_least-in-Literal
returns-in_ok-known_least-in-Literal c =
    let f = weight_in c.args.weights.now in
    let rule = c.args.rule.now in
    let small : rule.weight < 65535 = omega (arith, c.from-weight.ensures) in
    let text = c.in_ok-text-in-Literal.ensures ∙ ap (map folded) c.bytes-in-Literal.ensures.text ∙ fold-compared rule.pattern in
    let found = c.in_ok-known_least-in-Literal.ensures.least ∙ ap (λ text. least f (spellings text)) text in
    let by_text : is_by_text c.class_of.result ≡ true =
    elim c.in-Literal.is [ inl is ↦ ap is_by_text is | inr is ↦ ap is_by_text is ] in
    record {
      hidden = ap₂ nat_lt c.from-weight.ensures found
          ∙ below-least f rule.weight small (spellings (compared false rule.pattern))
          ∙ last-decides rule.cased (is_by_text (class_of rule.pattern)) _ c.if-rule.false (rw c.class_of.ensures at by_text);
      known = c.in_ok-known_least-in-Literal.ensures.known;
    }
