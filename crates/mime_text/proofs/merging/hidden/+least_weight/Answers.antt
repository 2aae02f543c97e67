-- The small letter is tried first, then its capital.
use Rattle.std.proofs.Common.{◌+◌, ◌-◌, ◌<◌, ◌∙◌, drop, get_or, length, set, take, sym, ap, ap₂, min, arith}
use Rattle.mime_text.specs.Merging.Hiding.{weight_in}
use Rattle.mime_text.proofs.Merges.Spelled.{least-end, least-here, least-letter, least-next, least-none, least-other}
use Rattle.mime_text.proofs.Merges.Spelled.{least-set, ord_min-min, set-again}
use Rattle.mime_text.proofs.merging.hidden.+least_weight.Goals as goal
use Rattle.mime_text.proofs.merging.hidden.+least_weight.Goals.{then-small-eq0-via-then-small-eq0}
use Rattle.mime_text.proofs.merging.hidden.+least_weight.Goals.{then-small-eq0-via-else-small-eq0+then-not-is_ascii_lowercase}

pub returns-then-place-text-clause-least : goal.returns-then-place-text-clause-least
returns-then-place-text-clause-least t c =
    let f = weight_in c.args.weights.now in
    c.weight_of.ensures
    ∙ sym (least-end f c.args.text.now c.args.place c.if-place-text.true (omega (arith, c.weight_of.ensures, c.weight_of.type_inv)))

pub returns-then-small-eq0-clause-least : goal.returns-then-small-eq0-clause-least
returns-then-small-eq0-clause-least t c =
    let f = weight_in c.args.weights.now in
    let text = c.args.text.now in
    let place = c.args.place in
    let b = get_or text place 0 in
    let inside : place < length text = omega (arith, c.requires, c.if-place-text.false) in
    let small = c.least_weight-small.ensures.least ∙ least-next f text place inside in
    elim c.then-small-eq0.branch [
      | then-small-eq0-via-then-small-eq0 w ↦ w.if-small-eq0.true
          ∙ sym (least-here f text place inside
          ∙ least-none f (take place text) b (drop (place + 1) text) (sym small ∙ w.if-small-eq0.true))
      | then-small-eq0-via-else-small-eq0+then-not-is_ascii_lowercase w ↦ small
          ∙ sym (least-here f text place inside
          ∙ least-other f (take place text) b (drop (place + 1) text)
          (sym w.is_ascii_lowercase.ensures.value ∙ w.if-not-is_ascii_lowercase.true))
    ]

pub returns-clause-least : goal.returns-clause-least
returns-clause-least t c =
    let f = weight_in c.args.weights.now in
    let text = c.args.text.now in
    let place = c.args.place in
    let b = get_or text place 0 in
    let inside : place < length text = omega (arith, c.requires, c.if-place-text.false) in
    let small = c.least_weight-small.ensures.least ∙ least-next f text place inside in
    let capital = rw c.least_weight-small.ensures.text at c.least_weight-capital.ensures.least ∙ least-set f text place inside (b - 32) in
    let letter = least-letter f (take place text) b (drop (place + 1) text)
    (sym c.is_ascii_lowercase.ensures.value ∙ c.if-not-is_ascii_lowercase.false) in
    c.min.ensures ∙ ord_min-min c.least_weight-small.result c.least_weight-capital.result ∙ ap₂ min small capital
    ∙ sym (least-here f text place inside ∙ letter)

pub returns-clause-text : goal.returns-clause-text
returns-clause-text t c =
    let text = c.args.text.now in
    let place = c.args.place in
    let b = get_or text place 0 in
    let inside : place < length text = omega (arith, c.requires, c.if-place-text.false) in
    ap (λ xs. set xs place b) (c.least_weight-capital.ensures.text ∙ ap (λ xs. set xs place (b - 32)) c.least_weight-small.ensures.text)
    ∙ set-again (weight_in c.args.weights.now) text place inside (b - 32)
