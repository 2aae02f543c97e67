use Rattle.std.proofs.Common.{◌∙◌, ℕ, List, sym, ap}
use Rattle.std.specs.Prelude.{option_copied}
use Rattle.std.proofs.lemmas.List.Elements.{All-same}
use Rattle.mime_base.specs.Kept.Hidden.{spellings}
use Rattle.mime_text.specs.Merging.Hiding.{least, weight_in}
use Rattle.mime_text.proofs.Merges.Known.{IsKnown, known-found, known-more}
use Rattle.mime_text.proofs.merging.hidden.known_least.Goals as goal

pub returns-in-Some-clause-least : goal.returns-in-Some-clause-least
returns-in-Some-clause-least c =
    let f : List ℕ → ℕ = λ text. least (weight_in c.args.weights.now) (spellings text) in
    known-found f c.as_slice-bytes.result.now c.in-Some.found.now c.args.known.now.entries c.requires.known
    (sym c.get.ensures.value ∙ ap option_copied c.in-Some.is)
    ∙ ap f c.as_slice-bytes.ensures.value

pub returns-clause-known : goal.returns-clause-known
returns-clause-known c =
    let f : List ℕ → ℕ = λ text. least (weight_in c.args.weights.now) (spellings text) in
    All-same (IsKnown f) _ _ c.in_ok-insert.ensures.entries
    (known-more f c.args.text c.in_ok-found.found (c.in_ok-found.ensures ∙ ap f c.as_slice-bytes.ensures.value) _ c.requires.known)
