-- A key more.
use Rattle.std.proofs.Common.{◌∙◌, ◌∷◌, ℕ, List, map, not, ap}
use Rattle.std.specs.List.{list_any}
use Rattle.mime_base.specs.Database.PlainPairs.{is_same_pair}
use Rattle.mime_text.proofs.Merges.TailedKeys.{added-tailed, found-tailed, more-tailed, texts_of}
use Rattle.mime_text.proofs.merging.first.Keys.add.Goals as goal

pub returns-clause-new : goal.returns-clause-new
returns-clause-new c =
    let key : List ℕ × List ℕ = (c.args.key.0.now, c.args.key.1.now) in
    c.in_ok-insert.ensures.added
    ∙ ap not (found-tailed (c.tail_of.result, c.args.key.0, c.args.key.1) c.self.inside.texts.keys c.tail_of.ensures c.self.invariant
    ∙ ap (list_any (is_same_pair key)) c.self.view_is)

pub returns-clause-keys : goal.returns-clause-keys
returns-clause-keys c = λ other.
    let key : List ℕ × List ℕ = (c.args.key.0.now, c.args.key.1.now) in
    ap (λ keys. list_any (is_same_pair other) (map texts_of keys)) c.in_ok-insert.ensures.keys
    ∙ added-tailed (c.tail_of.result, c.args.key.0, c.args.key.1) c.self.inside.texts.keys other
    ∙ ap (λ keys. list_any (is_same_pair other) (key ∷ keys)) c.self.view_is

pub invariant_of-self-2 : goal.invariant_of-self-2
invariant_of-self-2 c =
    rw c.in_ok-insert.ensures.keys (more-tailed (c.tail_of.result, c.args.key.0, c.args.key.1) c.self.inside.texts.keys
    c.tail_of.ensures c.self.invariant)
