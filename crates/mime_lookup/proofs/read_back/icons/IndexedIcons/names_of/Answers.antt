use Rattle.std.proofs.Common.{ℕ, List, subst, ◌∙◌}
use Rattle.std.proofs.lemmas.Result.{IfOk-weaker}
use Rattle.mime_lookup.specs.IconsReadBack.{AreIconsOf}
use Rattle.mime_lookup.proofs.SpellingLemmas.ReadIcons.{icons_inside, icons_once}
use Rattle.mime_lookup.proofs.read_back.icons.IndexedIcons.names_of.Goals as goal

pub returns-clause-answer : goal.returns-clause-answer
returns-clause-answer c b spelled =
    let cache = c.args.self.now in
    let of_cache : AreIconsOf cache c.self.inside.index =
    subst (λ (bytes : List ℕ). AreIconsOf bytes c.self.inside.index) c.self.view_is c.self.invariant in
    IfOk-weaker c.names_of.result _ _ (λ names are. are ∙ icons_once cache of_cache.database b of_cache.spelled spelled c.args.kind.now)
    (c.names_of.ensures of_cache.database of_cache.are)

pub returns-clause-lists : goal.returns-clause-lists
returns-clause-lists c =
    let cache = c.args.self.now in
    let of_cache : AreIconsOf cache c.self.inside.index =
    subst (λ (bytes : List ℕ). AreIconsOf bytes c.self.inside.index) c.self.view_is c.self.invariant in
    icons_inside cache of_cache.database of_cache.spelled
