use Rattle.std.proofs.Common.{◌≡◌, ◌∙◌, ℕ, List, length, drop, sym, subst, ap}
use Rattle.std.proofs.lemmas.Bool.{ne_eqb}
use Rattle.mime_base.specs.Matching.Folding.{compared}
use Rattle.mime_base.specs.Matching.Matches.{EndsSo}
use Rattle.mime_names.specs.Rules.{pattern_of}
use Rattle.mime_names.proofs.TextLemmas.{literal-exact, literal-longer, suffix-exact}
use Rattle.mime_names.proofs.indexed_rule.is_match.Goals as goal

pub returns-then-pattern-name-clause-exact : goal.returns-then-pattern-name-clause-exact
returns-then-pattern-name-clause-exact c =
    let pattern = pattern_of c.args.patterns.now c.args.rule.now in
    let name = c.args.name.now in
    let cased = c.args.rule.now.cased in
    let own : c.pattern_of-pattern.result.now ≡ pattern = c.pattern_of-pattern.ensures in
    literal-exact pattern cased name (sym c.requires.own.class ∙ c.in-Literal.is)
    (ap length (sym own) ∙ c.if-pattern-name.true) c.ends_so.result
    (λ is. subst (λ (text : List ℕ). EndsSo cased text name) own (c.ends_so.ensures.so is).1)
    (λ is. subst (λ (text : List ℕ). (k : ℕ) → compared cased (drop k name) ≡ compared cased text → ⊥) own (c.ends_so.ensures.otherwise is))

pub returns-else-pattern-name-clause-exact : goal.returns-else-pattern-name-clause-exact
returns-else-pattern-name-clause-exact c =
    let pattern = pattern_of c.args.patterns.now c.args.rule.now in
    let other : length pattern ≡ length c.args.name.now → ⊥ = λ same. c.if-pattern-name.false (ap length c.pattern_of-pattern.ensures ∙ same) in
    ne_eqb (length c.pattern_of-pattern.result.now) (length c.args.name.now) c.if-pattern-name.false
    ∙ sym (literal-longer pattern c.args.rule.now.cased c.args.name.now (sym c.requires.own.class ∙ c.in-Literal.is) other)

pub returns-in-Suffix-clause-exact : goal.returns-in-Suffix-clause-exact
returns-in-Suffix-clause-exact c =
    suffix-exact (pattern_of c.args.patterns.now c.args.rule.now) c.args.rule.now.cased c.args.name.now (sym c.requires.own.class ∙ c.in-Suffix.is)
    c.after_first.result.now (λ first rest is. c.after_first.ensures first rest (c.pattern_of-pattern.ensures ∙ is)) c.ends_so-in-Suffix.result
    (λ is. (c.ends_so-in-Suffix.ensures.so is).1) c.ends_so-in-Suffix.ensures.otherwise
