use Rattle.std.proofs.Common.{◌≡◌, length, drop, refl, sym, ◌∙◌, arith}
use Rattle.std.proofs.Math.Bool.{or-true}
use Rattle.std.proofs.lemmas.Bool.{eqb-true}
use Rattle.std.proofs.lemmas.List.{length-take}
use Rattle.mime_base.specs.Cache.Bytes.{value_at}
use Rattle.mime_base.proofs.MagicLemmas.Windows.{nothing_equals}
use Rattle.mime_base.proofs.cache.Counted.value_equals.Goals as goal

pub returns-then-is_empty-clause-equal : goal.returns-then-is_empty-clause-equal
returns-then-is_empty-clause-equal c =
    let no_window : length c.args.window.now ≡ 0 = eqb-true _ _ (sym c.is_empty.ensures ∙ c.if-is_empty.true) in
    let none : c.args.size ≡ 0 = c.requires ∙ no_window in
    let no_value : length (value_at c.args.self.now c.args.at c.args.size) ≡ 0 =
    omega (arith, length-take c.args.size (drop c.args.at c.args.self.now)) in
    (rw (none, or-true) refl, nothing_equals _ _ c.args.word c.args.host _ no_value no_window)
