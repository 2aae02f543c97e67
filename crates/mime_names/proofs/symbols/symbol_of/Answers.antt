use Rattle.std.proofs.Common.{◌≡◌, get_or, ap, ◌∙◌, refl, rules, arith}
use Rattle.mime_names.specs.Tree.{symbol}
use Rattle.mime_names.specs.declared.symbols.TheConstants.{SYMBOL}
use Rattle.mime_names.proofs.SymbolLemmas.{agree_below, are-symbols}
use Rattle.mime_names.proofs.TreeLemmas.{symbol-below}
use Rattle.mime_names.proofs.symbols.symbol_of.Goals as goal

-- the entry of a byte is its symbol
is-symbol : (c : goal.After-from-2) → c.from-2.result ≡ symbol c.args.byte
unfolding agree_below
is-symbol c = c.from-2.ensures ∙ ap (λ n. get_or SYMBOL n 0) c.from.ensures ∙ are-symbols SYMBOL refl c.args.byte (search rules)

pub returns-clause-symbol : goal.returns-clause-symbol
returns-clause-symbol c = is-symbol c

pub returns-clause-below : goal.returns-clause-below
returns-clause-below c = omega (arith, is-symbol c, symbol-below c.args.byte)
