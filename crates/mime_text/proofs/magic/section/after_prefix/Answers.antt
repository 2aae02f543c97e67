use Rattle.std.proofs.Common.{◌≡◌, ℕ, List, ◌++◌, Option, Some, None, MatchOption, Bor, sym}
use Rattle.std.specs.Prelude.{◌≢◌}
use Rattle.std.proofs.lemmas.Slice.Eq.{strip_prefix_is}
use Rattle.std.proofs.lemmas.Bool.Decides.{Decides-eqb}
use Rattle.mime_text.specs.Magic.Entries.{slice_bytes}
use Rattle.mime_text.specs.Magic.Reading.{after_prefix}
use Rattle.mime_text.proofs.MagicLemmas.Prefixes.{after_prefix_is}
use Rattle.mime_text.proofs.magic.section.after_prefix.Goals as goal

seen : (p bytes : List ℕ) (o : Option (Bor (List ℕ))) → MatchOption o ((rest : List ℕ) → bytes ≢ p ++ rest) (λ x. bytes ≡ p ++ x.now)
    → slice_bytes o ≡ after_prefix p bytes
seen p bytes None h = sym (after_prefix_is p bytes None h)
seen p bytes (Some x) h = sym (after_prefix_is p bytes (Some x.now) h)

pub returns : goal.returns
returns c = seen c.args.prefix.now c.args.bytes.now c.strip_prefix.result
    (strip_prefix_is Decides-eqb c.args.bytes.now c.args.prefix.now c.strip_prefix.result c.strip_prefix.ensures.cases)
