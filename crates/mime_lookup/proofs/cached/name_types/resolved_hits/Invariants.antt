use Rattle.std.proofs.Common.{◌≡◌, ℕ, ◌*◌, All, Ok, length}
use Rattle.mime_base.specs.Cache.Texts.{text_at}
use Rattle.mime_base.specs.Database.{PlainDatabase}
use Rattle.mime_base.specs.Database.Subclass.{resolved}
use Rattle.mime_lookup.specs.Spelling.{SpellsGlobs}
use Rattle.mime_view.specs.Spending.{Looks}
use Rattle.mime_lookup.proofs.OrderLemmas.KeptTypes.{stepped}
use Rattle.mime_lookup.proofs.cached.name_types.resolved_hits.Given as goal

abbrev pub invariant-loop-place : goal.invariant-loop-place
invariant-loop-place l = record {
  size : length l.kinds ≡ length l.initial.kinds;
  answer : (b : PlainDatabase) → SpellsGlobs l.cache b → l.kinds ≡ stepped (resolved b.aliases) l.place l.initial.kinds;
  text : All (λ kind. (at : ℕ) × (text_at l.cache at ≡ Ok kind)) l.kinds;
  budget : l.spending.budget ≡ l.initial.spending.budget;
  cost : Looks (29 * l.place) (256 * 29 * l.place) l.initial.spending.meter l.spending.meter;
}
