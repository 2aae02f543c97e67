use Rattle.std.proofs.Common.{◌≡◌, []}
use Rattle.mime_base.specs.Magic.{plain_sections}
use Rattle.mime_text.specs.Magic.Entries.{plain_flat_sections}
use Rattle.mime_text.specs.Magic.File.{kept_sections}
use Rattle.mime_text.proofs.magic.read.kept.Given as goal

abbrev pub invariant-loop-flat : goal.invariant-loop-flat
invariant-loop-flat l = record {
  kept : plain_sections l.sections.items ≡ kept_sections (plain_flat_sections l.yielded);
  roots : l.roots.items ≡ [];
}
