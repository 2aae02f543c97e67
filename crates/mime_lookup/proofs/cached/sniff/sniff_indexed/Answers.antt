use Rattle.std.proofs.Common.{◌∙◌, List, ℕ, ap}
use Rattle.mime_base.specs.Database.{PlainDatabase}
use Rattle.mime_base.specs.Magic.Holds.{first_magic}
use Rattle.mime_base.specs.Magic.{PlainSection}
use Rattle.mime_load.specs.MagicStanding.{HasMagic}
use Rattle.mime_load.proofs.MagicAlone.{one_magic}
use Rattle.mime_lookup.specs.Finding.{found_by}
use Rattle.mime_lookup.specs.Spelling.{SpellsMagic}
use Rattle.mime_lookup.proofs.OrderLemmas.ByContents.{content_magic}
use Rattle.mime_lookup.proofs.SniffLemmas.MagicTexts.{first_text, found_text}
use Rattle.mime_lookup.proofs.cached.sniff.sniff_indexed.Goals as goal

-- the magic list of a database that a cache spells
has_magic : (c : List ℕ) (b : PlainDatabase) → SpellsMagic c b → HasMagic c b.sections
has_magic c b spells = record {
  offsets = spells.offsets;
  header = spells.header;
  magic = record { list = spells.magic; allowed = spells.lines };
}

pub returns-clause-found : goal.returns-clause-found
returns-clause-found a =
    rw a.in-Some.is (λ c b is enough.
    let front = a.in-Some.front.now in
    let same = one_magic c is.sections b.sections is.has (has_magic c b (content_magic c front b enough)) in
    a.finding_of.ensures.found ∙ ap (λ section. found_by section front)
    (a.first_section-section.ensures.first is.sections is.lines
    ∙ ap (λ (sections : List PlainSection). first_magic sections front a.args.host) same))

pub returns-clause-finding : goal.returns-clause-finding
returns-clause-finding a c is =
    let front = a.in-Some.front.now in
    a.finding_of.ensures.finding c (found_text c a.first_section-section.result _ (a.first_section-section.ensures.first is.sections is.lines)
    (first_text c is.has.magic.list.first is.sections front a.args.host is.has.magic.list.stand))
