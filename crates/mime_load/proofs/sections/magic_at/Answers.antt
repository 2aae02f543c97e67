use Rattle.std.proofs.Common.{◌≡◌, ℕ, get_or, ap, subst, sym, ◌∙◌, arith}
use Rattle.std.proofs.lemmas.Result.{err_from_is_err_and}
use Rattle.mime_base.specs.Cache.Bytes.{fields}
use Rattle.mime_base.specs.Magic.Extent.{sections_extent}
use Rattle.mime_load.specs.Lent.{plain_magic}
use Rattle.mime_load.specs.MagicStanding.{MagicStands}
use Rattle.mime_load.proofs.AddedSections.{length-read}
use Rattle.mime_load.proofs.FlatLines.{sections_over-flat}
use Rattle.mime_load.proofs.SectionLemmas.{magic_stands}
use Rattle.mime_load.proofs.SectionsRead.{head_inside, head_read}
use Rattle.mime_load.proofs.WholeLemmas.{same_magic, same_sections}
use Rattle.mime_load.proofs.sections.magic_at.Goals as goal

pub returns-clause-stand : goal.returns-clause-stand
returns-clause-stand c =
    let cache = c.args.source.now.counted.now in
    let read = c.in_ok-magic.ensures.reads in
    let are : plain_magic c.in_ok-magic.magic ≡ read.plain = sections_over-flat _ _ read.plain read.are in
    let extent : sections_extent read.plain ≡ get_or c.in_ok-count.field-0 1 0 =
    ap sections_extent (sym are) ∙ sym c.magic_extent.ensures ∙ c.if-magic_extent-from.false ∙ c.from-2.ensures in
    subst (MagicStands cache c.args.at) (sym are)
    (subst (λ (at : ℕ). MagicStands cache at read.plain) c.from.ensures
    (magic_stands cache c.from.result c.in_ok-count.field-0 read.plain c.in_ok-count.ensures.numbers
    c.in_ok-count.ensures.stand (length-read _ _ _ _ _ _ read ∙ c.in_ok-magic.ensures.count) extent read.stand))

pub returns-clause-taken : goal.returns-clause-taken
returns-clause-taken c =
    let read = c.in_ok-magic.ensures.reads in
    let are : plain_magic c.in_ok-magic.magic ≡ read.plain = sections_over-flat _ _ read.plain read.are in
    rw are (record { records = read.taken.records; value_bytes = read.taken.value_bytes })

pub returns-in_err-count-clause-need : goal.returns-in_err-count-clause-need
returns-in_err-count-clause-need c = λ sections stands room.
    let inside = head_inside c.args.source.now.counted.now c.args.at sections stands in
    absurd (omega (arith, inside, c.from.ensures, c.in_err-count.ensures.fault))

pub returns-in_err-magic-clause-need : goal.returns-in_err-magic-clause-need
returns-in_err-magic-clause-need c = λ sections stands room.
    let cache = c.args.source.now.counted.now in
    let read = head_read cache c.args.at c.in_ok-count.field-0 sections
    (c.in_ok-count.ensures.numbers ∙ ap (λ (at : ℕ). fields cache at 3) c.from.ensures) stands in
    let p = err_from_is_err_and c.from_residual-in_err-magic.result c.from_residual-in_err-magic.ensures.1 in
    rw (p.1, p.2) (c.in_err-magic.ensures.need sections read.size read.stand (record {
      records = room.records;
      value_bytes = room.value_bytes;
    }))

pub returns-then-magic_extent-from-clause-need : goal.returns-then-magic_extent-from-clause-need
returns-then-magic_extent-from-clause-need c = λ sections stands room.
    let cache = c.args.source.now.counted.now in
    let head = head_read cache c.args.at c.in_ok-count.field-0 sections
    (c.in_ok-count.ensures.numbers ∙ ap (λ (at : ℕ). fields cache at 3) c.from.ensures) stands in
    let read = c.in_ok-magic.ensures.reads in
    let are : plain_magic c.in_ok-magic.magic ≡ read.plain = sections_over-flat _ _ read.plain read.are in
    let same : read.plain ≡ sections =
    same_sections cache (get_or c.in_ok-count.field-0 2 0) read.plain sections
    (length-read _ _ _ _ _ _ read ∙ c.in_ok-magic.ensures.count ∙ sym head.size) read.stand head.stand in
    let extent : c.magic_extent.result ≡ c.from-2.result =
    c.magic_extent.ensures ∙ ap sections_extent (are ∙ same) ∙ head.extent ∙ sym c.from-2.ensures in
    absurd (c.if-magic_extent-from.true extent)

pub returns-clause-whole : goal.returns-clause-whole
returns-clause-whole c = λ sections stands. same_magic c.args.source.now.counted.now c.args.at _ sections (returns-clause-stand c) stands
