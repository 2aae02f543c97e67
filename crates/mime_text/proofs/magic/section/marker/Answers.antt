use Rattle.std.proofs.Common.{◌≡◌, None, sym, ◌∙◌}
use Rattle.mime_text.specs.Magic.Reading.{after_prefix, unsized, short}
use Rattle.mime_text.proofs.MagicLemmas.Prefixes.{marker_last, marker_none}
use Rattle.mime_text.proofs.magic.section.marker.Goals as goal

pub returns : goal.returns
returns c =
    let first : after_prefix unsized c.args.bytes.now ≡ None = sym (rw c.in_default.is at c.after_prefix.ensures) in
    let second : after_prefix short c.args.bytes.now ≡ None = sym (rw c.in_default-after_prefix.is at c.after_prefix-2.ensures) in
    rw (marker_last c.args.bytes.now first second) c.after_prefix-3.ensures

pub returns-then-not-may_be_marker : goal.returns-then-not-may_be_marker
returns-then-not-may_be_marker c = sym (marker_none c.args.bytes.now (sym c.may_be_marker.ensures ∙ c.if-not-may_be_marker.true))
