use Rattle.std.proofs.Common.{max, ap, arith, ◌∙◌}
use Rattle.mime_base.specs.Magic.Extent.{sections_extent}
use Rattle.mime_base.specs.Magic.{plain_sections}
use Rattle.mime_lookup.specs.CheckingOrder.{read_limit}
use Rattle.mime_lookup.specs.TopLines.{top_lines}
use Rattle.mime_lookup.proofs.indexed.prepared_magic.magic_of.Goals as goal

pub returns : goal.returns
unfolding read_limit
returns c = record {
  found = c.in_ok-heads.ensures.found;
  whole = c.in_ok-heads.ensures.tops ∙ c.in_ok-lines.ensures.tops ∙ ap (λ ss. top_lines (plain_sections ss)) c.deref.ensures.value;
  limits =
      c.limit_of.ensures
      ∙ ap (max 128) (c.in_ok-lines.ensures.extent ∙ ap (λ ss. sections_extent (plain_sections ss)) c.deref.ensures.value);
  some = omega (arith, c.limit_of.ensures);
}
