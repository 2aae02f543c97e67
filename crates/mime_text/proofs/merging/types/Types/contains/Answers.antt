-- A type is found by its bytes.
use Rattle.std.proofs.Common.{◌∙◌, ap}
use Rattle.std.proofs.lemmas.Map.Text.{is_eq-slice_cmp}
use Rattle.std.specs.Str.{bytes_eq}
use Rattle.mime_text.proofs.Merges.Sets.{found-map}
use Rattle.mime_text.specs.Merging.{is_among}
use Rattle.mime_text.proofs.merging.types.Types.contains.Goals as goal

pub returns : goal.returns
returns c =
    c.contains.ensures
    ∙ found-map (λ name. name.items) bytes_eq _ c.bytes.result.now (λ name. is_eq-slice_cmp c.bytes.result.now name.items)
    c.self.inside.names.keys
    ∙ ap (λ kinds. is_among kinds c.bytes.result.now) c.self.view_is ∙ ap (is_among c.args.self.now) c.bytes.ensures.text
