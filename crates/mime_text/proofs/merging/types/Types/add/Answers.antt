-- A type more.
use Rattle.std.proofs.Common.{◌∙◌, ◌∷◌, map, ap, ap₂}
use Rattle.std.proofs.lemmas.Map.Text.{is_eq-slice_cmp}
use Rattle.std.proofs.lemmas.Slice.Eq.{bytes_eq-Decides}
use Rattle.std.specs.Str.{bytes_eq}
use Rattle.mime_text.proofs.Merges.Sets.{inserted-map}
use Rattle.mime_text.specs.Merging.{is_among}
use Rattle.mime_text.proofs.merging.types.Types.add.Goals as goal

pub returns : goal.returns
returns c = λ other.
    ap (λ keys. is_among (map (λ name. name.items) keys) other) c.in_ok-insert.ensures.keys
    ∙ inserted-map (λ name. name.items) bytes_eq _ (λ x y. is_eq-slice_cmp x.items y.items) (λ y z. (bytes_eq-Decides y z).0)
    c.in_ok-from_slice.field-0 c.self.inside.names.keys other
    ∙ ap₂ (λ kind kinds. is_among (kind ∷ kinds) other) (c.in_ok-from_slice.ensures.items ∙ c.bytes.ensures.text) c.self.view_is
