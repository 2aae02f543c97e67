use Rattle.std.proofs.Common.{[], ◌∷◌, ◌∙◌, refl, sym, append_assoc}
use Rattle.mime_store.proofs.RulesLemmas.Fits.{text_stands}
use Rattle.mime_store.proofs.bytes.append_text.Goals as goal

pub returns-clause-stands : goal.returns-clause-stands
returns-clause-stands c =
    text_stands _ _ _ _ c.args.text.now _ _ c.requires.begun c.place_of-at.ensures c.requires.fits
    c.in_ok-extend_from_slice.ensures.items refl (c.in_ok-append_end.ensures ∙ sym (append_assoc _ (0 ∷ []) _))
