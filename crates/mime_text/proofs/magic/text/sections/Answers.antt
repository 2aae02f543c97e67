use Rattle.std.proofs.Common.{◌≡◌, ◌<◌, ◌++◌, ◌∷◌, [], length, sym, ◌∙◌, arith}
use Rattle.std.proofs.lemmas.Bool.{eqb-true, eqb-false}
use Rattle.std.proofs.lemmas.Result.{err_from_is_err_and}
use Rattle.std.proofs.lemmas.List.{map_push, nil_from_length}
use Rattle.mime_text.specs.Magic.Entries.{plain_flat_section, plain_flat_sections}
use Rattle.mime_text.proofs.MagicLemmas.SectionsLoop.{sections_go_on, sections_fail, sections_end}
use Rattle.mime_text.proofs.MagicLemmas.SectionsFound.{section_found}
use Rattle.mime_text.proofs.magic.text.sections.Goals as goal

pub returns-in_err-next : goal.returns-in_err-next
returns-in_err-next c =
    let p = err_from_is_err_and c.from_residual.result c.from_residual.ensures.1 in
    let some : 0 < length c.loop-rest.rest.now = omega (arith, eqb-false _ _ (sym c.is_empty.ensures ∙ c.loop-rest-test.true)) in
    rw (p.1, p.2) (sections_fail _ _ _ _ c.loop-rest.invariant some c.in_err-next.ensures)

pub loop-rest-smaller : goal.loop-rest-smaller
loop-rest-smaller c = let t = section_found _ _ c.in_ok-next.ensures in t.shorter

pub loop-rest-preserved : goal.loop-rest-preserved
loop-rest-preserved c =
    let old = c.loop-rest.sections.items in
    let n = c.in_ok-next.next in
    let e : plain_flat_sections c.push.new.self.items ≡ plain_flat_sections old ++ plain_flat_section n ∷ [] =
    rw c.in_ok-push.ensures.items (map_push plain_flat_section old n) in
    let some : 0 < length c.loop-rest.rest.now = omega (arith, eqb-false _ _ (sym c.is_empty.ensures ∙ c.loop-rest-test.true)) in
    rw e (sections_go_on _ _ _ _ _ c.loop-rest.invariant some c.in_ok-next.ensures)

pub returns : goal.returns
returns c =
    let none = nil_from_length c.loop-rest.rest.now (eqb-true _ _ (sym c.is_empty.ensures ∙ c.loop-rest-test.false)) in
    sections_end _ _ _ c.loop-rest.invariant none
