use Rattle.std.proofs.Common.{◌≡◌, ◌++◌, ◌∷◌, [], sym, ◌∙◌, arith}
use Rattle.std.proofs.lemmas.Result.{err_from_is_err_and}
use Rattle.std.proofs.lemmas.List.{map_push, nil_from_length}
use Rattle.mime_text.specs.Magic.Entries.{plain_entry, plain_entries}
use Rattle.mime_text.proofs.MagicLemmas.EntryFound.{entry_found}
use Rattle.mime_text.proofs.MagicLemmas.LinesLoop.{lines_go_on, lines_fail, lines_stop, lines_end}
use Rattle.mime_text.proofs.magic.section.lines.Goals as goal
use Rattle.mime_text.proofs.magic.section.lines.Goals.{in-Some+then-not-starts_line, in_default}

pub returns-in_err-next : goal.returns-in_err-next
returns-in_err-next c =
    let p = err_from_is_err_and c.from_residual.result c.from_residual.ensures.1 in
    let starts = sym c.starts_line.ensures ∙ c.if-not-starts_line.false in
    rw (p.1, p.2) (lines_fail _ _ _ _ _ _ _ c.loop-b.invariant c.in-Some.ensures.cases.0 starts c.in_err-next.ensures)

pub overflow_add-limit : goal.overflow_add-limit
overflow_add-limit c = let t = entry_found _ _ _ c.in_ok-next.ensures in omega (arith, t.shallow)

pub loop-b-smaller : goal.loop-b-smaller
loop-b-smaller c = let t = entry_found _ _ _ c.in_ok-next.ensures in t.shorter

pub loop-b-preserved : goal.loop-b-preserved
loop-b-preserved c =
    let n = c.in_ok-next.next in
    let old = c.loop-b.entries.items in
    let pushed : plain_entries (old ++ n ∷ []) ≡ plain_entries old ++ plain_entry n ∷ [] = map_push plain_entry old n in
    let e : plain_entries c.push.new.self.items ≡ plain_entries old ++ plain_entry n ∷ [] = rw c.in_ok-push.ensures.items pushed in
    let starts = sym c.starts_line.ensures ∙ c.if-not-starts_line.false in
    rw e (lines_go_on _ _ _ _ _ _ _ _ c.loop-b.invariant c.in-Some.ensures.cases.0 starts c.in_ok-next.ensures)

pub returns : goal.returns
returns c =
    elim c.match-split_first.branch [
      | in-Some+then-not-starts_line w ↦
          let off = sym w.starts_line.ensures ∙ w.if-not-starts_line.true in
          lines_stop _ _ _ _ _ _ c.loop-b.invariant w.in-Some.ensures.cases.0 off
      | in_default w ↦ lines_end _ _ _ _ c.loop-b.invariant (nil_from_length c.loop-b.rest.now w.in_default.ensures.cases)
    ]
