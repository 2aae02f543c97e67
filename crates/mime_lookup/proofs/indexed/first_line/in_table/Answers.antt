use Rattle.std.proofs.Common.{◌≡◌, ℕ, ◌+◌, ◌*◌, ◌<◌, length, get_or, sym, ap, ◌∙◌, arith}
use Rattle.std.proofs.lemmas.Grind.{get_or_default_zero}
use Rattle.mime_lookup.proofs.indexed.first_line.in_table.Goals as goal

pub returns-clause-bytes : goal.returns-clause-bytes
returns-clause-bytes g c = λ owner owns.
    let tables = c.args.tables.now in
    c.in_chain.ensures.bytes owner c.args.table (record {
      named = λ line is.
          let small : c.from.result < 256 = omega (arith, c.from.ensures, c.bytes-bytes.ensures.bytes c.index.result.now) in
          let slot : ℕ = c.args.table * 256 + c.from.result in
          let inside : slot < length tables.firsts.items = omega (arith, small, c.requires.has.slots) in
          let named : get_or tables.firsts.items slot 0 ≡ line + 1 =
          omega (arith, is, c.index-2.ensures, get_or_default_zero tables.firsts.items slot c.index-2.result.now inside) in
          (owns.named c.args.table c.from.result line small named).1;
      next = λ line after own is.
          let link = sym (ap (λ xs. get_or xs line 0) c.deref.ensures.value) ∙ is in
          (owns.next line after (omega arith) (omega (arith, own, c.requires.has.place)) link).1 ∙ own;
    })
