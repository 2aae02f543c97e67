use Rattle.std.proofs.Common.{◌≡◌, true, false, ℕ, sym, subst, ◌∙◌, arith, inr, rules}
use Rattle.std.proofs.lemmas.Result.{err_from_is_err_and}
use Rattle.mime_view.specs.Parents.{IsTextsFault, ReadsTexts, has_place, parents_at}
use Rattle.mime_view.proofs.ParentsLemmas.ParentEntries.{entry_is, marked_parents, some_parent, unmarked_read}
use Rattle.mime_view.proofs.ListLemmas.TextLists.{texts-same, texts_stop}
use Rattle.mime_view.proofs.parents.parents_of.Goals as goal

pub returns-then-contains-clause-answer : goal.returns-then-contains-clause-answer
returns-then-contains-clause-answer c = λ pairs kinds reads.
    let entry = rw c.in-Some.is at c.in_ok-found.ensures.found.entry in
    let is = entry_is c.args.counted.now c.args.at c.args.kind.now c.in-Some.found.place entry.within entry.text in
    let marked : has_place c.args.marks.now c.in-Some.found.place ≡ true = sym c.contains.ensures ∙ c.if-contains.true in
    let place = rw c.in-Some.is at (c.in_ok-found.ensures.answer kinds reads.types) in
    let some = some_parent c.args.counted.now c.args.at pairs kinds reads c.args.kind.now c.in-Some.found.place is in
    let none = marked_parents c.args.counted.now c.args.at pairs kinds reads c.args.marks.now
    c.args.kind.now c.in-Some.found.place is marked in
    record {
      answer = (sym place, some, c.none-types.ensures ∙ sym none);
      need = search rules;
      most = omega arith;
    }

pub returns-then-contains-clause-taken : goal.returns-then-contains-clause-taken
returns-then-contains-clause-taken c =
    let entry = rw c.in-Some.is at c.in_ok-found.ensures.found.entry in
    let is = entry_is c.args.counted.now c.args.at c.args.kind.now c.in-Some.found.place entry.within entry.text in
    let marked : has_place c.args.marks.now c.in-Some.found.place ≡ true = sym c.contains.ensures ∙ c.if-contains.true in
    record {
      inside = c.in_ok-found.ensures.found.inside;
      read = record {
        entry = is;
        marked = λ _. c.none-types.ensures;
        unmarked = λ other. absurd (cc (marked, other));
      };
      marked = search rules;
      taken = search rules;
    }

pub returns-in_err-types-clause-answer : goal.returns-in_err-types-clause-answer
returns-in_err-types-clause-answer c = λ pairs kinds reads.
    let entry = rw c.in-Some.is at c.in_ok-found.ensures.found.entry in
    let is = entry_is c.args.counted.now c.args.at c.args.kind.now c.in-Some.found.place entry.within entry.text in
    let unmarked : has_place c.args.marks.now c.in-Some.found.place ≡ false = sym c.contains.ensures ∙ c.if-contains.false in
    let at : c.from.result ≡ parents_at c.args.counted.now c.args.at c.in-Some.found.place = c.from.ensures ∙ entry.second in
    let above = unmarked_read c.args.counted.now c.args.at pairs kinds reads c.args.marks.now
    c.args.kind.now c.in-Some.found.place is unmarked in
    let here = rw (sym at) at above in
    let p = err_from_is_err_and c.from_residual-in_err-types.result c.from_residual-in_err-types.ensures.1 in
    rw (p.1, p.2) (record {
      answer = search rules;
      need = λ enough. texts_stop c.args.counted.now c.from.result _ _ _ _ here enough c.in_err-types.ensures.texts;
      most = omega (arith, c.take_texts.ensures.most, here.count);
    })

pub returns-in_err-types-clause-taken : goal.returns-in_err-types-clause-taken
returns-in_err-types-clause-taken c =
    let entry = rw c.in-Some.is at c.in_ok-found.ensures.found.entry in
    let is = entry_is c.args.counted.now c.args.at c.args.kind.now c.in-Some.found.place entry.within entry.text in
    let unmarked : has_place c.args.marks.now c.in-Some.found.place ≡ false = sym c.contains.ensures ∙ c.if-contains.false in
    let at : c.from.result ≡ parents_at c.args.counted.now c.args.at c.in-Some.found.place = c.from.ensures ∙ entry.second in
    let p = err_from_is_err_and c.from_residual-in_err-types.result c.from_residual-in_err-types.ensures.1 in
    rw (p.1, p.2) (record {
      fault = inr (record {
        place = c.in-Some.found.place;
        entry = is;
        unmarked = unmarked;
        fault = subst (λ (n : ℕ). IsTextsFault c.args.counted.now n c.args.spending.now.budget.records
            c.take_texts.new.spending.budget.records c.in_err-types.field-0.0) at c.in_err-types.ensures.texts;
      });
      unmarked = search rules;
    })

pub returns-in_err-add-clause-answer : goal.returns-in_err-add-clause-answer
returns-in_err-add-clause-answer c = λ pairs kinds reads.
    let entry = rw c.in-Some.is at c.in_ok-found.ensures.found.entry in
    let is = entry_is c.args.counted.now c.args.at c.args.kind.now c.in-Some.found.place entry.within entry.text in
    let unmarked : has_place c.args.marks.now c.in-Some.found.place ≡ false = sym c.contains.ensures ∙ c.if-contains.false in
    let at : c.from.result ≡ parents_at c.args.counted.now c.args.at c.in-Some.found.place = c.from.ensures ∙ entry.second in
    let above = unmarked_read c.args.counted.now c.args.at pairs kinds reads c.args.marks.now
    c.args.kind.now c.in-Some.found.place is unmarked in
    let here = rw (sym at) at above in
    let p = err_from_is_err_and c.from_residual-in_err-add.result c.from_residual-in_err-add.ensures.1 in
    rw (p.1, p.2) (record {
      answer = search rules;
      need = λ enough. c.in_err-add.ensures.fault;
      most = omega (arith, c.take_texts.ensures.most, here.count);
    })

pub returns-in_err-add-clause-taken : goal.returns-in_err-add-clause-taken
returns-in_err-add-clause-taken c =
    let entry = rw c.in-Some.is at c.in_ok-found.ensures.found.entry in
    let is = entry_is c.args.counted.now c.args.at c.args.kind.now c.in-Some.found.place entry.within entry.text in
    let unmarked : has_place c.args.marks.now c.in-Some.found.place ≡ false = sym c.contains.ensures ∙ c.if-contains.false in
    let p = err_from_is_err_and c.from_residual-in_err-add.result c.from_residual-in_err-add.ensures.1 in
    rw (p.1, p.2) (record {
      fault = inr (record {
        place = c.in-Some.found.place;
        entry = is;
        unmarked = unmarked;
        fault = inr (inr (inr c.in_err-add.ensures.fault));
      });
      unmarked = c.in_err-add.ensures.unchanged;
    })

pub returns-clause-answer : goal.returns-clause-answer
returns-clause-answer c = λ pairs kinds reads.
    let entry = rw c.in-Some.is at c.in_ok-found.ensures.found.entry in
    let is = entry_is c.args.counted.now c.args.at c.args.kind.now c.in-Some.found.place entry.within entry.text in
    let unmarked : has_place c.args.marks.now c.in-Some.found.place ≡ false = sym c.contains.ensures ∙ c.if-contains.false in
    let at : c.from.result ≡ parents_at c.args.counted.now c.args.at c.in-Some.found.place = c.from.ensures ∙ entry.second in
    let place = rw c.in-Some.is at (c.in_ok-found.ensures.answer kinds reads.types) in
    let some = some_parent c.args.counted.now c.args.at pairs kinds reads c.args.kind.now c.in-Some.found.place is in
    let above = unmarked_read c.args.counted.now c.args.at pairs kinds reads c.args.marks.now
    c.args.kind.now c.in-Some.found.place is unmarked in
    let taken = c.in_ok-types.ensures.texts in
    let here = rw (sym at) at above in
    record {
      answer = (sym place, some, texts-same c.args.counted.now c.from.result c.in_ok-types.types _ taken.read here);
      need = search rules;
      most = omega (arith, c.take_texts.ensures.most, here.count);
    }

pub returns-clause-taken : goal.returns-clause-taken
returns-clause-taken c =
    let entry = rw c.in-Some.is at c.in_ok-found.ensures.found.entry in
    let is = entry_is c.args.counted.now c.args.at c.args.kind.now c.in-Some.found.place entry.within entry.text in
    let unmarked : has_place c.args.marks.now c.in-Some.found.place ≡ false = sym c.contains.ensures ∙ c.if-contains.false in
    let at : c.from.result ≡ parents_at c.args.counted.now c.args.at c.in-Some.found.place = c.from.ensures ∙ entry.second in
    let taken = c.in_ok-types.ensures.texts in
    record {
      inside = c.in_ok-found.ensures.found.inside;
      read = record {
        entry = is;
        marked = λ other. absurd (cc (unmarked, other));
        unmarked = λ _. subst (λ (n : ℕ). ReadsTexts c.args.counted.now n c.in_ok-types.types) at taken.read;
      };
      marked = inr (unmarked, c.in_ok-add.ensures.added);
      taken = taken.taken;
    }
