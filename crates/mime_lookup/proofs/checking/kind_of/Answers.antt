use Rattle.std.proofs.Common.{◌≡◌, ◌∙◌, ℕ, Option, true, false, List, Some, ap, sym, true≢false, arith}
use Rattle.std.proofs.lemmas.Option.{IfSome_then}
use denote.Bor.{Bor}
use Rattle.mime_lookup.specs.Ancestry.{kinds_of}
use Rattle.mime_lookup.specs.CheckingOrder.{IsSniffed, are_one_type}
use Rattle.mime_lookup.proofs.IndexLemmas.IndexNodes.{order-nodes}
use Rattle.mime_lookup.proofs.IndexLemmas.OrderBytes.{chosen-bytes, named-bytes, sniffed-bytes}
use Rattle.mime_lookup.proofs.OrderLemmas.Answering.{first_text}
use Rattle.mime_lookup.proofs.OrderLemmas.FewTypes.{choice-asked}
use Rattle.mime_lookup.proofs.OrderLemmas.TypesBefore.{by_asked_types, by_one_before, by_sniffed, suffice_before}
use Rattle.mime_lookup.proofs.LookUpLemmas.LookUps.{front_read, none_read}
use Rattle.mime_lookup.proofs.ContentLemmas.Reads.{asks_nothing, asks_stopped, reads_nothing, reads_stopped, some_content}
use Rattle.mime_lookup.proofs.checking.kind_of.Goals as goal

-- the types that the name gives suffice: the order gives this type, whatever the content is
pub returns-then-are_one_type-clause-answers : goal.returns-then-are_one_type-clause-answers
returns-then-are_one_type-clause-answers g c =
    let named = c.in_ok-named.named.kinds.items in
    let question = c.args.question.now in
    let one : are_one_type (kinds_of named) ≡ true =
    rw c.deref.ensures.value at (sym c.are_one_type.ensures ∙ c.if-are_one_type.true) in
    let chosen = λ (known : Option (Option (List ℕ))).
    by_one_before (g.A.Asked.plain c.args.database.now) question.name.now question.host c.keeps_limits.ensures.ranks
    question.order known (kinds_of named) _ c.in_ok-named.ensures.named one
    (ap (λ (text : Bor (List ℕ)). text.now) c.index.ensures ∙ first_text named c.index.result.now one) in
    let some = some_content c.args.content.now in
    record { chosen = chosen _; some = (some.0, some.1, chosen (Some some.0)) }

-- and nothing is read
pub returns-then-are_one_type-clause-read : goal.returns-then-are_one_type-clause-read
returns-then-are_one_type-clause-read g c =
    let one : are_one_type (kinds_of c.in_ok-named.named.kinds.items) ≡ true =
    rw c.deref.ensures.value at (sym c.are_one_type.ensures ∙ c.if-are_one_type.true) in
    let question = c.args.question.now in
    none_read (g.A.Asked.plain c.args.database.now) question.name.now question.order _ _ c.requires.none
    (suffice_before _ _ question.order _ true c.in_ok-named.ensures.named one)

pub returns-then-are_one_type-clause-uses : goal.returns-then-are_one_type-clause-uses
returns-then-are_one_type-clause-uses g c =
    let one : are_one_type (kinds_of c.in_ok-named.named.kinds.items) ≡ true =
    rw c.deref.ensures.value at (sym c.are_one_type.ensures ∙ c.if-are_one_type.true) in
    record {
      reader = reads_nothing g.R.Read.remaining g.R.Content.tally g.R.Content.health _ c.args.content.now c.args.read.now _ c.requires.none;
      asks = asks_nothing g.R.Content.health _ c.args.content.now _
          (suffice_before (g.A.Asked.plain c.args.database.now) c.args.question.now.name.now c.args.question.now.order _ true
          c.in_ok-named.ensures.named one);
    }

-- the content can't be sniffed
pub returns-in_err-sniffed-clause-uses : goal.returns-in_err-sniffed-clause-uses
returns-in_err-sniffed-clause-uses g c =
    let several : are_one_type (kinds_of c.in_ok-named.named.kinds.items) ≡ false =
    rw c.deref.ensures.value at (sym c.are_one_type.ensures ∙ c.if-are_one_type.false) in
    record {
      reader = reads_stopped g.R.Read.remaining g.R.Content.tally g.R.Content.health _ c.args.content.now c.sniff_content.new.content
          c.sniff_content.new.read c.in_err-sniffed.field-0.0 c.from_residual-in_err-sniffed.result
          c.from_residual-in_err-sniffed.ensures.1 c.in_err-sniffed.ensures.uses.reader;
      asks = asks_stopped g.R.Content.health _ c.args.content.now c.sniff_content.new.content c.in_err-sniffed.field-0.0
          c.from_residual-in_err-sniffed.result
          (suffice_before (g.A.Asked.plain c.args.database.now) c.args.question.now.name.now c.args.question.now.order _ false
          c.in_ok-named.ensures.named several)
          c.from_residual-in_err-sniffed.ensures.1 c.in_err-sniffed.ensures.uses.asks;
    }

-- what was sniffed comes before the globs: the order gives it
pub returns-then-precedes_globs-clause-answers : goal.returns-then-precedes_globs-clause-answers
returns-then-precedes_globs-clause-answers g c =
    let b = g.A.Asked.plain c.args.database.now in
    let question = c.args.question.now in
    let sniffed = c.in_ok-sniffed.ensures.answers in
    let chosen = λ (content : Option (List ℕ)) (is : IsSniffed b content question.host c.in_ok-sniffed.sniffed).
    by_sniffed b question.name.now content question.host question.order c.in_ok-sniffed.sniffed.kind.now
    (rw c.if-precedes_globs.true at (c.precedes_globs.ensures.before b content question.host is)) in
    record {
      chosen = IfSome_then _ sniffed.sniffed chosen;
      some = (sniffed.some.0, sniffed.some.1, chosen sniffed.some.0 sniffed.some.2);
    }

-- and the front is read
pub returns-then-precedes_globs-clause-read : goal.returns-then-precedes_globs-clause-read
returns-then-precedes_globs-clause-read g c =
    let several : are_one_type (kinds_of c.in_ok-named.named.kinds.items) ≡ false =
    rw c.deref.ensures.value at (sym c.are_one_type.ensures ∙ c.if-are_one_type.false) in
    front_read (g.A.Asked.plain c.args.database.now) c.args.question.now.name.now c.args.question.now.order _ _
    (suffice_before _ _ c.args.question.now.order _ false c.in_ok-named.ensures.named several)
    c.in_ok-sniffed.ensures.read

-- a type is chosen among those that are asked: the order gives it
pub returns-clause-answers : goal.returns-clause-answers
returns-clause-answers g c =
    let b = g.A.Asked.plain c.args.database.now in
    let question = c.args.question.now in
    let sniffed = c.in_ok-sniffed.ensures.answers in
    let chosen = λ (content : Option (List ℕ)) (is : IsSniffed b content question.host c.in_ok-sniffed.sniffed).
    by_asked_types b question.name.now content question.host question.order (kinds_of c.in_ok-asked.asked.items)
    c.in_ok-sniffed.sniffed.kind.now c.in_ok-kind.kind.now
    (rw c.if-precedes_globs.false at (c.precedes_globs.ensures.before b content question.host is))
    (c.in_ok-asked.ensures.asked content is.magic) is.kind
    (rw c.deref-2.ensures.value at c.in_ok-kind.ensures.chosen) in
    record {
      chosen = IfSome_then _ sniffed.sniffed chosen;
      some = (sniffed.some.0, sniffed.some.1, chosen sniffed.some.0 sniffed.some.2);
    }

-- and the front is read
pub returns-clause-read : goal.returns-clause-read
returns-clause-read g c =
    let several : are_one_type (kinds_of c.in_ok-named.named.kinds.items) ≡ false =
    rw c.deref.ensures.value at (sym c.are_one_type.ensures ∙ c.if-are_one_type.false) in
    front_read (g.A.Asked.plain c.args.database.now) c.args.question.now.name.now c.args.question.now.order _ _
    (suffice_before _ _ c.args.question.now.order _ false c.in_ok-named.ensures.named several)
    c.in_ok-sniffed.ensures.read

-- no more nodes are counted
pub returns-in_err-asked-clause-nodes : goal.returns-in_err-asked-clause-nodes
returns-in_err-asked-clause-nodes g c =
    let question = c.args.question.now in
    order-nodes question.order _ _ c.args.meter.now.nodes c.sniff_content.new.meter.nodes c.asked_kinds.new.meter.nodes
    (λ alone. true≢false (sym (c.precedes_globs.ensures.alone alone) ∙ c.if-precedes_globs.false))
    (omega (arith, c.named_kinds.ensures.nodes, c.sniff_content.ensures.nodes)) c.asked_kinds.ensures.nodes

pub returns-in_err-kind-clause-nodes : goal.returns-in_err-kind-clause-nodes
returns-in_err-kind-clause-nodes g c =
    let question = c.args.question.now in
    order-nodes question.order _ _ c.args.meter.now.nodes c.sniff_content.new.meter.nodes c.choose.new.meter.nodes
    (λ alone. true≢false (sym (c.precedes_globs.ensures.alone alone) ∙ c.if-precedes_globs.false))
    (omega (arith, c.named_kinds.ensures.nodes, c.sniff_content.ensures.nodes))
    (omega (arith, c.asked_kinds.ensures.nodes, c.choose.ensures.nodes))

pub returns-clause-nodes : goal.returns-clause-nodes
returns-clause-nodes g c =
    let question = c.args.question.now in
    order-nodes question.order _ _ c.args.meter.now.nodes c.sniff_content.new.meter.nodes c.choose.new.meter.nodes
    (λ alone. true≢false (sym (c.precedes_globs.ensures.alone alone) ∙ c.if-precedes_globs.false))
    (omega (arith, c.named_kinds.ensures.nodes, c.sniff_content.ensures.nodes))
    (omega (arith, c.asked_kinds.ensures.nodes, c.choose.ensures.nodes))

-- what the name takes is no more than the order allows
pub returns-in_err-named-clause-bytes : goal.returns-in_err-named-clause-bytes
returns-in_err-named-clause-bytes g c =
    named-bytes _ _ _ _ c.args.meter.now.bytes c.args.question.now.order _ c.named_kinds.new.meter.bytes c.named_kinds.ensures.bytes

pub returns-then-are_one_type-clause-bytes : goal.returns-then-are_one_type-clause-bytes
returns-then-are_one_type-clause-bytes g c =
    named-bytes _ _ _ _ c.args.meter.now.bytes c.args.question.now.order _ c.named_kinds.new.meter.bytes c.named_kinds.ensures.bytes

-- nor is what the content then takes
pub returns-in_err-sniffed-clause-bytes : goal.returns-in_err-sniffed-clause-bytes
returns-in_err-sniffed-clause-bytes g c =
    let b = g.A.Asked.plain c.args.database.now in
    let question = c.args.question.now in
    let several : are_one_type (kinds_of c.in_ok-named.named.kinds.items) ≡ false =
    rw c.deref.ensures.value at (sym c.are_one_type.ensures ∙ c.if-are_one_type.false) in
    let undecided = suffice_before b question.name.now question.order _ false c.in_ok-named.ensures.named several in
    sniffed-bytes _ _ _ _ c.args.meter.now.bytes c.named_kinds.new.meter.bytes question.order _ c.sniff_content.new.meter.bytes undecided
    c.named_kinds.ensures.bytes c.sniff_content.ensures.bytes

pub returns-then-precedes_globs-clause-bytes : goal.returns-then-precedes_globs-clause-bytes
returns-then-precedes_globs-clause-bytes g c =
    let b = g.A.Asked.plain c.args.database.now in
    let question = c.args.question.now in
    let several : are_one_type (kinds_of c.in_ok-named.named.kinds.items) ≡ false =
    rw c.deref.ensures.value at (sym c.are_one_type.ensures ∙ c.if-are_one_type.false) in
    let undecided = suffice_before b question.name.now question.order _ false c.in_ok-named.ensures.named several in
    sniffed-bytes _ _ _ _ c.args.meter.now.bytes c.named_kinds.new.meter.bytes question.order _ c.sniff_content.new.meter.bytes undecided
    c.named_kinds.ensures.bytes c.sniff_content.ensures.bytes

-- nor the types and the choice among them
pub returns-in_err-asked-clause-bytes : goal.returns-in_err-asked-clause-bytes
returns-in_err-asked-clause-bytes g c =
    let b = g.A.Asked.plain c.args.database.now in
    let question = c.args.question.now in
    let several : are_one_type (kinds_of c.in_ok-named.named.kinds.items) ≡ false =
    rw c.deref.ensures.value at (sym c.are_one_type.ensures ∙ c.if-are_one_type.false) in
    let undecided = suffice_before b question.name.now question.order _ false c.in_ok-named.ensures.named several in
    chosen-bytes _ _ _ _ c.args.meter.now.bytes c.named_kinds.new.meter.bytes question.order _
    c.sniff_content.new.meter.bytes c.asked_kinds.new.meter.bytes undecided
    (λ alone. true≢false (sym (c.precedes_globs.ensures.alone alone) ∙ c.if-precedes_globs.false))
    c.named_kinds.ensures.bytes c.sniff_content.ensures.bytes (omega (arith, c.asked_kinds.ensures.bytes))

pub returns-in_err-kind-clause-bytes : goal.returns-in_err-kind-clause-bytes
returns-in_err-kind-clause-bytes g c =
    let b = g.A.Asked.plain c.args.database.now in
    let question = c.args.question.now in
    let several : are_one_type (kinds_of c.in_ok-named.named.kinds.items) ≡ false =
    rw c.deref.ensures.value at (sym c.are_one_type.ensures ∙ c.if-are_one_type.false) in
    let undecided = suffice_before b question.name.now question.order _ false c.in_ok-named.ensures.named several in
    let found = c.in_ok-sniffed.ensures.answers.some in
    let less =
    choice-asked b question.name.now c.keeps_limits.ensures.ranks c.keeps_limits.ensures.types c.in_ok-sniffed.sniffed found.0 question.host
    question.order found.2 c.in_ok-asked.asked.items (c.in_ok-asked.ensures.asked found.0 found.2.magic) in
    let chosen = rw c.deref-2.ensures.value at c.choose.ensures.bytes in
    chosen-bytes _ _ _ _ c.args.meter.now.bytes c.named_kinds.new.meter.bytes question.order _
    c.sniff_content.new.meter.bytes c.choose.new.meter.bytes undecided
    (λ alone. true≢false (sym (c.precedes_globs.ensures.alone alone) ∙ c.if-precedes_globs.false))
    c.named_kinds.ensures.bytes c.sniff_content.ensures.bytes (omega (arith, c.asked_kinds.ensures.bytes, chosen, less))

pub returns-clause-bytes : goal.returns-clause-bytes
returns-clause-bytes g c =
    let b = g.A.Asked.plain c.args.database.now in
    let question = c.args.question.now in
    let several : are_one_type (kinds_of c.in_ok-named.named.kinds.items) ≡ false =
    rw c.deref.ensures.value at (sym c.are_one_type.ensures ∙ c.if-are_one_type.false) in
    let undecided = suffice_before b question.name.now question.order _ false c.in_ok-named.ensures.named several in
    let found = c.in_ok-sniffed.ensures.answers.some in
    let less =
    choice-asked b question.name.now c.keeps_limits.ensures.ranks c.keeps_limits.ensures.types c.in_ok-sniffed.sniffed found.0 question.host
    question.order found.2 c.in_ok-asked.asked.items (c.in_ok-asked.ensures.asked found.0 found.2.magic) in
    let chosen = rw c.deref-2.ensures.value at c.choose.ensures.bytes in
    chosen-bytes _ _ _ _ c.args.meter.now.bytes c.named_kinds.new.meter.bytes question.order _
    c.sniff_content.new.meter.bytes c.choose.new.meter.bytes undecided
    (λ alone. true≢false (sym (c.precedes_globs.ensures.alone alone) ∙ c.if-precedes_globs.false))
    c.named_kinds.ensures.bytes c.sniff_content.ensures.bytes (omega (arith, c.asked_kinds.ensures.bytes, chosen, less))
