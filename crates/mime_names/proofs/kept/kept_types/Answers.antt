use Rattle.std.proofs.Common.{ap, arith}
use Rattle.mime_names.specs.Index.{PlainIndex}
use Rattle.mime_names.specs.Rules.{texts}
use Rattle.mime_names.proofs.KeyByteLemmas.{kept-bytes, texts-bytes}
use Rattle.mime_names.proofs.NodeLemmas.{near-both}
use Rattle.mime_names.proofs.TextKindLemmas.{bytes-of_texts, kept-of_others, kept-of_texts, nodes-of_texts, none-of_texts}
use Rattle.mime_names.proofs.kept.kept_types.Goals as goal

-- where a text matches, those of texts are kept
pub returns-clause-kept : goal.returns-clause-kept
returns-clause-kept c =
    kept-of_texts c.index.inside c.index.invariant _ c.index.view_is c.args.name.now
    c.text_places.new.found.items c.in_ok-text_places.ensures.near
    c.in_ok-types.types (rw (c.deref.ensures.value, c.deref-2.ensures.value, c.as_mut_slice.ensures.value) at
    (c.in_ok-types.ensures.kept (texts c.index.inside.patterns.items)))
    (c.is_none.ensures.some c.if-is_none.false)

-- and else those of all others
pub returns-then-is_none-clause-kept : goal.returns-then-is_none-clause-kept
returns-then-is_none-clause-kept c =
    kept-of_others c.index.inside c.index.invariant _ c.index.view_is c.args.name.now
    c.text_places.new.found.items c.in_ok-text_places.ensures.near
    c.in_ok-types.types (rw (c.deref.ensures.value, c.deref-2.ensures.value, c.as_mut_slice.ensures.value) at
    (c.in_ok-types.ensures.kept (texts c.index.inside.patterns.items)))
    (c.is_none.ensures.none c.if-is_none.true) c.in_ok-others.others
    (rw (c.deref-then-is_none.ensures.value, c.deref-then-is_none-2.ensures.value) at c.in_ok-others.ensures.kept)

-- where the places of texts can't be kept
pub returns-in_err-text_places-clause-near : goal.returns-in_err-text_places-clause-near
returns-in_err-text_places-clause-near c =
    omega (
      arith,
      nodes-of_texts c.index.inside c.index.invariant _ c.index.view_is c.args.name.now _ _ c.text_places.ensures.steps,
      near-both c.args.name.now c.args.index.now.given,
    )

pub returns-in_err-text_places-clause-texts : goal.returns-in_err-text_places-clause-texts
returns-in_err-text_places-clause-texts c = λ some.
    omega (arith, nodes-of_texts c.index.inside c.index.invariant _ c.index.view_is c.args.name.now _ _ c.text_places.ensures.steps)

-- where their types can't, and where these are given
pub returns-in_err-types-clause-near : goal.returns-in_err-types-clause-near
returns-in_err-types-clause-near c =
    omega (
      arith,
      nodes-of_texts c.index.inside c.index.invariant _ c.index.view_is c.args.name.now _ _ c.text_places.ensures.steps,
      c.leading_types.ensures.nodes,
      near-both c.args.name.now c.args.index.now.given,
    )

pub returns-in_err-types-clause-texts : goal.returns-in_err-types-clause-texts
returns-in_err-types-clause-texts c = λ some.
    omega (
      arith,
      nodes-of_texts c.index.inside c.index.invariant _ c.index.view_is c.args.name.now _ _ c.text_places.ensures.steps,
      c.leading_types.ensures.nodes,
    )

pub returns-in_err-types-clause-bytes : goal.returns-in_err-types-clause-bytes
returns-in_err-types-clause-bytes c =
    texts-bytes c.args.name.now c.args.index.now.given _ _
    (bytes-of_texts c.index.inside c.index.invariant _ c.index.view_is c.args.name.now
    c.text_places.new.found.items c.in_ok-text_places.ensures.near _ _
    (rw (c.deref.ensures.value, c.deref-2.ensures.value, c.as_mut_slice.ensures.value, c.text_places.ensures.bytes) at
    c.leading_types.ensures.bytes))

pub returns-in_err-types-clause-text_bytes : goal.returns-in_err-types-clause-text_bytes
returns-in_err-types-clause-text_bytes c = λ some.
    bytes-of_texts c.index.inside c.index.invariant _ c.index.view_is c.args.name.now
    c.text_places.new.found.items c.in_ok-text_places.ensures.near _ _
    (rw (c.deref.ensures.value, c.deref-2.ensures.value, c.as_mut_slice.ensures.value, c.text_places.ensures.bytes) at
    c.leading_types.ensures.bytes)

pub returns-clause-near : goal.returns-clause-near
returns-clause-near c =
    omega (
      arith,
      nodes-of_texts c.index.inside c.index.invariant _ c.index.view_is c.args.name.now _ _ c.text_places.ensures.steps,
      c.leading_types.ensures.nodes,
      near-both c.args.name.now c.args.index.now.given,
    )

pub returns-clause-texts : goal.returns-clause-texts
returns-clause-texts c = λ some.
    omega (
      arith,
      nodes-of_texts c.index.inside c.index.invariant _ c.index.view_is c.args.name.now _ _ c.text_places.ensures.steps,
      c.leading_types.ensures.nodes,
    )

pub returns-clause-bytes : goal.returns-clause-bytes
returns-clause-bytes c =
    texts-bytes c.args.name.now c.args.index.now.given _ _
    (bytes-of_texts c.index.inside c.index.invariant _ c.index.view_is c.args.name.now
    c.text_places.new.found.items c.in_ok-text_places.ensures.near _ _
    (rw (c.deref.ensures.value, c.deref-2.ensures.value, c.as_mut_slice.ensures.value, c.text_places.ensures.bytes) at
    c.leading_types.ensures.bytes))

pub returns-clause-text_bytes : goal.returns-clause-text_bytes
returns-clause-text_bytes c = λ some.
    bytes-of_texts c.index.inside c.index.invariant _ c.index.view_is c.args.name.now
    c.text_places.new.found.items c.in_ok-text_places.ensures.near _ _
    (rw (c.deref.ensures.value, c.deref-2.ensures.value, c.as_mut_slice.ensures.value, c.text_places.ensures.bytes) at
    c.leading_types.ensures.bytes)

-- where no text matches, and all others are asked
pub returns-in_err-others-clause-near : goal.returns-in_err-others-clause-near
returns-in_err-others-clause-near c =
    let view = ap (λ (index : PlainIndex). index.given) c.index.view_is in
    omega (
      arith,
      nodes-of_texts c.index.inside c.index.invariant _ c.index.view_is c.args.name.now _ _ c.text_places.ensures.steps,
      c.leading_types.ensures.nodes,
      near-both c.args.name.now c.args.index.now.given,
      rw (c.deref-then-is_none.ensures.value, c.deref-then-is_none-2.ensures.value, view) at c.other_kinds.ensures.near,
    )

pub returns-in_err-others-clause-bytes : goal.returns-in_err-others-clause-bytes
returns-in_err-others-clause-bytes c =
    let view = ap (λ (index : PlainIndex). index.given) c.index.view_is in
    kept-bytes c.args.name.now c.args.index.now.given _ _ _
    (bytes-of_texts c.index.inside c.index.invariant _ c.index.view_is c.args.name.now
    c.text_places.new.found.items c.in_ok-text_places.ensures.near _ _
    (rw (c.deref.ensures.value, c.deref-2.ensures.value, c.as_mut_slice.ensures.value, c.text_places.ensures.bytes) at
    c.leading_types.ensures.bytes))
    (rw (c.deref-then-is_none.ensures.value, c.deref-then-is_none-2.ensures.value, view) at c.other_kinds.ensures.bytes)

pub returns-in_err-others-clause-texts : goal.returns-in_err-others-clause-texts
returns-in_err-others-clause-texts c = λ some.
    absurd (none-of_texts c.index.inside c.index.invariant _ c.index.view_is c.args.name.now
    c.text_places.new.found.items c.in_ok-text_places.ensures.near
    c.in_ok-types.types (rw (c.deref.ensures.value, c.deref-2.ensures.value, c.as_mut_slice.ensures.value) at
    (c.in_ok-types.ensures.kept (texts c.index.inside.patterns.items)))
    (c.is_none.ensures.none c.if-is_none.true) some)

pub returns-in_err-others-clause-text_bytes : goal.returns-in_err-others-clause-text_bytes
returns-in_err-others-clause-text_bytes c = λ some.
    absurd (none-of_texts c.index.inside c.index.invariant _ c.index.view_is c.args.name.now
    c.text_places.new.found.items c.in_ok-text_places.ensures.near
    c.in_ok-types.types (rw (c.deref.ensures.value, c.deref-2.ensures.value, c.as_mut_slice.ensures.value) at
    (c.in_ok-types.ensures.kept (texts c.index.inside.patterns.items)))
    (c.is_none.ensures.none c.if-is_none.true) some)

pub returns-then-is_none-clause-near : goal.returns-then-is_none-clause-near
returns-then-is_none-clause-near c =
    let view = ap (λ (index : PlainIndex). index.given) c.index.view_is in
    omega (
      arith,
      nodes-of_texts c.index.inside c.index.invariant _ c.index.view_is c.args.name.now _ _ c.text_places.ensures.steps,
      c.leading_types.ensures.nodes,
      near-both c.args.name.now c.args.index.now.given,
      rw (c.deref-then-is_none.ensures.value, c.deref-then-is_none-2.ensures.value, view) at c.other_kinds.ensures.near,
    )

pub returns-then-is_none-clause-bytes : goal.returns-then-is_none-clause-bytes
returns-then-is_none-clause-bytes c =
    let view = ap (λ (index : PlainIndex). index.given) c.index.view_is in
    kept-bytes c.args.name.now c.args.index.now.given _ _ _
    (bytes-of_texts c.index.inside c.index.invariant _ c.index.view_is c.args.name.now
    c.text_places.new.found.items c.in_ok-text_places.ensures.near _ _
    (rw (c.deref.ensures.value, c.deref-2.ensures.value, c.as_mut_slice.ensures.value, c.text_places.ensures.bytes) at
    c.leading_types.ensures.bytes))
    (rw (c.deref-then-is_none.ensures.value, c.deref-then-is_none-2.ensures.value, view) at c.other_kinds.ensures.bytes)

pub returns-then-is_none-clause-texts : goal.returns-then-is_none-clause-texts
returns-then-is_none-clause-texts c = λ some.
    absurd (none-of_texts c.index.inside c.index.invariant _ c.index.view_is c.args.name.now
    c.text_places.new.found.items c.in_ok-text_places.ensures.near
    c.in_ok-types.types (rw (c.deref.ensures.value, c.deref-2.ensures.value, c.as_mut_slice.ensures.value) at
    (c.in_ok-types.ensures.kept (texts c.index.inside.patterns.items)))
    (c.is_none.ensures.none c.if-is_none.true) some)

pub returns-then-is_none-clause-text_bytes : goal.returns-then-is_none-clause-text_bytes
returns-then-is_none-clause-text_bytes c = λ some.
    absurd (none-of_texts c.index.inside c.index.invariant _ c.index.view_is c.args.name.now
    c.text_places.new.found.items c.in_ok-text_places.ensures.near
    c.in_ok-types.types (rw (c.deref.ensures.value, c.deref-2.ensures.value, c.as_mut_slice.ensures.value) at
    (c.in_ok-types.ensures.kept (texts c.index.inside.patterns.items)))
    (c.is_none.ensures.none c.if-is_none.true) some)
