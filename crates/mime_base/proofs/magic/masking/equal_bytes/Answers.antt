use Rattle.std.proofs.Common.{◌≡◌, length, arith, ◌∙◌, ap}
use Rattle.mime_base.specs.Magic.Mirrored.{mirrored}
use Rattle.mime_base.proofs.MagicLemmas.Masks.{place}
use Rattle.mime_base.proofs.MagicLemmas.Windows.{at_end, counted, goes_on, stops}
use Rattle.mime_base.proofs.magic.masking.equal_bytes.Goals as goal

pub returns-then-window-i : goal.returns-then-window-i
returns-then-window-i c =
    let place_is : c.mirrored-place.result ≡ place c.args.value.now c.args.word c.args.host c.loop-i.i =
    c.mirrored-place.ensures ∙ ap (λ g. mirrored g c.loop-i.i) c.group_of-group.ensures in
    let rest = stops c.args.value.now c.args.mask.now c.args.word c.args.host c.args.window.now c.requires
    c.loop-i.i _ _ c.loop-i-test.true place_is c.kept_bits-bits.ensures c.if-window-i.true in
    let told = counted c.args.value.now c.args.mask.now c.args.word c.args.host c.args.window.now c.requires
    c.loop-i.i (omega arith) in
    record { equal = told.0; all = told.1; limit = omega arith }

pub loop-i-preserved : goal.loop-i-preserved
loop-i-preserved c =
    let place_is : c.mirrored-place.result ≡ place c.args.value.now c.args.word c.args.host c.loop-i.i =
    c.mirrored-place.ensures ∙ ap (λ g. mirrored g c.loop-i.i) c.group_of-group.ensures in
    let rest = goes_on c.args.value.now c.args.mask.now c.args.word c.args.host c.args.window.now c.requires
    c.loop-i.i _ _ c.loop-i-test.true place_is c.kept_bits-bits.ensures c.if-window-i.false in
    omega arith

pub returns : goal.returns
returns c =
    let rest = at_end c.args.value.now c.args.mask.now c.args.word c.args.host c.args.window.now c.requires
    c.loop-i.i c.loop-i-test.false in
    let told = counted c.args.value.now c.args.mask.now c.args.word c.args.host c.args.window.now c.requires
    (length c.args.window.now) (omega arith) in
    record { equal = told.0; all = told.1; limit = omega arith }
