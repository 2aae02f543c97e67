-- One more digit.
use Rattle.std.proofs.Common.{get_or, arith, ◌∙◌, sym}
use Rattle.std.proofs.lemmas.Bool.{and_from}
use Rattle.std.specs.Char.{is_ascii_digit}
use Rattle.std.proofs.lemmas.Str.{digit_value_digit}
use Rattle.std.proofs.lemmas.List.Folds.{list_all_more}
use Rattle.std.proofs.lemmas.Int.Digits.{digits_value_more}
use Rattle.mime_text.proofs.lines.globs2.weight_of.Goals as goal

pub loop-byte-preserved : goal.loop-byte-preserved
loop-byte-preserved c =
    let field = c.args.field.now in
    let i = c.loop-byte.byte-index in
    let inside = c.loop-byte-test.true in
    let digit = c.if-not-is_ascii_digit.ensures in
    record {
      digits = list_all_more is_ascii_digit field i 0 inside ∙ and_from _ _ c.loop-byte.invariant.digits (sym digit.value);
      value = rw (digits_value_more 10 field i inside) (omega (arith, digit_value_digit (get_or field i 0) digit.cases));
    }
