use Rattle.std.proofs.Common.{◌≡◌, true, take, min}
use Rattle.std.specs.Char.{is_ascii_digit}
use Rattle.std.specs.List.{list_all}
use Rattle.std.specs.Str.Parse.{digits_value}
use Rattle.mime_text.proofs.lines.globs2.weight_of.Given as goal

-- the bytes so far are digits, and the weight is their value, cut above 255
abbrev pub invariant-loop-byte : goal.invariant-loop-byte
invariant-loop-byte l = record {
  digits : list_all is_ascii_digit (take l.byte-index l.field) ≡ true;
  value : l.weight ≡ min (digits_value 10 (take l.byte-index l.field)) 256;
}
