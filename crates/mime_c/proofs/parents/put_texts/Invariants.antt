use Rattle.std.proofs.Common.{◌≡◌, length, map, take, drop}
use Rattle.mime_c.specs.Parents.{bytes_of_text}
use Rattle.mime_c.proofs.parents.put_texts.Given as goal

abbrev pub invariant-loop-i : goal.invariant-loop-i
invariant-loop-i l = record {
  size : length l.array ≡ length l.initial.array;
  written : map bytes_of_text (take l.i l.array) ≡ take l.i (map (λ text. text.now) l.texts);
  rest : drop l.i l.array ≡ drop l.i l.initial.array;
}
