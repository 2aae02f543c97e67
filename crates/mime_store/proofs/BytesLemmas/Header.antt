-- The header in its place, and what stands after it.
use Rattle.std.proofs.Common.{◌≡◌, ℕ, List, ◌++◌, length, drop, sym, ap, ◌∙◌, append_assoc, arith, length-append}
use Rattle.std.proofs.Common.{length-drop}
use Rattle.std.proofs.lemmas.List.{drop-append-le}
use Rattle.mime_base.specs.Cache.Bytes.{Stands}
use Rattle.mime_store.specs.Written.{Written}
use Rattle.mime_store.proofs.BytesLemmas.Written.{Carries}

-- what was written after the header stands there too once the header is written
pub patched : (c header : List ℕ) → length header ≡ 40 → Carries (Written c) (Stands (header ++ drop 40 c))
patched c header long at bytes w =
    let front = w.stands.front in
    let tail = bytes ++ w.stands.back in
    let place = w.stands.place in
    let after = w.after in
    record {
      front = header ++ drop 40 front;
      back = w.stands.back;
      place = length-append header (drop 40 front) ∙ omega (arith, length-drop 40 front);
      split = ap (λ xs. header ++ drop 40 xs) w.stands.split
          ∙ ap (λ xs. header ++ xs) (drop-append-le 40 front tail (omega arith))
          ∙ sym (append_assoc header (drop 40 front) tail);
    }
