-- What is filled grows by what each read gives.
use Rattle.std.proofs.Common.{◌≡◌, ℕ, ◌+◌, List, ◌++◌, take, drop, Option, None, Some, sym, ap, ◌∙◌, append_assoc, rules, arith}
use Rattle.std.specs.Io.KnownBytes.{Consumes}
use Rattle.std.proofs.lemmas.List.{drop-take, take-append-drop, take-take, with_items_is, places}
use Rattle.mime_tool.proofs.system.read_onto.Goals as goal

-- two reads, one after the other
both_read : (a b c : Option (List ℕ)) (xs ys : List ℕ) → Consumes a b xs → Consumes b c ys → Consumes a c (xs ++ ys)
both_read None b c xs ys first second = tt
both_read (Some _) None c xs ys first second = absurd first
both_read (Some _) (Some _) None xs ys first second = absurd second
both_read (Some _) (Some _) (Some rest) xs ys first second = first ∙ ap (λ l. xs ++ l) second ∙ sym (append_assoc xs ys rest)

-- the first bytes, and that many after them
taken_more : (filled count : ℕ) (bytes : List ℕ) → take filled bytes ++ take count (drop filled bytes) ≡ take (filled + count) bytes
taken_more filled count bytes =
    ap (λ front. front ++ take count (drop filled bytes)) (sym (take-take filled (filled + count) bytes (omega arith)))
    ∙ ap (λ rest. take filled (take (filled + count) bytes) ++ rest) (sym (drop-take filled count bytes))
    ∙ take-append-drop filled (take (filled + count) bytes)

pub loop-preserved : goal.loop-preserved
loop-preserved g c =
    let filled = c.loop.filled in
    let count = c.in_ok-count.count in
    let read = c.in_ok-count.ensures in
    let bytes = c.read_after.new.bytes in
    let items = with_items_is c.lengthen.new.bytes bytes (search (rules, places)) in
    let front = read.front ∙ ap (take filled) c.deref_mut.ensures.value ∙ c.in_ok-lengthen.ensures.front in
    let more = both_read _ _ _ _ _ c.loop.invariant.read read.read in
    let all = ap (λ old. old ++ take count (drop filled bytes)) (sym front) ∙ taken_more filled count bytes in
    rw (items, sym all) (record { within = search (rules, places); read = more; limited = search rules })
