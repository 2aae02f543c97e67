-- One byte more, and all eight.
use Rattle.std.proofs.Common.{◌≡◌, ◌<◌, ◌≤◌, ◌≢◌, ℕ, get_or, length, length-set, List, min, set, arith, below_more, get_or-set_other, get_or-set_same, ⊎_elim, subst, sym, ◌∙◌}
use Rattle.std.proofs.lemmas.Bool.{cases_eq, cases_lt}
use Rattle.std.proofs.lemmas.List.{get_or_past}
use Rattle.mime_base.specs.Format.Stored.{reversed_ending}
use Rattle.mime_store.specs.Fronts.{front}
use Rattle.mime_store.proofs.SuffixTreeLemmas.Starts.{front-is}
use Rattle.mime_store.proofs.paths.start_of.Goals as goal

pub loop-depth-preserved : goal.loop-depth-preserved
loop-depth-preserved c =
    let bytes = c.loop-depth.bytes in
    let depth = c.loop-depth.depth in
    let lt : depth < length bytes = omega (arith, c.loop-depth.invariant.long, c.loop-depth-test.true, c.min-room.ensures) in
    record {
      long = length-set bytes depth c.path_byte.result ∙ c.loop-depth.invariant.long;
      small = λ k. ⊎_elim
          (λ (e : k ≡ depth). subst (λ (i : ℕ). get_or (set bytes depth c.path_byte.result) i 0 < 256) (sym e)
          (subst (λ (b : ℕ). b < 256) (sym (get_or-set_same bytes depth c.path_byte.result 0 lt)) c.path_byte.type_inv))
          (λ (ne : k ≢ depth). subst (λ (b : ℕ). b < 256) (sym (get_or-set_other bytes depth k c.path_byte.result 0 ne))
          (c.loop-depth.invariant.small k)) (cases_eq k depth);
      below = below_more _ _ (λ k h. let ne : k ≢ depth = omega arith in rw get_or-set_other (c.loop-depth.invariant.below k h))
          (rw get_or-set_same c.path_byte.ensures);
      above = λ k h. let ne : k ≢ depth = omega arith in rw get_or-set_other (c.loop-depth.invariant.above k (omega arith));
    }

-- the bytes are the first ones of the path
the_front : (bytes path : List ℕ) (depth : ℕ) → depth ≡ min (length path) 8 → length bytes ≡ 8
    → ((k : ℕ) → k < depth → get_or bytes k 0 ≡ get_or path k 0) → ((k : ℕ) → depth ≤ k → get_or bytes k 0 ≡ 0) → bytes ≡ front 8 path
the_front bytes path depth is long below above = front-is 8 bytes path long (λ k h. ⊎_elim (λ (lt : k < depth). below k lt)
    (λ (le : depth ≤ k). above k le ∙ sym (get_or_past path k 0 (omega (arith, h, le, is)))) (cases_lt k depth))

pub returns-clause-start : goal.returns-clause-start
returns-clause-start c =
    let path = reversed_ending c.args.rule.now in
    the_front c.loop-depth.bytes path c.loop-depth.depth
    (omega (arith, c.min-room.ensures, c.path_length.ensures.length, c.loop-depth.auto.depth-end, c.loop-depth-test.false)) c.loop-depth.invariant.long
    c.loop-depth.invariant.below c.loop-depth.invariant.above

pub returns-clause-bytes : goal.returns-clause-bytes
returns-clause-bytes c = λ k.
    let path = reversed_ending c.args.rule.now in
    subst (λ (bytes : List ℕ). get_or bytes k 0 < 256) (the_front c.loop-depth.bytes path c.loop-depth.depth
    (omega (arith, c.min-room.ensures, c.path_length.ensures.length, c.loop-depth.auto.depth-end, c.loop-depth-test.false)) c.loop-depth.invariant.long
    c.loop-depth.invariant.below c.loop-depth.invariant.above) (c.loop-depth.invariant.small k)
