-- A mark more, by the places of keys and by the keys that were met.
use Rattle.std.proofs.Common.{◌≡◌, ℕ, ◌+◌, List, [], ◌∷◌, ◌++◌, get_or, map, take, drop, ap, ◌∙◌, sym, subst}
use Rattle.std.proofs.lemmas.List.{drop_more, map-append, map_push, take-append-drop, take_more}
use Rattle.std.specs.List.{list_any}
use Rattle.mime_base.specs.Database.PlainPairs.{is_same_pair}
use Rattle.mime_text.specs.Merging.{marks}
use Rattle.mime_text.specs.Merging.Buckets.{AreCounts}
use Rattle.mime_text.proofs.Merges.Buckets.{Finds, any-push, finds_more, new_by_tree}
use Rattle.mime_text.proofs.Merges.Once.{marks-more}
use Rattle.mime_text.proofs.merging.first.first_marks.Goals as goal

pub loop-entry-init : goal.loop-entry-init
loop-entry-init g c =
    let keys = map g.K.Key.key_of c.args.entries.now in
    record {
      marks = ap (λ firsts. firsts ++ marks [] keys) c.in_ok-firsts.ensures.items;
      finds = λ key others. ap (list_any (is_same_pair key)) c.new-keys.ensures;
    }

pub loop-entry-preserved : goal.loop-entry-preserved
loop-entry-preserved g c =
    let key_of = g.K.Key.key_of in
    let entries = c.args.entries.now in
    let i = c.loop-entry.entry-index in
    let here = c.entry-item.result in
    let before = map key_of (take i entries) in
    let after = map key_of (drop (i + 1) entries) in
    let all = map key_of entries in
    let key : List ℕ × List ℕ = (c.of.result.0.now, c.of.result.1.now) in
    let counts = c.as_slice.result.now in
    let counts_is : counts ≡ c.in_ok-counts.counts.items = c.as_slice.ensures.value in
    let are : AreCounts counts all = subst (λ (xs : List ℕ). AreCounts xs all) (sym counts_is) c.in_ok-counts.ensures.counts in
    let finds : Finds counts c.loop-entry.keys before =
    subst (λ (xs : List ℕ). Finds xs c.loop-entry.keys before) (sym counts_is) c.loop-entry.invariant.finds in
    let own : key_of (get_or entries i here) ≡ key = ap key_of (sym c.entry-item.is) ∙ sym c.of.ensures in
    let more : map key_of (take (i + 1) entries) ≡ before ++ key ∷ [] =
    ap (map key_of) (take_more entries i here c.loop-entry-test.true) ∙ map_push key_of (take i entries) (get_or entries i here)
    ∙ ap (λ k. before ++ k ∷ []) own in
    let split : all ≡ before ++ key ∷ after =
    ap (map key_of) (sym (take-append-drop i entries)) ∙ map-append key_of (take i entries) (drop i entries)
    ∙ ap (λ xs. before ++ map key_of xs) (drop_more entries i here c.loop-entry-test.true)
    ∙ ap (λ k. before ++ k ∷ after) own in
    record {
      marks =
          ap (λ firsts. firsts ++ marks (map key_of (take (i + 1) entries)) after) c.in_ok-push.ensures.items
          ∙ marks-more key_of entries i here c.loop-entry-test.true c.entry-item.is c.loop-entry.firsts.items before
          (map key_of (take (i + 1) entries)) c.in_ok-is_first.field-0 key c.of.ensures
          (c.in_ok-is_first.ensures.first ∙ new_by_tree counts all c.loop-entry.keys before after key are split finds)
          (λ other. ap (list_any (is_same_pair other)) more ∙ any-push (is_same_pair other) before key)
          ∙ c.loop-entry.invariant.marks;
      finds = subst (λ (xs : List ℕ). Finds xs c.is_first.new.keys (map key_of (take (i + 1) entries))) counts_is
          (subst (Finds counts c.is_first.new.keys) (sym more)
          (finds_more counts c.loop-entry.keys c.is_first.new.keys before key finds c.in_ok-is_first.ensures.keys));
    }
