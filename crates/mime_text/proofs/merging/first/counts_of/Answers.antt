-- One key more.
use Rattle.std.proofs.Common.{◌≡◌, ℕ, ◌+◌, ◌<◌, ◌==◌, min, cond, List, [], ◌∷◌, ◌++◌, length, get_or, map, take, ap, ◌∙◌, sym, subst}
use Rattle.std.proofs.lemmas.List.{map_push, take_more}
use Rattle.mime_text.specs.Merging.Buckets.{AreCounts, bucket}
use Rattle.mime_text.proofs.Merges.Buckets.{counted_more, written_back}
use Rattle.mime_text.proofs.merging.first.counts_of.Goals as goal

pub loop-entry-preserved : goal.loop-entry-preserved
loop-entry-preserved g c =
    let key_of = g.K.Key.key_of in
    let entries = c.args.entries.now in
    let i = c.loop-entry.entry-index in
    let here = c.entry-item.result in
    let counts = c.loop-entry.counts.items in
    let old = c.deref_mut.result.now in
    let new = c.raise.new.counts in
    let old_is : old ≡ counts = c.deref_mut.ensures.value in
    let long : length new ≡ length counts = c.raise.ensures.long ∙ ap length old_is in
    let key : List ℕ × List ℕ = (c.of.result.0.now, c.of.result.1.now) in
    let place : c.bucket_of.result ≡ bucket (length counts) key.0 =
    c.bucket_of.ensures ∙ ap (λ (n : ℕ). bucket n key.0) (sym c.loop-entry.invariant.long) in
    let each : (other : ℕ) → other < length counts → get_or new other 0
    ≡ cond (bucket (length counts) key.0 == other) (min 2 (get_or counts other 0 + 1)) (get_or counts other 0) =
    λ other lt.
    subst (λ (xs : List ℕ). get_or new other 0 ≡ cond (bucket (length counts) key.0 == other) (min 2 (get_or xs other 0 + 1)) (get_or xs other 0))
    old_is
    (subst (λ (p : ℕ). get_or new other 0 ≡ cond (p == other) (min 2 (get_or old other 0 + 1)) (get_or old other 0)) place
    (c.raise.ensures.each other (subst (λ (xs : List ℕ). other < length xs) (sym old_is) lt))) in
    let more : map key_of (take (i + 1) entries) ≡ map key_of (take i entries) ++ key ∷ [] =
    ap (map key_of) (take_more entries i here c.loop-entry-test.true) ∙ map_push key_of (take i entries) (get_or entries i here)
    ∙ ap (λ k. map key_of (take i entries) ++ k ∷ []) (ap key_of (sym c.entry-item.is) ∙ sym c.of.ensures) in
    let back = written_back c.loop-entry.counts.len counts new c.loop-entry.counts.ok.0 long in
    record {
      long = ap length back ∙ long ∙ c.loop-entry.invariant.long;
      counts = subst (λ (xs : List ℕ). AreCounts xs (map key_of (take (i + 1) entries))) (sym back)
          (subst (AreCounts new) (sym more) (counted_more counts new (map key_of (take i entries)) key c.loop-entry.invariant.counts long each));
    }
