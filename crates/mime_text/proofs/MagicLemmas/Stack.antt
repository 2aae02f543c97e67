-- The stack of roots.
use Rattle.std.proofs.Common.{◌≡◌, ℕ, true, ltb, List, [], ◌∷◌, ◌++◌, map, Option, Some, None, MatchOption, sym, ap, ◌∙◌, append_assoc}
use Rattle.std.proofs.lemmas.List.{reverse-append, append-nil}
use Rattle.std.specs.Option.{option_to_list}
use Rattle.mime_text.specs.declared.magic.forest.Root.{Root}
use Rattle.mime_text.specs.Magic.Entries.{PlainEntry}
use Rattle.mime_base.specs.Magic.{PlainMatchlet, forest_of}
use Rattle.mime_text.specs.Magic.Forest.{PlainRoot, plain_root, root_over, stack, deeper, others, kept_matchlets, roots_of, matchlet_of}

-- a root that is pushed is on top
pub stack-push : (rs : List Root) (r : Root) → stack (rs ++ r ∷ []) ≡ plain_root r ∷ stack rs
stack-push rs r = ap (λ (x : List Root). map plain_root x) (reverse-append rs (r ∷ []))

-- what the loop keeps, where `front` are the matchlets taken
pub record TakesOff (d : ℕ) (all now : List PlainRoot) (front : List PlainMatchlet) : Type 0 where
  pub taken : kept_matchlets (deeper d all) ≡ front ++ kept_matchlets (deeper d now)
  pub left : others d all ≡ others d now

-- the last root is popped where it is deeper
pub popped : (d : ℕ) (all left : List Root) (o : Option Root) (r : Root) → o ≡ Some r → all ≡ left ++ option_to_list o
    → ltb d r.indent ≡ true → MatchOption o ((deeper d (stack all) ≡ []) × (others d (stack all) ≡ stack left))
    (λ r. (stack all ≡ plain_root r ∷ stack left) × (ltb d r.indent ≡ true))
popped d all left None r is parts deep = absurd cc
popped d all left (Some x) r is parts deep =
    let same : x ≡ r = cc in
    (ap stack parts ∙ stack-push left x, rw same deep)

-- what the loop over all roots keeps, where `front` are the matchlets taken
pub record TakesAll (all now : List PlainRoot) (front : List PlainMatchlet) : Type 0 where
  pub taken : kept_matchlets all ≡ front ++ kept_matchlets now

-- what the loop over the entries keeps: the roots are those of the entries taken
pub record Grows (all left : List PlainEntry) (roots : List PlainRoot) : Type 0 where
  pub tail : List PlainEntry
  pub parts : all ≡ left ++ tail
  pub are : roots ≡ roots_of tail

-- the loop goes on with one entry more
pub grows_on : (all left before : List PlainEntry) (i : PlainEntry) (old new : List PlainRoot) → Grows all before old
    → before ≡ left ++ i ∷ []
    → new ≡ root_over i old ∷ others i.indent old → Grows all left new
unfolding roots_of
grows_on all left before i old new so_far is made = record {
  tail = i ∷ so_far.tail;
  parts = so_far.parts ∙ ap (λ (t : List PlainEntry). t ++ so_far.tail) is ∙ append_assoc left (i ∷ []) so_far.tail;
  are = made ∙ ap (λ (o : List PlainRoot). root_over i o ∷ others i.indent o) so_far.are;
}

-- what it keeps holds as it begins
pub grows_from : (all : List PlainEntry) (roots : List PlainRoot) → roots ≡ [] → Grows all all roots
unfolding roots_of
grows_from all roots is = record { tail = []; parts = sym (append-nil all); are = is }

-- an entry that takes the deeper roots becomes a root on the stack
pub made_of : (roots now : List Root) (r : Root) (i : PlainEntry) (children : List PlainMatchlet) (old : List PlainRoot)
    → now ≡ roots ++ r ∷ [] → plain_root r ≡ record { indent = i.indent; matchlet = matchlet_of i.role (forest_of children) }
    → children ≡ kept_matchlets (deeper i.indent old) → stack roots ≡ others i.indent old
    → stack now ≡ root_over i old ∷ others i.indent old
made_of roots now r i children old pushed root taken left =
    ap stack pushed ∙ stack-push roots r ∙ ap (λ (t : PlainRoot). t ∷ stack roots) (root ∙ ap (λ (c : List PlainMatchlet). record {
      indent = i.indent;
      matchlet = matchlet_of i.role (forest_of c);
    }) taken)
    ∙ ap (λ (ts : List PlainRoot). root_over i old ∷ ts) left
