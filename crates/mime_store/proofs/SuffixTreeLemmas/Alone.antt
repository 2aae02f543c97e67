-- An ending that goes on alone: one leaf, and a node for each byte above it.
use Rattle.std.proofs.Common.{◌≡◌, ℕ, ◌+◌, ◌-◌, ◌*◌, ◌<◌, ◌≤◌, List, [], ◌∷◌, length, get_or, refl, sym, ap, arith, length-drop}
use Rattle.std.proofs.lemmas.List.Sums.{sum_by-cons}
use Rattle.mime_base.specs.Format.Records.{CardsAt, TextAt}
use Rattle.mime_base.specs.Format.Room.{text_room}
use Rattle.mime_base.specs.Format.Stored.{weight_and_flags}
use Rattle.mime_store.specs.Written.{Grew, Written}
use Rattle.mime_store.specs.SuffixTree.{IsBlock, PathRule, WritesSibling, ending_entry, ending_path, entries_room}
use Rattle.mime_store.specs.declared.ending.Ending.{Ending}
use Rattle.mime_store.proofs.SuffixTreeLemmas.Groups.{a_group, first_group, first_leaf, starts}
use Rattle.mime_store.proofs.SuffixTreeLemmas.SoFar.{Sofar, sofar_all, sofar_grew, sofar_more, sofar_none}

-- the block of one sibling stands once its record is written
pub record Block (old new : List ℕ) (first : ℕ) (es : List PathRule) : Type 0 where
  pub grew : Grew old new (entries_room es)
  pub stands : IsBlock (Written new) 1 first es

-- one sibling, and then its record
one_sibling : (old mid new row : List ℕ) (first : ℕ) (p : PathRule) → WritesSibling old mid row 1 (p ∷ [])
    → Grew mid new (4 * length row) → CardsAt (Written new) first row → Block old new first (p ∷ [])
one_sibling old mid new row first p w g c =
    let s : Sofar old mid row 1 (p ∷ []) [] = sofar_more old old mid [] row 0 1 (p ∷ []) (p ∷ []) (sofar_none old (p ∷ [])) w in
    record { grew = sofar_grew old mid new row 1 (p ∷ []) s g; stands = sofar_all old mid new row (4 * length row) 1 first (p ∷ []) s g c }

-- an ending at its end is a leaf
pub alone_leaf : (depth kind first : ℕ) (old mid new : List ℕ) (e : Ending) → length (ending_path e) ≤ depth
    → Grew old mid (text_room e.rule.now.kind) → TextAt (Written mid) kind e.rule.now.kind → Grew mid new 12
    → CardsAt (Written new) first (0 ∷ kind ∷ weight_and_flags e.rule.now ∷ []) → Block old new first (ending_entry depth e ∷ [])
alone_leaf depth kind first old mid new e ends grew text by stand =
    one_sibling old mid new (0 ∷ kind ∷ weight_and_flags e.rule.now ∷ []) first (ending_entry depth e)
    (first_leaf depth kind old mid (e ∷ []) e [] refl ends grew text) by stand

-- a byte above a block is a node
pub alone_node : (depth b block first : ℕ) (old mid new : List ℕ) (e : Ending) → depth < length (ending_path e)
    → b ≡ get_or (ending_path e) depth 0 → Block old mid block (ending_entry (depth + 1) e ∷ []) → Grew mid new 12
    → CardsAt (Written new) first (b ∷ 1 ∷ block ∷ []) → Block old new first (ending_entry depth e ∷ [])
alone_node depth b block first old mid new e inside is below by stand =
    let group = a_group depth b 0 (e ∷ []) e [] refl (omega arith) (starts depth e b inside (sym is)) tt tt in
    one_sibling old mid new (b ∷ 1 ∷ block ∷ []) first (ending_entry depth e)
    (first_group depth b 0 1 block old mid (e ∷ []) group below.grew below.stands) by stand

-- what it takes: its type, its leaf, and a node for each byte
pub alone_room : (depth : ℕ) (e : Ending)
    → entries_room (ending_entry depth e ∷ []) ≡ 12 * (length (ending_path e) - depth + 1) + text_room e.rule.now.kind
alone_room depth e =
    omega (arith, length-drop depth (ending_path e), sum_by-cons (λ (x : PathRule). text_room x.1.kind) (ending_entry depth e) [])

-- a list of one ending
pub only : (endings : List Ending) (e : Ending) → length endings ≡ 1 → e ≡ get_or endings 0 e → endings ≡ e ∷ []
only [] e one is = absurd (omega arith)
only (x ∷ []) e one is = ap (λ (y : Ending). y ∷ []) (sym is)
only (x ∷ y ∷ ys) e one is = absurd (omega arith)
