-- All parts, written one after another below the header, are the cache of their database.
use Rattle.std.proofs.Common.{◌≡◌, ℕ, ◌≤◌, List, [], ◌∷◌, ◌++◌, length, map, drop, sym, ap, subst, ◌∙◌, arith}
use Rattle.std.proofs.Common.{replicate, length-append, length-drop}
use Rattle.mime_base.specs.Cache.Bytes.{Stands, cards}
use Rattle.mime_base.specs.Database.{plain_database}
use Rattle.mime_base.specs.Format.Header.{HeaderAt, Offsets, header_numbers}
use Rattle.mime_base.specs.Format.Magic.{MagicAt}
use Rattle.mime_base.specs.Format.Pairs.{IsPair}
use Rattle.mime_base.specs.Format.Records.{CardsAt, ListAt}
use Rattle.mime_base.specs.Format.Rules.{IsRule}
use Rattle.mime_base.specs.Format.Runs.{AreRuns, IsRun}
use Rattle.mime_base.specs.Format.Spells.{Spells, cache_limit}
use Rattle.mime_base.specs.Magic.{plain_sections}
use Rattle.mime_base.proofs.FormatLemmas.ParentRuns.{parents_stand}
use Rattle.mime_base.specs.declared.database.Database as code
use Rattle.mime_store.specs.SuffixTree.{TreeOf, ending_entry}
use Rattle.mime_store.specs.Namespaces.{HasNoNamespaces}
use Rattle.mime_store.specs.Parts.{AreParts}
use Rattle.mime_store.specs.Runs.{plain_run}
use Rattle.mime_store.specs.Views.{pair_texts, rule_of}
use Rattle.mime_store.specs.Written.{Grew, Written}
use Rattle.mime_store.specs.declared.run.Run.{Run}
use Rattle.mime_store.specs.declared.parts.Parts.{Parts}
use Rattle.mime_store.proofs.ListLemmas.Entries.{cards_carry, pair_keeps, rule_keeps}
use Rattle.mime_store.proofs.BytesLemmas.Header.{patched}
use Rattle.mime_store.proofs.ParentsLemmas.ParentLists.{run_keeps}
use Rattle.mime_store.proofs.BytesLemmas.Records.{length-cards}
use Rattle.mime_store.proofs.CacheLemmas.Spelled.{list_carry, literals_stand, magic_carry, pairs_stand, suffix_tree_stands, tree_of_carry}
use Rattle.mime_store.proofs.BytesLemmas.Written.{Carries, written_more}

-- the offsets of all parts, in the order of the header
abbrev pub offsets_of : (a p l t g m n i j : ℕ) → Offsets
offsets_of a p l t g m n i j = record {
  aliases = a;
  parents = p;
  literals = l;
  tree = t;
  globs = g;
  magic = m;
  namespaces = n;
  icons = i;
  generic_icons = j;
}

-- the bytes that are kept for the header
pub kept_length : (old new : List ℕ) → old ≡ [] → new ≡ old ++ replicate 40 0 → length new ≡ 40
kept_length old new none is = ap length is ∙ ap (λ xs. length (xs ++ replicate 40 0)) none

-- the header took the place that was kept for it
pub cache_length : (o9 c : List ℕ) (o : Offsets) → 40 ≤ length o9 → c ≡ cards (header_numbers o) ++ drop 40 o9 → length c ≡ length o9
cache_length o9 c o begun is =
    ap length is ∙ length-append (cards (header_numbers o)) (drop 40 o9)
    ∙ omega (arith, length-cards (header_numbers o), length-drop 40 o9)

-- all parts, and the header over them, spell the database
pub cache_spells : (o1 o2 o3 o4 o5 o6 o7 o8 o9 c : List ℕ) (parts : Parts) (runs : List Run) (b : code.Database) (o : Offsets)
    (s2 s3 s4 s5 s6 s7 s8 s9 : ℕ) → AreParts parts b → AreRuns (map plain_run runs) (map pair_texts parts.parents.items)
    → ListAt (Written o1) 8 (IsPair (Written o1)) o.aliases (map pair_texts parts.aliases.items)
    → Grew o1 o2 s2 → ListAt (Written o2) 8 (IsRun (Written o2)) o.parents (map plain_run runs)
    → Grew o2 o3 s3 → ListAt (Written o3) 12 (IsRule (Written o3)) o.literals (map rule_of parts.literals.items)
    → Grew o3 o4 s4 → TreeOf (Written o4) o.tree (map (ending_entry 0) parts.endings.items)
    → Grew o4 o5 s5 → ListAt (Written o5) 12 (IsRule (Written o5)) o.globs (map rule_of parts.globs.items)
    → Grew o5 o6 s6 → MagicAt (Written o6) o.magic (plain_sections b.sections.items)
    → Grew o6 o7 s7
    → Grew o7 o8 s8 → ListAt (Written o8) 8 (IsPair (Written o8)) o.icons (map pair_texts parts.icons.items)
    → Grew o8 o9 s9 → ListAt (Written o9) 8 (IsPair (Written o9)) o.generic_icons (map pair_texts parts.generic_icons.items)
    → c ≡ cards (header_numbers o) ++ drop 40 o9 → HeaderAt (Stands c) o → length c ≤ cache_limit → Spells c (plain_database b)
cache_spells o1 o2 o3 o4 o5 o6 o7 o8 o9 c parts runs b o s2 s3 s4 s5 s6 s7 s8 s9 are h
    aliases g2 parents g3 literals g4 tree g5 globs g6 magic g7 g8 icons g9 generic is header within =
    let u9 : Carries (Written o9) (Stands c) =
    subst (λ (bytes : List ℕ). Carries (Written o9) (Stands bytes)) (sym is)
    (patched o9 (cards (header_numbers o)) (length-cards (header_numbers o))) in
    let u8 : Carries (Written o8) (Stands c) = λ at bs w. u9 at bs (written_more o8 o9 s9 g9 at bs w) in
    let u7 : Carries (Written o7) (Stands c) = λ at bs w. u8 at bs (written_more o7 o8 s8 g8 at bs w) in
    let u6 : Carries (Written o6) (Stands c) = λ at bs w. u7 at bs (written_more o6 o7 s7 g7 at bs w) in
    let u5 : Carries (Written o5) (Stands c) = λ at bs w. u6 at bs (written_more o5 o6 s6 g6 at bs w) in
    let u4 : Carries (Written o4) (Stands c) = λ at bs w. u5 at bs (written_more o4 o5 s5 g5 at bs w) in
    let u3 : Carries (Written o3) (Stands c) = λ at bs w. u4 at bs (written_more o3 o4 s4 g4 at bs w) in
    let u2 : Carries (Written o2) (Stands c) = λ at bs w. u3 at bs (written_more o2 o3 s3 g3 at bs w) in
    let u1 : Carries (Written o1) (Stands c) = λ at bs w. u2 at bs (written_more o1 o2 s2 g2 at bs w) in
    record {
      within = within;
      offsets = o;
      header = header;
      aliases = pairs_stand (Stands c) o.aliases _ _ are.aliases
          (list_carry IsPair pair_keeps (Written o1) (Stands c) u1 8 o.aliases _ aliases);
      parents = parents_stand (Stands c) o.parents _ _ (map plain_run runs) are.parents h
          (list_carry IsRun run_keeps (Written o2) (Stands c) u2 8 o.parents _ parents);
      literals = literals_stand (Stands c) o.literals b.rules.items _ are.literals
          (list_carry IsRule rule_keeps (Written o3) (Stands c) u3 12 o.literals _ literals);
      tree = suffix_tree_stands (Stands c) o.tree b.rules.items _ are.endings (tree_of_carry (Written o4) (Stands c) u4 o.tree _ tree);
      globs = subst (ListAt (Stands c) 12 (IsRule (Stands c)) o.globs) are.globs
          (list_carry IsRule rule_keeps (Written o5) (Stands c) u5 12 o.globs _ globs);
      magic = magic_carry (Written o6) (Stands c) u6 o.magic _ magic;
      icons = pairs_stand (Stands c) o.icons _ _ are.icons (list_carry IsPair pair_keeps (Written o8) (Stands c) u8 8 o.icons _ icons);
      generic_icons = pairs_stand (Stands c) o.generic_icons _ _ are.generic_icons
          (list_carry IsPair pair_keeps (Written o9) (Stands c) u9 8 o.generic_icons _ generic);
    }

-- the empty list that was written for namespaces stands in the whole cache
pub no_namespaces : (o7 o8 o9 c : List ℕ) (o : Offsets) (s8 s9 : ℕ) → CardsAt (Written o7) o.namespaces (0 ∷ [])
    → Grew o7 o8 s8 → Grew o8 o9 s9 → c ≡ cards (header_numbers o) ++ drop 40 o9 → HeaderAt (Stands c) o → HasNoNamespaces c
no_namespaces o7 o8 o9 c o s8 s9 count g8 g9 is header =
    let u9 : Carries (Written o9) (Stands c) =
    subst (λ (bytes : List ℕ). Carries (Written o9) (Stands bytes)) (sym is)
    (patched o9 (cards (header_numbers o)) (length-cards (header_numbers o))) in
    let u7 : Carries (Written o7) (Stands c) =
    λ at bs w. u9 at bs (written_more o8 o9 s9 g9 at bs (written_more o7 o8 s8 g8 at bs w)) in
    record { offsets = o; header = header; none = cards_carry (Written o7) (Stands c) u7 o.namespaces _ count }
