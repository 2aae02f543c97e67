-- What the texts of an index give for a name, and what they cost, by the rules that it gives.
use Rattle.std.proofs.Common.{◌≡◌, ℕ, ◌+◌, ◌*◌, ◌<◌, ◌≤◌, List, [], length, map, ap, ◌∙◌}
use Rattle.std.specs.List.{filter}
use Rattle.mime_base.specs.Kept.{hits, kept_rules, of_greatest, rank_of_rule}
use Rattle.mime_base.specs.declared.database.rule.GlobRule.{GlobRule}
use Rattle.mime_names.specs.Index.{IsIndex, PlainIndex, held_kinds, held_types, plain_index, rules_of_index, texts_of}
use Rattle.mime_names.specs.Keys.{IsEndKey}
use Rattle.mime_names.specs.Near.{longest, near_nodes, near_texts, rule_bytes, text_bytes}
use Rattle.mime_names.specs.Places.{AreNear, AreSortedPlaces, ComparesPlaces, CountsPlaces, is_text_at}
use Rattle.mime_names.specs.Rules.{hits_of, is_text_rule, others, plain, texts}
use Rattle.mime_names.specs.Tree.{spelled}
use Rattle.mime_names.specs.declared.index.NameIndex.TheInside.{Inside}
use Rattle.mime_names.specs.declared.kept.KeptTypes.{KeptTypes}
use Rattle.mime_names.proofs.KeptLemmas.{kept-none, kept-others, kept-some, kept-texts}
use Rattle.mime_names.proofs.KeyByteLemmas.{leading-bytes}
use Rattle.mime_names.proofs.NodeLemmas.{texts-nodes, texts-none}
use Rattle.mime_names.proofs.TableLemmas.{near-texts}

module _ (index : Inside) (is : IsIndex index.patterns.items index.rules.items index.table index.general) (given : PlainIndex)
    (view : plain_index index.patterns.items index.rules.items ≡ given) (name : List ℕ) where
  -- the rules that it gives
  same : rules_of_index index.patterns.items index.rules.items ≡ given.given
  same = ap (λ (all : PlainIndex). all.given) view

  -- whether a key is that of one of the name's endings
  abbrev Ends : ℕ → Type 0
  Ends key = IsEndKey index.table.tree (spelled name) key

  -- where the keys of endings are asked for
  pub nodes-of_texts : (old new : ℕ) → CountsPlaces Ends index.table.keys.items old (2 * length name + 3) new →
      new + 2 ≤ old + near_nodes (length name) (near_texts name given.given)
  nodes-of_texts = texts-nodes index.patterns.items index.rules.items index.table is name given.given same

  module _ (places : List ℕ) (sorted : AreSortedPlaces Ends index.table.keys.items places) where
    -- where their rules are compared
    pub bytes-of_texts : (old new : ℕ) → ComparesPlaces (is_text_at index.patterns.items index.rules.items) places (length name)
        (rule_bytes (length name) (longest (rules_of_index index.patterns.items index.rules.items))) old new →
        new ≤ old + text_bytes (length name) (near_texts name given.given)
    bytes-of_texts old new compared =
        leading-bytes index.patterns.items index.rules.items index.table is name given.given same old new places sorted compared

    module _ (types : KeptTypes) (kept : AreNear index.patterns.items (texts index.patterns.items) index.rules.items name places →
        held_kinds types ≡ map (λ rule. rule.kind) (of_greatest (λ rule. rank_of_rule (plain index.patterns.items rule))
        (hits_of index.patterns.items (texts index.patterns.items) index.rules.items name))) where
      -- they are the types of the texts that match
      of_texts : held_kinds types ≡ map (λ rule. rule.kind) (of_greatest (λ rule. rank_of_rule (plain index.patterns.items rule))
          (hits_of index.patterns.items (texts index.patterns.items) index.rules.items name))
      of_texts = kept (near-texts index.table index.patterns.items index.rules.items is.keyed is.own name places sorted)

      -- where a text matches, they are the types of the kept rules
      pub kept-of_texts : 0 < length (held_kinds types) → held_types types ≡ map (λ rule. rule.kind) (kept_rules given.given name)
      kept-of_texts some =
          ap texts_of of_texts
          ∙ kept-texts index.patterns.items index.rules.items name is.own
          (kept-some index.patterns.items _ (held_kinds types) of_texts some)
          ∙ ap (λ (all : List GlobRule). map (λ (rule : GlobRule). rule.kind) (kept_rules all name)) same

      module _ (none : held_kinds types ≡ []) where
        -- no text matches where there is no type
        pub none-of_texts : 0 < length (filter is_text_rule (hits given.given name)) → ⊥
        none-of_texts =
            texts-none index.patterns.items index.rules.items index.table is name given.given same (held_kinds types) of_texts
            (ap length none)

        -- then the types of all others are those of the kept rules
        pub kept-of_others : (rest : KeptTypes) → held_kinds rest ≡ map (λ rule. rule.kind)
            (of_greatest (λ rule. rank_of_rule (plain index.patterns.items rule))
            (hits_of index.patterns.items (others index.patterns.items) index.rules.items name)) →
            held_types rest ≡ map (λ rule. rule.kind) (kept_rules given.given name)
        kept-of_others rest are =
            ap texts_of are
            ∙ kept-others index.patterns.items index.rules.items name is.own
            (kept-none index.patterns.items _ (held_kinds types) of_texts (ap length none))
            ∙ ap (λ (all : List GlobRule). map (λ (rule : GlobRule). rule.kind) (kept_rules all name)) same
