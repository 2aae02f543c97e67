-- The place of a text in a literal list that stands in a cache: from it on, the entries of the text come first.
use Rattle.std.proofs.Common.{◌≡◌, ◌≢◌, ℕ, ◌+◌, ◌-◌, ◌*◌, ◌<◌, ◌≤◌, false, List, [], ◌∷◌, length, drop, length-drop, refl, sym, ap, ◌∙◌, arith}
use Rattle.std.specs.Prelude.{bytes_eq}
use Rattle.std.specs.List.{All}
use Rattle.std.proofs.Math.Nat.{mul-le-mul_left}
use Rattle.std.proofs.lemmas.List.{length-map}
use Rattle.std.proofs.lemmas.List.Elements.{All-drop}
use Rattle.std.proofs.lemmas.List.Sorted.{length_permutation}
use Rattle.mime_base.specs.Cache.Bytes.{Stands, field}
use Rattle.mime_base.specs.Format.Rules.{IsRule, LiteralsAt}
use Rattle.mime_base.specs.Format.Stored.{literal_rules, stored_text}
use Rattle.mime_base.specs.Kept.{FitsRank}
use Rattle.mime_base.specs.declared.database.rule.GlobRule.{GlobRule}
use Rattle.mime_view.specs.Hits.{literal_visits}
use Rattle.mime_view.specs.Lists.{AreSorted, HasText, KeysAt, SplitsAt}
use Rattle.mime_view.specs.Literals.{AreRun, IsLiteral, ReadsRules, of_text, run_visits}
use Rattle.mime_view.proofs.LiteralLemmas.LiteralEntries.{literal_each, of_text-from, rule_size, rules_from, rules_read, run_sorted, texts_of}
use Rattle.mime_view.proofs.LiteralLemmas.LiteralEntries.{texts_read, texts_sorted}
use Rattle.mime_view.proofs.ListLemmas.OneText.{other_text}
use Rattle.mime_view.proofs.ListLemmas.Records.{count_read, list_inside}

-- what a search in the list reads
pub record Searched (c : List ℕ) (at count : ℕ) (entries : List GlobRule) : Type 0 where
  pub size : length (texts_of entries) ≡ count
  pub inside : at + 4 + 12 * count ≤ length c
  pub texts : KeysAt c (at + 4) 12 (texts_of entries)
  pub sorted : AreSorted (texts_of entries)

-- the rules from a place on, of which those of the text come first
pub record Placed (c : List ℕ) (at : ℕ) (rules : List GlobRule) (key : List ℕ) (count start : ℕ) : Type 0 where
  pub rest : List GlobRule
  pub size : length rest + start ≡ count
  pub reads : ReadsRules c (at + 4 + 12 * start) rest
  pub run : AreRun key rest
  pub same : of_text key rest ≡ of_text key (literal_rules rules)
  pub visits : run_visits key rest ≤ literal_visits key rules
  pub literal : All FitsRank rules → All IsLiteral rest

module _ (c : List ℕ) (at : ℕ) (rules : List GlobRule) (stand : LiteralsAt (Stands c) at rules) (count : ℕ)
    (is : count ≡ field c at 0) where
  -- a list that stands can be searched
  pub searched : Searched c at count stand.entries
  searched =
      let n : count ≡ length stand.entries = is ∙ count_read c 12 (IsRule (Stands c)) at stand.entries stand.stand in
      let inside = list_inside c 12 (IsRule (Stands c)) at stand.entries (rule_size c) stand.stand in
      record {
        size = length-map stand.entries stored_text ∙ sym n;
        inside = omega arith;
        texts = texts_read c (at + 4) stand.entries (rules_read c (at + 4) stand.entries stand.stand.records);
        sorted = texts_sorted stand.entries stand.sorted.in_order;
      }

  -- from the place of a text on, its rules come first
  pub placed : (key : List ℕ) (start : ℕ) → SplitsAt (texts_of stand.entries) key start → Placed c at rules key count start
  placed key start splits =
      let n : count ≡ length stand.entries = is ∙ count_read c 12 (IsRule (Stands c)) at stand.entries stand.stand in
      let all : length stand.entries ≡ length (literal_rules rules) =
      length_permutation (literal_rules rules) stand.entries stand.sorted.permuted in
      let texts = length-map stand.entries stored_text in
      let left : length (drop start stand.entries) ≡ length stand.entries - start = length-drop start stand.entries in
      let within : start ≤ length stand.entries = omega (arith, splits.within) in
      let same : of_text key (drop start stand.entries) ≡ of_text key (literal_rules rules) =
      of_text-from key start stand.entries splits.less within ∙ stand.sorted.ties key in
      let sizes = ap length same in
      record {
        rest = drop start stand.entries;
        size = omega arith;
        reads = rules_from c (at + 4) start stand.entries (rules_read c (at + 4) stand.entries stand.stand.records);
        run = run_sorted key start stand.entries (texts_sorted stand.entries stand.sorted.in_order) splits;
        same = same;
        visits = omega arith;
        literal = λ fits. All-drop IsLiteral start stand.entries (literal_each rules stand.entries stand.sorted.permuted fits);
      }

  -- so they do from the place that a search finds
  pub placed_by : {key : List ℕ} {start : ℕ} → ((keys : List (List ℕ)) → length keys ≡ count → KeysAt c (at + 4) 12 keys
      → AreSorted keys → SplitsAt keys key start) → Placed c at rules key count start
  placed_by {key} {start} finds = placed key start (finds (texts_of stand.entries) searched.size searched.texts searched.sorted)

-- a run whose first entry is of another text has no entry of the text
pub unmet : (c : List ℕ) (first start count : ℕ) (key : List ℕ) (rules : List GlobRule) → length rules + start ≡ count
    → ReadsRules c (first + 12 * start) rules → AreRun key rules
    → ((text : List ℕ) → start < count → HasText c first 12 start text → text ≢ key) → of_text key rules ≡ []
unmet c first start count key [] size reads run other = refl
unmet c first start count key (rule ∷ rest) size reads run other =
    let differs : bytes_eq (stored_text rule) key ≡ false =
    other_text (stored_text rule) key (other (stored_text rule) (omega arith) reads.0.text) in
    rw differs (run.0 differs)

-- and is one visit long
pub unmet_visits : (key : List ℕ) (rules : List GlobRule) → of_text key rules ≡ [] → 0 < length rules → run_visits key rules ≡ 1
unmet_visits key rules none some = let sizes : length (of_text key rules) ≡ 0 = ap length none in omega arith

-- that many records for each of some visits are at least those of one
pub some_visits : (each visits : ℕ) → 1 ≤ visits → each ≤ each * visits
some_visits each visits some = let m = mul-le-mul_left each some in omega arith
