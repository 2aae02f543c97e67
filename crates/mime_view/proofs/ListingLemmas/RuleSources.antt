-- Where the rules stand that steps add to a listing, one after another.
use Rattle.std.proofs.Common.{◌≡◌, ℕ, ◌+◌, ◌*◌, ◌<◌, List, [], ◌∷◌, ◌++◌, append_assoc, arith, inl, inr, refl, subst, sym, ap, ◌∙◌}
use Rattle.std.specs.Prelude.{All}
use Rattle.std.proofs.lemmas.List.{append-nil}
use Rattle.std.proofs.lemmas.List.Elements.{All-append, All-nil, All-push, All-weaker}
use Rattle.mime_base.specs.Cache.Bytes.{field}
use Rattle.mime_view.specs.Listing.{PlainListed}
use Rattle.mime_view.specs.Listing.Faults.{IsNode}
use Rattle.mime_view.specs.Listing.Sources.{AddsSome, IsLeafRule, IsListRule, IsRuleAt, IsSiblingsRule, IsTreeRule, LeadsBy, grown}

-- a step that adds nothing
pub adds_nothing : {Is : PlainListed → Type 0} (before : List PlainListed) → AddsSome Is before before
adds_nothing {Is} before = record { more = []; is = sym (append-nil before); all = All-nil Is }

-- a step that adds one rule
pub adds_one : {Is : PlainListed → Type 0} (before after : List PlainListed) (rule : PlainListed) → after ≡ before ++ rule ∷ [] → Is rule
    → AddsSome Is before after
adds_one {Is} before after rule is one = record { more = rule ∷ []; is = is; all = All-push Is [] rule (All-nil Is) one }

-- two steps
pub adds_both : {Is : PlainListed → Type 0} {before now after : List PlainListed} → AddsSome Is before now → AddsSome Is now after
    → AddsSome Is before after
adds_both {Is} {before} {now} {after} first second = record {
  more = first.more ++ second.more;
  is = second.is ∙ ap (λ (xs : List PlainListed). xs ++ second.more) first.is ∙ append_assoc before first.more second.more;
  all = All-append Is first.more second.more first.all second.all;
}

-- a step whose rules are of another kind too
pub adds_also : {Is Other : PlainListed → Type 0} {before after : List PlainListed} → ((rule : PlainListed) → Is rule → Other rule)
    → AddsSome Is before after → AddsSome Other before after
adds_also {Is} {Other} also step = record { more = step.more; is = step.is; all = All-weaker Is Other also step.more step.all }

-- a sibling itself states a rule
pub rule_here : {c : List ℕ} {at : ℕ} {ending : List ℕ} {rule : PlainListed} → IsLeafRule c at ending rule
    → IsSiblingsRule c at 1 ending rule
rule_here {at = at} leaf =
    let same : at ≡ at + 12 * 0 = omega arith in
    record { i = 0; within = omega arith; path = []; r = at; leads = same; leaf = leaf }

-- or what is below a node does
pub rule_below : {c : List ℕ} {at first count : ℕ} {ending longer : List ℕ} {rule : PlainListed} → first ≡ field c at 2
    → count ≡ field c at 1 → longer ≡ field c at 0 ∷ ending → IsNode c at → IsSiblingsRule c first count longer rule
    → IsSiblingsRule c at 1 ending rule
rule_below {c = c} {at = at} {rule = rule} place number more node deep =
    let same : at ≡ at + 12 * 0 = omega arith in
    let leads : LeadsBy c deep.path (field c at 2 + 12 * deep.i) deep.r =
    subst (λ (n : ℕ). LeadsBy c deep.path (n + 12 * deep.i) deep.r) place deep.leads in
    let within : deep.i < field c at 1 = omega (arith, deep.within, number) in
    record {
      i = 0;
      within = omega arith;
      path = field c at 0 ∷ deep.path;
      r = deep.r;
      leads = subst (λ (n : ℕ). LeadsBy c (field c at 0 ∷ deep.path) n deep.r) same (refl, node, (deep.i, within, leads));
      leaf = subst (λ (e : List ℕ). IsLeafRule c deep.r (grown deep.path e) rule) more deep.leaf;
    }

-- one of some siblings does
pub rule_among : {c : List ℕ} {first count : ℕ} {ending now : List ℕ} {rule : PlainListed} (i : ℕ) → i < count → now ≡ ending
    → IsSiblingsRule c (first + 12 * i) 1 now rule → IsSiblingsRule c first count ending rule
rule_among {c = c} {first = first} {rule = rule} i within alike deep =
    let only = deep.within in
    let same : first + 12 * i + 12 * deep.i ≡ first + 12 * i = omega arith in
    record {
      i = i;
      within = within;
      path = deep.path;
      r = deep.r;
      leads = subst (λ (n : ℕ). LeadsBy c deep.path n deep.r) same deep.leads;
      leaf = subst (λ (e : List ℕ). IsLeafRule c deep.r (grown deep.path e) rule) alike deep.leaf;
    }

-- from no rules on, the rules of three lists are added
pub all_from : (c : List ℕ) (literals tree globs : ℕ) (none first second third all : List PlainListed) → none ≡ []
    → AddsSome (IsListRule c literals) none first → AddsSome (IsTreeRule c tree) first second → AddsSome (IsListRule c globs) second third
    → all ≡ third → All (IsRuleAt c literals tree globs) all
all_from c literals tree globs none first second third all empty by_literals by_tree by_globs is =
    let step = adds_both (adds_also (λ rule one. inl one) by_literals)
    (adds_both (adds_also (λ rule one. inr (inl one)) by_tree) (adds_also (λ rule one. inr (inr one)) by_globs)) in
    let whole : all ≡ step.more = is ∙ step.is ∙ ap (λ (xs : List PlainListed). xs ++ step.more) empty in
    rw whole step.all
