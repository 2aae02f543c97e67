-- The types of the rules that are asked for, each put in its place after one alias step.
use Rattle.std.proofs.Common.{◌≡◌, ℕ, zero, suc, ◌+◌, ◌<◌, ◌≤◌, List, [], ◌∷◌, length, get_or, set, map, refl, sym, ap, ◌∙◌, arith}
use Rattle.std.specs.List.{All}
use Rattle.std.proofs.lemmas.List.{get_or-map, length-map}
use Rattle.std.proofs.Math.Numerals.{suc-eq-add-one}
use Rattle.std.proofs.lemmas.Simd.{map-map}
use denote.Bor.{Bor}
use Rattle.mime_base.specs.Database.{PlainDatabase, pairs_of}
use Rattle.mime_base.specs.Database.Subclass.{resolved}
use Rattle.mime_base.specs.Kept.{candidate_rules, kept_rules}
use Rattle.mime_base.specs.declared.database.rule.GlobRule.{GlobRule}
use Rattle.mime_lookup.specs.Ancestry.{kinds_of}
use Rattle.mime_lookup.specs.Choice.{candidates, kept}
use Rattle.mime_lookup.specs.NameTypes.{types_for}
use Rattle.mime_view.specs.Gathered.{asked_rules}
use Rattle.mime_view.specs.declared.name_hits.Which.{Which}
use Rattle.mime_view.specs.declared.name_hits.Which.TheVariants.{Candidates, Kept}

-- the types of rules, each after one alias step
pub types_for-rules : (which : Which) (b : PlainDatabase) (name : List ℕ)
    → map (resolved b.aliases) (map (λ rule. rule.kind) (asked_rules which b.rules name)) ≡ types_for which b name
unfolding kept candidates
types_for-rules Kept b name = map-map (resolved b.aliases) (λ (rule : GlobRule). rule.kind) (kept_rules b.rules name)
types_for-rules Candidates b name = map-map (resolved b.aliases) (λ (rule : GlobRule). rule.kind) (candidate_rules b.rules name)

-- as many are kept as rules
pub length-kept : (b : PlainDatabase) (name : List ℕ) → length (kept (pairs_of b) b.rules name) ≡ length (kept_rules b.rules name)
unfolding kept
length-kept b name = length-map (kept_rules b.rules name) (λ (rule : GlobRule). resolved b.aliases rule.kind)

-- a list in which what comes before a place went one step
abbrev pub stepped : (List ℕ → List ℕ) → ℕ → List (List ℕ) → List (List ℕ)
stepped step zero kinds = kinds
stepped step (suc i) [] = []
stepped step (suc i) (kind ∷ kinds) = step kind ∷ stepped step i kinds

-- it has as many
pub length-stepped : (step : List ℕ → List ℕ) (i : ℕ) (kinds : List (List ℕ)) → length (stepped step i kinds) ≡ length kinds
length-stepped step zero kinds = refl
length-stepped step (suc i) [] = refl
length-stepped step (suc i) (kind ∷ kinds) = ap suc (length-stepped step i kinds)

-- once all did, it is the list of the steps
pub stepped-all : (step : List ℕ → List ℕ) (i : ℕ) (kinds : List (List ℕ)) → length kinds ≤ i → stepped step i kinds ≡ map step kinds
stepped-all step zero [] past = refl
stepped-all step zero (kind ∷ kinds) past = absurd (omega arith)
stepped-all step (suc i) [] past = refl
stepped-all step (suc i) (kind ∷ kinds) past = ap (λ more. step kind ∷ more) (stepped-all step i kinds (omega arith))

-- the next one goes it in its place
stepped-set : (step : List ℕ → List ℕ) (i : ℕ) (kinds : List (List ℕ)) (d : List ℕ) → i < length kinds →
    set (stepped step i kinds) i (step (get_or (stepped step i kinds) i d)) ≡ stepped step (suc i) kinds
stepped-set step i [] d within = absurd (omega arith)
stepped-set step zero (kind ∷ kinds) d within = refl
stepped-set step (suc i) (kind ∷ kinds) d within = ap (λ more. step kind ∷ more) (stepped-set step i kinds d (omega arith))

-- the same by the references to the texts
pub stepped-next : (step : List ℕ → List ℕ) (start kinds new : List (List ℕ)) (items : List (Bor (List ℕ))) (i : ℕ)
    (item : Bor (List ℕ)) (name : List ℕ) → i < length items → kinds_of items ≡ kinds → kinds ≡ stepped step i start →
    name ≡ step (get_or items i item).now → new ≡ set kinds i name → new ≡ stepped step (i + 1) start
stepped-next step start kinds new items i item name within are so_far is put =
    let now : Bor (List ℕ) → List ℕ = λ text. text.now in
    let size : i < length start =
    omega (arith, within, sym (length-map items now), ap length are, ap length so_far, length-stepped step i start) in
    let read : get_or kinds i [] ≡ (get_or items i item).now =
    ap (λ all. get_or all i []) (sym are) ∙ get_or-map now items i item [] within in
    let named : name ≡ step (get_or (stepped step i start) i []) =
    is ∙ ap step (sym read ∙ ap (λ all. get_or all i []) so_far) in
    put ∙ ap (λ all. set all i name) so_far ∙ ap (λ text. set (stepped step i start) i text) named
    ∙ stepped-set step i start [] size ∙ ap (λ (n : ℕ). stepped step n start) (suc-eq-add-one i)

-- an item among some that are all so
pub all_item : (Is : List ℕ → Type 0) (items : List (Bor (List ℕ))) (i : ℕ) (item : Bor (List ℕ)) → i < length items →
    All Is (kinds_of items) → Is (get_or items i item).now
all_item Is items i item within are =
    let now : Bor (List ℕ) → List ℕ = λ text. text.now in
    let inside : i < length (kinds_of items) = rw (length-map items now) within in
    rw (get_or-map now items i item [] within) at (are i [] inside)

-- there are as many references as texts
pub texts_count : (items : List (Bor (List ℕ))) (kinds : List (List ℕ)) → kinds_of items ≡ kinds → length items ≡ length kinds
texts_count items kinds are = sym (length-map items (λ (text : Bor (List ℕ)). text.now)) ∙ ap length are
