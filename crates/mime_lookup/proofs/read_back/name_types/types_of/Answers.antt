use Rattle.std.proofs.Common.{◌≡◌, ◌∙◌, ℕ, true, false, List, take, ap, sym, subst, arith}
use Rattle.std.specs.List.{All}
use Rattle.mime_lookup.specs.Ancestry.{kinds_of}
use Rattle.mime_lookup.specs.Cached.{IsCacheText, asked_count}
use Rattle.mime_lookup.specs.CheckingOrder.{are_one_type}
use Rattle.mime_lookup.specs.NameTypes.{types_for}
use Rattle.mime_lookup.specs.Spelling.{SpellsGlobs}
use Rattle.mime_lookup.proofs.LookUpLemmas.KindTexts.{first_cache_text}
use Rattle.mime_lookup.proofs.OrderLemmas.Candidates.{take-types}
use Rattle.mime_lookup.proofs.OrderLemmas.KeptTypes.{texts_count}
use Rattle.mime_lookup.proofs.read_back.name_types.types_of.Goals as goal

pub returns-then-are_one_type-clause-text : goal.returns-then-are_one_type-clause-text
returns-then-are_one_type-clause-text c =
    let items = c.as_slice-types.result.now in
    let one : are_one_type (kinds_of items) ≡ true = sym c.are_one_type.ensures.answer ∙ c.if-are_one_type.true in
    let texts = subst (λ (bytes : List ℕ). All (IsCacheText bytes) c.in_ok-hits.hits.kinds) c.requires.same c.in_ok-hits.ensures.text in
    first_cache_text c.args.cache.now items _ one (subst (All (IsCacheText c.args.cache.now)) (sym c.as_slice-types.ensures) texts)

pub returns-clause-gives : goal.returns-clause-gives
returns-clause-gives c b globs =
    let name = c.args.name.now in
    let hits = c.in_ok-hits.ensures.gives b (subst (λ (bytes : List ℕ). SpellsGlobs bytes b) (sym c.requires.same) globs) in
    let same = c.as_slice-types.ensures ∙ hits.types in
    let conflict : are_one_type (types_for c.args.which b name) ≡ false =
    ap are_one_type (sym same) ∙ sym c.are_one_type.ensures.answer ∙ c.if-are_one_type.false in
    record {
      given = record {
        answer = (
          conflict,
          hits.types,
          c.count_asked-asked.ensures.count
              ∙ ap (λ (kinds : List (List ℕ)). asked_count (take c.in_ok-hits.hits.kept kinds)) same
              ∙ ap (λ (n : ℕ). asked_count (take n (types_for c.args.which b name))) hits.count
              ∙ ap asked_count (take-types b name globs.ranks c.args.which),
        );
        need = λ enough. tt;
        most = omega arith;
      };
      near = omega arith;
    }

pub returns-clause-text : goal.returns-clause-text
returns-clause-text c = (
  subst (λ (bytes : List ℕ). All (IsCacheText bytes) c.in_ok-hits.hits.kinds) c.requires.same c.in_ok-hits.ensures.text,
  omega (
    arith,
    c.count_asked-asked.ensures.within,
    texts_count c.as_slice-types.result.now c.in_ok-hits.hits.kinds c.as_slice-types.ensures,
  ),
)
