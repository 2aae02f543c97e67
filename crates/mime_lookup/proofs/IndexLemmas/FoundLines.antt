-- Lines by the place and the byte that they look at first: those that no table names are refused by their heads.
use Rattle.std.proofs.Common.{◌≡◌, ℕ, zero, suc, ◌+◌, ◌*◌, ◌<◌, ◌≤◌, inl, inr, List, [], ◌∷◌, length, get_or, drop}
use Rattle.std.proofs.Common.{None, Some, refl, sym, ap, ◌∙◌, arith}
use Rattle.std.proofs.lemmas.Bool.{cases_eq, cases_lt, cond-false, cond-true}
use Rattle.std.proofs.lemmas.List.{drop_all, get_or_default}
use Rattle.std.proofs.lemmas.List.Elements.{at_from_Contains}
use Rattle.mime_base.specs.Magic.Holds.{first_magic}
use Rattle.mime_base.specs.Magic.{PlainSection}
use Rattle.mime_base.specs.declared.magic.host.Host.{Host}
use Rattle.mime_lookup.proofs.IndexLemmas.LineHeads.{line_heads-length}
use Rattle.mime_lookup.proofs.IndexLemmas.TopLines.{all_tops, first_top, tops_from}
use Rattle.mime_lookup.specs.Heads.{AreBytes, AreLineHeads, AreNoneShorter, IsHeadOf, RefusesContent}
use Rattle.mime_lookup.specs.Tables.{AreTables, FailsLine, IsFirst, IsInTable, Narrows, OthersFail, TablesFail}
use Rattle.mime_lookup.specs.TopLines.{PlainTop, top_lines}
use Rattle.mime_lookup.specs.declared.indexed.line_head.LineHead.{LineHead}
use Rattle.mime_lookup.specs.declared.indexed.tables.Tables.{Tables}

-- no head
abbrev pub no_head : LineHead
no_head = record { start = 0; range = 0; size = 0; skip = 0; first = 0; second = 0; third = 0; fourth = 0 }

-- the head of a line at a place
pub head_at : (line : ℕ) (heads : List LineHead) (tops : List PlainTop) (head : LineHead) (top : PlainTop) →
    AreLineHeads heads tops → line < length tops → head ≡ get_or heads line head →
    top ≡ get_or tops line top → IsHeadOf head top.line
head_at line [] [] head top are within is top_is = absurd (omega arith)
head_at line [] (_ ∷ _) head top are within is top_is = absurd are
head_at line (_ ∷ _) [] head top are within is top_is = absurd are
head_at zero (h ∷ heads) (t ∷ tops) head top are within is top_is =
    let head_is : head ≡ h = is in let same : top ≡ t = top_is in rw (head_is, same) are.0
head_at (suc line) (h ∷ heads) (t ∷ tops) head top are within is top_is =
    head_at line heads tops head top are.1 (omega arith) is top_is

module _ (heads : List LineHead) (tops : List PlainTop) (content : List ℕ) (host : Host)
    (are : AreLineHeads heads tops) where
  -- a line whose head refuses a content doesn't hold for it
  pub refused_fails : (line : ℕ) (head : LineHead) → head ≡ get_or heads line head → RefusesContent head content →
      FailsLine tops content host line
  refused_fails line head is refuses = λ top inside top_is. (head_at line heads tops head top are inside is top_is).refuses content host refuses

  -- of a content that is shorter than each head says no line holds
  pub none_is_first : (shortest : ℕ) → AreNoneShorter shortest heads → length content < shortest → IsFirst tops content host (length tops)
  none_is_first shortest none_shorter short = record {
    within = omega arith;
    before = λ line below.
        let inside : line < length heads = omega (arith, line_heads-length heads tops are, below) in
        let head : LineHead = get_or heads line no_head in
        let is : head ≡ get_or heads line head = get_or_default heads line no_head head inside in
        refused_fails line head is (inl (omega (arith, short, none_shorter line no_head inside)));
    holds = λ fewer. absurd (omega (arith, fewer));
  }

  module _ (bytes : AreBytes content) (tables : Tables) where
    -- a head with one place refuses a content in which another byte stands there
    differs : (head : LineHead) → head.range ≡ 1 → 0 < head.size →
        (head.start < length content → get_or content head.start 0 ≡ head.first → ⊥) → RefusesContent head content
    differs head one known differ = inr (record {
      known = known;
      bytes = bytes;
      lacks = λ place low high fits shown.
          let at : place ≡ head.start = omega arith in
          differ (omega arith) (rw at at shown.first);
    })

    -- a line that is found, at the byte that stands at its place or at another
    found_fails : (line until : ℕ) (head : LineHead) → head ≡ get_or heads line head → line < until →
        TablesFail tops content host tables until (length tables.places.items) → IsInTable tables 0 line head → FailsLine tops content host line
    found_fails line until head is below fail found =
        elim (cases_lt head.start (length content)) [
          | inl inside ↦ elim (cases_eq (get_or content head.start 0) head.first) [
            | inl same ↦ (
                let slot = found.is in
                let at : get_or tables.places.items slot.table 0 ≡ head.start = slot.place in
                let stands : slot.table * 256 + get_or content (get_or tables.places.items slot.table 0) 0 ≡ found.slot =
                ap (λ place. slot.table * 256 + get_or content place 0) at ∙ ap (λ byte. slot.table * 256 + byte) same ∙ sym slot.slot_is in
                let named = ap (λ n. get_or tables.firsts.items n 0) stands in
                fail slot.table slot.inside (omega (arith, at, inside)) line found.steps (rw named found.leads) below)
            | inr other ↦ refused_fails line head is (differs head found.is.one found.is.known (λ _ e. other e))
          ]
          | inr past ↦ refused_fails line head is (differs head found.is.one found.is.known (λ short _. omega (arith, short, past)))
        ]

    -- the first that holds of those that the tables name, and of the others
    pub is_first : (found first : ℕ) → AreTables tables heads 0 → Narrows tops content host (length tops) found →
        Narrows tops content host found first → TablesFail tops content host tables found (length tables.places.items) →
        OthersFail tops content host tables.others.items first 0 → IsFirst tops content host first
    is_first found first tabled told asked tables_fail others_fail =
        let many = line_heads-length heads tops are in
        record {
          within = omega (arith, told.less, asked.less);
          before = λ line below.
              let inside : line < length heads = omega (arith, many, below, told.less, asked.less) in
              let head : LineHead = get_or heads line no_head in
              let is : head ≡ get_or heads line head = get_or_default heads line no_head head inside in
              elim (tabled.each line head (omega arith) inside is) [
                | inl other ↦ (
                    let at = at_from_Contains tables.others.items line other in
                    let value : get_or tables.others.items at.0 0 ≡ line = at.2 0 in
                    let fails = others_fail at.0 (omega arith) at.1 (omega (arith, value, below)) in
                    rw value at fails)
                | inr is_found ↦ found_fails line found head is (omega (arith, below, asked.less)) tables_fail is_found
              ];
          holds = λ fewer. elim (cases_lt first found) [
            | inl less ↦ asked.holds less
            | inr same ↦ (let e : first ≡ found = omega (arith, same, asked.less) in rw e (told.holds (omega (arith, e, fewer))))
          ];
        }

module _ (content : List ℕ) (host : Host) where
  -- lines that don't hold, from the first on
  failed-first : (until : ℕ) (tops : List PlainTop) → until ≤ length tops → ((line : ℕ) → line < until → FailsLine tops content host line) →
      first_top content host tops ≡ first_top content host (drop until tops)
  failed-first zero tops within fail = refl
  failed-first (suc until) [] within fail = absurd (omega arith)
  failed-first (suc until) (top ∷ tops) within fail =
      cond-false _ _ _ (fail 0 (omega arith) top (omega arith) refl)
      ∙ failed-first until tops (omega arith) (λ line below other inside is. fail (suc line) (omega arith) other (omega arith) is)

  module _ (tops : List PlainTop) (sections : List PlainSection) (whole : tops ≡ top_lines sections)
      (first : ℕ) (is : IsFirst tops content host first) where
    -- the section of the first line that holds
    pub first_holds : (top : PlainTop) → first < length tops → top ≡ get_or tops first top →
        first_magic sections content host ≡ Some (top.kind, top.priority)
    first_holds top inside top_is =
        sym (all_tops content host sections) ∙ ap (first_top content host) (sym whole)
        ∙ failed-first first tops is.within is.before
        ∙ tops_from content host tops first top inside top_is
        ∙ cond-true _ _ _ (is.holds inside top top_is)

    -- and none where no line holds
    pub none_holds : (first < length tops → ⊥) → first_magic sections content host ≡ None
    none_holds past =
        sym (all_tops content host sections) ∙ ap (first_top content host) (sym whole)
        ∙ failed-first first tops is.within is.before
        ∙ ap (first_top content host) (drop_all first tops (omega (arith, past)))
