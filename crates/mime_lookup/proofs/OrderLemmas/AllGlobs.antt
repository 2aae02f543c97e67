-- The answer where all rules that match are candidates, by whether they give it alone.
use Rattle.std.proofs.Common.{◌≡◌, ℕ, Bool, true, false, cond, List, [], Option, None, Some, take, get_or, refl, ◌∙◌}
use Rattle.std.specs.List.{All}
use Rattle.std.specs.Prelude.{IfSome}
use Rattle.mime_base.specs.Database.{PlainDatabase, pairs_of}
use Rattle.mime_base.specs.Kept.{FitsRank}
use Rattle.mime_base.specs.Magic.Holds.{first_magic}
use Rattle.mime_base.specs.declared.magic.host.Host.{Host}
use Rattle.mime_lookup.specs.Cached.{asked_count}
use Rattle.mime_lookup.specs.CheckingOrder.{Chooses, are_one_type, before_globs, has_magic, is_section}
use Rattle.mime_lookup.specs.Choice.{ChoosesAmong, candidates, kept}
use Rattle.mime_lookup.specs.Finding.{PlainFinding, found_by, found_in, is_by_magic, resolved_finding}
use Rattle.mime_lookup.specs.Sniffing.{sniffed}
use Rattle.mime_lookup.specs.declared.order.Order.TheVariants.{AllGlobs}
use Rattle.mime_lookup.proofs.OrderLemmas.Answering.{one_type_chosen, one_type_only}
use Rattle.mime_lookup.proofs.OrderLemmas.Candidates.{asked_chosen, front_one, kept_front}
use Rattle.mime_lookup.proofs.SniffLemmas.Findings.{sniffed-where}

-- whether a section gave what is found
is_section-found : (section : Option (List ℕ × ℕ)) (content : List ℕ) → is_section section ≡ is_by_magic (found_by section content)
is_section-found None content = refl
is_section-found (Some section) content = refl

-- so it is of what is found in a content
has_magic-found : (b : PlainDatabase) (content : Option (List ℕ)) (host : Host) → has_magic b content host ≡ is_by_magic (found_in b content host)
has_magic-found b None host = refl
has_magic-found b (Some content) host = is_section-found (first_magic b.sections content host) content

module _ (b : PlainDatabase) (name : List ℕ) (host : Host) (ranked : All FitsRank b.rules) where
  -- the choice among those that are asked
  abbrev chosen_by : Bool → List ℕ → List ℕ → Type 0
  chosen_by magic found answer =
      ChoosesAmong (pairs_of b) (cond magic (candidates (pairs_of b) b.rules name) (kept (pairs_of b) b.rules name)) found answer

  -- whichever are asked, candidates that are one type are the answer
  one_candidate : (magic : Bool) (found answer : List ℕ) → are_one_type (candidates (pairs_of b) b.rules name) ≡ true
      → answer ≡ get_or (candidates (pairs_of b) b.rules name) 0 [] → chosen_by magic found answer
  one_candidate true found answer one is = rw is (one_type_chosen (pairs_of b) (candidates (pairs_of b) b.rules name) found one)
  one_candidate false found answer one is =
      let front = front_one (kept (pairs_of b) b.rules name) (candidates (pairs_of b) b.rules name) (kept_front b name ranked) one in
      rw (is, ← front.1) (one_type_chosen (pairs_of b) (kept (pairs_of b) b.rules name) found front.0)

  -- so no content changes that
  pub one_candidate_alone : (content : Option (List ℕ)) (answer : List ℕ) → are_one_type (candidates (pairs_of b) b.rules name) ≡ true
      → answer ≡ get_or (candidates (pairs_of b) b.rules name) 0 [] → Chooses b name content host AllGlobs answer
  unfolding Chooses before_globs
  one_candidate_alone content answer one is = one_candidate (has_magic b content host) (sniffed b content host) answer one is

  -- and it is the answer that is chosen
  chosen_candidate : (magic : Bool) (found answer : List ℕ) → are_one_type (candidates (pairs_of b) b.rules name) ≡ true
      → chosen_by magic found answer → answer ≡ get_or (candidates (pairs_of b) b.rules name) 0 []
  chosen_candidate true found answer one chosen =
      one_type_only (pairs_of b) (candidates (pairs_of b) b.rules name) found answer one chosen
  chosen_candidate false found answer one chosen =
      let front = front_one (kept (pairs_of b) b.rules name) (candidates (pairs_of b) b.rules name) (kept_front b name ranked) one in
      one_type_only (pairs_of b) (kept (pairs_of b) b.rules name) found answer front.0 chosen ∙ front.1

  -- the same of a content
  pub one_candidate_only : (content : Option (List ℕ)) (answer : List ℕ) → are_one_type (candidates (pairs_of b) b.rules name) ≡ true
      → Chooses b name content host AllGlobs answer → answer ≡ get_or (candidates (pairs_of b) b.rules name) 0 []
  unfolding Chooses before_globs
  one_candidate_only content answer one chosen = chosen_candidate (has_magic b content host) (sniffed b content host) answer one chosen

  -- of several all are asked for what magic found, else the first
  asked_of_several : (found : PlainFinding) (content : Option (List ℕ)) (answer : List ℕ) → found ≡ found_in b content host
      → ChoosesAmong (pairs_of b) (cond (is_by_magic found) (candidates (pairs_of b) b.rules name)
      (take (asked_count (kept (pairs_of b) b.rules name)) (candidates (pairs_of b) b.rules name))) (resolved_finding b.aliases found) answer
      → chosen_by (has_magic b content host) (resolved_finding b.aliases found) answer
  asked_of_several found content answer is chosen =
      rw (has_magic-found b content host, ← is) (by_magic (is_by_magic found) chosen)
    where
      by_magic : (magic : Bool) → ChoosesAmong (pairs_of b) (cond magic (candidates (pairs_of b) b.rules name)
          (take (asked_count (kept (pairs_of b) b.rules name)) (candidates (pairs_of b) b.rules name))) (resolved_finding b.aliases found) answer
          → chosen_by magic (resolved_finding b.aliases found) answer
      by_magic true chosen = chosen
      by_magic false chosen =
          asked_chosen (pairs_of b) (kept (pairs_of b) b.rules name) (candidates (pairs_of b) b.rules name) (resolved_finding b.aliases found)
          answer (kept_front b name ranked) chosen

  -- the same, where the content is known
  pub every_with_content : (found : PlainFinding) (known : Option (Option (List ℕ))) (answer : List ℕ)
      → IfSome known (λ content. found ≡ found_in b content host)
      → ChoosesAmong (pairs_of b) (cond (is_by_magic found) (candidates (pairs_of b) b.rules name)
      (take (asked_count (kept (pairs_of b) b.rules name)) (candidates (pairs_of b) b.rules name))) (resolved_finding b.aliases found) answer
      → IfSome known (λ content. Chooses b name content host AllGlobs answer)
  unfolding Chooses before_globs
  every_with_content found None answer is chosen = tt
  every_with_content found (Some content) answer is chosen =
      rw (← sniffed-where b host found (Some content) is) (asked_of_several found content answer is chosen)
