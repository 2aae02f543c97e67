-- What is found in a content, against what the content is sniffed as.
use Rattle.std.proofs.Common.{◌≡◌, ◌∙◌, ℕ, cond, List, Option, None, Some, refl, ap, sym}
use Rattle.std.specs.Prelude.{IfSome}
use Rattle.std.specs.Option.{option_map}
use Rattle.mime_base.specs.Database.{PlainDatabase}
use Rattle.mime_base.specs.Magic.Holds.{first_magic}
use Rattle.mime_base.specs.declared.magic.host.Host.{Host}
use Rattle.mime_lookup.specs.CheckingOrder.{before_globs, of_high_priority}
use Rattle.mime_lookup.specs.ContentAlone.{first_priority}
use Rattle.mime_lookup.specs.Finding.{PlainFinding, found_by, found_in, is_high, priority_of, resolved_finding}
use Rattle.mime_lookup.specs.Sniffing.{sniffed, sniffed_by_magic}
use Rattle.mime_lookup.specs.declared.order.Order.TheVariants.{MagicFirst}

-- the type by a section or by the bytes
sniffed_by_magic-found : (b : PlainDatabase) (section : Option (List ℕ × ℕ)) (content : List ℕ) →
    sniffed_by_magic b section content ≡ resolved_finding b.aliases (found_by section content)
sniffed_by_magic-found b None content = refl
sniffed_by_magic-found b (Some section) content = refl

-- what a content is sniffed as is what is found in it, after its alias step
pub sniffed-found : (b : PlainDatabase) (known : Option (List ℕ)) (host : Host) →
    sniffed b known host ≡ resolved_finding b.aliases (found_in b known host)
unfolding sniffed
sniffed-found b None host = refl
sniffed-found b (Some content) host = sniffed_by_magic-found b (first_magic b.sections content host) content

-- the priority by a section
priority_of-found : (section : Option (List ℕ × ℕ)) (content : List ℕ) →
    priority_of (found_by section content) ≡ option_map (λ (pair : List ℕ × ℕ). pair.1) section
priority_of-found None content = refl
priority_of-found (Some section) content = refl

-- the priority of what is found in a content is that of its first section that holds
pub priority-found : (b : PlainDatabase) (content : List ℕ) (host : Host) →
    priority_of (found_in b (Some content) host) ≡ first_priority b content host
priority-found b content host = priority_of-found (first_magic b.sections content host) content

-- the type by a section of high priority
of_high_priority-found : (b : PlainDatabase) (section : Option (List ℕ × ℕ)) (content : List ℕ) →
    of_high_priority b section
    ≡ cond (is_high (found_by section content)) (Some (resolved_finding b.aliases (found_by section content))) None
of_high_priority-found b None content = refl
of_high_priority-found b (Some section) content = refl

-- magic comes before the globs where what is found is of high priority
pub before_globs-found : (b : PlainDatabase) (known : Option (List ℕ)) (host : Host) →
    before_globs b known host MagicFirst
    ≡ cond (is_high (found_in b known host)) (Some (resolved_finding b.aliases (found_in b known host))) None
unfolding before_globs
before_globs-found b None host = refl
before_globs-found b (Some content) host = of_high_priority-found b (first_magic b.sections content host) content

-- Where a finding is what is found in the content, if that is known, the content is sniffed as it.
module _ (b : PlainDatabase) (host : Host) (found : PlainFinding) where
  -- the type
  pub sniffed-where : (known : Option (Option (List ℕ))) → IfSome known (λ content. found ≡ found_in b content host) →
      IfSome known (λ content. resolved_finding b.aliases found ≡ sniffed b content host)
  sniffed-where None is = tt
  sniffed-where (Some content) is = ap (resolved_finding b.aliases) is ∙ sym (sniffed-found b content host)

  -- the type before the globs
  pub before_globs-where : (known : Option (Option (List ℕ))) → IfSome known (λ content. found ≡ found_in b content host) →
      IfSome known (λ content. cond (is_high found) (Some (resolved_finding b.aliases found)) None
      ≡ before_globs b content host MagicFirst)
  before_globs-where None is = tt
  before_globs-where (Some content) is =
      ap (λ finding. cond (is_high finding) (Some (resolved_finding b.aliases finding)) None) is
      ∙ sym (before_globs-found b content host)
