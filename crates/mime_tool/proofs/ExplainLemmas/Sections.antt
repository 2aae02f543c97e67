-- What a content is sniffed as, by the first section that holds.
use Rattle.std.proofs.Common.{◌≡◌, ◌∙◌, ◌++◌, ℕ, List, [], Option, Some, None, IfSome, ap, append_assoc, is_some, option_map, refl}
use denote.Bor.{Bor}
use Rattle.mime_base.specs.Database.{PlainDatabase}
use Rattle.mime_base.specs.Database.Subclass.{resolved}
use Rattle.mime_base.specs.Magic.Holds.{first_magic}
use Rattle.mime_base.specs.declared.magic.host.Host.TheVariants.{Little}
use Rattle.mime_lookup.specs.Sniffing.{sniffed, sniffed_by_bytes}
use Rattle.mime_tool.specs.Explain.{section_in}
use Rattle.mime_tool.specs.ExplainSteps.{bytes_of}

-- where a section holds, it is the type of that after its alias step
pub sniffed-section : (b : PlainDatabase) (kind : List ℕ) (priority : ℕ) (content : Option (List ℕ)) → Some (kind, priority) ≡ section_in b content
    → sniffed b content Little ≡ resolved b.aliases kind
unfolding sniffed
sniffed-section b kind priority None is = absurd (cc)
sniffed-section b kind priority (Some content) is = rw (← is) refl

-- where none holds, it is by the bytes alone
pub sniffed-none : (b : PlainDatabase) (content : List ℕ) → None ≡ first_magic b.sections content Little
    → sniffed b (Some content) Little ≡ sniffed_by_bytes content
unfolding sniffed
sniffed-none b content is = rw (← is) refl

-- there are bytes just where there is a front
pub is_some-bytes : (front : Option (Bor (List ℕ))) → is_some front ≡ is_some (bytes_of front)
is_some-bytes None = refl
is_some-bytes (Some front) = refl

-- lines that were put behind one another
pub joined_lines : (all some first none kind rules section way : List ℕ) → all ≡ some ++ way → some ≡ first ++ (rules ++ section)
    → first ≡ none ++ kind → none ≡ [] → all ≡ kind ++ (rules ++ (section ++ way))
joined_lines all some first none kind rules section way a b c d =
    rw (a, b, c, d) (append_assoc kind (rules ++ section) way ∙ ap (λ (rest : List ℕ). kind ++ rest) (append_assoc rules section way))

-- what is known of a content that a reader tells is known of its bytes
pub known_whole : (P : Option (List ℕ) → Type 0) (told : Option (List ℕ)) → IfSome (option_map (λ (bytes : List ℕ). Some bytes) told) P
    → IfSome told (λ whole. P (Some whole))
known_whole P None is = tt
known_whole P (Some whole) is = is
