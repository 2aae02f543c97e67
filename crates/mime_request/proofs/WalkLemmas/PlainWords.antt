-- Words that clap takes for no option.
use Rattle.std.proofs.Common.{◌≡◌, Bool, true, false, [], ◌∷◌, not, ◌&&◌, ◌||◌, None, codes, refl}
use Rattle.std.specs.Str.{bytes_eq}
use Rattle.std.proofs.lemmas.Slice.Eq.{bytes_eq-Decides}
use Rattle.clap.specs.Lexer.{long_of, short_of}
use Rattle.clap.specs.Walk.{Text}
use Rattle.mime_request.specs.Spelling.{is_file_or_stream, is_option}

-- a word that is taken for no option
pub record IsPlainWord (word : Text) : Type 0 where
  pub no_dashes : bytes_eq word (45 ∷ 45 ∷ []) ≡ false
  pub no_long : long_of word ≡ None
  pub no_short : short_of word ≡ None

-- a word that looks like no option is plain
pub plain_word : (word : Text) → is_option word ≡ false → IsPlainWord word
plain_word [] h = record { no_dashes = refl; no_long = refl; no_short = refl }
plain_word (x ∷ xs) h = record { no_dashes = rw h refl; no_long = rw h refl; no_short = rw h refl }

-- what isn't so is false
pub none_of : (a : Bool) → not a ≡ true → a ≡ false
none_of true h = absurd (cc)
none_of false h = refl

-- a hyphen alone is plain too
pub list_word : (word : Text) → is_file_or_stream word ≡ true → IsPlainWord word
list_word word h = go (bytes_eq word (codes "-")) refl h
  where
    go : (dash : Bool) → bytes_eq word (codes "-") ≡ dash → (dash || not (is_option word)) ≡ true → IsPlainWord word
    go true is k = rw ((bytes_eq-Decides word (codes "-")).0 is) (record { no_dashes = refl; no_long = refl; no_short = refl })
    go false is k = plain_word word (none_of (is_option word) k)

-- of a conjunction with a negation both are known
pub neither : (a b : Bool) → (not a && b) ≡ true → (a ≡ false) × (b ≡ true)
neither true b h = absurd (cc)
neither false b h = (refl, h)

-- of a conjunction both hold
pub both_of : (a b : Bool) → (a && b) ≡ true → (a ≡ true) × (b ≡ true)
both_of true b h = (refl, h)
both_of false b h = absurd (cc)
