-- Texts of a cache and type names are short.
use Rattle.std.proofs.Common.{◌≡◌, ℕ, ◌≤◌, List, length, Ok, arith}
use Rattle.std.proofs.lemmas.Bool.{and_parts, leb-true}
use Rattle.std.specs.List.{list_all}
use Rattle.std.specs.Prelude.{nat_le, true}
use Rattle.mime_base.specs.Names.{has_inner_slash, is_name_byte, is_type_name}
use Rattle.mime_base.specs.Cache.Texts.{text_at}
use Rattle.mime_base.proofs.CacheLemmas.TextsStand.{text_at-read}

-- a type name has at most 255 bytes
pub is_type_name-short : (text : List ℕ) → is_type_name text ≡ true → length text ≤ 255
unfolding is_type_name
is_type_name-short text is =
    leb-true (length text) 255
    (and_parts (nat_le 3 (length text)) (nat_le (length text) 255)
    (and_parts _ (list_all is_name_byte text) (and_parts _ (has_inner_slash text) is).0).0).1

-- a text of a cache has at most 255 bytes
pub text_short : (c : List ℕ) (at : ℕ) (text : List ℕ) → text_at c at ≡ Ok text → length text ≤ 255
text_short c at text is = let read = text_at-read c at text is in omega (arith, read.0.short)
