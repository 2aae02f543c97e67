-- How a text of magic is spelled, apart from any way to read it.
use Rattle.std.specs.Prelude.{◌≡◌, ◌≢◌, ℕ, ◌+◌, ◌-◌, ◌*◌, ◌<◌, ◌≤◌, ◌⊎◌, Bool, true, false, ◌||◌, ◌==◌, List, [], ◌∷◌, ◌++◌, length, Option}
use Rattle.std.specs.Prelude.{Some, None}
use Rattle.std.specs.List.{AllByRecursion}
use Rattle.mime_base.specs.Magic.{PlainLine, fits_word}
use Rattle.mime_base.specs.Names.{is_type_name}
use Rattle.mime_text.specs.Magic.Entries.{PlainRole, kept, ignored, marker, PlainEntry, PlainFlatSection}
use Rattle.mime_text.specs.Magic.Reading.{is_digit, unsized, short, sized, header}

-- ---- numbers

-- the value of digits that come after digits of the value n
abbrev pub value_of : ℕ → List ℕ → ℕ
value_of n [] = n
value_of n (d ∷ digits) = value_of (n * 10 + (d - 48)) digits

-- each byte is a digit
abbrev pub AreDigits : List ℕ → Type 0
AreDigits text = AllByRecursion (λ b. is_digit b ≡ true) text

-- one or more digits with a value below 2 ^ 32
pub record IsNumber (text : List ℕ) (n : ℕ) : Type 0 where
  pub digits : AreDigits text
  pub some : 0 < length text
  pub value : value_of 0 text ≡ n
  pub small : n < 4294967296

-- ---- the parts of a line

-- nothing for 0, or a number
abbrev pub IsIndent : List ℕ → ℕ → Type 0
IsIndent [] n = n ≡ 0
IsIndent (b ∷ text) n = IsNumber (b ∷ text) n

-- nothing for 1, or a mark and a number
abbrev pub IsOptional : ℕ → List ℕ → ℕ → Type 0
IsOptional mark [] n = n ≡ 1
IsOptional mark (b ∷ text) n = (b ≡ mark) × IsNumber text n

-- nothing, or `&` and as many bytes as the value has
abbrev pub IsMask : ℕ → List ℕ → Option (List ℕ) → Type 0
IsMask size text None = text ≡ []
IsMask size text (Some mask) = (text ≡ 38 ∷ mask) × (length mask ≡ size)

-- whether the byte b goes on with the last of these parts, or begins one that may come after it
abbrev pub goes_on : List ℕ → List ℕ → List ℕ → ℕ → Bool
goes_on mask word (r ∷ range) b = is_digit b
goes_on mask (w ∷ word) [] b = is_digit b || (b == 43)
goes_on (m ∷ mask) [] [] b = (b == 126) || (b == 43)
goes_on [] [] [] b = (b == 38) || ((b == 126) || (b == 43))

-- the mask, the word and the range of a line, where the byte b comes next
pub record AreOptions (text : List ℕ) (own : PlainLine) (b : ℕ) : Type 0 where
  pub mask : List ℕ
  pub word : List ℕ
  pub range : List ℕ
  pub whole : text ≡ mask ++ (word ++ range)
  pub mask_is : IsMask (length own.value) mask own.mask
  pub word_is : IsOptional 126 word own.word
  pub word_fits : fits_word own.word (length own.value) ≡ true
  pub range_is : IsOptional 43 range own.range
  pub ends : goes_on mask word range b ≡ false

-- from the start to the range, where the byte b comes next; a length has its high byte first
pub record IsBody (text : List ℕ) (own : PlainLine) (b : ℕ) : Type 0 where
  pub start : List ℕ
  pub high : ℕ
  pub low : ℕ
  pub options : List ℕ
  pub whole : text ≡ start ++ (61 ∷ high ∷ low ∷ (own.value ++ options))
  pub start_is : IsNumber start own.start
  pub size : length own.value ≡ 256 * high + low
  pub options_are : AreOptions options own b

-- no byte is a newline
abbrev pub NoNewline : List ℕ → Type 0
NoNewline bytes = AllByRecursion (λ b. b ≢ 10) bytes

-- the end of a line, which begins with the byte b: a newline, or bytes up to a newline that make the line ignored
abbrev pub IsEnd : PlainLine → ℕ → List ℕ → PlainRole → Type 0
IsEnd own b text (kept line) =
    (line ≡ own) × (b ≡ 10) × (text ≡ []) × (own.start + own.range + length own.value < 4294967296)
IsEnd own b text ignored = (b ≢ 10) × ((junk : List ℕ) × (text ≡ junk ++ 10 ∷ []) × NoNewline junk)
IsEnd own b text marker = ⊥

-- the bytes of a line after its `>`
pub record IsRest (text : List ℕ) (role : PlainRole) : Type 0 where
  pub body : List ℕ
  pub own : PlainLine
  pub first : ℕ
  pub end : List ℕ
  pub whole : text ≡ body ++ first ∷ end
  pub body_is : IsBody body own first
  pub end_is : IsEnd own first end role

-- a line whose indent may be at most `limit`
pub record IsLine (limit : ℕ) (text : List ℕ) (line : PlainEntry) : Type 0 where
  pub indent : List ℕ
  pub rest : List ℕ
  pub whole : text ≡ indent ++ 62 ∷ rest
  pub indent_is : IsIndent indent line.indent
  pub allowed : line.indent ≤ limit
  pub shallow : line.indent < 64
  pub rest_is : IsRest rest line.role

-- one of the three spellings of a marker
abbrev pub IsMarker : List ℕ → Type 0
IsMarker text = (text ≡ unsized) ⊎ ((text ≡ short) ⊎ (text ≡ sized))

-- the text begins with a marker
abbrev pub BeginsMarker : List ℕ → Type 0
BeginsMarker text = (front : List ℕ) × (rest : List ℕ) × IsMarker front × (text ≡ front ++ rest)

-- a marker, or a line that doesn't begin as one
abbrev pub IsEntry : ℕ → List ℕ → PlainEntry → Type 0
IsEntry limit text line =
    (IsMarker text × (line ≡ record { indent = 0; role = marker }))
    ⊎ ((BeginsMarker text → ⊥) × IsLine limit text line)

-- ---- sections

-- lines one after another, each with an indent of at most one more than the line before
abbrev pub AreLines : ℕ → List ℕ → List PlainEntry → Type 0
AreLines limit text [] = text ≡ []
AreLines limit text (line ∷ lines) =
    (first : List ℕ) × (rest : List ℕ) × (text ≡ first ++ rest)
    × IsEntry limit first line × AreLines (line.indent + 1) rest lines

-- `[priority:type]`, a newline, and lines of which the first has indent 0
pub record IsSection (text : List ℕ) (section : PlainFlatSection) : Type 0 where
  pub priority : List ℕ
  pub lines : List ℕ
  pub whole : text ≡ 91 ∷ (priority ++ (58 ∷ (section.kind ++ (93 ∷ 10 ∷ lines))))
  pub priority_is : IsNumber priority section.priority
  pub kind_is : is_type_name section.kind ≡ true
  pub lines_are : AreLines 0 lines section.entries

-- sections one after another
abbrev pub AreSections : List ℕ → List PlainFlatSection → Type 0
AreSections text [] = text ≡ []
AreSections text (section ∷ sections) =
    (first : List ℕ) × (rest : List ℕ) × (text ≡ first ++ rest)
    × IsSection first section × AreSections rest sections

-- nothing, or the header and sections
abbrev pub MagicText : List ℕ → List PlainFlatSection → Type 0
MagicText text sections =
    ((text ≡ []) × (sections ≡ []))
    ⊎ ((rest : List ℕ) × (text ≡ header ++ rest) × AreSections rest sections)
