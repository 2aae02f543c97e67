-- What is spelled so is read: heads, sections and the whole.
use Rattle.std.proofs.Common.{◌≡◌, ℕ, zero, suc, ◌-◌, ◌<◌, ◌≤◌, ◌&&◌, true, not, eqb, ltb, leb, List, [], ◌∷◌, ◌++◌, length, length-append}
use Rattle.std.proofs.Common.{take, get_or, Ok, refl, sym, ap, subst, ◌∙◌, arith, inl, inr, eq-eqb}
use Rattle.std.specs.List.{list_all}
use Rattle.std.proofs.lemmas.Bool.{ltb-true, and_parts, and_from, cond-true}
use Rattle.mime_text.specs.declared.magic.fault.Fault.{Fault}
use Rattle.mime_text.specs.declared.magic.fault.MagicFaultKind.TheVariants.{BadSection}
use Rattle.mime_base.specs.Names.{is_type_name, is_name_byte, has_inner_slash}
use Rattle.mime_text.specs.Magic.Entries.{PlainFlatSection}
use Rattle.mime_text.specs.Magic.Reading.{fault_at, number_at, byte_at, lines_at, row_at, kind_of, head_of, instead, head_at, section_at}
use Rattle.mime_text.specs.Magic.Reading.{sections_at, header, below_header, whole}
use Rattle.mime_text.specs.Magic.Text.{AreDigits, IsNumber, NoNewline, IsSection, AreSections, MagicText}
use Rattle.mime_text.proofs.MagicLemmas.Steps.{bind_on}
use Rattle.mime_text.proofs.MagicLemmas.Prefixes.{after_prefix_only, row_only}
use Rattle.mime_text.proofs.MagicLemmas.Numbers.{number_only}
use Rattle.mime_text.proofs.MagicLemmas.SectionsLoop.{sections_on, sections_none}
use Rattle.mime_text.proofs.MagicLemmas.HeadFound.{regroup_head}
use Rattle.mime_text.proofs.MagicLemmas.SectionsFound.{EndsLines, regroup_section}
use Rattle.mime_text.proofs.MagicLemmas.PartsOnly.{byte_only, digit_range}
use Rattle.mime_text.proofs.MagicLemmas.LinesOnly.{lines_only}

-- digits are no newline
digits_row : (digits row : List ℕ) → AreDigits digits → NoNewline row → NoNewline (digits ++ row)
digits_row [] row are is = is
digits_row (d ∷ digits) row are is =
    let r = digit_range d are.0 in
    (λ e. omega (arith, r.0, e), digits_row digits row are.1 is)

-- the bytes of a type are none
kind_row : (kind row : List ℕ) → list_all is_name_byte kind ≡ true → NoNewline row → NoNewline (kind ++ row)
kind_row [] row all is = is
kind_row (b ∷ kind) row all is =
    let p = and_parts (is_name_byte b) (list_all is_name_byte kind) all in
    let q = and_parts (ltb 32 b) (not (eqb b 58)) p.0 in
    let lt : 32 < b = ltb-true 32 b q.0 in
    (λ e. omega (arith, lt, e), kind_row kind row p.1 is)

-- what the bytes of a type are
name_all : (kind : List ℕ) → is_type_name kind ≡ true → list_all is_name_byte kind ≡ true
unfolding is_type_name
name_all kind e =
    let p = and_parts (leb 3 (length kind) && leb (length kind) 255 && list_all is_name_byte kind) (has_inner_slash kind) e in
    (and_parts (leb 3 (length kind) && leb (length kind) 255) (list_all is_name_byte kind) p.0).1

-- the last byte, and those before it
last_is : (kind : List ℕ) (b : ℕ) → (get_or (kind ++ b ∷ []) (length kind) 0 ≡ b) × (take (length kind) (kind ++ b ∷ []) ≡ kind)
last_is [] b = (refl, refl)
last_is (k ∷ kind) b = let l = last_is kind b in (l.0, ap (λ (t : List ℕ). k ∷ t) l.1)

-- a type and its bracket
kind_only : (wrong : Fault) (kind : List ℕ) → is_type_name kind ≡ true → kind_of wrong (kind ++ 93 ∷ []) ≡ Ok kind
unfolding kind_of
kind_only wrong kind is =
    let n : length (kind ++ 93 ∷ []) - 1 ≡ length kind = omega (arith, length-append kind (93 ∷ [])) in
    let l = last_is kind 93 in
    let t : take (length (kind ++ 93 ∷ []) - 1) (kind ++ 93 ∷ []) ≡ kind = ap (λ (k : ℕ). take k (kind ++ 93 ∷ [])) n ∙ l.1 in
    let g : eqb (get_or (kind ++ 93 ∷ []) (length (kind ++ 93 ∷ []) - 1) 0) 93 ≡ true =
    eq-eqb _ _ (ap (λ (k : ℕ). get_or (kind ++ 93 ∷ []) k 0) n ∙ l.0) in
    let m : is_type_name (take (length (kind ++ 93 ∷ []) - 1) (kind ++ 93 ∷ [])) ≡ true = ap is_type_name t ∙ is in
    cond-true (eqb (get_or (kind ++ 93 ∷ []) (length (kind ++ 93 ∷ []) - 1) 0) 93 && is_type_name
    (take (length (kind ++ 93 ∷ []) - 1) (kind ++ 93 ∷ []))) _ _ (and_from _ _ g m) ∙ ap (λ (k : List ℕ). Ok k) t

-- the row of a head that is spelled so is read
pub head_row_only : (wrong : Fault) (text : List ℕ) (n : ℕ) (kind : List ℕ) → IsNumber text n → is_type_name kind ≡ true
    → head_of wrong (text ++ (58 ∷ (kind ++ 93 ∷ []))) ≡ Ok (n, kind)
unfolding head_of
head_row_only wrong text n kind is name =
    let rest : List ℕ = kind ++ 93 ∷ [] in
    bind_on (number_at (text ++ 58 ∷ rest)) (n, 58 ∷ rest) _ (n, kind) (number_only text n 58 rest is refl)
    (bind_on (byte_at 58 wrong (58 ∷ rest)) rest _ (n, kind) (byte_only 58 wrong rest)
    (bind_on (kind_of wrong rest) kind _ (n, kind) (kind_only wrong kind name) refl))

-- a head that is spelled so is read
pub head_only : (text : List ℕ) (n : ℕ) (kind rest : List ℕ) → IsNumber text n → is_type_name kind ≡ true
    → head_at (91 ∷ (text ++ (58 ∷ (kind ++ (93 ∷ 10 ∷ rest))))) ≡ Ok ((n, kind), rest)
unfolding head_at
head_only text n kind rest is name =
    let row : List ℕ = text ++ (58 ∷ (kind ++ 93 ∷ [])) in
    let wrong : Fault = fault_at BadSection (length (91 ∷ (row ++ 10 ∷ rest))) in
    let none : NoNewline row =
    digits_row text (58 ∷ (kind ++ 93 ∷ [])) is.digits (λ e. cc, kind_row kind (93 ∷ []) (name_all kind name) (λ e. cc, tt)) in
    ap (λ (t : List ℕ). head_at (91 ∷ t)) (sym (regroup_head text kind rest))
    ∙ bind_on (row_at (row ++ 10 ∷ rest)) (row, rest) _ ((n, kind), rest) (row_only row rest none)
    (bind_on (instead wrong (head_of wrong row)) (n, kind) _ ((n, kind), rest)
    (ap (instead wrong) (head_row_only wrong text n kind is name)) refl)

-- a section that is spelled so is read
pub section_only : (text : List ℕ) (section : PlainFlatSection) (rest : List ℕ) → IsSection text section → EndsLines rest
    → section_at (text ++ rest) ≡ Ok (section, rest)
unfolding section_at
section_only text section rest is ends =
    let tail : List ℕ = is.lines ++ rest in
    let whole : text ++ rest ≡ 91 ∷ (is.priority ++ (58 ∷ (section.kind ++ (93 ∷ 10 ∷ tail)))) = ap (λ (t : List ℕ). t ++ rest) is.whole
    ∙ regroup_section is.priority section.kind is.lines rest in
    bind_on (head_at (text ++ rest)) ((section.priority, section.kind), tail) _ (section, rest)
    (ap head_at whole ∙ head_only is.priority section.priority section.kind tail is.priority_is is.kind_is)
    (bind_on (lines_at (length tail) 0 tail) (section.entries, rest) _ (section, rest)
    (lines_only (length tail) 0 is.lines section.entries rest is.lines_are ends (omega arith)) refl)

-- the next section starts no line
sections_end : (text : List ℕ) (sections : List PlainFlatSection) → AreSections text sections → EndsLines text
sections_end text [] are = subst EndsLines (sym are) tt
sections_end text (s ∷ sections) are = subst EndsLines (sym (are.2 ∙ ap (λ (t : List ℕ). t ++ are.1) are.3.whole)) refl

-- sections
sections_only : (room : ℕ) (text : List ℕ) (sections : List PlainFlatSection) → AreSections text sections → length text ≤ room
    → sections_at room text ≡ Ok sections
sections_only room text [] are enough = ap (sections_at room) are ∙ sections_none room
sections_only zero text (s ∷ sections) are enough =
    absurd (omega (arith, enough, ap length are.2, length-append are.0 are.1, ap length are.3.whole))
sections_only (suc room) text (s ∷ sections) are enough =
    let some : 0 < length text = omega (arith, ap length are.2, length-append are.0 are.1, ap length are.3.whole) in
    let fewer : length are.1 ≤ room = omega (arith, enough, ap length are.2, length-append are.0 are.1, ap length are.3.whole) in
    sections_on room text some
    ∙ bind_on (section_at text) (s, are.1) _ (s ∷ sections)
    (ap section_at are.2 ∙ section_only are.0 s are.1 are.3 (sections_end are.1 sections are.4))
    (bind_on (sections_at room are.1) sections _ (s ∷ sections) (sections_only room are.1 sections are.4 fewer) refl)

-- a text that is spelled so is read
pub whole_only : (text : List ℕ) (sections : List PlainFlatSection) → MagicText text sections → whole text ≡ Ok sections
unfolding whole
whole_only text sections (inl is) = ap whole is.0 ∙ ap (λ (s : List PlainFlatSection). Ok s) (sym is.1)
whole_only text sections (inr is) =
    let rest : List ℕ = is.0 in
    let w : whole (header ++ rest) ≡ Ok sections = ap (below_header (length (header ++ rest))) (after_prefix_only header rest)
    ∙ sections_only (length rest) rest sections is.2 (omega arith) in
    ap whole is.1 ∙ w
