-- Stored texts and endings: they have no zero byte, and as many bytes as their patterns.
use Rattle.std.proofs.Common.{◌≡◌, ℕ, zero, suc, ◌+◌, ◌<◌, ◌≤◌, Bool, true, false, not, ◌&&◌, cond, eqb, List, [], ◌∷◌, ◌++◌}
use Rattle.std.proofs.Common.{length, drop, take, map, reverse, get_or, ◌-◌, refl, sym, ap, subst, ◌∙◌, arith, nat_le, nat_lt}
use Rattle.std.specs.List.{list_all}
use Rattle.std.proofs.lemmas.Bool.{and_parts, leb-true, lt-ltb, ltb-true}
use Rattle.std.proofs.lemmas.List.{drop-map, get_or-drop, get_or-map, get_or-reverse, length-drop, length-map, length-reverse, reverse-append, take-append-drop, take-map}
use Rattle.std.proofs.Math.Seq.{drop-append_seam}
use Rattle.mime_base.specs.Matching.Folding.{compared, compared_byte}
use Rattle.mime_base.specs.Names.{is_pattern, is_pattern_byte}
use Rattle.mime_base.specs.Format.Stored.{reversed_ending}
use Rattle.mime_base.specs.declared.database.rule.GlobRule.{GlobRule}
use Rattle.mime_store.specs.Texts.{NoZero, has_no_zero}

-- a byte that a test finds not zero
pub not_zero : (b : ℕ) → not (eqb b 0) ≡ true → 0 < b
not_zero zero h = absurd (cc)
not_zero (suc b) h = omega arith

-- a byte that is not zero is not folded to zero
compared_not_zero : (cased : Bool) (b : ℕ) → 0 < b → 0 < compared_byte cased b
compared_not_zero true b h = h
compared_not_zero false b h =
    elim (nat_le 65 b && nat_le b 90) as (λ t. 0 < cond t (b + 32) b) [ true ↦ omega (arith, h) | false ↦ h ]

-- no byte of what is compared of a pattern is zero
no_zero : (cased : Bool) (text : List ℕ) → list_all is_pattern_byte text ≡ true → NoZero (compared cased text)
no_zero cased [] all = tt
no_zero cased (b ∷ text) all =
    let both = and_parts (is_pattern_byte b) _ all in
    (compared_not_zero cased b (not_zero b (and_parts _ _ (and_parts _ _ both.0).0).0), no_zero cased text both.1)

-- what is compared of a pattern
pub compared_pattern : (cased : Bool) (text : List ℕ) → is_pattern text ≡ true
    → (0 < length (compared cased text)) × (length (compared cased text) ≤ 255) × NoZero (compared cased text)
unfolding is_pattern
compared_pattern cased text is =
    let all = and_parts _ (list_all is_pattern_byte text) is in
    let sizes = and_parts _ _ all.0 in
    let some = ltb-true 0 (length text) sizes.0 in
    let short = leb-true (length text) 255 sizes.1 in
    let long = length-map text (compared_byte cased) in
    (omega (arith, some, long), omega (arith, short, long), no_zero cased text all.1)

-- two texts without a zero byte, one after the other
NoZero-append : (xs ys : List ℕ) → NoZero xs → NoZero ys → NoZero (xs ++ ys)
NoZero-append [] ys h i = i
NoZero-append (x ∷ xs) ys h i = (h.0, NoZero-append xs ys h.1 i)

-- a text without a zero byte, backwards
pub NoZero-reverse : (xs : List ℕ) → NoZero xs → NoZero (reverse xs)
NoZero-reverse [] h = tt
NoZero-reverse (x ∷ xs) h =
    subst NoZero (sym (reverse-append (x ∷ []) xs)) (NoZero-append (reverse xs) (x ∷ []) (NoZero-reverse xs h.1) (h.0, tt))

-- what is left of a text without a zero byte
pub NoZero-drop : (n : ℕ) (xs : List ℕ) → NoZero xs → NoZero (drop n xs)
NoZero-drop zero xs h = h
NoZero-drop (suc n) [] h = tt
NoZero-drop (suc n) (x ∷ xs) h = NoZero-drop n xs h.1

-- what passes the test has no zero byte
pub NoZero-from_test : (xs : List ℕ) → has_no_zero xs ≡ true → NoZero xs
NoZero-from_test [] h = tt
NoZero-from_test (x ∷ xs) h =
    let both = and_parts (nat_lt 0 x) (has_no_zero xs) h in
    (ltb-true 0 x both.0, NoZero-from_test xs both.1)

-- what has no zero byte passes the test
pub has_no_zero-from : (xs : List ℕ) → NoZero xs → has_no_zero xs ≡ true
has_no_zero-from [] h = refl
has_no_zero-from (x ∷ xs) h = rw (lt-ltb 0 x h.0) (has_no_zero-from xs h.1)

-- a byte of the path of a rule
pub path_at : (rule : GlobRule) (depth : ℕ) → depth < length (reversed_ending rule)
    → get_or (reversed_ending rule) depth 0 ≡ compared_byte rule.cased (get_or rule.pattern (length rule.pattern - 1 - depth) 0)
path_at rule depth inside =
    let text = compared rule.cased rule.pattern in
    let ending = drop 1 text in
    let long = length-reverse ending in
    let size = length-drop 1 text in
    let whole = length-map rule.pattern (compared_byte rule.cased) in
    get_or-reverse ending depth 0 (omega (arith, inside, long))
    ∙ get_or-drop 1 text (length ending - 1 - depth) 0
    ∙ ap (λ (i : ℕ). get_or text i 0) (omega (arith, inside, long, size, whole))
    ∙ get_or-map (compared_byte rule.cased) rule.pattern (length rule.pattern - 1 - depth) 0 0 (omega (arith, inside, long, size, whole))

-- how long the path of a rule is
pub path_long : (rule : GlobRule) → length (reversed_ending rule) ≡ length rule.pattern - 1
path_long rule =
    let text = compared rule.cased rule.pattern in
    omega (arith, length-reverse (drop 1 text), length-drop 1 text, length-map rule.pattern (compared_byte rule.cased))

-- what follows the first n bytes of a text backwards is what comes before its last n, backwards
drop-reverse : (n : ℕ) (text : List ℕ) → n ≤ length text → drop n (reverse text) ≡ reverse (take (length text - n) text)
drop-reverse n text le =
    let before = take (length text - n) text in
    let last = drop (length text - n) text in
    let size : length (reverse last) ≡ n = omega (arith, length-reverse last, length-drop (length text - n) text) in
    ap (λ whole. drop n (reverse whole)) (sym (take-append-drop (length text - n) text))
    ∙ ap (drop n) (reverse-append before last)
    ∙ ap (λ (k : ℕ). drop k (reverse last ++ reverse before)) (sym size)
    ∙ drop-append_seam (reverse last) (reverse before)

-- the path of a rule after its first n bytes
pub path_after : (rule : GlobRule) (n : ℕ) → n + 1 ≤ length rule.pattern → drop n (reversed_ending rule)
    ≡ reverse (compared rule.cased (take (length rule.pattern - n - 1) (drop 1 rule.pattern)))
path_after rule n some =
    let fold = compared_byte rule.cased in
    let ending = drop 1 rule.pattern in
    let long : length (map fold ending) ≡ length rule.pattern - 1 = omega (arith, length-map ending fold, length-drop 1 rule.pattern) in
    ap (λ text. drop n (reverse text)) (drop-map fold 1 rule.pattern)
    ∙ drop-reverse n (map fold ending) (omega (arith, long))
    ∙ ap (λ (k : ℕ). reverse (take k (map fold ending))) (omega (arith, long))
    ∙ ap reverse (take-map fold (length rule.pattern - n - 1) ending)

-- the path of a rule is short and has no zero byte
pub path_keeps : (rule : GlobRule) → is_pattern rule.pattern ≡ true
    → (length (reversed_ending rule) < 256) × (has_no_zero (reversed_ending rule) ≡ true)
path_keeps rule is =
    let limits = compared_pattern rule.cased rule.pattern is in
    let text = compared rule.cased rule.pattern in (
      omega (arith, length-reverse (drop 1 text), length-drop 1 text, limits.0, limits.1),
      has_no_zero-from (reverse (drop 1 text)) (NoZero-reverse (drop 1 text) (NoZero-drop 1 text limits.2)),
    )

-- a pattern has a byte
pub some_pattern : (pattern : List ℕ) → is_pattern pattern ≡ true → 0 < length pattern
some_pattern pattern is = let limits = compared_pattern true pattern is in omega (arith, limits.0, length-map pattern (compared_byte true))

-- a pattern is short
pub short_pattern : (pattern : List ℕ) → is_pattern pattern ≡ true → length pattern ≤ 255
short_pattern pattern is = let limits = compared_pattern true pattern is in omega (arith, limits.1, length-map pattern (compared_byte true))

-- a case-sensitive text is compared as it is
pub compared_cased : (text : List ℕ) → compared true text ≡ text
compared_cased [] = refl
compared_cased (b ∷ text) = ap (λ bs. b ∷ bs) (compared_cased text)
