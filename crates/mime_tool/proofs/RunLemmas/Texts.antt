-- The files of a loop, as texts: up to an index, at it, and after it.
use Rattle.std.proofs.Common.{◌≡◌, ◌∙◌, ℕ, ◌+◌, ◌<◌, List, [], ◌∷◌, ◌++◌, Bor, Ok, Err, add-one, ap, drop, drop-cons, get_or, length, map, max}
use Rattle.std.proofs.Common.{subst, sym, take}
use Rattle.std.proofs.lemmas.List.{map-append, take-append-drop, take_more}
use Rattle.clap.specs.Walk.{texts}
use Rattle.mime_tool.specs.Desk.{EndsOverFiles}
use Rattle.mime_tool.specs.Finish.{Sinks}
use Rattle.mime_tool.specs.Run.{IsEach, Run}
use Rattle.mime_tool.specs.declared.stop.Stop.{Stop}
use Rattle.mime_tool.proofs.RunLemmas.Ends.{ends_more, ends_stop}

-- a text among others, by its index
pub texts-split : (names : List (Bor (List ℕ))) (i : ℕ) (d : Bor (List ℕ)) → i < length names
    → texts names ≡ texts (take i names) ++ ((get_or names i d).now ∷ texts (drop (i + 1) names))
texts-split names i d lt =
    ap texts (sym (take-append-drop i names) ∙ ap (λ (t : List (Bor (List ℕ))). take i names ++ t) (rw add-one (drop-cons names i d lt)))
    ∙ map-append (λ (n : Bor (List ℕ)). n.now) (take i names) (get_or names i d ∷ drop (i + 1) names)

-- the texts up to an index, and that at it
pub texts-more : (names : List (Bor (List ℕ))) (i : ℕ) (d : Bor (List ℕ)) → i < length names
    → texts (take (i + 1) names) ≡ texts (take i names) ++ (get_or names i d).now ∷ []
texts-more names i d lt =
    ap texts (take_more names i d lt) ∙ map-append (λ (n : Bor (List ℕ)). n.now) (take i names) (get_or names i d ∷ [])

-- the file at an index is answered, by what f makes of its text
pub ends_more_at : (f : List ℕ → List ℕ) (P : List ℕ → Run → Type 0) (names : List (Bor (List ℕ))) (i : ℕ) (d : Bor (List ℕ)) → i < length names
    → (a b c : Sinks) (s t : ℕ) → EndsOverFiles (IsEach P) (map f (texts (take i names))) a b (Ok s)
    → EndsOverFiles (λ _. P (f (get_or names i d).now)) [] b c (Ok t) → EndsOverFiles (IsEach P) (map f (texts (take (i + 1) names))) a c (Ok (max s t))
ends_more_at f P names i d lt a b c s t p q =
    subst (λ (fs : List (List ℕ)). EndsOverFiles (IsEach P) fs a c (Ok (max s t)))
    (sym (ap (map f) (texts-more names i d lt) ∙ map-append f (texts (take i names)) ((get_or names i d).now ∷ [])))
    (ends_more P (map f (texts (take i names))) (f (get_or names i d).now) a b c s t p q)

-- the command stops at the file of an index
pub ends_stop_at : (f : List ℕ → List ℕ) (P : List ℕ → Run → Type 0) (names : List (Bor (List ℕ))) (i : ℕ) (d : Bor (List ℕ)) → i < length names
    → (a b c : Sinks) (s : ℕ) (e : Stop) → EndsOverFiles (IsEach P) (map f (texts (take i names))) a b (Ok s)
    → EndsOverFiles (λ _. P (f (get_or names i d).now)) [] b c (Err e) → EndsOverFiles (IsEach P) (map f (texts names)) a c (Err e)
ends_stop_at f P names i d lt a b c s e p q =
    let rest = texts (drop (i + 1) names) in
    subst (λ (fs : List (List ℕ)). EndsOverFiles (IsEach P) fs a c (Err e))
    (sym (ap (map f) (texts-split names i d lt) ∙ map-append f (texts (take i names)) ((get_or names i d).now ∷ rest)))
    (ends_stop P (map f (texts (take i names))) (f (get_or names i d).now) (map f rest) a b c s e p q)
