-- How what is put into one sink adds up.
use Rattle.std.proofs.Common.{◌≡◌, ◌∙◌, ◌+◌, ◌<◌, ℕ, List, [], ◌∷◌, ◌++◌, Option, Some, None, Result, Ok, Err, refl, sym, ap, append-nil}
use Rattle.std.proofs.Common.{append_assoc, subst, length, take, drop, get_or, drop-cons, add-one}
use Rattle.std.specs.List.{flat_map}
use Rattle.std.proofs.lemmas.List.{take-append-drop}
use Rattle.std.proofs.lemmas.Grind.{flat_map-append}
use Rattle.mime_tool.specs.Sink.{IsPut, Wrote, WroteFront}
use Rattle.mime_tool.specs.declared.sink.SinkFault.{SinkFault}
use Rattle.mime_tool.specs.declared.sink.SinkFault.TheVariants as fault

-- nothing
pub wrote_nothing : (s : Option (List ℕ)) → Wrote s s []
wrote_nothing None = tt
wrote_nothing (Some xs) = ap Some (sym (append-nil xs))

-- nothing, of whatever was to be written
pub front_nothing : (s : Option (List ℕ)) (bs : List ℕ) → WroteFront s s bs
front_nothing None bs = tt
front_nothing (Some xs) bs = ([], bs, refl, ap Some (sym (append-nil xs)))

-- more bytes after others
pub wrote-append : (a b c : Option (List ℕ)) (x y : List ℕ) → Wrote a b x → Wrote b c y → Wrote a c (x ++ y)
wrote-append None b c x y p q = tt
wrote-append (Some xs) b c x y p q =
    let later = subst (λ (s : Option (List ℕ)). Wrote s c y) p q in
    later ∙ ap Some (append_assoc xs x y)

-- all of it is a front of it and more
pub front_whole : (a b : Option (List ℕ)) (x y : List ℕ) → Wrote a b x → WroteFront a b (x ++ y)
front_whole None b x y p = tt
front_whole (Some xs) b x y p = (x, y, refl, p)

-- a front of it is a front of it and more
pub front_longer : (a b : Option (List ℕ)) (x y : List ℕ) → WroteFront a b x → WroteFront a b (x ++ y)
front_longer None b x y p = tt
front_longer (Some xs) b x y p = (p.0, p.1 ++ y, ap (λ (bs : List ℕ). bs ++ y) p.2 ∙ append_assoc p.0 p.1 y, p.3)

-- a front of more bytes after others
pub front-append : (a b c : Option (List ℕ)) (x y : List ℕ) → Wrote a b x → WroteFront b c y → WroteFront a c (x ++ y)
front-append None b c x y p q = tt
front-append (Some xs) b c x y p q =
    let later = subst (λ (s : Option (List ℕ)). WroteFront s c y) p q in (
      x ++ later.0,
      later.1,
      ap (λ (bs : List ℕ). x ++ bs) later.2 ∙ sym (append_assoc x later.0 later.1),
      later.3
          ∙ ap Some (append_assoc xs x later.0),
    )

-- a sink that isn't known now wasn't known before
pub wrote_unknown : (a b : Option (List ℕ)) (x : List ℕ) → Wrote a b x → b ≡ None → a ≡ None
wrote_unknown None b x p q = refl
wrote_unknown (Some xs) b x p q = cc

-- a call of `put` after others
pub takes-append : (a b c : Option (List ℕ)) (r : Result (Unit {0}) SinkFault) (x y : List ℕ) → Wrote a b x → IsPut b c r y
    → IsPut a c r (x ++ y)
takes-append a b c (Ok _) x y p q = wrote-append a b c x y p q
takes-append a b c (Err fault.OutOfMemory) x y p q = front-append a b c x y p q
takes-append a b c (Err fault.Failed) x y p q = wrote_unknown a b x p q

-- a call of `put` that failed, with more to come
pub takes_no_more : (a b : Option (List ℕ)) (f : SinkFault) (x y : List ℕ) → IsPut a b (Err f) x → IsPut a b (Err f) (x ++ y)
takes_no_more a b fault.OutOfMemory x y p = front_longer a b x y p
takes_no_more a b fault.Failed x y p = p

-- the bytes of a list are those up to an index, those at it, and those after it
pub flat_map-split : {X : Type 0} (f : X → List ℕ) (xs : List X) (i : ℕ) (d : X) → i < length xs
    → flat_map f (take i xs) ++ (f (get_or xs i d) ++ flat_map f (drop (i + 1) xs)) ≡ flat_map f xs
flat_map-split f xs i d lt =
    sym (flat_map-append f (take i xs) (get_or xs i d ∷ drop (i + 1) xs))
    ∙ ap (flat_map f) (ap (λ t. take i xs ++ t) (sym (rw add-one (drop-cons xs i d lt))) ∙ take-append-drop i xs)

-- the piece at an index was not taken
pub takes_pieces : {X : Type 0} (f : X → List ℕ) (xs : List X) (i : ℕ) (d : X) (a b c : Option (List ℕ)) (e : SinkFault) → i < length xs
    → Wrote a b (flat_map f (take i xs)) → IsPut b c (Err e) (f (get_or xs i d)) → IsPut a c (Err e) (flat_map f xs)
takes_pieces f xs i d a b c e lt before here =
    subst (λ (bs : List ℕ). IsPut a c (Err e) bs) (flat_map-split f xs i d lt)
    (takes-append a b c (Err e) (flat_map f (take i xs)) _ before
    (takes_no_more b c e (f (get_or xs i d)) (flat_map f (drop (i + 1) xs)) here))

-- a front of nothing is nothing
pub wrote_empty : (a b : Option (List ℕ)) → WroteFront a b [] → Wrote a b []
wrote_empty None b p = tt
wrote_empty (Some xs) b p =
    let none : p.0 ≡ [] = empty_front p.0 p.1 (sym p.2) in
    p.3 ∙ ap Some (ap (λ (bs : List ℕ). xs ++ bs) none)
  where
    empty_front : (x y : List ℕ) → x ++ y ≡ [] → x ≡ []
    empty_front [] y h = refl
    empty_front (b ∷ x) y h = cc

-- whatever a flush answers, nothing is added
pub flushed : (a b : Option (List ℕ)) (r : Result (Unit {0}) SinkFault) → IsPut a b r [] → Wrote a b []
flushed a b (Ok _) p = p
flushed a b (Err fault.OutOfMemory) p = wrote_empty a b p
flushed None b (Err fault.Failed) p = tt
flushed (Some xs) b (Err fault.Failed) p = cc

-- bytes, and then nothing
pub wrote_kept : (a b c : Option (List ℕ)) (x : List ℕ) → Wrote a b x → Wrote b c [] → Wrote a c x
wrote_kept a b c x p q = subst (λ (bs : List ℕ). Wrote a c bs) (append-nil x) (wrote-append a b c x [] p q)

-- a front of bytes, and then nothing
pub front_kept : (a b c : Option (List ℕ)) (x : List ℕ) → WroteFront a b x → Wrote b c [] → WroteFront a c x
front_kept None b c x p q = tt
front_kept (Some xs) b c x p q =
    let kept = subst (λ (s : Option (List ℕ)). Wrote s c []) p.3 q in
    (p.0, p.1, p.2, kept ∙ ap Some (append-nil (xs ++ p.0)))

-- all of it is a front of it
pub front_all : (a b : Option (List ℕ)) (x : List ℕ) → Wrote a b x → WroteFront a b x
front_all a b x p = subst (λ (bs : List ℕ). WroteFront a b bs) (append-nil x) (front_whole a b x [] p)
