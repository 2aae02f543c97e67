-- How runs follow one another, and how a run over each file grows.
use Rattle.std.proofs.Common.{◌≡◌, ◌∙◌, ℕ, Bool, true, false, List, [], ◌∷◌, ◌++◌, append-nil, append_assoc, arith, max, refl, sym, ap}
use Rattle.std.proofs.Common.{subst}
use Rattle.std.proofs.Math.Nat.{max-zero, zero-max}
use Rattle.std.proofs.lemmas.Bool.{false≢true, leb-false, lt-leb}
use Rattle.mime_tool.specs.Run.{IsEach, IsFollowed, Run, joined, said, silent, stopped, stops}

-- the greatest of three numbers
max_assoc : (a b c : ℕ) → max (max a b) c ≡ max a (max b c)
max_assoc a b c = omega arith

-- nothing, and then a run
pub silent-joined : (b : Run) → joined silent b ≡ b
silent-joined b = rw (zero-max b.status) refl

-- a run, and then nothing
pub joined-silent : (a : Run) → joined a silent ≡ a
joined-silent a = rw (max-zero a.status, append-nil a.out, append-nil a.err) refl

-- three runs, one after another
pub joined_assoc : (a b c : Run) → joined (joined a b) c ≡ joined a (joined b c)
joined_assoc a b c = rw (max_assoc a.status b.status c.status, append_assoc a.out b.out c.out, append_assoc a.err b.err c.err) refl

-- what is said before a run changes no status
pub said-status : (text : List ℕ) (run : Run) → (joined (said text) run).status ≡ run.status
said-status text run = zero-max run.status

-- something is said, and then a run stops
pub said-stopped : (text message : List ℕ) (run : Run) → joined (said text) (stopped message run) ≡ stopped message (joined (said text) run)
said-stopped text message run = rw (append_assoc text run.err message) refl

-- two runs of which neither stops
pub both_go_on : (a b : Run) → stops a ≡ false → stops b ≡ false → stops (joined a b) ≡ false
both_go_on a b p q =
    let x = leb-false 3 a.status p in
    let y = leb-false 3 b.status q in
    lt-leb 3 (max a.status b.status) (omega arith)

-- the second of two runs of which neither stops
rest_goes_on : (a b : Run) → stops (joined a b) ≡ false → stops b ≡ false
rest_goes_on a b p =
    let x = leb-false 3 (max a.status b.status) p in
    lt-leb 3 b.status (omega arith)

-- a run that goes on, and then one that stops
pub joined-stopped : (message : List ℕ) (a b : Run) → stops a ≡ false → joined a (stopped message b) ≡ stopped message (joined a b)
joined-stopped message a b p =
    let x = leb-false 3 a.status p in
    let three : max a.status 3 ≡ 3 = omega arith in
    rw (three, append_assoc a.err b.err message) refl

-- files after a first one
followed : (P : List ℕ → Run → Type 0) (xs ys : List (List ℕ)) (first a b : Run) (s : Bool) → stops first ≡ s
    → IsFollowed s first (IsEach P xs) a → stops a ≡ false
    → ((rest : Run) → IsEach P xs rest → stops rest ≡ false → IsEach P (xs ++ ys) (joined rest b))
    → IsFollowed s first (IsEach P (xs ++ ys)) (joined a b)
followed P xs ys first a b true is p goes more = absurd (false≢true (sym goes ∙ ap stops p ∙ is))
followed P xs ys first a b false is p goes more = (
  joined p.0 b,
  more p.0 p.1 (rest_goes_on first p.0 (sym (ap stops p.2) ∙ goes)),
  ap (λ (r : Run). joined r b) p.2
      ∙ joined_assoc first p.0 b,
)

-- files after others
pub each-append : (P : List ℕ → Run → Type 0) (xs ys : List (List ℕ)) (a b : Run) → IsEach P xs a → stops a ≡ false → IsEach P ys b
    → IsEach P (xs ++ ys) (joined a b)
each-append P [] ys a b p goes q = subst (λ (r : Run). IsEach P ys r) (sym (ap (λ (s : Run). joined s b) p ∙ silent-joined b)) q
each-append P (x ∷ xs) ys a b p goes q =
    (p.0, p.1, followed P xs ys p.0 a b (stops p.0) refl p.2 goes (λ rest r g. each-append P xs ys rest b r g q))

-- no file after a run
followed_by_none : (P : List ℕ → Run → Type 0) (run : Run) (s : Bool) → IsFollowed s run (IsEach P []) run
followed_by_none P run true = refl
followed_by_none P run false = (silent, refl, sym (joined-silent run))

-- one file
pub each_one : (P : List ℕ → Run → Type 0) (file : List ℕ) (run : Run) → P file run → IsEach P (file ∷ []) run
each_one P file run p = (run, p, followed_by_none P run (stops run))

-- a file that stops the run, after others
pub each_stopped : (P : List ℕ → Run → Type 0) (xs : List (List ℕ)) (file : List ℕ) (ys : List (List ℕ)) (a b : Run) → IsEach P xs a
    → stops a ≡ false → P file b → stops b ≡ true
    → IsEach P (xs ++ (file ∷ ys)) (joined a b)
each_stopped P xs file ys a b p goes q stop =
    each-append P xs (file ∷ ys) a b p goes (b, q, subst (λ (s : Bool). IsFollowed s b (IsEach P ys) b) (sym stop) refl)
