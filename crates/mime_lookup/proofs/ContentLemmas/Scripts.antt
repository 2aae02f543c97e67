-- A script after one step more.
use Rattle.std.proofs.Common.{◌≡◌, ℕ, ◌+◌, ◌-◌, ◌<◌, ◌≤◌, List, [], ◌∷◌, ◌++◌, length, take, drop, get_or, sym, ap, ◌∙◌, arith}
use Rattle.std.proofs.lemmas.List.{append_assoc, drop_all, drop_more, length-drop, length-take-le, take-append-drop, take_all, take_more}
use Rattle.std.proofs.Math.Seq.{take-append_seam}
use Rattle.mime_lookup.specs.Content.{Tally}
use Rattle.mime_lookup.specs.Script.{are_pieces, bytes_in, faults_in, interruptions_in}
use Rattle.mime_lookup.specs.declared.script.Step.{Step}
use Rattle.mime_lookup.specs.declared.script.Step.TheVariants.{Piece, Interruption, Fault}

-- faults of two scripts one after the other are those of both
faults_in-append : (front back : List Step) → faults_in (front ++ back) ≡ faults_in front + faults_in back
faults_in-append [] back = omega arith
faults_in-append (Piece bytes ∷ front) back = faults_in-append front back
faults_in-append (Interruption ∷ front) back = faults_in-append front back
faults_in-append (Fault ∷ front) back = let more = faults_in-append front back in omega (arith, more)

-- so are interruptions
interruptions_in-append : (front back : List Step) → interruptions_in (front ++ back) ≡ interruptions_in front + interruptions_in back
interruptions_in-append [] back = omega arith
interruptions_in-append (Piece bytes ∷ front) back = interruptions_in-append front back
interruptions_in-append (Interruption ∷ front) back = let more = interruptions_in-append front back in omega (arith, more)
interruptions_in-append (Fault ∷ front) back = interruptions_in-append front back

module _ (steps : List Step) (i : ℕ) (d step : Step) (within : i < length steps) (is : get_or steps i d ≡ step) where
  -- the steps up to the next are those before it and itself
  front_more : take (i + 1) steps ≡ take i steps ++ step ∷ []
  front_more = take_more steps i d within ∙ ap (λ s. take i steps ++ s ∷ []) is

  -- what is left begins with the next step
  back_more : drop i steps ≡ step ∷ drop (i + 1) steps
  back_more = drop_more steps i d within ∙ ap (λ s. s ∷ drop (i + 1) steps) is

  -- its faults come to those before it
  pub faults_more : faults_in (take (i + 1) steps) ≡ faults_in (take i steps) + faults_in (step ∷ [])
  faults_more = ap faults_in front_more ∙ faults_in-append (take i steps) (step ∷ [])

  -- so do its interruptions
  pub interruptions_more : interruptions_in (take (i + 1) steps) ≡ interruptions_in (take i steps) + interruptions_in (step ∷ [])
  interruptions_more = ap interruptions_in front_more ∙ interruptions_in-append (take i steps) (step ∷ [])

  -- the bytes that are left are its own and those after it
  pub bytes_more : bytes_in (drop i steps) ≡ bytes_in (step ∷ drop (i + 1) steps)
  bytes_more = ap bytes_in back_more

  -- and so are the pieces
  pub pieces_more : are_pieces (drop i steps) ≡ are_pieces (step ∷ drop (i + 1) steps)
  pieces_more = ap are_pieces back_more

-- tallies with the same numbers
pub tally_same : (a b : Tally) → a.failed ≡ b.failed → a.interrupted ≡ b.interrupted → a ≡ b
tally_same a b failed interrupted =
    ap (λ (n : ℕ). record { failed = n; interrupted = a.interrupted }) failed
    ∙ ap (λ (n : ℕ). record { failed = b.failed; interrupted = n }) interrupted

-- a piece that is used up
pub after_piece : (piece rest all : List ℕ) → length piece ≡ 0 → piece ++ rest ≡ all → rest ≡ all
after_piece [] rest all none is = is
after_piece (byte ∷ piece) rest all none is = absurd (omega arith)

-- the front of a piece was copied to the front of a buffer
pub copied : (piece rest copy back : List ℕ) (n k : ℕ) → copy ≡ take n piece → n ≤ length piece → length piece - n ≤ k →
    piece ++ rest ≡ take n (copy ++ back) ++ (take k (drop n piece) ++ rest)
copied piece rest copy back n k is fits room =
    let size : length (take n piece) ≡ n = length-take-le n piece fits in
    let front : take n (copy ++ back) ≡ take n piece =
    ap (λ c. take n (c ++ back)) is ∙ ap (λ m. take m (take n piece ++ back)) (sym size) ∙ take-append_seam (take n piece) back in
    let end : take k (drop n piece) ≡ drop n piece = take_all k (drop n piece) (omega (arith, length-drop n piece)) in
    sym (ap (λ f. f ++ (take k (drop n piece) ++ rest)) front
    ∙ ap (λ e. take n piece ++ (e ++ rest)) end
    ∙ sym (append_assoc (take n piece) (drop n piece) rest)
    ∙ ap (λ whole. whole ++ rest) (take-append-drop n piece))

-- of no bytes none are taken
nothing_of : (n k : ℕ) (bytes : List ℕ) → length bytes ≡ 0 → take k (drop n bytes) ≡ []
nothing_of n k bytes none = take_all k (drop n bytes) (omega (arith, length-drop n bytes)) ∙ drop_all n bytes (omega arith)

-- nothing is left of a used up piece after the last step
pub at_end : (piece : List ℕ) (steps : List Step) (i n k : ℕ) → length piece ≡ 0 → length steps ≤ i →
    take k (drop n piece) ++ bytes_in (drop i steps) ≡ []
at_end [] steps i n k none end =
    ap (λ bytes. bytes ++ bytes_in (drop i steps)) (nothing_of n k [] none) ∙ ap bytes_in (drop_all i steps end)
at_end (byte ∷ piece) steps i n k none end = absurd (omega arith)
