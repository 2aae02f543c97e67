-- How the steps of loading follow one another.
use Rattle.std.proofs.Common.{◌∙◌, ℕ, List, [], ◌++◌, Option, Some, None, Result, Ok, Err, append_assoc}
use Rattle.std.proofs.Common.{refl, subst}
use Rattle.std.proofs.Common.{string_bytes}
use Rattle.mime_tool.specs.Desk.{State, Works}
use Rattle.mime_tool.specs.Files.{Stored}
use Rattle.mime_tool.specs.Finish.{Sinks}
use Rattle.mime_tool.specs.Loading.{◌>>=◌, Gives, Loads}
use Rattle.mime_tool.specs.declared.stop.Stop.{Stop}
use Rattle.mime_tool.specs.declared.stop.Stop.TheVariants as stop
use Rattle.mime_tool.proofs.DeskLemmas.Sinks.{front-append, front_longer, front_nothing, wrote-append, wrote_unknown}

-- a step can be done
abbrev pub CanBe : {X : Type 0} → (Option X → List ℕ → Type 0) → Type 0
CanBe IsStep = (found : Option _) × (messages : List ℕ) × IsStep found messages

-- so can what gives something
pub can_give : (X : Type 0) (x : X) → CanBe (Gives x)
can_give X x = (Some x, [], (refl, refl))

-- and a step after another
pub can_then : (X Y : Type 0) (First : Option X → List ℕ → Type 0) (Next : X → Option Y → List ℕ → Type 0) → CanBe First
    → ((x : X) → CanBe (Next x)) → CanBe (First >>= Next)
can_then X Y First Next (None, m, is) next = (None, m, (None, m, is, (refl, refl)))
can_then X Y First Next (Some x, m, is) next =
    let n = next x in
    (n.0, m ++ n.1, (Some x, m, is, (n.1, n.2, refl)))

-- nothing was said, for want of memory
pub loads_nothing : (X Y : Type 0) (plain : X → Y) (IsStep : Option Y → List ℕ → Type 0) (s : Sinks) → CanBe IsStep
    → Loads plain IsStep s s (Err stop.OutOfMemory)
loads_nothing X Y plain IsStep s can = (can.0, can.1, can.2, (front_nothing s.out [], front_nothing s.err can.1))

-- a step after another that gave something
pub loads_then : (V X W Y : Type 0) (plain : V → X) (see : W → Y) (First : Option X → List ℕ → Type 0)
    (Next : X → Option Y → List ℕ → Type 0) (a b c : Sinks) (v : V) (r : Result W Stop) → Loads plain First a b (Ok v)
    → Loads see (Next (plain v)) b c r → Loads see (First >>= Next) a c r
loads_then V X W Y plain see First Next a b c v (Ok w) p q = (
  p.0 ++ q.0,
  (Some (plain v), p.0, p.1, (q.0, q.1, refl)),
  (wrote-append a.out b.out c.out [] [] p.2.0 q.2.0, wrote-append a.err b.err c.err p.0 q.0 p.2.1 q.2.1),
)
loads_then V X W Y plain see First Next a b c v (Err stop.OutOfMemory) p q = (
  q.0,
  p.0 ++ q.1,
  (Some (plain v), p.0, p.1, (q.1, q.2, refl)),
  (front-append a.out b.out c.out [] [] p.2.0 q.3.0, front-append a.err b.err c.err p.0 q.1 p.2.1 q.3.1),
)
loads_then V X W Y plain see First Next a b c v (Err stop.CannotWrite) p q = wrote_unknown a.out b.out [] p.2.0 q
loads_then V X W Y plain see First Next a b c v (Err (stop.Refused m)) p q = (
  p.0 ++ q.0,
  (Some (plain v), p.0, p.1, (q.0 ++ string_bytes m, q.1, append_assoc p.0 q.0 (string_bytes m))),
  (wrote-append a.out b.out c.out [] [] p.2.0 q.2.0, wrote-append a.err b.err c.err p.0 q.0 p.2.1 q.2.1),
)

-- a step that was not done
pub loads_stop : (V X W Y : Type 0) (plain : V → X) (see : W → Y) (First : Option X → List ℕ → Type 0)
    (Next : X → Option Y → List ℕ → Type 0) (a b : Sinks) (s : Stop) → Loads plain First a b (Err s) → ((x : X) → CanBe (Next x))
    → Loads see (First >>= Next) a b (Err s)
loads_stop V X W Y plain see First Next a b stop.OutOfMemory (None, m, is, w) next = (None, m, (None, m, is, (refl, refl)), w)
loads_stop V X W Y plain see First Next a b stop.OutOfMemory (Some x, m, is, w) next =
    let n = next x in
    (n.0, m ++ n.1, (Some x, m, is, (n.1, n.2, refl)), (w.0, front_longer a.err b.err m n.1 w.1))
loads_stop V X W Y plain see First Next a b stop.CannotWrite p next = p
loads_stop V X W Y plain see First Next a b (stop.Refused m) p next =
    (p.0, (None, p.0 ++ string_bytes m, p.1, (refl, refl)), p.2)

-- ---- the same over a desk

-- nothing was said, for want of memory
pub works_nothing : (X Y : Type 0) (plain : X → Y) (IsStep : Option Y → List ℕ → Type 0) (s : State) → CanBe IsStep
    → Works (Loads plain IsStep) s s (Err stop.OutOfMemory)
works_nothing X Y plain IsStep s can =
    record { same_files = refl; same_setting = refl; sinks = loads_nothing X Y plain IsStep s.sinks can }

-- a step after another that gave something
pub works_then : (V X W Y : Type 0) (plain : V → X) (see : W → Y) (First : Option X → List ℕ → Type 0)
    (Next : (List ℕ → Stored) → X → Option Y → List ℕ → Type 0) (a b c : State) (v : V) (r : Result W Stop)
    → Works (Loads plain First) a b (Ok v) → Works (Loads see (Next b.stored (plain v))) b c r
    → Works (Loads see (First >>= Next a.stored)) a c r
works_then V X W Y plain see First Next a b c v r p q = record {
  same_files = q.same_files ∙ p.same_files;
  same_setting = q.same_setting ∙ p.same_setting;
  sinks = loads_then V X W Y plain see First (Next a.stored) a.sinks b.sinks c.sinks v r p.sinks
      (subst (λ (stored : List ℕ → Stored). Loads see (Next stored (plain v)) b.sinks c.sinks r) p.same_files q.sinks);
}

-- a step that was not done
pub works_stop : (V X W Y : Type 0) (plain : V → X) (see : W → Y) (First : Option X → List ℕ → Type 0)
    (Next : X → Option Y → List ℕ → Type 0) (a b : State) (s : Stop) → Works (Loads plain First) a b (Err s)
    → ((x : X) → CanBe (Next x)) → Works (Loads see (First >>= Next)) a b (Err s)
works_stop V X W Y plain see First Next a b s p next = record {
  same_files = p.same_files;
  same_setting = p.same_setting;
  sinks = loads_stop V X W Y plain see First Next a.sinks b.sinks s p.sinks next;
}
