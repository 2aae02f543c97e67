-- The machine values of a handle and of what a call gives back, and what both own. Assumes `Logic`.
use Rattle.std.proofs.Common.{◌≡◌, ℕ, List, [], ◌∷◌, ◌++◌, refl, subst}
use seplogic.Ra.Ura.{Ura}
use mir.Syntax.{impl, tnil, dnil}
use mir.Raw.{raw as bare}
use mir.Val.{Val, vstruct, vcons, vnil, of_list}
use base.Logic.{never, fst∗}
use types.Logic.{Logic, sem}
use types.Kit.{Item, Goal, Seq, Step, step, ‵, ◌$◌, move, drop, fsplit, fjoin, fpick, fpack, feq_i, feq_l}
use denote.RattleType.{RattleType, Valss}
use denote.Memory.{lone}
use denote.RawPtr.{Ptr, block_ptr, null_ptr, ptr_val, in_a_block}
use denote.Steps.{nothing}
use denote.Param.{layout}
use denote.Struct.Struct.{within}
use denote.Struct.Owning.{shape}
use Rattle.std.proofs.alloc.Calls.{Al, handle_tells}
use Rattle.std.proofs.cell.Inside.{Good}
use Rattle.std.specs.Box.Ownership.{box_owns}
use Rattle.std.specs.Prelude.{Option, Some, None}
use base.Logic.{ent, via, snd∗, guard, guard_i}
use base.Fraction.{full_share}
use types.Kit.{given, learn, use1}
use contract.Monad.{fact_use}
use denote.RawPtr.{Testable, lies_at}
use Rattle.std.proofs.GlobalToken.{dealloc_token-Testable}
use Rattle.std.specs.declared.alloc.Global.{Global}
use Rattle.mime_c.specs.Owned.{owns_open}
use Rattle.mime_c.specs.contracts.database.handle.Handle as handle
use Rattle.mime_c.specs.contracts.database.kept.Kept as kept
use Rattle.mime_c.specs.contracts.database.open_database.OpenDatabase as rows
use Rattle.std.specs.contracts.alloc.Global as heap
use Rattle.std.proofs.alloc.Global.TheLaws as heap_laws
use Rattle.std.specs.contracts.impls.GlobalAllocator.TheImpl.{ghosts}
use Rattle.mime_c.proofs.HeapValues.{both}

-- the types, as the logic has them
abbrev pub HandleRow : RattleType
HandleRow = handle.the_row

-- a database that is open
abbrev pub R : RattleType
R = rows.the_row

-- the allocator
abbrev pub Z : RattleType
Z = heap.the_row

-- what a call gives back
abbrev pub KeptRow : RattleType
KeptRow = kept.the_row

-- the one machine value of a struct of one field
abbrev pub one : Val → Val
one h = vstruct (vcons h vnil)

-- the allocator with its laws
abbrev al : Al
al = record { row = Z; laws = heap_laws.the_row_laws; g = ghosts; d = impl [] tnil dnil; drops = impl [] tnil dnil }

-- a database that is open, on the heap
abbrev pub boxed : Global → Ptr → R.Denot → base.Fml.Fml
boxed a p x = box_owns (ghosts.dealloc_token a) R p x

module _ {M : Type 1} {𝓤 : Ura M} (𝓛 : Logic 𝓤) where
  -- its address may be compared with NULL
  pub tested : (a : Global) (p : Ptr) (x : R.Denot) → ent 𝓤 (sem 𝓛 (boxed a p x)) (guard 𝓤 (Testable p) (sem 𝓛 (boxed a p x)))
  tested a p x = fact_use 𝓤 (Testable p)
      (via 𝓤 _ (snd∗ 𝓤 (sem 𝓛 (lies_at R full_share p x)) (sem 𝓛 (ghosts.dealloc_token a (bare (lone R.mir)) p))) (dealloc_token-Testable 𝓛 a (bare (lone R.mir)) p))
      (guard_i 𝓤 (Testable p) (sem 𝓛 (boxed a p x)))

module _ {M : Type 1} {𝓤 : Ura M} {𝓛 : Logic 𝓤} {K : Type 0} {Γ : List (Item 𝓤)} {G : Goal 𝓤 𝓛.H} where
  -- what C owns is nothing, at NULL, or such a database
  pub open_cases : K → (a : Global) (p : Ptr) (m : Option R.Denot)
      → (p ≡ null_ptr → m ≡ None → Seq K 𝓛 Γ G)
      → ((b o : ℕ) (x : R.Denot) → p ≡ block_ptr b o → m ≡ Some x → Testable (block_ptr b o)
      → Seq K 𝓛 (‵ (boxed a (block_ptr b o) x) ∷ Γ) G)
      → Seq K 𝓛 (‵ (owns_open a p m) ∷ Γ) G
  open_cases t a p None n s = feq_l t (λ e. n e refl)
  open_cases t a p (Some x) n s =
      in_a_block t p (λ q. boxed a q x) (fst∗ 𝓤 (never 𝓤) (sem 𝓛 (ghosts.dealloc_token a (bare (lone R.mir)) null_ptr))) (λ b o e.
      use1 𝓛 (given (Testable (block_ptr b o)) (‵ (boxed a (block_ptr b o) x))) (tested 𝓛 a (block_ptr b o) x) $
      learn t (λ y. s b o x e refl y))

  -- a handle by value is its address and what C owns
  pub handle_out : K → (d : HandleRow.Denot) (vs : List Val)
      → ((h : Val) → vs ≡ both (ptr_val d.address) h ∷ [] → Good (layout Z) h → Seq K 𝓛 (‵ (owns_open d.alloc d.address d.opened)
      ∷ ‵ (Z.own_val d.alloc (h ∷ [])) ∷ Γ) G)
      → Seq K 𝓛 (‵ (HandleRow.own_val d vs) ∷ Γ) G
  handle_out t d vs k =
      fsplit t $ fpick t (λ vss. fsplit t $ feq_l t (λ ev. fsplit t $ feq_l t (λ ep. fsplit t $
      handle_tells al t d.alloc vss.1.0 (λ h ea fits. move t (1 ∷ []) $ drop t $ move t (1 ∷ []) $
      k h (subst (λ (ws : List Val). vs ≡ vstruct (of_list (ptr_val d.address ∷ (ws ++ []))) ∷ []) ea (subst
      (λ (ps : List Val). vs ≡ vstruct (of_list (ps ++ (vss.1.0 ++ []))) ∷ []) ep ev)) fits))))

  -- what a call gives back is made of what C owns
  pub kept_in : K → (p : Ptr) (h : Val) (a : Z.Denot) (m : Option R.Denot)
      → Step K 𝓛 (‵ (KeptRow.own_val (record { alloc = a; address = p; opened = m }) (one h ∷ [])) ∷ Γ) G (‵ (owns_open a p m)
      ∷ ‵ (Z.own_val a (h ∷ [])) ∷ Γ) G
  kept_in t p h a m = step (λ s. let v : Val = one h in
      nothing t $ move t (2 ∷ 0 ∷ []) $ fjoin t $ feq_i t (List Val) (v ∷ []) (v ∷ []) refl $ fjoin t $
      fpack t (Valss (Z ∷ [])) (within (shape kept.the_type) ((heap.the_field).into a, tt) (v ∷ [])) (h ∷ [], tt) $ fjoin t $ s)
