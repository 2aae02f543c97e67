-- `nothing` has nothing, at NULL.
use Rattle.std.proofs.Common.{◌≡◌, List, [], ◌∷◌, ◌++◌, refl, sym, subst}
use Rattle.std.specs.Prelude.{Option, None}
use mir.Val.{Val}
use base.Logic.{SProp, ent, emp, id⊢}
use base.Fml.{ftrue}
use prog.Wp.{WpFn}
use types.Kit.{‵, raw, ◌⊛◌, ◌$◌, ◌∵◌, !, qed, by, move, keep, split, fsplit, fjoin, feq_i, suffices, use0}
use types.Run.{no_more, and_then, returns, enter}
use types.ByLocal.{alloc_all, pass_all, free_all, look_at, get, sets}
use types.Part.{agg}
use contract.Monad.{fact, fact_i}
use contract.Running.{tables}
use denote.Exit.{yes}
use denote.RattleType.{RattleType, owns}
use denote.Signature.{types_at, plain}
use denote.RawPtr.{Ptr, null_ptr}
use denote.Steps.{nothing}
use denote.Param.{layout}
use denote.Triple.Walked.{Stays, stay_dropped, walk_of, Goes-dropped}
use Rattle.std.proofs.raw_atomic.Walks.{proved_at, leaves}
use Rattle.std.proofs.alloc.Global.TheLaws as heap_laws
use Rattle.std.proofs.cell.Inside.{Good, one as alone}
use Rattle.mime_c.proofs.Handles.{KeptRow, R, Z, one, kept_in}
use Rattle.mime_c.specs.contracts.database.kept.Kept.nothing.{ended, clauses}
use Rattle.mime_c.specs.contracts.database.kept.Kept.nothing.Key.{name as #self}
use Rattle.mime_c.proofs.database.kept.Kept.nothing.Statement.{statement}
use Rattle.mime_c.proofs.database.kept.Kept.nothing.Code as code
use types.Kit.{rewrite}
use mir.Val.{has_ty}
use Rattle.std.proofs.ResultValues.{and_tt}

-- NULL
abbrev null : Ptr
null = null_ptr

-- nothing is open
abbrev none : Option R.Denot
none = None

-- at NULL nothing is owned
pub nothing_spec : {M : Type 1} → statement M
nothing_spec 𝓤 𝓛 𝓜 𝓡 wired =
    let H = 𝓛.H in let 𝓣 = tables 𝓤 H 𝓜 𝓡 𝓡.env in let LZ = heap_laws.the_row_laws in let In : RattleType = Z in
    let c = clauses 𝓛 𝓜.mem 𝓡.returns in let fn = code.function in
    let hs : Stays ended.signature.params ended.kept = (stay_dropped (plain (λ _. In)) yes, tt) in
    proved_at 𝓛 ended hs c 𝓜 𝓡 (Goes-dropped 𝓛 0 (plain (λ _. In)) yes (λ κs x f. refl), tt) #self fn (code.unfolded 𝓤 H 𝓜 𝓡 wired)
    (λ z are.
    let κs = z.0.0 in let v = z.0.3.0 in let Post : Val → SProp 𝓤 = (walk_of 𝓛 ended hs c).post z in
    let Run : List Val → SProp 𝓤 = λ ws. WpFn 𝓤 H 𝓣.C 𝓣.Λ fn ws Post in
    qed 𝓛 ((‵ ftrue ⊛ ‵ (owns (types_at ended.signature.params κs) z.0.3 z.0.4)) ∷ raw ((c κs z.0.3).requires z.1) ∷ []) ∵ split ! $
    move ! (1 ∷ []) $ fsplit ! $ let g = alone (layout Z) z.0.4.0 (((LZ.lawful 𝓛).typed v z.0.4.0) are.0) in let h = g.0 in
    let w : Val = one h in
    let good : Good (layout KeptRow) w = (and_tt (has_ty (layout Z) h) g.2.0, (g.2.1, tt)) in
    rewrite ! 0 (λ (us : List Val). ‵ (Z.own_val v us)) g.1 refl $
    suffices ! (Run (h ∷ [])) (subst (λ (us : List Val). ent 𝓤 (Run (h ∷ [])) (Run us)) (sym (λ i. g.1 i ++ [])) (id⊢ 𝓤 (Run (h ∷ [])))) $
    enter ! 𝓣.C 𝓣.Λ fn (h ∷ []) Post $ alloc_all ! (λ l. pass_all ! refl (g.2, tt) $
    sets ! (agg ! (and_then ! (get ! refl) (no_more !))) refl good $
    feq_i ! Ptr null_ptr null_ptr refl $ kept_in ! null_ptr h v None $
    use0 𝓛 (raw (fact 𝓤 ((null ≡ null) × (none ≡ none)))) (fact_i 𝓤 ((null ≡ null) × (none ≡ none)) (emp 𝓤) (refl, refl)) $ nothing ! $
    nothing ! $ fjoin ! $
    returns ! (look_at ! 0 refl) $ free_all ! refl $ keep ! (3 ∷ 0 ∷ 2 ∷ 1 ∷ []) $
    by ! (leaves 𝓛 ended hs c z w (record { alloc = v; address = null_ptr; opened = none }) (tt, tt) (tt, tt))))
