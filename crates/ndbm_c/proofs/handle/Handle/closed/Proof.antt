-- `closed` makes a handle of a null pointer, which owns nothing.
use Rattle.ndbm_c.proofs.Steps.{[], ◌∷◌, refl, false, None, proved, ftrue, yes, null_ptr}
use Rattle.ndbm_c.proofs.Steps.{plain, nothing, on_entry, Stays, walk_of, says}
use Rattle.ndbm_c.proofs.Steps.{stay_dropped, Goes-dropped, ends_at, ‵, raw, ◌$◌, ◌∵◌, ! }
use Rattle.ndbm_c.proofs.Steps.{qed, drop, join, suffices, done, agg, enter, lit, false_lit}
use Rattle.ndbm_c.proofs.Steps.{no_more, and_then, returns, alloc_all, pass_all, free_all}
use Rattle.ndbm_c.proofs.Steps.{look_at, get, sets}
use Rattle.ndbm_c.proofs.Fields.{Held, handle_val, handle_is, handle_plain, handle_fits}
use Rattle.ndbm_c.proofs.Fields.{alloc_fits}
use Rattle.ndbm_c.proofs.Owned.{struct_in}
use Rattle.std_heap.proofs.Handle.{heap_val, heap_Tells}
use Rattle.std_heap.specs.contracts.Global.{the_row as heap_row}
use Rattle.ndbm_c.specs.contracts.handle.Handle.closed as f
use Rattle.ndbm_c.proofs.handle.Handle.closed.Statement.{statement}
use Rattle.ndbm_c.proofs.handle.Handle.closed.Code as code

abbrev stayed : Stays f.ended.signature.params f.ended.kept
stayed = (stay_dropped _ yes, tt)

pub closed_spec : {M : Type 1} → statement M
closed_spec 𝓤 𝓛 𝓜 𝓡 wired =
    let c = f.clauses 𝓛 𝓜.mem 𝓡.returns in let W = walk_of 𝓛 f.ended stayed c in
    proved 𝓛 f.ended stayed c 𝓜 𝓡
    (Goes-dropped 𝓛 0 (plain (λ _. heap_row)) yes (λ κs x w. refl), tt)
    f.Key.name code.function (code.unfolded 𝓤 𝓛.H 𝓜 𝓡 wired)
    (λ κs. ((λ _. heap_val ∷ []), tt)) (λ κs. (heap_Tells, tt)) (λ κs qs bounds a _ are.
    let y : W.Ghost = ((κs, qs, bounds, a, (heap_val ∷ [], tt)), tt) in
    let h : Held.D = record { at = null_ptr; alloc = a.0; is_open = false; held = None } in
    qed 𝓛 (raw (on_entry 𝓛 f.signature κs qs a y.0.4) ∷ ‵ ftrue ∷ []) ∵ drop ! $
    enter ! _ _ _ _ _ $ alloc_all ! (λ l. pass_all ! refl (alloc_fits, tt) $
    sets ! (agg ! (and_then ! (lit ! tt) (and_then ! (get ! refl)
    (and_then ! (false_lit !) (no_more !))))) refl (handle_fits 𝓛 h) $
    returns ! (look_at ! 0 refl) $ free_all ! refl $
    suffices ! _ (ends_at 𝓛 f.ended stayed c y (handle_val h) h (tt, tt) (tt, tt)) $ says ! refl $
    struct_in ! Held handle_plain h (handle_val h ∷ []) (handle_is h) $
    nothing ! $ nothing ! $ join ! $ nothing ! $ done !))
