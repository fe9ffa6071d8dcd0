-- `of_parts` keeps the pointer, and the handle owns what the parts did.
use Rattle.ndbm_c.proofs.Steps.{[], ◌∷◌, refl, true, Some, proved, ftrue, yes}
use Rattle.ndbm_c.proofs.Steps.{rawptr_Lawful, plain, nothing, Stays, walk_of, says}
use Rattle.ndbm_c.proofs.Steps.{stay_dropped, Goes-dropped, ends_at, ‵, ◌⊛◌, ◌$◌, ◌∵◌, ! }
use Rattle.ndbm_c.proofs.Steps.{qed, drop, move, split, join, fsplit, suffices, done, agg}
use Rattle.ndbm_c.proofs.Steps.{sub, whole, enter, of_opd, fld, stop, true_lit, no_more}
use Rattle.ndbm_c.proofs.Steps.{and_then, returns, alloc_all, pass_all, free_all, look_at}
use Rattle.ndbm_c.proofs.Steps.{get, get_in, sets}
use Rattle.ndbm_c.proofs.Fields.{Held, Parted, handle_val, handle_is, handle_plain}
use Rattle.ndbm_c.proofs.Fields.{handle_fits, parts_val, parts_Tells, parts_fits}
use Rattle.ndbm_c.proofs.Fields.{alloc_fits}
use Rattle.ndbm_c.proofs.Owned.{struct_in}
use Rattle.ndbm_c.specs.contracts.handle.Handle.of_parts as f
use Rattle.ndbm_c.proofs.handle.Handle.of_parts.Statement.{statement}
use Rattle.ndbm_c.proofs.handle.Handle.of_parts.Code as code

abbrev stayed : Stays f.ended.signature.params f.ended.kept
stayed = (stay_dropped _ yes, tt)

pub of_parts_spec : {M : Type 1} → statement M
of_parts_spec 𝓤 𝓛 𝓜 𝓡 wired =
    let c = f.clauses 𝓛 𝓜.mem 𝓡.returns in let W = walk_of 𝓛 f.ended stayed c in
    proved 𝓛 f.ended stayed c 𝓜 𝓡
    (Goes-dropped 𝓛 0 (plain (λ _. Parted)) yes (λ κs x w. refl), tt)
    f.Key.name code.function (code.unfolded 𝓤 𝓛.H 𝓜 𝓡 wired)
    (λ κs. ((λ d. parts_val d ∷ []), tt)) (λ κs. (parts_Tells, tt)) (λ κs qs bounds a _ are.
    let d = a.0 in let vs = parts_val d ∷ [] in
    let y : W.Ghost = ((κs, qs, bounds, a, (vs, tt)), tt) in
    let h : Held.D = record { at = d.at; alloc = d.alloc; is_open = true; held = Some d.value } in
    qed 𝓛 ((‵ ftrue ⊛ ‵ (Parted.own_val d vs) ⊛ ‵ ftrue) ∷ ‵ ftrue ∷ []) ∵
    split ! $ drop ! $ split ! $ fsplit ! $ drop ! $
    -- [the box's memory; nothing more of it; no `requires`]
    enter ! _ _ _ _ _ $ alloc_all ! (λ l. pass_all ! refl (parts_fits 𝓛 d, tt) $
    sets ! (of_opd ! (get_in ! (fld ! refl (stop !)) (sub ! 0 refl (whole !)))) refl
    ((rawptr_Lawful 𝓛).typed d.at _ refl).0 $
    sets ! (of_opd ! (get_in ! (fld ! refl (stop !)) (sub ! 1 refl (whole !)))) refl alloc_fits $
    sets ! (agg ! (and_then ! (get ! refl) (and_then ! (get ! refl)
    (and_then ! (true_lit !) (no_more !))))) refl (handle_fits 𝓛 h) $
    returns ! (look_at ! 0 refl) $ free_all ! refl $
    suffices ! _ (ends_at 𝓛 f.ended stayed c y (handle_val h) h (tt, tt) (tt, tt)) $ says ! refl $
    struct_in ! Held handle_plain h (handle_val h ∷ []) (handle_is h) $
    move ! (1 ∷ 2 ∷ []) $ join ! $ nothing ! $ done !))
