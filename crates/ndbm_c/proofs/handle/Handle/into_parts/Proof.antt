-- `into_parts` asks whether the handle is open, and what it owns is the parts' then.
use Rattle.ndbm_c.proofs.Steps.{[], ◌∷◌, refl, Some, None, proved, ftrue, tables, yes, Val}
use Rattle.ndbm_c.proofs.Steps.{rawptr_Lawful, plain, nothing, Stays, walk_of, says}
use Rattle.ndbm_c.proofs.Steps.{stay_dropped, Goes-dropped, ends_at, ‵, ◌⊛◌, ◌$◌, ◌∵◌, ! }
use Rattle.ndbm_c.proofs.Steps.{qed, drop, move, split, join, fsplit, suffices, done, use0}
use Rattle.ndbm_c.proofs.Steps.{use1, agg, sub, whole, enter, of_opd, fld, stop, lit}
use Rattle.ndbm_c.proofs.Steps.{no_more, and_then, returns, alloc_all, pass_all, free_all}
use Rattle.ndbm_c.proofs.Steps.{look_at, get, get_in, sets, sets_last, first, branches}
use Rattle.ndbm_c.proofs.Steps.{exec, env, at_ret, live, vnil, vcons}
use Rattle.core.specs.contracts.option.Option as option
use Rattle.ndbm_c.specs.contracts.handle.Handle.{the_row as Held-row}
use Rattle.core.proofs.option.Made.{Some-of, none_of}
use Rattle.ndbm_c.proofs.Fields.{Boxed, Parted, handle_val, handle_fits, handle_Tells}
use Rattle.ndbm_c.proofs.Fields.{parts_val, parts_is, parts_plain, parts_fits, some_fits}
use Rattle.ndbm_c.proofs.Fields.{none_fits}
use Rattle.ndbm_c.proofs.Fields.{alloc_fits}
use Rattle.ndbm_c.proofs.Owned.{struct_in, is_opened, is_shut}
use Rattle.ndbm_c.specs.contracts.handle.Handle.into_parts as f
use Rattle.ndbm_c.proofs.handle.Handle.into_parts.Statement.{statement}
use Rattle.ndbm_c.proofs.handle.Handle.into_parts.Code as code

abbrev stayed : Stays f.ended.signature.params f.ended.kept
stayed = (stay_dropped _ yes, tt)

pub into_parts_spec : {M : Type 1} → statement M
into_parts_spec 𝓤 𝓛 𝓜 𝓡 wired =
    let c = f.clauses 𝓛 𝓜.mem 𝓡.returns in let W = walk_of 𝓛 f.ended stayed c in
    let 𝓣 = tables 𝓤 𝓛.H 𝓜 𝓡 𝓡.env in
    proved 𝓛 f.ended stayed c 𝓜 𝓡
    (Goes-dropped 𝓛 0 (plain (λ _. Held-row)) yes (λ κs x w. refl), tt)
    f.Key.name code.function (code.unfolded 𝓤 𝓛.H 𝓜 𝓡 wired)
    (λ κs. ((λ h. handle_val h ∷ []), tt)) (λ κs. (handle_Tells, tt)) (λ κs qs bounds a _ are.
    let h = a.0 in let vs = handle_val h ∷ [] in
    let y : W.Ghost = ((κs, qs, bounds, a, (vs, tt)), tt) in
    qed 𝓛 ((‵ ftrue ⊛ ‵ (Held-row.own_val h vs) ⊛ ‵ ftrue) ∷ ‵ ftrue ∷ []) ∵
    split ! $ drop ! $ split ! $ fsplit ! $ drop ! $
    -- [what the handle owns beside its fields; nothing more of it; no `requires`]
    enter ! _ _ _ _ _ $ alloc_all ! (λ l. pass_all ! refl (handle_fits 𝓛 h, tt) $
    let E = env code.Mir.locals l in
    sets ! (of_opd ! (get_in ! (fld ! refl (stop !)) (sub ! 0 refl (whole !)))) refl
    ((rawptr_Lawful 𝓛).typed h.at _ refl).0 $
    sets ! (of_opd ! (get_in ! (fld ! refl (stop !)) (sub ! 1 refl (whole !)))) refl alloc_fits $
    sets ! (of_opd ! (get_in ! (fld ! refl (stop !)) (sub ! 2 refl (whole !)))) refl (tt, tt) $
    sets ! (of_opd ! (get ! refl)) refl (tt, tt) $
    first ! $ branches ! (get ! refl)
    (λ opened. is_opened ! h.alloc h.at h.is_open h.held opened (λ x is.
    let d : Parted.Denot = record { at = h.at; alloc = h.alloc; value = x } in
    let v : Val = live 1 (vcons (parts_val d) vnil) in
    sets ! (agg ! (and_then ! (get ! refl) (and_then ! (get ! refl) (no_more !)))) refl
    (parts_fits 𝓛 d) $
    sets_last ! (agg ! (and_then ! (lit ! tt) (and_then ! (get ! refl) (no_more !)))) refl
    (some_fits 𝓛 d) $
    exec ! 𝓣.C 𝓣.Λ E code.Mir.t-6 (at_ret E (W.post y)) $
    sets ! (of_opd ! (get ! refl)) refl (some_fits 𝓛 d) $
    returns ! (look_at ! 0 refl) $ free_all ! refl $
    suffices ! _ (ends_at 𝓛 f.ended stayed c y v (Some d) (tt, tt) (tt, tt)) $ says ! is $
    struct_in ! Boxed parts_plain d (parts_val d ∷ []) (parts_is d) $
    use1 𝓛 (‵ ((option.the_row Parted).own_val (Some d) (v ∷ [])))
    (Some-of 𝓛 Parted d (parts_val d)) $
    move ! (1 ∷ 2 ∷ []) $ join ! $ nothing ! $ done !))
    (λ closed. is_shut ! h.alloc h.at h.is_open h.held closed (λ is.
    let v : Val = live 0 vnil in
    sets_last ! (agg ! (and_then ! (lit ! tt) (no_more !))) refl none_fits $
    exec ! 𝓣.C 𝓣.Λ E code.Mir.t-6 (at_ret E (W.post y)) $
    sets ! (of_opd ! (get ! refl)) refl none_fits $
    returns ! (look_at ! 0 refl) $ free_all ! refl $
    suffices ! _ (ends_at 𝓛 f.ended stayed c y v None (tt, tt) (tt, tt)) $ says ! is $
    use0 𝓛 (‵ ((option.the_row Parted).own_val None (v ∷ []))) (none_of 𝓛 Parted) $
    move ! (1 ∷ 2 ∷ []) $ join ! $ nothing ! $ done !))))
