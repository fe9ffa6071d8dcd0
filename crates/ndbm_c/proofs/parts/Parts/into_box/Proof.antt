-- `into_box` hands what the parts own to `from_raw`.
use Rattle.ndbm_c.proofs.Steps.{◌≡◌, List, [], ◌∷◌, ◌++◌, refl, proved_at, leaves, ftrue}
use Rattle.ndbm_c.proofs.Steps.{flft, id⊢, fact, tables, no, Val, vptr, block_ptr, plain}
use Rattle.ndbm_c.proofs.Steps.{nothing, peeks, shows, walk_of, Stays, stay_dropped}
use Rattle.ndbm_c.proofs.Steps.{Goes-blank, ‵, raw, ◌⊛◌, some, later, prop, ◌$◌, ◌∵◌, ! }
use Rattle.ndbm_c.proofs.Steps.{qed, by, drop, move, split, split3, join, fjoin, feq_i}
use Rattle.ndbm_c.proofs.Steps.{pick, await, regoal, use1, sub, whole, enter, of_opd, fld}
use Rattle.ndbm_c.proofs.Steps.{stop, no_more, and_then, first, blocks, exec, at_ret}
use Rattle.ndbm_c.proofs.Steps.{returns, alloc_all, pass_all, free_all, look_at, get}
use Rattle.ndbm_c.proofs.Steps.{get_in, sets, lands_last, env, after, framed, calls_at_last}
use Rattle.ndbm_c.proofs.Steps.{Lasts, lasts, triple_of}
use contract.BorrowLft.{◌⊑◌}
use mir.MapTy.{inst_fn}
use prog.Wp.{WpFn}
use Rattle.ndbm_c.proofs.Generic.{E, Boxed, Parted, boxed_laws}
use Rattle.std_alloc.proofs.BoxSteps.Form.{args, box_typed}
use Rattle.std_alloc.proofs.BoxSteps.Steps.{box_out}
use Rattle.std_alloc.specs.contracts.boxed.Box.from_raw as g
use Rattle.std_alloc.proofs.boxed.Box.from_raw.Met.{met}
use Rattle.ndbm_c.specs.contracts.parts.Parts.into_box as f
use Rattle.ndbm_c.proofs.parts.Parts.into_box.Statement.{statement}
use Rattle.ndbm_c.proofs.parts.Parts.into_box.Code as code

pub into_box_spec : {M : Type 1} → statement M
into_box_spec 𝓤 𝓛 𝓜 𝓡 wired T A LT LA tokens dict glue allocator glued =
    let 𝓣 = tables 𝓤 𝓛.H 𝓜 𝓡 𝓡.env in
    let box = E T A LT LA tokens dict glue in
    let Box = Boxed T A LT LA tokens dict glue in
    let Parts = Parted T A LT LA tokens dict glue in
    let fn = inst_fn (args box) code.function in
    let ended = f.ended T A tokens dict glue in
    let c = f.clauses T A tokens dict glue 𝓛 𝓜.mem 𝓡.returns in
    let stayed : Stays ended.signature.params ended.kept =
    (stay_dropped (plain (λ _. Parts)) no, tt) in
    let called = g.ended T A tokens dict glue in
    let makes = triple_of 𝓛 called.signature (g.spec T A tokens dict glue 𝓛 𝓜.mem 𝓡.returns) in
    let meets = met 𝓤 𝓛 𝓜 𝓡 (code.calls-std_alloc::boxed::Box::from_raw 𝓡.env wired)
    T A LT LA tokens dict glue allocator glued in
    proved_at 𝓛 ended stayed c 𝓜 𝓡 (Goes-blank 𝓛 2 (plain (λ _. Parts)) no (λ κs x w. tt), tt)
    (f.Key.name (args box)) fn (code.unfolded 𝓤 𝓛.H 𝓜 𝓡 wired (T, (A, tt)) dict glue) (λ y are.
    let κs = y.0.0 in let qs = y.0.1 in let p = y.0.3.0 in let vs = y.0.4.0 in
    let Post = (walk_of 𝓛 ended stayed c).post y in
    let whole_box : Box.Denot = record { ptr = p.at; alloc = p.alloc; value = p.value } in
    let toks = ‵ (flft κs.0 qs.0) ⊛ ‵ (flft κs.1.0 qs.1.0) ⊛ ‵ ftrue in
    let lives = raw (fact 𝓤 (κs.0 ⊑ T.lives)) ⊛ raw (fact 𝓤 (κs.1.0 ⊑ A.lives)) ⊛ ‵ ftrue in
    qed 𝓛 ((toks ⊛ ‵ (Box.own_val whole_box vs) ⊛ ‵ ftrue) ∷ lives ∷ []) ∵
    split ! $ move ! (1 ∷ []) $ split ! $
    box_out box ! whole_box vs (λ b o hv at is fits. fjoin ! $
    -- [the box's memory; the allocator; nothing; the tokens; what they outlive]
    regoal ! (λ (us : List Val). prop (WpFn 𝓤 𝓛.H 𝓣.C 𝓣.Λ fn (us ++ []) Post)) is refl $
    let z : makes.Ghost =
    ((κs, qs, tt, (p.alloc, (block_ptr b o, tt)), (hv ∷ [], (vptr b o ∷ [], tt))), p.value) in
    enter ! _ _ _ _ _ $ alloc_all ! (λ l. pass_all ! refl (box_typed box hv b o fits, tt) $
    let En = env fn.locals l in
    sets ! (of_opd ! (get_in ! (fld ! refl (stop !)) (sub ! 0 refl (whole !)))) refl (tt, tt) $
    sets ! (of_opd ! (get_in ! (fld ! refl (stop !)) (sub ! 1 refl (whole !)))) refl fits $
    first ! $ blocks ! $
    sets ! (of_opd ! (get ! refl)) refl fits $
    -- what `from_raw` asks for
    move ! (4 ∷ []) $ split3 ! $ move ! (1 ∷ 3 ∷ []) $ join ! $ move ! (1 ∷ 0 ∷ []) $ join ! $
    move ! (1 ∷ []) $ drop ! $
    move ! (2 ∷ []) $ feq_i ! _ (vptr b o ∷ []) _ refl $ join ! $ move ! (2 ∷ 0 ∷ []) $ join ! $
    move ! (2 ∷ 0 ∷ []) $ join ! $ join ! $ use1 𝓛 (raw (makes.pre z)) (id⊢ 𝓤 _) $
    calls_at_last ! (framed 𝓤 𝓛.H 𝓜 𝓣) makes meets z
    (and_then ! (get ! refl) (and_then ! (get ! refl) (no_more !))) (λ u.
    use1 𝓛 (later (some (λ (r : Box.Denot). (toks ⊛ ‵ (Box.own_val r (u ∷ []))) ⊛
    some (λ (ws : Lasts called κs z.0.3). ‵ (lasts called κs z.0.3 ws) ⊛
    raw (fact 𝓤 (r.value ≡ p.value)) ⊛ raw (fact 𝓤 (r.alloc ≡ p.alloc)))))) (id⊢ 𝓤 _) $
    await ! tt $ pick ! (λ r. split ! $ move ! (1 ∷ []) $ pick ! (λ ws. split3 ! $ drop ! $
    move ! (1 ∷ []) $ drop ! $
    -- [its value is the parts'; the tokens and the box]
    move ! (1 ∷ []) $ split ! $ move ! (1 ∷ []) $
    peeks ! Box _ (shows 𝓛 Box) r (u ∷ []) (λ is_box.
    let good = (((boxed_laws T A LT LA tokens dict glue).lawful 𝓛).typed r (u ∷ []) is_box).0 in
    lands_last ! refl good $ exec ! 𝓣.C 𝓣.Λ En (after 3 fn.body) (at_ret En Post) $
    sets ! (of_opd ! (get ! refl)) refl good $
    returns ! (look_at ! 0 refl) $ free_all ! refl $
    nothing ! $ nothing ! $ join ! $ move ! (2 ∷ 0 ∷ []) $
    by ! (leaves 𝓛 ended stayed c y u r ((tt, (tt, tt)), tt) (tt, tt)))))))))
