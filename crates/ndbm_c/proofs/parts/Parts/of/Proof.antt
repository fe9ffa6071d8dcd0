-- `of` has `into_raw_with_allocator` take the box apart, and the parts own what it owned.
use Rattle.ndbm_c.proofs.Steps.{◌≡◌, List, [], ◌∷◌, ◌++◌, refl, ap, ◌∙◌, proved_at, ftrue}
use Rattle.ndbm_c.proofs.Steps.{flft, id⊢, fact, tables, no, Val, vstruct, of_list, Ptr}
use Rattle.ndbm_c.proofs.Steps.{RawPtr, null_ptr, block_ptr, ptr_val, in_a_block, plain}
use Rattle.ndbm_c.proofs.Steps.{nothing, only, heard, walk_of, Stays, stay_dropped}
use Rattle.ndbm_c.proofs.Steps.{Goes-blank, says, ends_at, suffices, done, ‵, raw, ◌⊛◌}
use Rattle.ndbm_c.proofs.Steps.{some, later, prop, ◌$◌, ◌∵◌, !, qed, drop, move, split}
use Rattle.ndbm_c.proofs.Steps.{split3, join, fsplit, fpick, feq_l, pick, await, regoal}
use Rattle.ndbm_c.proofs.Steps.{rewrite, use1, agg, sub, whole, enter, of_opd, fld, stop}
use Rattle.ndbm_c.proofs.Steps.{no_more, and_then, returns, alloc_all, pass_all, free_all}
use Rattle.ndbm_c.proofs.Steps.{look_at, get, get_in, sets, lands_as, framed, calls_at}
use Rattle.ndbm_c.proofs.Steps.{Lasts, lasts, triple_of}
use base.Logic.{never, fst∗}
use contract.BorrowLft.{◌⊑◌}
use denote.Param.{bounded}
use denote.Struct.Tuple.{Tuple}
use mir.MapTy.{inst_fn}
use mir.Raw.{raw as bare}
use mir.Syntax.{Args, a_type, dcons, dnil}
use prog.Wp.{WpFn}
use types.Logic.{sem}
use Rattle.core.proofs.alloc.Calls.{handle_tells}
use Rattle.ndbm_c.proofs.Generic.{E, Boxed, Parted, boxed_laws, one_value}
use Rattle.std_alloc.specs.Box.Ownership.{box_owns}
use Rattle.std_alloc.proofs.BoxSteps.Form.{R, P, τ, word, box_typed}
use Rattle.std_alloc.proofs.BoxSteps.Steps.{box_in}
use Rattle.std_alloc.specs.contracts.boxed.Box.into_raw_with_allocator as g
use Rattle.std_alloc.proofs.boxed.Box.into_raw_with_allocator.Met.{met}
use Rattle.ndbm_c.specs.contracts.parts.Parts.of as f
use Rattle.ndbm_c.proofs.parts.Parts.of.Statement.{statement}
use Rattle.ndbm_c.proofs.parts.Parts.of.Code as code

pub of_spec : {M : Type 1} → statement M
of_spec 𝓤 𝓛 𝓜 𝓡 wired T A LT LA tokens dict glue drops allocator glued dropped =
    let 𝓣 = tables 𝓤 𝓛.H 𝓜 𝓡 𝓡.env in
    let box = E T A LT LA tokens dict glue in
    let Box = Boxed T A LT LA tokens dict glue in
    let Parts = Parted T A LT LA tokens dict glue in
    let dicts = dcons dict (dcons glue (dcons drops dnil)) in
    let args : Args = bounded (a_type ∷ a_type ∷ []) (T, (A, tt)) dicts in
    let fn = inst_fn args code.function in
    let ended = f.ended T A tokens dict glue drops in
    let c = f.clauses T A tokens dict glue drops 𝓛 𝓜.mem 𝓡.returns in
    let stayed : Stays ended.signature.params ended.kept =
    (stay_dropped (plain (λ _. Box)) no, tt) in
    let called = g.ended T A tokens dict glue drops in
    let opens = triple_of 𝓛 called.signature
    (g.spec T A tokens dict glue drops 𝓛 𝓜.mem 𝓡.returns) in
    let meets = met 𝓤 𝓛 𝓜 𝓡 (code.calls-std_alloc::boxed::Box::into_raw_with_allocator 𝓡.env wired)
    T A LT LA tokens dict glue drops allocator glued dropped in
    proved_at 𝓛 ended stayed c 𝓜 𝓡 (Goes-blank 𝓛 2 (plain (λ _. Box)) no (λ κs x w. tt), tt)
    (f.Key.name args) fn (code.unfolded 𝓤 𝓛.H 𝓜 𝓡 wired (T, (A, tt)) dict glue drops) (λ y are.
    let κs = y.0.0 in let qs = y.0.1 in let made = y.0.3.0 in let vs = y.0.4.0 in
    let Post = (walk_of 𝓛 ended stayed c).post y in
    let token = tokens.dealloc_token made.alloc in
    let Memory = λ (p : Ptr). box_owns token (R box) p made.value in
    let toks = ‵ (flft κs.0 qs.0) ⊛ ‵ (flft κs.1.0 qs.1.0) ⊛ ‵ ftrue in
    let lives = raw (fact 𝓤 (κs.0 ⊑ T.lives)) ⊛ raw (fact 𝓤 (κs.1.0 ⊑ A.lives)) ⊛ ‵ ftrue in
    qed 𝓛 ((toks ⊛ ‵ (Box.own_val made vs) ⊛ ‵ ftrue) ∷ lives ∷ []) ∵
    split ! $ move ! (1 ∷ []) $ split ! $
    one_value ! Box (boxed_laws T A LT LA tokens dict glue) made vs (λ w is good.
    -- [the box; nothing; the tokens; what they outlive]
    regoal ! (λ (us : List Val). prop (WpFn 𝓤 𝓛.H 𝓣.C 𝓣.Λ fn (us ++ []) Post)) is refl $
    let z : opens.Ghost = ((κs, qs, tt, (made, tt), (w ∷ [], tt)), tt) in
    join ! $ move ! (1 ∷ 0 ∷ []) $ join ! $ join ! $ use1 𝓛 (raw (opens.pre z)) (id⊢ 𝓤 _) $
    enter ! _ _ _ _ _ $ alloc_all ! (λ l. pass_all ! refl (good, tt) $
    sets ! (of_opd ! (get ! refl)) refl good $
    calls_at ! (framed 𝓤 𝓛.H 𝓜 𝓣) opens meets z (and_then ! (get ! refl) (no_more !)) (λ u.
    use1 𝓛 (later (some (λ (r : Ptr × A.Denot).
    (toks ⊛ ‵ ((Tuple (RawPtr ∷ P box ∷ [])).own_val r (u ∷ []))) ⊛
    some (λ (ws : Lasts called κs z.0.3). ‵ (lasts called κs z.0.3 ws) ⊛
    raw (fact 𝓤 (r.1 ≡ made.alloc)) ⊛ ‵ (Memory r.0))))) (id⊢ 𝓤 _) $
    await ! tt $ pick ! (λ r. split ! $ move ! (1 ∷ []) $ pick ! (λ ws. split3 ! $ drop ! $
    heard ! (r.1 ≡ made.alloc) (λ same.
    -- [the memory; the tokens and the pair]
    in_a_block ! r.0 Memory (fst∗ 𝓤 (never 𝓤) (sem 𝓛 (token (bare (τ box)) null_ptr))) (λ b o at.
    move ! (1 ∷ []) $ split ! $ move ! (1 ∷ []) $
    fpick ! (λ vss. fsplit ! $ feq_l ! (λ pair. fsplit ! $ feq_l ! (λ first_is. fsplit ! $
    rewrite ! 0 (λ (a : A.Denot). ‵ (A.own_val a vss.1.0)) same refl $
    handle_tells box.al ! made.alloc vss.1.0 (λ hv second_is fits.
    -- [the allocator; nothing; the tokens; the memory]
    let typed = box_typed box hv b o fits in
    let new : Parts.Denot =
    record { at = block_ptr b o; alloc = made.alloc; value = made.value } in
    let at_is = first_is ∙ ap (λ (p : Ptr). ptr_val p ∷ []) at in
    let pair_is : u ≡ word box hv b o =
    ap only pair ∙ (λ i. vstruct (of_list (at_is i ++ (second_is i ++ [])))) in
    lands_as ! pair_is refl typed $
    sets ! (of_opd ! (get_in ! (fld ! refl (stop !)) (sub ! 0 refl (whole !)))) refl (tt, tt) $
    sets ! (of_opd ! (get_in ! (fld ! refl (stop !)) (sub ! 1 refl (whole !)))) refl fits $
    sets ! (of_opd ! (get ! refl)) refl fits $
    sets ! (agg ! (and_then ! (get ! refl) (and_then ! (get ! refl) (no_more !)))) refl typed $
    returns ! (look_at ! 0 refl) $ free_all ! refl $
    move ! (3 ∷ []) $ fsplit ! $
    let again : Box.Denot = record { ptr = new.at; alloc = new.alloc; value = new.value } in
    box_in box ! again b o made.value refl refl $
    suffices ! _ (ends_at 𝓛 ended stayed c y (word box hv b o) new ((tt, (tt, tt)), tt) (tt, tt)) $
    says ! refl $
    move ! (1 ∷ []) $ nothing ! $ join ! $ move ! (2 ∷ 0 ∷ []) $ done !))))))))))))
