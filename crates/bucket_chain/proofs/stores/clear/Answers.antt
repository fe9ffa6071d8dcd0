use Rattle.std.proofs.Common.{◌≡◌, ◌∷◌, [], inl, ℕ, OnOk, refl, sym, subst, ◌∙◌, ap, arith}
use Rattle.std.proofs.lemmas.Result.{IfOk-from_err}
use Rattle.page_model.specs.Pages.{Body, HeadPage, Bucket}
use Rattle.page_model.specs.Reading.{body_of, bucket_of}
use Rattle.page_model.specs.Chain.{Chain}
use Rattle.page_io.specs.Page as model
use Rattle.page_io.specs.Store.{StoreState}
use Rattle.page_io.specs.Versions.{model_version}
use Rattle.std.specs.List.{AllByRecursion}
use Rattle.page_model.specs.Valid.{IsOf}
use Rattle.page_io.specs.Views.{body_at, MayEnd}
use Rattle.page_io.specs.declared.store.PageFault.TheVariants.{NoRoom, Damaged}
use Rattle.page_io.proofs.Views.{stages_then, same_said, known_below}
use Rattle.page_io.proofs.Exits.{exit_is, came, cause_first, cause_then, cause_stage_last, last_not_damaged, last_has_room}
use Rattle.bucket_chain.specs.Giving.{AreOverflowGiven}
use Rattle.bucket_chain.specs.Changes.{IsCleared, store_in}
use Rattle.page_io.proofs.OwnNumbers.{own_is, own_same}
use Rattle.bucket_chain.specs.Links.{IsLink}
use Rattle.bucket_chain.proofs.LinkBodies.{says_link}
use Rattle.bucket_chain.proofs.KnownPages.{empty_page}
use Rattle.bucket_chain.proofs.StagedPages.{on_ok, if_ok, IsRewrittenAlone, rewritten_next}
use Rattle.bucket_chain.proofs.Clearing.{placed_same}
use Rattle.bucket_chain.proofs.Clearing.{was_read, emptied, first_is, head_link, head_some, cleared, each_chain}
use Rattle.bucket_chain.proofs.Refusals.{walk_stores, store_stores, stage_stores_last, walk_has_room}
use Rattle.bucket_chain.proofs.stores.clear.Given.{Over}
use Rattle.bucket_chain.proofs.stores.clear.Goals as goal

pub stage_page-requires-clause-own : goal.stage_page-requires-clause-own
stage_page-requires-clause-own g c =
    let own : (bucket_of c.empty.result.bytes).own ≡ c.args.head =
    ap (λ (b : Bucket). b.own) c.empty.ensures.says in
    omega (
      arith,
      own_same c.empty.result.bytes,
      own_is c.empty.result.bytes,
      own,
      c.in_ok-first.ensures.known.0,
    )

pub stage_page-requires-clause-known : goal.stage_page-requires-clause-known
stage_page-requires-clause-known g c =
    empty_page (model_version c.args.version) _ _ _ _ c.empty.ensures.page c.empty.ensures.says

-- the head page is not read
pub returns-in_err-first : goal.returns-in_err-first
returns-in_err-first g c =
    let st = g.S.PageStore in
    let told = c.in_err-first.ensures in
    let result = c.from_residual in
    let exit = exit_is result.result c.in_err-first.field-0.0 result.ensures.1 in
    record {
      stages = record {
        only = told.reads.only.stages_only;
        cause = cause_first _ _ exit _ _ told.reads.cause;
      };
      answer = walk_stores _ _ refl _ _ exit told.answer;
      room = λ none. absurd (walk_has_room _ _ told.answer (came _ _ exit NoRoom none));
      walked = λ honest. IfOk-from_err _ _ result.ensures.0;
      emptied = λ honest. IfOk-from_err _ _ result.ensures.0;
      end = refl;
      keeps = record { ends = λ e. e; may_end = λ may. IfOk-from_err _ _ result.ensures.0 };
      exact = λ honest chain s placed. IfOk-from_err _ _ result.ensures.0;
      whole = λ honest chain s placed damaged.
          each_chain _ _ _ _ chain s placed (λ leaf rest is placed'.
          told.whole honest _ _ (head_some _ _ _ _ leaf rest s placed')
          (head_link _ _ _ _ leaf rest s placed') (came _ _ exit Damaged damaged));
    }

-- an overflow page is not given
pub returns-in_err-give_overflow : goal.returns-in_err-give_overflow
returns-in_err-give_overflow g c =
    let st = g.S.PageStore in
    let told = c.in_err-give_overflow.ensures in
    let result = c.from_residual-in_err-give_overflow in
    let exit = exit_is result.result c.in_err-give_overflow.field-0.0 result.ensures.1 in
    let one = c.in_ok-first.ensures.reads.only in
    record {
      stages = record {
        only = stages_then st _ _ _ (g.met.S.PageStore.counts_now c.read_link.new.store)
            one.stages_only told.stages.only;
        cause = cause_then _ _ exit _ _ _ one.stages_only.later told.stages.cause;
      };
      answer = store_stores _ _ (ap (λ (s : StoreState). s.usable) one.same) _ _ exit told.answer;
      room = λ none. told.room (came _ _ exit NoRoom none);
      walked = λ honest. IfOk-from_err _ _ result.ensures.0;
      emptied = λ honest. IfOk-from_err _ _ result.ensures.0;
      end = told.end;
      keeps = record { ends = told.ends; may_end = λ may. IfOk-from_err _ _ result.ensures.0 };
      exact = λ honest chain s placed. IfOk-from_err _ _ result.ensures.0;
      whole = λ honest chain s placed damaged.
          let same = same_said g.S.PageStore _ _ c.in_ok-first.ensures.reads.only honest in
          let h1 = c.in_ok-first.ensures.reads.only.stages_only.honesty.1 honest in
          each_chain _ _ _ _ chain s placed (λ leaf rest is placed'.
          c.in_err-give_overflow.ensures.whole h1 _ leaf rest s
          (placed_same _ _ _ c.args.space.now _ (leaf ∷ rest) s same placed')
          (first_is _ _ c.args.space.now _ _ _ leaf rest s placed'
          (c.in_ok-first.ensures.says honest)) (came _ _ exit Damaged damaged));
    }

-- the head page says no pair then
head_says : (g : Over) (c : goal.After-stage_page g) → g.S.PageStore.honest c.args.store.now
    → OnOk c.stage_page.result (IsRewrittenAlone (body_at g.S.PageStore c.give_overflow.new.store)
    (body_at g.S.PageStore c.stage_page.new.store) c.args.head (HeadPage 0 []))
head_says g c honest =
    let bytes = c.empty.result.bytes in
    let h2 = c.in_ok-give_overflow.ensures.stages.only.honesty.1
    (c.in_ok-first.ensures.reads.only.stages_only.honesty.1 honest) in
    let own : model.own_number bytes ≡ c.args.head =
    own_same bytes ∙ sym (own_is bytes) ∙ ap (λ (b : Bucket). b.own) c.empty.ensures.says in
    let link : IsLink (model_version c.args.version) bytes c.args.head 3 0 [] =
    record {
      page = record {
        page = c.empty.ensures.page;
        of_version = subst (λ (b : Bucket). AllByRecursion (IsOf
            (model_version c.args.version)) b.held)
            (sym c.empty.ensures.says) tt;
      };
      says = c.empty.ensures.says;
      filled = λ four.
          absurd (omega arith);
    } in
    let body = (says_link (model_version c.args.version)
    (λ n. body_of n bytes) bytes c.args.head 3 0 [] refl
    (inl refl) link).says in
    on_ok c.stage_page.result (c.stage_page.ensures.says h2) (λ says.
    rewritten_next g.S.PageStore c.give_overflow.new.store c.stage_page.new.store c.args.head bytes
    _ own body says (c.stage_page.ensures.others h2))

-- the overflow pages were given
are_given : (g : Over) (c : goal.After-stage_page g) → g.S.PageStore.honest c.args.store.now
    → AreOverflowGiven (body_at g.S.PageStore c.args.store.now)
    (body_at g.S.PageStore c.give_overflow.new.store) c.args.space.now c.give_overflow.new.space
    c.in_ok-first.first
are_given g c honest =
    let reads = c.in_ok-first.ensures.reads.only in
    subst (λ (at : ℕ → Body). AreOverflowGiven at (body_at g.S.PageStore c.give_overflow.new.store)
    c.args.space.now c.give_overflow.new.space c.in_ok-first.first)
    (same_said g.S.PageStore _ _ reads honest)
    (c.in_ok-give_overflow.ensures.given (reads.stages_only.honesty.1 honest))

-- the head page is emptied
pub returns : goal.returns
returns g c =
    let st = g.S.PageStore in
    let one = c.in_ok-first.ensures.reads.only in
    let given = c.in_ok-give_overflow.ensures in
    let told = c.stage_page.ensures in
    let so_far = stages_then st _ _ _ (g.met.S.PageStore.counts_now c.read_link.new.store)
    one.stages_only given.stages.only in
    record {
      stages = record {
        only = stages_then st _ _ _ (g.met.S.PageStore.counts_now c.give_overflow.new.store)
            so_far told.stages;
        cause = cause_stage_last _ _ _ _ _ _ _ so_far.later told.faults told.answer;
      };
      answer = stage_stores_last _ 0 _ _ _
          (ap (λ (s : StoreState). s.usable) so_far.state) _ told.answer;
      room = λ none. last_has_room _ _ _ _ told.answer none;
      walked = λ honest. if_ok c.stage_page.result
          (was_read _ _ _ _ _ _ _ _ (c.in_ok-first.ensures.says honest) (are_given g c honest));
      emptied = λ honest. on_ok c.stage_page.result (head_says g c honest) (λ said.
          emptied _ _ (body_at st c.give_overflow.new.store) _ c.args.space.now _ c.args.head _ _
          (c.in_ok-first.ensures.says honest) (are_given g c honest)
          said.says said.others);
      end = given.end;
      keeps = record {
        ends = given.ends;
        may_end = λ may.
            let own : (bucket_of c.empty.result.bytes).own ≡ c.args.head =
            ap (λ (b : Bucket). b.own) c.empty.ensures.says in
            let read = subst (λ (x : StoreState). MayEnd x c.args.space.now.file_end)
            (sym c.in_ok-first.ensures.reads.only.same) may in
            let given = c.in_ok-give_overflow.ensures.may_end read in
            let below = known_below _ _ _ may c.in_ok-first.ensures.known.1 in
            if_ok c.stage_page.result (c.stage_page.ensures.may_end
            c.give_overflow.new.space.file_end
            (omega (
              arith,
              own_same c.empty.result.bytes,
              own_is c.empty.result.bytes,
              own,
              below,
              c.in_ok-give_overflow.ensures.end,
            )) given);
      };
      exact = λ honest chain s placed. on_ok c.stage_page.result (head_says g c honest) (λ said.
          let at' = body_at st c.stage_page.new.store in
          each_chain _ _ _ _ chain s placed (λ leaf rest is placed'.
          subst (λ (x : Chain). IsCleared (model_version c.args.version)
          (body_at st c.args.store.now) at'
          c.give_overflow.new.space c.args.head (store_in (x, s) [])) (sym is)
          (cleared _ _ (body_at st c.give_overflow.new.store) at' c.args.space.now _ _ _ _ leaf
          rest s
          placed' (c.in_ok-first.ensures.says honest) (are_given g c honest) said.says
          said.others)));
      whole = λ honest chain s placed damaged.
          absurd (last_not_damaged _ _ _ _ told.answer damaged);
    }
