use Rattle.std.proofs.Common.{◌≡◌, ℕ, [], ◌∷◌, ◌++◌, List, true, false, OnOk, refl, sym, subst, ◌∙◌, ap, arith}
use Rattle.std.proofs.lemmas.Option.{IfSome_then}
use Rattle.std.proofs.lemmas.Result.{IfOk-from_err}
use Rattle.dbm_model.specs.Bounds.{Version}
use Rattle.page_model.specs.Pages.{Body, Record, Bucket, OverflowPage}
use Rattle.page_model.specs.Reading.{own_number, bucket_of}
use Rattle.page_model.specs.Chain.{Entry, pages_in, record_of}
use Rattle.page_io.specs.Page as model
use Rattle.page_io.specs.Store.{StoreState}
use Rattle.page_io.specs.Views.{body_at, MayEnd}
use Rattle.page_io.specs.declared.store.PageFault.TheVariants.{NoRoom, Damaged}
use Rattle.page_io.proofs.Views.{stages_then, reads_then, same_said, known_below}
use Rattle.page_io.proofs.Exits.{exit_is, came, cause_first, cause_then, cause_stage, cause_stage_last, stage_not_damaged, stage_has_room, last_not_damaged, last_has_room}
use Rattle.free_pages.specs.FreeList.{IsFreeList, IsTaken}
use Rattle.free_pages.specs.declared.free_state.FreeState.{FreeState}
use Rattle.page_io.specs.BucketPages.{IsPageOf, page_records}
use Rattle.page_model.specs.Valid.{IsOf}
use Rattle.bucket_chain.specs.Links.{link_body}
use Rattle.bucket_chain.specs.Chains.{IsChainAt, kind_behind}
use Rattle.page_io.specs.Versions.{model_version}
use Rattle.bucket_chain.specs.Records.{as_record}
use Rattle.bucket_chain.specs.Spots.{leaf_on, IsSpot}
use Rattle.std.specs.List.{AllByRecursion}
use Rattle.bucket_chain.specs.Walks.{IsFull, fits_leaf}
use Rattle.bucket_chain.specs.declared.puts.Spot.{Spot}
use Rattle.page_io.proofs.OwnNumbers.{own_is, own_same}
use Rattle.bucket_chain.proofs.Headers.{header_of}
use Rattle.bucket_chain.proofs.Added.{says_nothing, added_to, added_behind}
use Rattle.bucket_chain.proofs.SpelledPages.{added_body, fresh_body}
use Rattle.bucket_chain.proofs.StagedPages.{on_ok, if_ok, with_own, known_same, IsRewrittenAlone, AreRewritten, rewritten_alone, rewritten_next, both_rewritten}
use Rattle.bucket_chain.proofs.PutLemmas.{put_here, put_last, no_room, new_apart, apart_alone}
use Rattle.bucket_chain.proofs.KnownPages.{page_with, empty_page, none_there}
use Rattle.bucket_chain.proofs.LinkedPages.{link_linked, linked_body}
use Rattle.bucket_chain.proofs.Refusals.{walk_puts, take_puts, stage_puts, stage_puts_last, walk_has_room, few_same, few_then, few_both, few_more}
use Rattle.bucket_chain.proofs.puts.add_to_chain.Given.{Over}
use Rattle.bucket_chain.proofs.puts.add_to_chain.Goals as goal

-- the record is that of an entry
abbrev spot_for : {version : Version} {at : ℕ → Body} {head : ℕ} {r : Record} {bytes : List ℕ}
    {spot : Spot} (e : Entry) → record_of e ≡ r → IsSpot version at head r bytes spot
    → IsSpot version at head (record_of e) bytes spot
spot_for {version} {at} {head} {r} {bytes} {spot} e is found = record {
  before = found.before;
  next = found.next;
  begins = found.begins;
  numbered = found.numbered;
  passed = subst (λ (q : Record). AllByRecursion (IsFull q) found.before) (sym is) found.passed;
  link = found.link;
  room = λ room. subst (λ (q : Record). fits_leaf q (leaf_on spot bytes) ≡ true) (sym is)
      (found.room room);
  full = λ full. (
    subst (λ (q : Record). fits_leaf q (leaf_on spot bytes) ≡ false) (sym is)
        (found.full full).0,
    (found.full full).1,
  );
}

pub stage_page-requires-clause-own : goal.stage_page-requires-clause-own
stage_page-requires-clause-own g c =
    let page = c.in_ok-spot.ensures.page in
    let own = (header_of _ _ _ _ _ _ page.link).own in
    omega (
      arith,
      own_same c.add_record.new.page.bytes,
      c.add_record.ensures.header.own,
      own,
      c.in_ok-spot.ensures.known.0,
    )

pub stage_page-requires-2-clause-own : goal.stage_page-requires-2-clause-own
stage_page-requires-2-clause-own g c =
    let own : (bucket_of c.empty-last.result.bytes).own ≡ c.in_ok-taken.taken =
    ap (λ (b : Bucket). b.own) c.empty-last.ensures.says in
    omega (
      arith,
      own_same c.add_record-2.new.page.bytes,
      c.add_record-2.ensures.header.own,
      own_is c.empty-last.result.bytes,
      own,
      c.in_ok-taken.ensures.number,
    )

pub stage_page-requires-3-clause-own : goal.stage_page-requires-3-clause-own
stage_page-requires-3-clause-own g c =
    let page = c.in_ok-spot.ensures.page in
    let own = (header_of _ _ _ _ _ _ page.link).own in
    omega (
      arith,
      own_same c.set_next.new.page.bytes,
      c.set_next.ensures.own,
      own,
      c.in_ok-spot.ensures.known.0,
    )

pub stage_page-requires-clause-known : goal.stage_page-requires-clause-known
stage_page-requires-clause-known g c =
    IfSome_then _ c.version_beside-known.ensures (λ told is.
    page_with (model_version told) c.find_spot.new.page.bytes _ (as_record c.args.added)
    (subst (λ v. IsPageOf (model_version v) c.find_spot.new.page.bytes) (sym is.0)
    c.in_ok-spot.ensures.page.link.page)
    (subst (λ v. IsOf (model_version v) (as_record c.args.added)) (sym is.0)
    c.requires.of_version)
    (c.add_record.ensures.holds is.1))

pub stage_page-requires-2-clause-known : goal.stage_page-requires-2-clause-known
stage_page-requires-2-clause-known g c =
    page_with (model_version c.args.version) c.empty-last.result.bytes _ (as_record c.args.added)
    (empty_page (model_version c.args.version) _ _ _ _ c.empty-last.ensures.page
    c.empty-last.ensures.says) c.requires.of_version
    (c.add_record-2.ensures.holds (none_there _ _ _ _ _ c.empty-last.ensures.says))

pub stage_page-requires-3-clause-known : goal.stage_page-requires-3-clause-known
stage_page-requires-3-clause-known g c =
    (link_linked _ c.find_spot.new.page.bytes _ _ _ _ c.in_ok-taken.taken
    c.in_ok-spot.ensures.page.link c.set_next.ensures.page c.set_next.ensures.says).page

-- no page is told
pub returns-in_err-spot : goal.returns-in_err-spot
returns-in_err-spot g c =
    let st = g.S.PageStore in
    let told = c.in_err-spot.ensures in
    let result = c.from_residual in
    let exit = exit_is result.result c.in_err-spot.field-0.0 result.ensures.1 in
    record {
      stages = record {
        only = told.reads.only.stages_only;
        cause = cause_first _ _ exit _ _ told.reads.cause;
      };
      few = few_same _ _ 2 told.reads.only.same;
      answer = walk_puts _ _ refl _ _ exit _ _ _ told.answer;
      added = λ honest. IfOk-from_err _ _ result.ensures.0;
      keeps = record { ends = λ e. e; may_end = λ may. IfOk-from_err _ _ result.ensures.0 };
      exact = λ honest chain s placed e is held none. IfOk-from_err _ _ result.ensures.0;
      whole = λ honest chain s placed damaged.
          told.whole honest chain (subst
          (λ (n : ℕ). IsChainAt (model_version c.args.version)
          (body_at st c.args.store.now) n c.args.head chain)
          (sym (ap (λ (f : FreeState). f.file_end) placed.free_is.kept)) placed.chain_is)
          (came _ _ exit Damaged damaged);
      room = λ honest chain s placed e is fits none.
          absurd (walk_has_room _ _ told.answer (came _ _ exit NoRoom none));
    }

-- the page that the pair fits says it too
here_says : (g : Over) (c : goal.After-stage_page g)
    (honest : g.S.PageStore.honest c.args.store.now)
    (found : IsSpot (model_version c.args.version)
    (body_at g.S.PageStore c.args.store.now) c.args.head
    (as_record c.args.added) c.find_spot.new.page.bytes c.in_ok-spot.spot)
    → OnOk c.stage_page.result (IsRewrittenAlone (body_at g.S.PageStore c.args.store.now)
    (body_at g.S.PageStore c.stage_page.new.store) c.in_ok-spot.spot.page
    (link_body (kind_behind found.before) found.next
    (page_records c.find_spot.new.page.bytes ++ (as_record c.args.added) ∷ [])))
here_says g c honest found =
    let bytes = c.add_record.new.page.bytes in
    let page = c.in_ok-spot.spot.page in
    let reads = c.find_spot.ensures.reads.only in
    let h1 = reads.stages_only.honesty.1 honest in
    let number = own_same bytes ∙ c.add_record.ensures.header.own
    ∙ (header_of _ _ _ _ _ _ found.link).own in
    let body = added_body _ c.find_spot.new.page.bytes bytes page _ _
    (as_record c.args.added) found.link
    (c.in_ok-spot.ensures.page.room c.if-spot.true) c.requires.told c.add_record.ensures.spelled in
    on_ok c.stage_page.result (c.stage_page.ensures.says h1) (λ says.
    rewritten_alone g.S.PageStore c.args.store.now c.find_spot.new.store c.stage_page.new.store
    reads honest page bytes _ number body says (c.stage_page.ensures.others h1))

-- the pair fits a page
pub returns-then-spot : goal.returns-then-spot
returns-then-spot g c =
    let st = g.S.PageStore in
    let one = c.in_ok-spot.ensures.reads.only in
    let told = c.stage_page.ensures in
    record {
      stages = record {
        only = stages_then st _ _ _ (g.met.S.PageStore.counts_now c.find_spot.new.store)
            one.stages_only told.stages;
        cause = cause_stage_last _ _ _ _ _ _ _ one.stages_only.later told.faults told.answer;
      };
      few = few_more _ _ (few_then _ _ _ 1 one.same told.few);
      answer = stage_puts_last _ _ _ _ _ (ap (λ (s : StoreState). s.usable) one.same) _ _
          (few_same _ _ 1 one.same) told.answer;
      added = λ honest.
          let found = c.in_ok-spot.ensures.found honest in
          on_ok c.stage_page.result (here_says g c honest found) (λ said.
          added_to _ _ _ (MayEnd (st.state c.args.store.now) c.args.space.now.file_end)
          c.args.space.now c.args.space.now c.args.head (as_record c.args.added) _ _
          found c.if-spot.true refl said);
      keeps = record {
        ends = λ e. e;
        may_end = λ may.
            let own = (header_of _ _ _ _ _ _ c.in_ok-spot.ensures.page.link).own in
            let below = known_below _ _ _ may c.in_ok-spot.ensures.known.1 in
            let still = subst (λ (st : StoreState). MayEnd st c.args.space.now.file_end)
            (sym c.find_spot.ensures.reads.only.same) may in
            if_ok c.stage_page.result (c.stage_page.ensures.may_end c.args.space.now.file_end
            (omega (
              arith,
              own_same c.add_record.new.page.bytes,
              c.add_record.ensures.header.own,
              own,
              below,
            )) still);
      };
      exact = λ honest chain s placed e is held none.
          let found = c.in_ok-spot.ensures.found honest in
          on_ok c.stage_page.result (here_says g c honest found) (λ said.
          put_here _ _ c.args.space.now c.args.head e chain s _ _
          placed (spot_for e is found) held _ c.if-spot.true
          (said.says ∙ ap (λ (q : Record). link_body (kind_behind found.before) found.next
          (page_records c.find_spot.new.page.bytes ++ q ∷ [])) (sym is)) said.others);
      whole = λ honest chain s placed damaged.
          absurd (last_not_damaged _ _ _ _ told.answer damaged);
      room = λ honest chain s placed e is fits none. absurd
          (last_has_room _ _ _ _ told.answer none);
    }

-- no page is taken
pub returns-in_err-taken : goal.returns-in_err-taken
returns-in_err-taken g c =
    let st = g.S.PageStore in
    let told = c.in_err-taken.ensures in
    let result = c.from_residual-in_err-taken in
    let exit = exit_is result.result c.in_err-taken.field-0.0 result.ensures.1 in
    let one = c.in_ok-spot.ensures.reads.only in
    record {
      stages = record {
        only = stages_then st _ _ _ (g.met.S.PageStore.counts_now c.find_spot.new.store)
            one.stages_only told.reads.only.stages_only;
        cause = cause_then _ _ exit _ _ _ one.stages_only.later told.reads.cause;
      };
      few = few_then _ _ _ 2 one.same (few_same _ _ 2 told.reads.only.same);
      answer = take_puts _ _ (ap (λ (s : StoreState). s.usable) one.same) _ _ exit _ _
          (ap (λ (s : StoreState). s.capacity) one.same) told.answer;
      added = λ honest. IfOk-from_err _ _ result.ensures.0;
      keeps = record { ends = told.ends; may_end = λ may. IfOk-from_err _ _ result.ensures.0 };
      exact = λ honest chain s placed e is held none. IfOk-from_err _ _ result.ensures.0;
      whole = λ honest chain s placed damaged.
          let same = same_said g.S.PageStore _ _ c.find_spot.ensures.reads.only honest in
          c.in_err-taken.ensures.whole (c.find_spot.ensures.reads.only.stages_only.honesty.1
          honest) s
          (subst (λ (at : ℕ → Body). IsFreeList at c.args.space.now s) (sym same)
          placed.free_is) (apart_alone (pages_in chain) s placed.apart)
          (came _ _ exit Damaged damaged);
      room = λ honest chain s placed e is fits none.
          let full = no_room _ (body_at g.S.PageStore c.args.store.now) c.args.space.now
          c.args.head e
          chain s _ _ placed (spot_for e is (c.in_ok-spot.ensures.found honest)) c.if-spot.false in
          absurd (let e = sym fits ∙ full in cc);
    }

-- the new page is not staged
pub returns-in_err-stage_page : goal.returns-in_err-stage_page
returns-in_err-stage_page g c =
    let st = g.S.PageStore in
    let told = c.in_err-stage_page.ensures in
    let result = c.from_residual-in_err-stage_page in
    let exit = exit_is result.result c.in_err-stage_page.field-0.0 result.ensures.1 in
    let one = c.in_ok-spot.ensures.reads.only in
    let two = c.in_ok-taken.ensures.reads.only in
    let both = reads_then st _ _ _ (g.met.S.PageStore.counts_now c.find_spot.new.store) one two in
    let done = c.stage_page-2.ensures in
    record {
      stages = record {
        only = stages_then st _ _ _ (g.met.S.PageStore.counts_now c.take.new.store)
            both.stages_only told.stages;
        cause = cause_stage _ _ exit _ _ _ _ _ _ both.stages_only.later told.faults told.answer;
      };
      few = few_more _ _ (few_then _ _ _ 1 both.same told.few);
      answer = stage_puts _ _ (ap (λ (s : StoreState). s.usable) both.same) _ _ exit _ _ _ _
          (few_same _ _ 1 both.same) told.answer;
      added = λ honest. IfOk-from_err _ _ result.ensures.0;
      keeps = record {
        ends = c.in_ok-taken.ensures.ends;
        may_end = λ may. IfOk-from_err _ _ result.ensures.0;
      };
      exact = λ honest chain s placed e is held none. IfOk-from_err _ _ result.ensures.0;
      whole = λ honest chain s placed damaged.
          absurd (stage_not_damaged _ _ _ _ told.answer (came _ _ exit Damaged damaged));
      room = λ honest chain s placed e is fits none.
          absurd (stage_has_room _ _ _ _ told.answer (came _ _ exit NoRoom none));
    }

-- a page that is taken says the pair alone, and the last one names it
both_say : (g : Over) (c : goal.After-stage_page-3 g)
    (honest : g.S.PageStore.honest c.args.store.now)
    (found : IsSpot (model_version c.args.version)
    (body_at g.S.PageStore c.args.store.now) c.args.head
    (as_record c.args.added) c.find_spot.new.page.bytes c.in_ok-spot.spot)
    → OnOk c.stage_page-3.result (AreRewritten (body_at g.S.PageStore c.args.store.now)
    (body_at g.S.PageStore c.stage_page-3.new.store) c.in_ok-taken.taken
    (OverflowPage 0 ((as_record c.args.added) ∷ []))
    c.in_ok-spot.spot.page (link_body (kind_behind found.before) c.in_ok-taken.taken
    (page_records c.find_spot.new.page.bytes)))
both_say g c honest found =
    let st = g.S.PageStore in
    let new = c.in_ok-taken.taken in
    let page = c.in_ok-spot.spot.page in
    let last = c.add_record-2.new.page.bytes in
    let linked = c.set_next.new.page.bytes in
    let reads = reads_then st _ _ _ (g.met.S.PageStore.counts_now c.find_spot.new.store)
    c.in_ok-spot.ensures.reads.only c.in_ok-taken.ensures.reads.only in
    let h2 = reads.stages_only.honesty.1 honest in
    let h3 = c.stage_page-2.ensures.stages.honesty.1 h2 in
    let new_own : model.own_number last ≡ new =
    own_same last ∙ c.add_record-2.ensures.header.own ∙ sym (own_is c.empty-last.result.bytes)
    ∙ ap (λ (b : Bucket). b.own) c.empty-last.ensures.says in
    let page_own : model.own_number linked ≡ page =
    own_same linked ∙ c.set_next.ensures.own ∙ (header_of _ _ _ _ _ _ found.link).own in
    let fresh = fresh_body c.empty-last.result.bytes last new (as_record c.args.added)
    c.empty-last.ensures.page c.empty-last.ensures.says c.requires.few c.requires.told
    c.add_record-2.ensures.spelled in
    let named = linked_body _ c.find_spot.new.page.bytes linked page _ new found.before found.link
    c.set_next.ensures.page c.set_next.ensures.says in
    let one = rewritten_alone st c.args.store.now c.take.new.store c.stage_page-2.new.store reads
    honest new last _ new_own fresh (c.in_ok-stage_page.ensures.says h2)
    (c.stage_page-2.ensures.others h2) in
    on_ok c.stage_page-3.result (c.stage_page-3.ensures.says h3) (λ says.
    both_rewritten _ (body_at st c.stage_page-2.new.store) _ new page _ _ one
    (rewritten_next st c.stage_page-2.new.store c.stage_page-3.new.store page linked _ page_own
    named says (c.stage_page-3.ensures.others h3)))

-- a page is taken, and the last one names it
pub returns : goal.returns
returns g c =
    let st = g.S.PageStore in
    let one = c.in_ok-spot.ensures.reads.only in
    let two = c.in_ok-taken.ensures.reads.only in
    let both = reads_then st _ _ _ (g.met.S.PageStore.counts_now c.find_spot.new.store) one two in
    let staged = c.in_ok-stage_page.ensures in
    let told = c.stage_page-3.ensures in
    let so_far = stages_then st _ _ _ (g.met.S.PageStore.counts_now c.take.new.store)
    both.stages_only staged.stages in
    record {
      stages = record {
        only = stages_then st _ _ _ (g.met.S.PageStore.counts_now c.stage_page-2.new.store)
            so_far told.stages;
        cause = cause_stage_last _ _ _ _ _ _ _ so_far.later told.faults told.answer;
      };
      few = few_both _ _ _ (few_then _ _ _ 1 both.same staged.few) told.few;
      answer = stage_puts_last _ _ _ _ _ (ap (λ (s : StoreState). s.usable) so_far.state) _ _
          (few_then _ _ _ 1 both.same staged.few) told.answer;
      added = λ honest.
          let found = c.in_ok-spot.ensures.found honest in
          let same = same_said st _ _ one honest in
          let is_taken = subst (λ (f : ℕ → Body).
          IsTaken f c.args.space.now c.in_ok-taken.taken c.take.new.space) same
          (c.in_ok-taken.ensures.taken (one.stages_only.honesty.1 honest)) in
          on_ok c.stage_page-3.result (both_say g c honest found) (λ said.
          added_behind _ _ _ (MayEnd (st.state c.args.store.now) c.args.space.now.file_end)
          c.args.space.now c.take.new.space c.args.head (as_record c.args.added) _ _
          found c.if-spot.false _ is_taken
          (says_nothing st c.args.store.now c.args.space.now.file_end
          (g.met.S.PageStore.ends c.args.store.now)
          (g.met.S.PageStore.in_range c.args.store.now).0) said);
      keeps = record {
        ends = c.in_ok-taken.ensures.ends;
        may_end = λ may.
            let own = (header_of _ _ _ _ _ _ c.in_ok-spot.ensures.page.link).own in
            let new_own : own_number c.add_record-2.new.page.bytes ≡ c.in_ok-taken.taken =
            c.add_record-2.ensures.header.own ∙ sym (own_is c.empty-last.result.bytes)
            ∙ ap (λ (b : Bucket). b.own) c.empty-last.ensures.says in
            let found = subst (λ (st : StoreState). MayEnd st c.args.space.now.file_end)
            (sym c.find_spot.ensures.reads.only.same) may in
            let with_new = c.in_ok-taken.ensures.may_end found in
            let end = c.take.new.space.file_end in
            let staged = c.in_ok-stage_page.ensures.may_end_with end
            (with_own _ _ _ _ _ c.take.ensures.reads.only.same
            (sym (own_same c.add_record-2.new.page.bytes ∙ new_own)) with_new) in
            let known = c.stage_page-2.ensures.known c.in_ok-spot.spot.page
            (known_same _ _ _ (c.take.ensures.reads.only.same ∙ c.find_spot.ensures.reads.only.same)
            c.in_ok-spot.ensures.known.1) in
            if_ok c.stage_page-3.result (c.stage_page-3.ensures.may_end end
            (omega (
              arith,
              own_same c.set_next.new.page.bytes,
              c.set_next.ensures.own,
              own,
              known_below _ _ _ staged known,
            )) staged);
      };
      exact = λ honest chain s placed e is held none.
          let at = body_at st c.args.store.now in
          let found = c.in_ok-spot.ensures.found honest in
          let spot = spot_for e is found in
          let same = same_said st _ _ one honest in
          let taken = c.in_ok-taken.ensures.exact (one.stages_only.honesty.1 honest) s
          (subst (λ (f : ℕ → Body). IsFreeList f c.args.space.now s) (sym same) placed.free_is)
          (apart_alone (pages_in chain) s placed.apart) in
          let apart : c.in_ok-spot.spot.page ≡ c.in_ok-taken.taken → ⊥ = λ on.
          new_apart _ at c.args.space.now c.args.head e chain s _ _ placed spot held
          (sym (on ∙ taken.0)) in
          on_ok c.stage_page-3.result (both_say g c honest found) (λ said.
          put_last _ at c.args.space.now c.args.head e chain s _ c.in_ok-spot.spot placed spot
          held _
          c.in_ok-taken.taken c.take.new.space c.if-spot.false taken said.second
          (said.first apart ∙ ap (λ (r : Record). OverflowPage 0 (r ∷ [])) (sym is)) said.others);
      whole = λ honest chain s placed damaged.
          absurd (last_not_damaged _ _ _ _ told.answer damaged);
      room = λ honest chain s placed e is fits none. absurd
          (last_has_room _ _ _ _ told.answer none);
    }
