use Rattle.std.proofs.Common.{ℕ, ◌^◌, ◌<◌, List, map, refl, sym, ap, subst, ◌∙◌, arith}
use Rattle.std.proofs.lemmas.Result.{IfOk-from_err}
use Rattle.page_model.specs.Pages.{Record}
use Rattle.page_model.specs.Pages.{Meta, Body}
use Rattle.page_model.specs.PageBodies.{heads_of}
use Rattle.page_model.proofs.Ends.{kept_split}
use Rattle.page_io.specs.Store.{StoreState}
use Rattle.page_io.specs.declared.store.PageFault.TheVariants.{NoRoom, Damaged}
use Rattle.page_io.specs.Views.{body_at, MayEnd}
use Rattle.page_io.proofs.Views.{stages_then, same_said}
use Rattle.page_io.proofs.Exits.{exit_is, came, cause_first, cause_then, cause_ok}
use Rattle.seg_table.specs.MetaPages.{model_meta}
use Rattle.bucket_chain.specs.Pairs.{record_as}
use Rattle.bucket_chain.specs.Walks.{SaysAll}
use Rattle.bucket_chain.specs.AnyFile.{AreAdded}
use Rattle.bucket_chain.proofs.Added.{all_under}
use Rattle.linear_hash.specs.AnyFile.{IsExtended, head_for}
use Rattle.linear_hash.proofs.SplitPages.{all_of_version}
use Rattle.linear_hash.proofs.Refusals.{head_refused, load_refused, change_refused, no_refusal, head_has_room, load_has_room}
use Rattle.linear_hash.proofs.SplitLemmas.{heads_read, split_head, chain_then, honest_later, midway_later, refilled_later, midway_split, is_grown}
use Rattle.linear_hash.proofs.splitting.split_bucket.Goals as goal

-- the head page is not told
pub returns-in_err-head : goal.returns-in_err-head
returns-in_err-head g c =
    let st = g.S.PageStore in
    let told = c.in_err-head.ensures in
    let result = c.from_residual in
    let exit = exit_is result.result c.in_err-head.field-0.0 result.ensures.1 in
    let small : c.args.space.now.file_end < 2 ^ 32 = omega (arith, c.if-prove.false) in
    record {
      stages = record {
        only = told.reads.only.stages_only;
        cause = cause_first _ _ exit _ _ told.reads.cause;
      };
      answer = head_refused _ _ refl _ _ exit told.answer;
      grown = IfOk-from_err _ _ result.ensures.0;
      keeps = record { ends = λ e. e; may_end = λ may. IfOk-from_err _ _ result.ensures.0 };
      splits = λ honest. IfOk-from_err _ _ result.ensures.0;
      exact = λ honest p midway near. IfOk-from_err _ _ result.ensures.0;
      whole = λ honest p midway near damaged.
          c.in_err-head.ensures.whole honest (heads_of p.chains) (heads_read _ _ _ p midway small)
          (came _ _ exit Damaged damaged);
      room = λ honest p midway near none.
          absurd (head_has_room _ _ told.answer (came _ _ exit NoRoom none));
    }

-- its pairs are not read
pub returns-in_err-pairs : goal.returns-in_err-pairs
returns-in_err-pairs g c =
    let st = g.S.PageStore in
    let told = c.in_err-pairs.ensures in
    let result = c.from_residual-in_err-pairs in
    let exit = exit_is result.result c.in_err-pairs.field-0.0 result.ensures.1 in
    let one = c.in_ok-head.ensures.reads.only in
    let small : c.args.space.now.file_end < 2 ^ 32 = omega (arith, c.if-prove.false) in
    record {
      stages = record {
        only = stages_then st _ _ _ (g.met.S.PageStore.counts_now c.head_of.new.store)
            one.stages_only told.reads.only.stages_only;
        cause = cause_then _ _ exit _ _ _ one.stages_only.later told.reads.cause;
      };
      answer = load_refused _ _ (ap (λ (s : StoreState). s.usable) one.same) _ _ exit told.answer;
      grown = IfOk-from_err _ _ result.ensures.0;
      keeps = record { ends = λ e. e; may_end = λ may. IfOk-from_err _ _ result.ensures.0 };
      splits = λ honest. IfOk-from_err _ _ result.ensures.0;
      exact = λ honest p midway near. IfOk-from_err _ _ result.ensures.0;
      whole = λ honest p midway near damaged.
          let from = split_head _ _ _ p midway small _
          (c.in_ok-head.ensures.exact honest (heads_of p.chains)) in
          c.in_err-pairs.ensures.whole (one.stages_only.honesty.1 honest) _
          (chain_then g.S.PageStore _ _ _ _ p _ from one honest small midway near)
          (came _ _ exit Damaged damaged);
      room = λ honest p midway near none.
          absurd (load_has_room _ _ told.answer (came _ _ exit NoRoom none));
    }

-- no bucket is added
pub returns-in_err-new_head : goal.returns-in_err-new_head
returns-in_err-new_head g c =
    let st = g.S.PageStore in
    let told = c.in_err-new_head.ensures in
    let result = c.from_residual-in_err-new_head in
    let exit = exit_is result.result c.in_err-new_head.field-0.0 result.ensures.1 in
    let one = c.in_ok-head.ensures.reads.only in
    let two = c.in_ok-pairs.ensures.reads.only in
    let read = stages_then st _ _ _ (g.met.S.PageStore.counts_now c.head_of.new.store)
    one.stages_only two.stages_only in
    let small : c.args.space.now.file_end < 2 ^ 32 = omega (arith, c.if-prove.false) in
    record {
      stages = record {
        only = stages_then st _ _ _ (g.met.S.PageStore.counts_now c.load_all.new.store)
            read told.stages.only;
        cause = cause_then _ _ exit _ _ _ read.later told.stages.cause;
      };
      answer = change_refused _ _ (ap (λ (s : StoreState). s.usable) read.state) _ _
          exit told.answer;
      grown = IfOk-from_err _ _ result.ensures.0;
      keeps = record {
        ends = told.keeps.ends;
        may_end = λ may. IfOk-from_err _ _ result.ensures.0;
      };
      splits = λ honest. IfOk-from_err _ _ result.ensures.0;
      exact = λ honest p midway near. IfOk-from_err _ _ result.ensures.0;
      whole = λ honest p midway near damaged.
          let from = split_head _ _ _ p midway small _
          (c.in_ok-head.ensures.exact honest (heads_of p.chains)) in
          c.in_err-new_head.ensures.whole
          (honest_later st _ _ _ _ p _ from one honest small midway _ two)
          p (midway_later st _ _ _ _ p _ from one honest small midway _ two) from
          (came _ _ exit Damaged damaged);
      room = λ honest p midway near none.
          let from = split_head _ _ _ p midway small _
          (c.in_ok-head.ensures.exact honest (heads_of p.chains)) in
          let full = c.in_err-new_head.ensures.room
          (honest_later st _ _ _ _ p _ from one honest small midway _ two) p
          (midway_later st _ _ _ _ p _ from one honest small midway _ two) from
          (came _ _ exit NoRoom none) in
          omega (
            arith,
            full,
            ap (λ (s : StoreState). s.capacity) (two.same ∙ one.same),
            kept_split p,
          );
    }

-- the pairs are not put again
pub returns-in_err-refill : goal.returns-in_err-refill
returns-in_err-refill g c =
    let st = g.S.PageStore in
    let told = c.in_err-refill.ensures in
    let result = c.from_residual-in_err-refill in
    let exit = exit_is result.result c.in_err-refill.field-0.0 result.ensures.1 in
    let one = c.in_ok-head.ensures.reads.only in
    let two = c.in_ok-pairs.ensures.reads.only in
    let read = stages_then st _ _ _ (g.met.S.PageStore.counts_now c.head_of.new.store)
    one.stages_only two.stages_only in
    let three = c.in_ok-new_head.ensures.stages.only in
    let so_far = stages_then st _ _ _
    (g.met.S.PageStore.counts_now c.load_all.new.store) read three in
    let small : c.args.space.now.file_end < 2 ^ 32 = omega (arith, c.if-prove.false) in
    record {
      stages = record {
        only = stages_then st _ _ _ (g.met.S.PageStore.counts_now c.add_bucket.new.store)
            so_far told.stages.only;
        cause = cause_then _ _ exit _ _ _ so_far.later told.stages.cause;
      };
      answer = change_refused _ _ (ap (λ (s : StoreState). s.usable) so_far.state) _ _
          exit told.answer;
      grown = IfOk-from_err _ _ result.ensures.0;
      keeps = record {
        ends = λ e. told.keeps.ends (c.in_ok-new_head.ensures.keeps.ends e);
        may_end = λ may. IfOk-from_err _ _ result.ensures.0;
      };
      splits = λ honest. IfOk-from_err _ _ result.ensures.0;
      exact = λ honest p midway near. IfOk-from_err _ _ result.ensures.0;
      whole = λ honest p midway near damaged.
          let from = split_head _ _ _ p midway small _
          (c.in_ok-head.ensures.exact honest (heads_of p.chains)) in
          let again = refilled_later st _ _ _ _ p _ from one honest small midway _ two _ _ _ _ _ _
          _ near
          c.in_ok-pairs.ensures.exact c.in_ok-new_head.ensures.exact
          c.in_ok-new_head.ensures.added (ap (map record_as) c.as_slice.ensures.value) in
          c.in_err-refill.ensures.whole
          (c.in_ok-new_head.ensures.stages.only.honesty.1
          (honest_later st _ _ _ _ p _ from one honest small midway _ two)) p again
          (came _ _ exit Damaged damaged);
      room = λ honest p midway near none.
          let from = split_head _ _ _ p midway small _
          (c.in_ok-head.ensures.exact honest (heads_of p.chains)) in
          let again = refilled_later st _ _ _ _ p _ from one honest small midway _ two _ _ _ _ _ _
          _ near
          c.in_ok-pairs.ensures.exact c.in_ok-new_head.ensures.exact
          c.in_ok-new_head.ensures.added (ap (map record_as) c.as_slice.ensures.value) in
          let full = c.in_err-refill.ensures.room
          (c.in_ok-new_head.ensures.stages.only.honesty.1
          (honest_later st _ _ _ _ p _ from one honest small midway _ two)) p again
          (came _ _ exit NoRoom none) in
          let room = ap (λ (s : StoreState). s.capacity)
          (c.in_ok-new_head.ensures.stages.only.state)
          ∙ ap (λ (s : StoreState). s.capacity) (two.same ∙ one.same) in
          omega (arith, full, room);
    }

-- the bucket is split
pub returns : goal.returns
returns g c =
    let st = g.S.PageStore in
    let one = c.in_ok-head.ensures.reads.only in
    let two = c.in_ok-pairs.ensures.reads.only in
    let read = stages_then st _ _ _ (g.met.S.PageStore.counts_now c.head_of.new.store)
    one.stages_only two.stages_only in
    let three = c.in_ok-new_head.ensures.stages.only in
    let so_far = stages_then st _ _ _
    (g.met.S.PageStore.counts_now c.load_all.new.store) read three in
    let four = c.in_ok-refill.ensures in
    let all = stages_then st _ _ _ (g.met.S.PageStore.counts_now c.add_bucket.new.store)
    so_far four.stages.only in
    let small : c.args.space.now.file_end < 2 ^ 32 = omega (arith, c.if-prove.false) in
    record {
      stages = record { only = all; cause = cause_ok _ _ _ all.later };
      answer = no_refusal _ _;
      grown = is_grown _ _ _ c.in_ok-new_head.ensures.added c.grown-meta.ensures.grown refl refl;
      keeps = record {
        ends = λ e. four.keeps.ends (c.in_ok-new_head.ensures.keeps.ends e);
        may_end = λ may. four.keeps.may_end
            (c.in_ok-new_head.ensures.keeps.may_end
            (subst (λ (s : StoreState). MayEnd s c.args.space.now.file_end)
            (sym (two.same ∙ one.same)) may));
      };
      splits = λ honest.
          let h1 = one.stages_only.honesty.1 honest in
          let h2 = two.stages_only.honesty.1 h1 in
          let same1 = same_said st c.args.store.now c.head_of.new.store one honest in
          let same2 = same_said st c.head_of.new.store c.load_all.new.store two h1 in
          let m = model_meta c.args.meta.now in
          let extended = c.in_ok-new_head.ensures in
          let head = c.in_ok-head.head in
          let n = c.in_ok-new_head.new_head in
          let records = map record_as c.in_ok-pairs.pairs.items in
          let at2 = body_at st c.add_bucket.new.store in
          let at3 = body_at st c.refill.new.store in
          let middle = c.add_bucket.new.space in
          let Start = MayEnd (st.state c.args.store.now) c.args.space.now.file_end in
          let Now = MayEnd (st.state c.add_bucket.new.store) middle.file_end in
          let added = subst (λ (rs : List Record).
          AreAdded at2 at3 Now middle c.refill.new.space (head_for m.level head n) rs)
          (ap (map record_as) c.as_slice.ensures.value)
          (subst (λ (l : ℕ).
          AreAdded at2 at3 Now middle c.refill.new.space (head_for l head n)
          (map record_as c.as_slice.result.now)) (ap (λ (x : Meta). x.level) extended.added.rest)
          (four.added (extended.stages.only.honesty.1 h2))) in
          record {
            head = head;
            taken = n;
            records = records;
            entry = c.in_ok-head.ensures.entry honest;
            says = subst (λ (f : ℕ → Body). SaysAll f head records) same1
                (c.in_ok-pairs.ensures.walked h1);
            of_version = all_of_version m.bounds.version c.in_ok-pairs.pairs.items
                c.in_ok-pairs.ensures.small;
            change = record {
              mid = at2;
              between = middle;
              first = subst (λ (f : ℕ → Body). IsExtended f at2 m (model_meta c.add_bucket.new.meta)
                  c.args.space.now middle head n) (same2 ∙ same1) (extended.extends h2);
              second = all_under Now Start (λ may. extended.keeps.may_end
                  (subst (λ (s : StoreState). MayEnd s c.args.space.now.file_end)
                  (sym (two.same ∙ one.same)) may)) (head_for m.level head n) at2 middle records at3
                  c.refill.new.space added;
            };
            grown = is_grown _ _ _ extended.added c.grown-meta.ensures.grown refl refl;
          };
      exact = λ honest p midway near.
          let from = split_head _ _ _ p midway small _
          (c.in_ok-head.ensures.exact honest (heads_of p.chains)) in
          let again = refilled_later st _ _ _ _ p _ from one honest small midway _ two _ _ _ _ _ _
          _ near
          c.in_ok-pairs.ensures.exact c.in_ok-new_head.ensures.exact
          c.in_ok-new_head.ensures.added (ap (map record_as) c.as_slice.ensures.value) in
          let honest2 = honest_later st _ _ _ _ p _ from one honest small midway _ two in
          let now = c.in_ok-new_head.ensures.exact honest2 p
          (midway_later st _ _ _ _ p _ from one honest small midway _ two) from in
          let below = c.in_ok-refill.ensures.exact
          (c.in_ok-new_head.ensures.stages.only.honesty.1 honest2) p again in
          midway_split _ _ _ _ _ _ _ _ _ p _ _ midway c.in_ok-new_head.ensures.added now below
          c.grown-meta.ensures.grown refl refl;
      whole = λ honest p midway near damaged. cc;
      room = λ honest p midway near none. absurd cc;
    }
