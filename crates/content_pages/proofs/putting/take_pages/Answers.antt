use Rattle.std.proofs.Common.{◌≡◌, ◌==◌, [], ◌∷◌, ◌≤◌, ◌≢◌, ℕ, length, AllPairs, sym, ap, subst, ◌∙◌, arith}
use Rattle.std.specs.List.{AllByRecursion, list_any}
use Rattle.std.proofs.lemmas.List.{length_push}
use Rattle.page_model.specs.Pages.{Body}
use Rattle.page_model.specs.Space.{after_takes}
use Rattle.page_model.proofs.Chains.{AllByRecursion-append}
use Rattle.page_io.specs.Store.{StoreState}
use Rattle.page_io.specs.declared.store.PageFault.TheVariants.{NoRoom}
use Rattle.page_io.proofs.Exits.{exit_is, came}
use Rattle.free_pages.specs.declared.free_state.FreeState.{FreeState}
use Rattle.page_io.specs.Views.{body_at}
use Rattle.page_io.proofs.Views.{reads_then, same_said}
use Rattle.free_pages.specs.FreeList.{IsFreeList, IsTaken}
use Rattle.free_pages.specs.Giving.{AreTaken}
use Rattle.content_pages.specs.Staging.{MayEndWithAll}
use Rattle.content_pages.proofs.ContentTakes.{ends_later, distinct_more, taken_more, IsPlaced, may_end_more, left_alone, next_goes_on, not_twice}
use Rattle.content_pages.proofs.putting.take_pages.Goals as goal

pub loop-page-preserved : goal.loop-page-preserved
loop-page-preserved g c =
    let st = g.S.PageStore in
    let so_far = c.loop-page.invariant in
    let told = c.in_ok-n.ensures in
    let n = c.in_ok-n.n in
    let pages = c.loop-page.pages.items in
    let grown = c.push.ensures.items in
    let listed : c.contains.result ≡ list_any (λ m. m == c.in_ok-n.n) c.loop-page.pages.items =
    c.contains.ensures.value ∙ ap (list_any (λ m. m == c.in_ok-n.n)) c.deref.ensures.0 in
    record {
      reads = reads_then st _ _ _ (g.met.S.PageStore.counts_now c.loop-page.store) so_far.reads
          told.reads.only;
      many = omega (arith, ap length grown, length_push pages n, so_far.many);
      numbered = subst (AllByRecursion (λ m. 1 ≤ m)) (sym grown)
          (AllByRecursion-append (λ m. 1 ≤ m) pages (n ∷ []) so_far.numbered (told.number, tt));
      distinct = subst (AllPairs (λ m k. m ≢ k)) (sym grown)
          (distinct_more pages n (sym listed ∙ c.if-contains.false) so_far.distinct);
      taken = λ honest.
          let h1 = so_far.reads.stages_only.honesty.1 honest in
          let same = same_said st _ _ so_far.reads honest in
          let at = body_at st c.args.store.now in
          subst (λ ns. AreTaken at c.args.space.now ns c.take.new.space) (sym grown)
          (taken_more at c.args.space.now c.loop-page.space c.take.new.space pages n
          (so_far.taken honest)
          (subst (λ (f : ℕ → Body). IsTaken f c.loop-page.space n c.take.new.space) same
          (told.taken h1)));
      grown = omega (arith, so_far.grown, told.grown);
      ends = λ ends. told.ends (so_far.ends ends);
      may_end = λ may.
          let state = st.state c.args.store.now in
          subst (λ ns. MayEndWithAll state ns c.take.new.space.file_end) (sym grown)
          (may_end_more state pages n c.loop-page.space.file_end c.take.new.space.file_end
          (so_far.may_end may)
          (subst (λ (s : StoreState). IsPlaced s n c.loop-page.space.file_end
          c.take.new.space.file_end) so_far.reads.same told.place));
      exact = λ honest s list apart.
          let h1 = so_far.reads.stages_only.honesty.1 honest in
          let same = same_said st _ _ so_far.reads honest in
          let before = so_far.exact honest s list apart in
          let now = after_takes c.loop-page._page s in
          let taken = told.exact h1 now
          (subst (λ (f : ℕ → Body). IsFreeList f c.loop-page.space now) (sym same) before.list)
          (left_alone pages now before.apart) in
          next_goes_on (body_at st c.args.store.now) s c.loop-page._page pages
          c.push.new.self.items c.loop-page.space c.take.new.space n before taken.0 taken.1 grown;
    }

-- none is taken twice
pub returns-then-contains-clause-whole : goal.returns-then-contains-clause-whole
returns-then-contains-clause-whole g c honest s list apart damaged =
    let st = g.S.PageStore in
    let so_far = c.loop-page.invariant in
    let told = c.in_ok-n.ensures in
    let h1 = so_far.reads.stages_only.honesty.1 honest in
    let same = same_said st _ _ so_far.reads honest in
    let before = so_far.exact honest s list apart in
    let now = after_takes c.loop-page._page s in
    let taken = told.exact h1 now
    (subst (λ (f : ℕ → Body). IsFreeList f c.loop-page.space now) (sym same) before.list)
    (left_alone c.loop-page.pages.items now before.apart) in
    let listed : c.contains.result ≡ list_any (λ m. m == c.in_ok-n.n) c.loop-page.pages.items =
    c.contains.ensures.value ∙ ap (list_any (λ m. m == c.in_ok-n.n)) c.deref.ensures.0 in
    not_twice (body_at st c.args.store.now) s c.loop-page._page c.loop-page.pages.items
    c.loop-page.space c.in_ok-n.n before taken.0 (sym listed ∙ c.if-contains.true)

-- no page is free then, and the next one would stand behind the device's end
pub returns-in_err-n-clause-room : goal.returns-in_err-n-clause-room
returns-in_err-n-clause-room g c honest s list apart none =
    let so_far = c.loop-page.invariant in
    let before = so_far.exact honest s list apart in
    let exit = exit_is c.from_residual.result c.in_err-n.field-0.0 c.from_residual.ensures.1 in
    let short = c.in_err-n.ensures.answer.no_room.0 (came _ _ exit NoRoom none) in
    omega (
      arith,
      ap (λ (state : StoreState). state.capacity) so_far.reads.same,
      short.3,
      ap (λ (f : FreeState). f.file_end) before.list.kept,
      ends_later c.loop-page._page c.args.count s (omega arith)
          (sym (ap (λ (f : FreeState). f.count) before.list.kept) ∙ short.1),
    )
