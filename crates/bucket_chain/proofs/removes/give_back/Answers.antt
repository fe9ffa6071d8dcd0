use Rattle.page_io.specs.Views.{body_at}
use Rattle.free_pages.specs.Giving.{AreGiven}
use Rattle.bucket_chain.specs.AnyFile.{IsNoContent}
use Rattle.bucket_chain.proofs.Givings.{none_is, AreToldGiven, told_given, told_none, told_those, told_apart, back_kept, given_more}
use Rattle.bucket_chain.proofs.removes.give_back.Given.{Over}
use Rattle.bucket_chain.proofs.removes.give_back.Goals as goal
use Rattle.bucket_chain.proofs.removes.give_back.Goals.{in-Some+in_ok-give_content, in_default}

-- the pages of the content were given
content_first : (g : Over) (c : goal.In_ok-give g) → g.S.PageStore.honest c.args.store.now
    → AreToldGiven (body_at g.S.PageStore c.args.store.now)
    (body_at g.S.PageStore c.match-hit.store) c.args.space.now c.match-hit.space c.args.hit.content
content_first g c honest =
    elim c.match-hit.branch [
      | in-Some+in_ok-give_content w ↦ rw (w.store-is, w.space-is)
          (told_given _ _ _ _ _ _ _ w.in-Some.is (w.in_ok-give_content.ensures.given honest))
      | in_default w ↦ rw (w.store-is, w.space-is)
          (told_none _ _ _ (none_is c.args.hit.content w.in_default.not-Some))
    ]

still : (g : Over) (c : goal.In_ok-give g) → g.S.PageStore.honest c.args.store.now
    → g.S.PageStore.honest c.match-hit.store
still g c honest =
    elim c.match-hit.branch [
      | in-Some+in_ok-give_content w ↦ rw (w.store-is)
          (w.in_ok-give_content.ensures.stages.only.honesty.1 honest)
      | in_default w ↦ rw (w.store-is) honest
    ]

pub returns-in_ok-give-clause-given : goal.returns-in_ok-give-clause-given
returns-in_ok-give-clause-given g c honest not =
    let so_far = content_first g c honest in
    let told = c.in_ok-give.ensures in
    let now = still g c honest in
    let no : IsNoContent (body_at g.S.PageStore c.args.store.now c.args.hit.page) =
    not c.if-emptied.true in
    let given = given_more _ _ _ _ _ _ _ c.args.hit.page so_far.given
    (told_apart _ _ _ _ so_far.are no) (told.free now) (told.others now) told.ok
    (told.exact now) in
    rw (c.if-emptied.true) record {
      content = so_far.pages;
      content_is = so_far.are;
      given = given;
    }

pub returns-in_ok-give-clause-exact : goal.returns-in_ok-give-clause-exact
returns-in_ok-give-clause-exact g c honest pages not are =
    let told = c.in_ok-give.ensures in
    let now = still g c honest in
    let no : IsNoContent (body_at g.S.PageStore c.args.store.now c.args.hit.page) =
    not c.if-emptied.true in
    let first : AreGiven (body_at g.S.PageStore c.args.store.now)
    (body_at g.S.PageStore c.match-hit.store) c.args.space.now c.match-hit.space pages =
    elim c.match-hit.branch [
      | in-Some+in_ok-give_content w ↦ rw (w.store-is, w.space-is)
          (w.in_ok-give_content.ensures.exact honest pages (let a = rw (w.in-Some.is) at are in a))
      | in_default w ↦ rw (w.store-is, w.space-is)
          (told_those _ _ _ pages (none_is c.args.hit.content w.in_default.not-Some) are)
    ] in
    rw (c.if-emptied.true) (given_more _ _ _ _ _ _ pages c.args.hit.page first
    (told_apart _ _ pages _ are no) (told.free now) (told.others now) told.ok (told.exact now))

pub returns-else-emptied-clause-given : goal.returns-else-emptied-clause-given
returns-else-emptied-clause-given g c honest not =
    let so_far : AreToldGiven (body_at g.S.PageStore c.args.store.now)
    (body_at g.S.PageStore c.match-hit.store) c.args.space.now c.match-hit.space
    c.args.hit.content =
    elim c.match-hit.branch [
      | in-Some+in_ok-give_content w ↦ rw (w.store-is, w.space-is)
          (told_given _ _ _ _ _ _ _ w.in-Some.is (w.in_ok-give_content.ensures.given honest))
      | in_default w ↦ rw (w.store-is, w.space-is)
          (told_none _ _ _ (none_is c.args.hit.content w.in_default.not-Some))
    ] in
    rw (c.if-emptied.false) (back_kept _ _ _ _ _ c.args.hit.page so_far)
