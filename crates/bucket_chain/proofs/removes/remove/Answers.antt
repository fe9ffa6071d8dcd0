use Rattle.std.proofs.Common.{rules, ◌≡◌, ◌≤◌, ℕ, Option, IfSome, length, refl, sym, ap, subst, arith}
use Rattle.std.proofs.lemmas.Bool.{false≢true}
use Rattle.page_model.specs.Numbers.{IsNumber}
use Rattle.page_model.specs.Pages.{Body, Other}
use Rattle.page_io.specs.Store.{StoreState}
use Rattle.page_io.specs.Versions.{model_version}
use Rattle.page_io.specs.Views.{body_at, MayEnd}
use Rattle.page_io.specs.declared.store.PageFault.TheVariants.{Damaged}
use Rattle.page_io.proofs.Exits.{exit_is, came}
use Rattle.page_io.proofs.Views.{stages_then, same_said, known_below}
use Rattle.bucket_chain.specs.Chains.{IsChainAt}
use Rattle.bucket_chain.specs.AnyFile.{IsUnlinked}
use Rattle.bucket_chain.specs.Hits.{IsHit, IsHitOrNone, IsHeldHit, pages_told}
use Rattle.bucket_chain.specs.declared.removes.Hit.{Hit}
use Rattle.bucket_chain.proofs.FoundEntries.{not_found}
use Rattle.bucket_chain.proofs.FoundHits.{emptied_no_content, taken_out, near_told, found, given_apart, given_fits, free_then, told_then, removed_then}
use Rattle.bucket_chain.proofs.Refusals.{relink_removes, no_remove_refusal}
use Rattle.bucket_chain.proofs.Removals.{unchanged}
use Rattle.bucket_chain.proofs.ToldEntries.{told_few, said_number}
use Rattle.bucket_chain.proofs.removes.remove.Goals as goal

pub returns-in_default-clause-exact : goal.returns-in_default-clause-exact
returns-in_default-clause-exact g c honest chain s placed once =
    let st = g.S.PageStore in
    let at = body_at st c.args.store.now in
    let key = c.args.key.now in
    let version = model_version c.args.version in
    let walked = subst (IsHitOrNone version at c.args.head key c.find_hit.new.page.bytes)
    c.in_default.is (c.in_ok-hit.ensures.walked honest) in
    let none = not_found version at s.end c.args.head chain key placed.chain_is walked in
    record {
      was = (λ e. absurd (false≢true e), λ some. absurd (omega (arith, some, none.0)));
      left = unchanged version at (body_at st c.find_hit.new.store) c.args.space.now c.args.head
          chain s key (same_said st _ _ c.in_ok-hit.ensures.reads.only honest) placed none.1 none.2;
    }

pub returns-in_err-emptied-clause-whole : goal.returns-in_err-emptied-clause-whole
returns-in_err-emptied-clause-whole g c honest chain s placed once damaged =
    let st = g.S.PageStore in
    let key = c.args.key.now in
    let version = model_version c.args.version in
    let reads = c.in_ok-hit.ensures.reads.only in
    let same = same_said st _ _ reads honest in
    let result = c.from_residual-in_err-emptied in
    let exit = exit_is result.result c.in_err-emptied.field-0.0 result.ensures.1 in
    let hit = subst (IsHitOrNone version (body_at st c.args.store.now) c.args.head key
    c.find_hit.new.page.bytes) c.in-Some.is (c.in_ok-hit.ensures.walked honest) in
    c.in_err-emptied.ensures.whole (reads.stages_only.honesty.1 honest) s.end c.args.head key chain
    (subst (λ (at : ℕ → Body). IsChainAt version at s.end c.args.head chain) (sym same)
    placed.chain_is)
    (subst (λ (at : ℕ → Body).
    IsHit version at c.args.head key c.find_hit.new.page.bytes c.in-Some.hit) (sym same) hit)
    (came _ _ exit Damaged damaged)

pub returns-in_err-give_back-clause-few : goal.returns-in_err-give_back-clause-few
returns-in_err-give_back-clause-few g c =
    let held = subst (λ (o : Option Hit). IfSome o (IsHeldHit (model_version c.args.version)
    (g.S.PageStore.state c.args.store.now) c.args.key.now c.find_hit.new.page.bytes)) c.in-Some.is
    c.in_ok-hit.ensures.held in
    omega (
      arith,
      c.in_err-give_back.ensures.few,
      c.in_ok-emptied.ensures.few,
      ap (λ (s : StoreState). length s.staged) c.in_ok-hit.ensures.reads.only.same,
      told_few _ _ _ _ held.page held.has.0 held.content,
    )

pub returns-in_err-give_back-clause-answer : goal.returns-in_err-give_back-clause-answer
returns-in_err-give_back-clause-answer g c =
    let st = g.S.PageStore in
    let held = subst (λ (o : Option Hit). IfSome o (IsHeldHit (model_version c.args.version)
    (st.state c.args.store.now) c.args.key.now c.find_hit.new.page.bytes)) c.in-Some.is
    c.in_ok-hit.ensures.held in
    let result = c.from_residual-in_err-give_back in
    let exit = exit_is result.result c.in_err-give_back.field-0.0 result.ensures.1 in
    let both = stages_then st _ _ _ (g.met.S.PageStore.counts_now c.find_hit.new.store)
    c.in_ok-hit.ensures.reads.only.stages_only c.in_ok-emptied.ensures.stages.only in
    relink_removes _ _ (ap (λ (s : StoreState). s.usable) both.state) _ _ exit _
    (pages_told c.in-Some.hit.content) _
    (omega (
      arith,
      c.in_ok-emptied.ensures.few,
      ap (λ (s : StoreState). length s.staged) c.in_ok-hit.ensures.reads.only.same,
      told_few _ _ _ _ held.page held.has.0 held.content,
    )) c.in_err-give_back.ensures.answer

pub returns-in_err-give_back-clause-whole : goal.returns-in_err-give_back-clause-whole
returns-in_err-give_back-clause-whole g c honest chain s placed once damaged =
    let st = g.S.PageStore in
    let key = c.args.key.now in
    let version = model_version c.args.version in
    let at = body_at st c.args.store.now in
    let mid = body_at st c.unlink.new.store in
    let bytes = c.find_hit.new.page.bytes in
    let hit = c.in-Some.hit in
    let reads = c.in_ok-hit.ensures.reads.only in
    let honest' = reads.stages_only.honesty.1 honest in
    let held = subst (λ (o : Option Hit). IfSome o (IsHeldHit version
    (st.state c.args.store.now) key bytes)) c.in-Some.is c.in_ok-hit.ensures.held in
    let is = subst (IsHitOrNone version at c.args.head key bytes) c.in-Some.is
    (c.in_ok-hit.ensures.walked honest) in
    let emptied = c.in_ok-emptied.emptied in
    let unlinked = subst (λ (f : ℕ → Body). (is : IsHit version f c.args.head key bytes hit)
    → IsUnlinked version f mid hit.slot emptied is.walked.walk.before is.walked.walk.leaf
    is.walked.walk.after) (same_said st _ _ reads honest)
    (λ is. c.in_ok-emptied.ensures.unlinked honest' c.args.head key is) is in
    let small : (n : ℕ) → 1 ≤ n → (at n ≡ Other → ⊥) → IsNumber n =
    λ n. said_number st c.args.store.now n (g.met.S.PageStore.ends c.args.store.now)
    (omega (arith, g.met.S.PageStore.in_range c.args.store.now))
    (g.met.S.PageStore.in_order c.args.store.now) in
    let result = c.from_residual-in_err-give_back in
    let exit = exit_is result.result c.in_err-give_back.field-0.0 result.ensures.1 in
    c.in_err-give_back.ensures.whole (c.in_ok-emptied.ensures.stages.only.honesty.1 honest') _ s
    (told_then version at c.args.space.now c.args.head chain s key bytes hit placed is held.content
    once mid emptied unlinked small)
    (free_then version at c.args.space.now c.args.head chain s key bytes hit placed is held.content
    once mid emptied unlinked)
    (given_apart version at c.args.space.now c.args.head chain s key bytes hit placed is
    held.content once mid emptied unlinked)
    (given_fits version at c.args.space.now c.args.head chain s key bytes hit placed is
    held.content once mid emptied unlinked)
    (came _ _ exit Damaged damaged)

pub returns-in_err-give_back-clause-sparing : goal.returns-in_err-give_back-clause-sparing
returns-in_err-give_back-clause-sparing g c honest chain s placed near =
    let st = g.S.PageStore in
    let key = c.args.key.now in
    let version = model_version c.args.version in
    let at = body_at st c.args.store.now in
    let bytes = c.find_hit.new.page.bytes in
    let held = subst (λ (o : Option Hit). IfSome o (IsHeldHit version
    (st.state c.args.store.now) key bytes)) c.in-Some.is c.in_ok-hit.ensures.held in
    let is = subst (IsHitOrNone version at c.args.head key bytes) c.in-Some.is
    (c.in_ok-hit.ensures.walked honest) in
    let none : pages_told c.in-Some.hit.content ≡ 0 =
    ap pages_told (near_told version at c.args.space.now c.args.head chain s key bytes
    c.in-Some.hit placed is held.content near) in
    let few = ap (λ (s : StoreState). length s.staged) c.in_ok-hit.ensures.reads.only.same in
    let result = c.from_residual-in_err-give_back in
    let exit = exit_is result.result c.in_err-give_back.field-0.0 result.ensures.1 in
    let both = stages_then st _ _ _ (g.met.S.PageStore.counts_now c.find_hit.new.store)
    c.in_ok-hit.ensures.reads.only.stages_only c.in_ok-emptied.ensures.stages.only in (
      relink_removes _ _ (ap (λ (s : StoreState). s.usable) both.state) _ _ exit _
          (pages_told c.in-Some.hit.content) 1
          (omega (arith, c.in_ok-emptied.ensures.few, few, none))
          c.in_err-give_back.ensures.answer,
      omega (arith, c.in_err-give_back.ensures.few, c.in_ok-emptied.ensures.few, few, none),
    )

pub returns-clause-few : goal.returns-clause-few
returns-clause-few g c =
    let held = subst (λ (o : Option Hit). IfSome o (IsHeldHit (model_version c.args.version)
    (g.S.PageStore.state c.args.store.now) c.args.key.now c.find_hit.new.page.bytes)) c.in-Some.is
    c.in_ok-hit.ensures.held in
    omega (
      arith,
      c.in_ok-give_back.ensures.few,
      c.in_ok-emptied.ensures.few,
      ap (λ (s : StoreState). length s.staged) c.in_ok-hit.ensures.reads.only.same,
      told_few _ _ _ _ held.page held.has.0 held.content,
    )

pub returns-clause-keeps : goal.returns-clause-keeps
returns-clause-keeps g c = record {
  ends = search rules;
  may_end = λ may. let st = g.S.PageStore in
      let end = c.args.space.now.file_end in
      let held = subst (λ (o : Option Hit). IfSome o (IsHeldHit (model_version c.args.version)
      (st.state c.args.store.now) c.args.key.now c.find_hit.new.page.bytes)) c.in-Some.is
      c.in_ok-hit.ensures.held in
      c.in_ok-give_back.ensures.may_end (known_below _ end _ may held.known)
      (c.in_ok-emptied.ensures.may_end end
      (subst (λ (x : StoreState). MayEnd x end) (sym c.in_ok-hit.ensures.reads.only.same) may));
}

pub returns-clause-taken_out : goal.returns-clause-taken_out
returns-clause-taken_out g c honest was =
    let st = g.S.PageStore in
    let key = c.args.key.now in
    let version = model_version c.args.version in
    let at = body_at st c.args.store.now in
    let mid = body_at st c.unlink.new.store in
    let bytes = c.find_hit.new.page.bytes in
    let hit = c.in-Some.hit in
    let reads = c.in_ok-hit.ensures.reads.only in
    let honest' = reads.stages_only.honesty.1 honest in
    let held = subst (λ (o : Option Hit). IfSome o (IsHeldHit version
    (st.state c.args.store.now) key bytes)) c.in-Some.is c.in_ok-hit.ensures.held in
    let is = subst (IsHitOrNone version at c.args.head key bytes) c.in-Some.is
    (c.in_ok-hit.ensures.walked honest) in
    let emptied = c.in_ok-emptied.emptied in
    let unlinked = subst (λ (f : ℕ → Body). (is : IsHit version f c.args.head key bytes hit)
    → IsUnlinked version f mid hit.slot emptied is.walked.walk.before is.walked.walk.leaf
    is.walked.walk.after) (same_said st _ _ reads honest)
    (λ is. c.in_ok-emptied.ensures.unlinked honest' c.args.head key is) is in
    taken_out version at mid (body_at st c.give_back.new.store) c.args.space.now
    c.give_back.new.space c.args.head key bytes hit emptied is held.content unlinked
    (c.in_ok-give_back.ensures.given (c.in_ok-emptied.ensures.stages.only.honesty.1 honest')
    (emptied_no_content version at mid c.args.head hit.slot _ _ _ hit.page emptied
    is.walked.walk.last.number is.walked.walk.are_read unlinked))

pub returns-clause-exact : goal.returns-clause-exact
returns-clause-exact g c honest chain s placed once =
    let st = g.S.PageStore in
    let key = c.args.key.now in
    let version = model_version c.args.version in
    let at = body_at st c.args.store.now in
    let mid = body_at st c.unlink.new.store in
    let bytes = c.find_hit.new.page.bytes in
    let hit = c.in-Some.hit in
    let reads = c.in_ok-hit.ensures.reads.only in
    let honest' = reads.stages_only.honesty.1 honest in
    let held = subst (λ (o : Option Hit). IfSome o (IsHeldHit version
    (st.state c.args.store.now) key bytes)) c.in-Some.is c.in_ok-hit.ensures.held in
    let is = subst (IsHitOrNone version at c.args.head key bytes) c.in-Some.is
    (c.in_ok-hit.ensures.walked honest) in
    let emptied = c.in_ok-emptied.emptied in
    let unlinked = subst (λ (f : ℕ → Body). (is : IsHit version f c.args.head key bytes hit)
    → IsUnlinked version f mid hit.slot emptied is.walked.walk.before is.walked.walk.leaf
    is.walked.walk.after) (same_said st _ _ reads honest)
    (λ is. c.in_ok-emptied.ensures.unlinked honest' c.args.head key is) is in
    let small : (n : ℕ) → 1 ≤ n → (at n ≡ Other → ⊥) → IsNumber n =
    λ n. said_number st c.args.store.now n (g.met.S.PageStore.ends c.args.store.now)
    (omega (arith, g.met.S.PageStore.in_range c.args.store.now))
    (g.met.S.PageStore.in_order c.args.store.now) in
    let there = found version at c.args.space.now c.args.head chain s key bytes hit placed is
    held.content once in
    record {
      was = (λ e. omega (arith, there.comes), λ some. refl);
      left = removed_then version at c.args.space.now c.args.head chain s key bytes hit placed is
          held.content once mid emptied unlinked (body_at st c.give_back.new.store)
          c.give_back.new.space
          (c.in_ok-give_back.ensures.exact (c.in_ok-emptied.ensures.stages.only.honesty.1 honest') _
          (emptied_no_content version at mid c.args.head hit.slot _ _ _ hit.page emptied
          is.walked.walk.last.number is.walked.walk.are_read unlinked)
          (told_then version at c.args.space.now c.args.head chain s key bytes hit placed is
          held.content once mid emptied unlinked small));
    }

pub returns-clause-sparing : goal.returns-clause-sparing
returns-clause-sparing g c honest chain s placed near =
    let st = g.S.PageStore in
    let key = c.args.key.now in
    let version = model_version c.args.version in
    let at = body_at st c.args.store.now in
    let bytes = c.find_hit.new.page.bytes in
    let held = subst (λ (o : Option Hit). IfSome o (IsHeldHit version
    (st.state c.args.store.now) key bytes)) c.in-Some.is c.in_ok-hit.ensures.held in
    let is = subst (IsHitOrNone version at c.args.head key bytes) c.in-Some.is
    (c.in_ok-hit.ensures.walked honest) in
    let none : pages_told c.in-Some.hit.content ≡ 0 =
    ap pages_told (near_told version at c.args.space.now c.args.head chain s key bytes
    c.in-Some.hit placed is held.content near) in (
      no_remove_refusal _ _ _ _,
      omega (
        arith,
        c.in_ok-give_back.ensures.few,
        c.in_ok-emptied.ensures.few,
        ap (λ (s : StoreState). length s.staged) c.in_ok-hit.ensures.reads.only.same,
        none,
      ),
    )
