use Rattle.std.proofs.Common.{◌∙◌, Some, sym, ap, arith}
use Rattle.bucket_chain.specs.declared.content_lookups.FoundContent.TheVariants.{Near, Far}
use Rattle.dbm_model.specs.Steps.{holds_far}
use Rattle.page_io.specs.Views.{body_at}
use Rattle.page_io.specs.declared.store.PageFault.TheVariants.{Damaged}
use Rattle.page_io.proofs.Exits.{exit_is, came}
use Rattle.linear_hash.proofs.Tables.{placed, is_table}
use Rattle.dbm_file.proofs.Searches.{found_nothing, near_content, far_key, far_content}
use Rattle.dbm_file.proofs.ContentSteps.{second, far_short, is_far_here, near_map, far_map, none_map, same_some, found_for, said_there, said_behind, said_before}
use Rattle.dbm_file.proofs.database.Database.find.Goals as goal

pub returns-in-None-clause-searched : goal.returns-in-None-clause-searched
returns-in-None-clause-searched g c honest =
    found_nothing _ _ c.args.key.now _ _ c.in-None.is (c.in_ok-found.ensures.searched honest)

pub returns-in-None-clause-exact : goal.returns-in-None-clause-exact
returns-in-None-clause-exact g c honest map h =
    let s = g.S.PageStore in
    let db = c.args.self.now in
    none_map (body_at s db.store) _ _ _
    (found_for s db.store _ map h c.args.key.now _ _
    (c.in_ok-found.ensures.exact honest (placed s db.store _ map h)
    (is_table s db.store _ map h (g.met.S.PageStore.ends db.store) db.idle))) c.in-None.is

pub returns-in-Some-Near-clause-searched : goal.returns-in-Some-Near-clause-searched
returns-in-Some-Near-clause-searched g c honest =
    near_content _ _ c.args.key.now _ _ (same_some _ c.in-Some-Near.field-0 Near c.in-Some-Near.is
    (let same = c.in-Some-Near.field-0-is in rw c.in-Some-Near.is at same)) (c.in_ok-found.ensures.searched honest)

pub returns-in-Some-Near-clause-exact : goal.returns-in-Some-Near-clause-exact
returns-in-Some-Near-clause-exact g c honest map h =
    let s = g.S.PageStore in
    let db = c.args.self.now in
    near_map (body_at s db.store) _ _ _
    (found_for s db.store _ map h c.args.key.now _ _
    (c.in_ok-found.ensures.exact honest (placed s db.store _ map h)
    (is_table s db.store _ map h (g.met.S.PageStore.ends db.store) db.idle))) (same_some _ c.in-Some-Near.field-0 Near c.in-Some-Near.is
    (let same = c.in-Some-Near.field-0-is in rw c.in-Some-Near.is at same))

pub returns-in_err-read_content-in-Some-Far-clause-memory : goal.returns-in_err-read_content-in-Some-Far-clause-memory
returns-in_err-read_content-in-Some-Far-clause-memory g c is = (
  second _ c.args.key.now _ _ _ (same_some _ c.in-Some-Far.field-0 (Far c.in-Some-Far.first c.in-Some-Far.long)
      c.in-Some-Far.is
      (let same = c.in-Some-Far.field-0-is in rw c.in-Some-Far.is at same)) c.in_ok-found.ensures.of_version,
  λ honest. far_key _ _ c.args.key.now _ _ _ _ (same_some _ c.in-Some-Far.field-0 (Far c.in-Some-Far.first c.in-Some-Far.long)
      c.in-Some-Far.is
      (let same = c.in-Some-Far.field-0-is in rw c.in-Some-Far.is at same))
      (c.in_ok-found.ensures.searched honest),
)

pub returns-in_err-read_content-in-Some-Far-clause-readable : goal.returns-in_err-read_content-in-Some-Far-clause-readable
returns-in_err-read_content-in-Some-Far-clause-readable g c can damaged =
    let s = g.S.PageStore in
    let old = c.args.self.now.store in
    let honest = can.0.0 in
    let reads = c.in_ok-found.ensures.reads.only in
    let ended = c.from_residual-in_err-read_content-in-Some-Far in
    let e = c.in_err-read_content-in-Some-Far.field-0.0 in
    let said = said_there (body_at s old) _ c.args.key.now _ _ _ _ (same_some _ c.in-Some-Far.field-0 (Far c.in-Some-Far.first c.in-Some-Far.long)
    c.in-Some-Far.is
    (let same = c.in-Some-Far.field-0-is in rw c.in-Some-Far.is at same))
    (c.in_ok-found.ensures.searched honest) can.1 in
    c.in_err-read_content-in-Some-Far.ensures.whole (reads.stages_only.honesty.1 honest) said.0 said.1
    (said_behind s old _ reads honest _ said.0 said.2)
    (came ended.result e (exit_is ended.result e ended.ensures.1) Damaged damaged)

pub returns-in_err-read_content-in-Some-Far-clause-sparing : goal.returns-in_err-read_content-in-Some-Far-clause-sparing
returns-in_err-read_content-in-Some-Far-clause-sparing g c honest map h is =
    let s = g.S.PageStore in
    let db = c.args.self.now in
    let has = far_map (body_at s db.store) _ _ _ (found_for s db.store _ map h c.args.key.now _ _
    (c.in_ok-found.ensures.exact honest (placed s db.store _ map h)
    (is_table s db.store _ map h (g.met.S.PageStore.ends db.store) db.idle))) _ _
    (same_some _ c.in-Some-Far.field-0 (Far c.in-Some-Far.first c.in-Some-Far.long)
    c.in-Some-Far.is
    (let same = c.in-Some-Far.field-0-is in rw c.in-Some-Far.is at same)) in
    ap (holds_far c.args.key.now) has.is
    ∙ is_far_here _ c.args.key.now _ _ _ (same_some _ c.in-Some-Far.field-0 (Far c.in-Some-Far.first c.in-Some-Far.long)
    c.in-Some-Far.is
    (let same = c.in-Some-Far.field-0-is in rw c.in-Some-Far.is at same)) c.in_ok-found.ensures.of_version
    has.content has.size_is

pub returns-in_err-read_content-in-Some-Far-clause-whole : goal.returns-in_err-read_content-in-Some-Far-clause-whole
returns-in_err-read_content-in-Some-Far-clause-whole g c honest map h is =
    let s = g.S.PageStore in
    let db = c.args.self.now in
    let reads = c.in_ok-found.ensures.reads.only in
    let ended = c.from_residual-in_err-read_content-in-Some-Far in
    let e = c.in_err-read_content-in-Some-Far.field-0.0 in
    let has = far_map (body_at s db.store) _ _ _ (found_for s db.store _ map h c.args.key.now _ _
    (c.in_ok-found.ensures.exact honest (placed s db.store _ map h)
    (is_table s db.store _ map h (g.met.S.PageStore.ends db.store) db.idle))) _ _
    (same_some _ c.in-Some-Far.field-0 (Far c.in-Some-Far.first c.in-Some-Far.long)
    c.in-Some-Far.is
    (let same = c.in-Some-Far.field-0-is in rw c.in-Some-Far.is at same)) in
    c.in_err-read_content-in-Some-Far.ensures.whole (reads.stages_only.honesty.1 honest) has.content
    has.size_is (said_behind s db.store _ reads honest _ has.content has.says)
    (came ended.result e (exit_is ended.result e ended.ensures.1) Damaged is)

pub returns-in_ok-read_content-in-Some-Far-clause-held : goal.returns-in_ok-read_content-in-Some-Far-clause-held
returns-in_ok-read_content-in-Some-Far-clause-held g c =
    let long = c.in_ok-read_content-in-Some-Far.ensures.length in
    omega (
      arith,
      long,
      far_short _ c.args.key.now _ _ _ (same_some _ c.in-Some-Far.field-0 (Far c.in-Some-Far.first c.in-Some-Far.long)
          c.in-Some-Far.is
          (let same = c.in-Some-Far.field-0-is in rw c.in-Some-Far.is at same)) c.in_ok-found.ensures.of_version,
    )

pub returns-in_ok-read_content-in-Some-Far-clause-searched : goal.returns-in_ok-read_content-in-Some-Far-clause-searched
returns-in_ok-read_content-in-Some-Far-clause-searched g c honest =
    let s = g.S.PageStore in
    let old = c.args.self.now.store in
    let reads = c.in_ok-found.ensures.reads.only in
    let read = c.in_ok-read_content-in-Some-Far.ensures in
    far_content (body_at s old) _ c.args.key.now _ c.read_content.new.content.items _ _ _
    (same_some _ c.in-Some-Far.field-0 (Far c.in-Some-Far.first c.in-Some-Far.long)
    c.in-Some-Far.is
    (let same = c.in-Some-Far.field-0-is in rw c.in-Some-Far.is at same)) read.length
    (said_before s old _ reads honest _ _ (read.read (reads.stages_only.honesty.1 honest)))
    (c.in_ok-found.ensures.searched honest)

pub returns-in_ok-read_content-in-Some-Far-clause-exact : goal.returns-in_ok-read_content-in-Some-Far-clause-exact
returns-in_ok-read_content-in-Some-Far-clause-exact g c honest map h =
    let s = g.S.PageStore in
    let db = c.args.self.now in
    let reads = c.in_ok-found.ensures.reads.only in
    let has = far_map (body_at s db.store) _ _ _ (found_for s db.store _ map h c.args.key.now _ _
    (c.in_ok-found.ensures.exact honest (placed s db.store _ map h)
    (is_table s db.store _ map h (g.met.S.PageStore.ends db.store) db.idle))) _ _
    (same_some _ c.in-Some-Far.field-0 (Far c.in-Some-Far.first c.in-Some-Far.long)
    c.in-Some-Far.is
    (let same = c.in-Some-Far.field-0-is in rw c.in-Some-Far.is at same)) in
    ap Some (c.in_ok-read_content-in-Some-Far.ensures.exact (reads.stages_only.honesty.1 honest) has.content
    has.size_is (said_behind s db.store _ reads honest _ has.content has.says)) ∙ sym has.is
