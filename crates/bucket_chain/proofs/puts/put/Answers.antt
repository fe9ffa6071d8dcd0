use Rattle.std.proofs.Common.{◌≡◌, ◌≤◌, ℕ, List, [], true, Some, length, refl, sym, ap, ◌∙◌, arith}
use Rattle.dbm_model.specs.Pairs.{Pair, is_far}
use Rattle.page_model.specs.Chain.{Entry, pages_in, pages_long, record_with}
use Rattle.page_model.specs.PageBodies.{first_of}
use Rattle.page_model.specs.Space.{next_pages, after_takes}
use Rattle.page_model.proofs.Spaces.{length-next_pages}
use Rattle.page_io.specs.Store.{StoreState}
use Rattle.page_io.specs.Versions.{model_version}
use Rattle.page_io.specs.Views.{body_at, MayEnd}
use Rattle.page_io.specs.declared.store.PageFault.TheVariants.{NoRoom}
use Rattle.page_io.proofs.Exits.{exit_is, came}
use Rattle.bucket_chain.proofs.NearPuts.{not_far, near_count, near_put}
use Rattle.bucket_chain.proofs.FarPuts.{is_long, far_count, far_some, record_is, far_put}
use Rattle.bucket_chain.proofs.ContentPuts.{still_placed, now_held, put_behind, lacks_first, lacks_last, lacks_pair}
use Rattle.bucket_chain.proofs.PutLemmas.{apart_alone}
use Rattle.bucket_chain.proofs.StagedPages.{on_ok}
use Rattle.bucket_chain.proofs.puts.put.Given.{Over}
use Rattle.bucket_chain.proofs.puts.put.Goals as goal

pub returns-then-key-content-le-MAX_NEAR-clause-put :
    goal.returns-then-key-content-le-MAX_NEAR-clause-put
returns-then-key-content-le-MAX_NEAR-clause-put g c honest =
    let near = not_far (c.args.key.now, c.args.content.now)
    (omega (arith, c.if-key-content-le-MAX_NEAR.true)) in
    on_ok c.add_to_chain.result (c.add_to_chain.ensures.added honest) (λ added.
    near_put _ _ _ _ _ _ (c.args.key.now, c.args.content.now) near added)

pub returns-then-key-content-le-MAX_NEAR-clause-room :
    goal.returns-then-key-content-le-MAX_NEAR-clause-room
returns-then-key-content-le-MAX_NEAR-clause-room g c honest chain s placed near room none =
    c.add_to_chain.ensures.room honest chain s placed
    (record { pair = (c.args.key.now, c.args.content.now); pages = [] }) refl room none

-- the pair is far
far : (g : Over) (c : goal.After-add_to_chain-2 g)
    → is_far (c.args.key.now, c.args.content.now) ≡ true
far g c = is_long (c.args.key.now, c.args.content.now)
    (omega (arith, c.if-key-content-le-MAX_NEAR.false))

-- what is added is its record
record_there : (g : Over) (c : goal.After-add_to_chain-2 g) (pages : List ℕ)
    → c.in_ok-first.first ≡ first_of pages → 1 ≤ length pages
    → record_with (c.args.key.now, c.args.content.now) pages ≡ record {
      key = c.args.key.now;
      bytes = c.to_be_bytes.result;
      far = Some (length c.args.content.now);
    }
record_there g c pages begins some =
    record_is (c.args.key.now, c.args.content.now) pages c.in_ok-first.first some begins
    ∙ ap (λ (bytes : List ℕ). record {
      key = c.args.key.now;
      bytes = bytes;
      far = Some (length c.args.content.now);
    }) (sym c.to_be_bytes.ensures)

pub returns-clause-put : goal.returns-clause-put
returns-clause-put g c honest =
    let st = g.S.PageStore in
    let put = c.in_ok-first.ensures.put honest in
    let pair : Pair = (c.args.key.now, c.args.content.now) in
    on_ok c.add_to_chain-2.result
    (c.add_to_chain-2.ensures.added (c.put_content.ensures.stages.only.honesty.1 honest)) (λ added.
    far_put (body_at st c.args.store.now) (body_at st c.put_content.new.store)
    (body_at st c.add_to_chain-2.new.store)
    (MayEnd (st.state c.args.store.now) c.args.space.now.file_end)
    (MayEnd (st.state c.put_content.new.store) c.put_content.new.space.file_end)
    c.args.space.now c.put_content.new.space c.add_to_chain-2.new.space c.args.head pair
    (record {
      key = c.args.key.now;
      bytes = c.to_be_bytes.result;
      far = Some (length c.args.content.now);
    }) put.0 (far g c) put.2 (λ some. record_there g c put.0 put.1 some)
    (far_some (model_version c.args.version) pair c.requires (far g c))
    c.in_ok-first.ensures.keeps.may_end added)

pub returns-clause-exact : goal.returns-clause-exact
returns-clause-exact g c honest chain s placed none =
    let st = g.S.PageStore in
    let pair : Pair = (c.args.key.now, c.args.content.now) in
    let count = pages_long (length c.args.content.now) in
    let version = model_version c.args.version in
    let some = far_some version pair c.requires (far g c) in
    let put = c.in_ok-first.ensures.exact honest s placed.free_is
    (apart_alone (pages_in chain) s placed.apart) in
    let enough = far_count pair (far g c) in
    let old = body_at st c.args.store.now in
    let mid = body_at st c.put_content.new.store in
    let e : Entry = record { pair = pair; pages = next_pages count s } in
    let is = record_there g c (next_pages count s) put.begins
    (omega (arith, length-next_pages count s, some)) in
    on_ok c.add_to_chain-2.result
    (c.add_to_chain-2.ensures.exact (c.put_content.ensures.stages.only.honesty.1 honest) chain
    (after_takes count s)
    (still_placed version old mid c.args.space.now c.put_content.new.space c.args.head chain s pair
    count placed c.requires enough put.written put.left) e is
    (now_held version old mid c.args.space.now c.put_content.new.space c.args.head chain s pair
    count placed c.requires enough put.written put.left) none)
    (λ becomes. put_behind version old mid c.args.space.now c.put_content.new.space c.args.head
    chain s pair count placed c.requires enough put.written put.left _ _ becomes)

pub returns-clause-whole : goal.returns-clause-whole
returns-clause-whole g c honest chain s placed none damaged =
    let st = g.S.PageStore in
    let pair : Pair = (c.args.key.now, c.args.content.now) in
    let count = pages_long (length c.args.content.now) in
    let put = c.in_ok-first.ensures.exact honest s placed.free_is
    (apart_alone (pages_in chain) s placed.apart) in
    c.add_to_chain-2.ensures.whole (c.put_content.ensures.stages.only.honesty.1 honest) chain
    (after_takes count s)
    (still_placed (model_version c.args.version) (body_at st c.args.store.now)
    (body_at st c.put_content.new.store) c.args.space.now c.put_content.new.space c.args.head
    chain s pair count placed c.requires (far_count pair (far g c)) put.written put.left) damaged

pub returns-then-key-content-le-MAX_NEAR-clause-no_room :
    goal.returns-then-key-content-le-MAX_NEAR-clause-no_room
returns-then-key-content-le-MAX_NEAR-clause-no_room g c honest chain s placed none =
    let st = g.S.PageStore in
    let pair : Pair = (c.args.key.now, c.args.content.now) in
    let near = not_far pair (omega (arith, c.if-key-content-le-MAX_NEAR.true)) in
    let e : Entry = record { pair = pair; pages = [] } in
    let lacks = c.add_to_chain.ensures.answer.no_room none in
    lacks_pair chain s pair 0 (st.state c.args.store.now).capacity (near_count pair near)
    (lacks_last (model_version c.args.version) (body_at st c.args.store.now) c.args.space.now
    c.args.head chain s e (st.state c.args.store.now).capacity placed
    (λ room. c.add_to_chain.ensures.room honest chain s placed e refl room none) lacks.0
    (lacks.1 refl))

pub returns-in_err-first-clause-no_room : goal.returns-in_err-first-clause-no_room
returns-in_err-first-clause-no_room g c honest chain s placed none =
    let st = g.S.PageStore in
    let pair : Pair = (c.args.key.now, c.args.content.now) in
    let result = c.from_residual in
    let exit = exit_is result.result c.in_err-first.field-0.0 result.ensures.1 in
    lacks_first chain s pair (pages_long (length c.args.content.now))
    (st.state c.args.store.now).capacity
    (far_count pair (is_long pair (omega (arith, c.if-key-content-le-MAX_NEAR.false))))
    (c.in_err-first.ensures.room honest s placed.free_is
    (apart_alone (pages_in chain) s placed.apart) (came _ _ exit NoRoom none))

pub returns-clause-no_room : goal.returns-clause-no_room
returns-clause-no_room g c honest chain s placed none =
    let st = g.S.PageStore in
    let pair : Pair = (c.args.key.now, c.args.content.now) in
    let count = pages_long (length c.args.content.now) in
    let version = model_version c.args.version in
    let honest' = c.put_content.ensures.stages.only.honesty.1 honest in
    let put = c.in_ok-first.ensures.exact honest s placed.free_is
    (apart_alone (pages_in chain) s placed.apart) in
    let enough = far_count pair (far g c) in
    let mid = body_at st c.put_content.new.store in
    let e : Entry = record { pair = pair; pages = next_pages count s } in
    let is = record_there g c (next_pages count s) put.begins
    (omega (
      arith,
      length-next_pages count s,
      far_some version pair c.requires (far g c),
    )) in
    let still = still_placed version (body_at st c.args.store.now) mid c.args.space.now
    c.put_content.new.space c.args.head chain s pair count placed c.requires enough put.written
    put.left in
    let lacks = c.add_to_chain-2.ensures.answer.no_room none in
    lacks_pair chain s pair count (st.state c.args.store.now).capacity enough
    (lacks_last version mid c.put_content.new.space c.args.head chain (after_takes count s) e
    (st.state c.args.store.now).capacity still
    (λ room. c.add_to_chain-2.ensures.room honest' chain
    (after_takes count s) still e is room none)
    (omega (
      arith,
      lacks.0,
      ap (λ (x : StoreState). x.capacity) c.put_content.ensures.stages.only.state,
    )) (lacks.1 refl))
