use Rattle.std.proofs.Common.{◌∙◌, ℕ, ◌≤◌, List, length, None, Some, Err, inl, refl, sym, ap, subst}
use Rattle.dbm_model.specs.Bounds.{Bounds}
use Rattle.dbm_model.specs.Calls.{Fetch, NoRecord}
use Rattle.page_io.specs.Views.{body_at}
use Rattle.dbm_file.specs.Database.{meta_kept}
use Rattle.dbm_file.specs.Fetching.{content_in}
use Rattle.dbm_file.specs.Rooms.{longest_content}
use Rattle.dbm_file.specs.declared.database.Found.TheVariants.{Far}
use Rattle.dbm_file.proofs.Cases.{broken_fetch}
use Rattle.dbm_file.proofs.ContentSteps.{near_short, found_in}
use Rattle.dbm_file.proofs.FetchSteps.{fetched_well, fetch_failed, met_damage, met_want, only_these, load_faults}
use Rattle.dbm_file.proofs.Lends.{lends_broken, lends_nothing}
use Rattle.dbm_file.proofs.ReadSteps.{not_broken, still_bounds}
use Rattle.dbm_file.proofs.Searches.{nothing_searched, searched_content}
use Rattle.dbm_file.proofs.database.Database.fetch.Goals as goal

pub returns-then-is_broken : goal.returns-then-is_broken
returns-then-is_broken g c =
    let answer = c.refuse.ensures.answer in (
      (
        refl,
        (λ _. tt),
        lends_broken g.S.PageStore c.args.self.now (Fetch c.args.key.now) NoRecord _
            _ _ c.refuse.new.error _ c.refuse.ensures.flag c.refuse.result answer refl
            (c.is_broken.ensures.0 c.if-is_broken.true)
            (λ h broken. broken_fetch h c.args.key.now broken),
      ),
      record {
        after = tt;
        short = lends_nothing _ c.refuse.result _ answer;
        searched =
            nothing_searched _ c.refuse.result _ answer;
        readable = λ can damaged. let both = sym answer ∙ damaged in cc;
        memory = λ is. absurd (let both = sym answer ∙ is in cc);
        far = λ is. absurd (let both = sym answer ∙ is in cc);
        only =
            only_these c.refuse.result _ answer (inl refl);
      },
    )

pub returns-in-Ok-None : goal.returns-in-Ok-None
returns-in-Ok-None g c =
    let s = g.S.PageStore in
    let db = c.args.self.now in
    let new = c.find.new.self in
    let key = c.args.key.now in
    let all = c.in-Ok-None.ensures in
    let is = ap (content_in new) c.in-Ok-None.field-0-is in
    let usable = not_broken _ _ c.is_broken.ensures c.if-is_broken.false in (
      (
        refl,
        (λ _. tt),
        fetched_well s db new key None all.reads usable
            (λ honest map h. sym is ∙ all.exact honest map h),
      ),
      record {
        after = tt;
        short = tt;
        searched = λ honest. searched_content (body_at s db.store) _ key _ _ is
            (all.searched honest);
        readable = λ can damaged. cc;
        memory = λ lacks. absurd (let e = lacks in cc);
        far = λ lacks. absurd (let e = lacks in cc);
        only = tt;
      },
    )

pub returns-in-Ok-Some-Near : goal.returns-in-Ok-Some-Near
returns-in-Ok-Some-Near g c =
    let s = g.S.PageStore in
    let db = c.args.self.now in
    let new = c.find.new.self in
    let key = c.args.key.now in
    let found = c.in-Ok-Some-Near in
    let all = found.ensures in
    let bytes = sym c.as_slice.ensures.value in
    let there = found.field-0-is ∙ ap Some found.field-0-0-is in
    let is = ap (content_in new) there ∙ ap Some bytes in
    let short = near_short (meta_kept new).bounds.version c.as_slice.result.now c.as_slice.ensures.fits in
    let usable = not_broken _ _ c.is_broken.ensures c.if-is_broken.false in (
      (
        refl,
        (λ _. tt),
        fetched_well s db new key (Some c.as_slice.result) all.reads usable
            (λ honest map h. sym is ∙ all.exact honest map h),
      ),
      record {
        after = tt;
        short = subst (λ (b : Bounds). length c.as_slice.result.now ≤ longest_content b.version)
            (still_bounds s db new all.reads) short;
        searched = λ honest. searched_content (body_at s db.store) _ key _ _ is
            (all.searched honest);
        readable = λ can damaged. cc;
        memory = λ lacks. absurd (let e = lacks in cc);
        far = λ lacks. absurd (let e = lacks in cc);
        only = tt;
      },
    )

pub returns-in-Ok-Some-Far : goal.returns-in-Ok-Some-Far
returns-in-Ok-Some-Far g c =
    let s = g.S.PageStore in
    let db = c.args.self.now in
    let new = c.find.new.self in
    let key = c.args.key.now in
    let found = c.in-Ok-Some-Far in
    let all = found.ensures in
    let bytes = sym c.as_slice-in-Ok-Some-Far.ensures.value in
    let there = found.field-0-is ∙ ap Some found.field-0-0-is in
    let is = ap (content_in new) there ∙ ap Some bytes in
    let short = found_in new found.field-0 Far there all.held in
    let usable = not_broken _ _ c.is_broken.ensures c.if-is_broken.false in (
      (
        refl,
        (λ _. tt),
        fetched_well s db new key (Some c.as_slice-in-Ok-Some-Far.result) all.reads usable
            (λ honest map h. sym is ∙ all.exact honest map h),
      ),
      record {
        after = tt;
        short = subst (λ (b : Bounds). length c.as_slice-in-Ok-Some-Far.result.now ≤ longest_content b.version)
            (still_bounds s db new all.reads)
            (subst (λ (l : List ℕ). length l ≤ longest_content (meta_kept new).bounds.version) bytes
            short);
        searched = λ honest. searched_content (body_at s db.store) _ key _ _ is
            (all.searched honest);
        readable = λ can damaged. cc;
        memory = λ lacks. absurd (let e = lacks in cc);
        far = λ lacks. absurd (let e = lacks in cc);
        only = tt;
      },
    )

pub returns-in-Err : goal.returns-in-Err
returns-in-Err g c =
    let s = g.S.PageStore in
    let db = c.args.self.now in
    let usable = not_broken _ _ c.is_broken.ensures c.if-is_broken.false in
    let answer = c.refuse-in-Err.ensures.answer in
    let all = c.in-Err.ensures in
    let fault = c.from.result in (
      (
        refl,
        (λ _. tt),
        fetch_failed s c.find.new.self c.args.key.now _ _ _ c.refuse-in-Err.new.error fault
            c.refuse-in-Err.ensures.flag c.refuse-in-Err.result answer db c.in-Err.fault all.reads
            c.from.ensures usable all.answer all.cause (λ honest map h. all.whole honest map h)
            (λ honest map h. all.sparing honest map h),
      ),
      record {
        after = tt;
        short = lends_nothing _ c.refuse-in-Err.result fault answer;
        searched = nothing_searched _ c.refuse-in-Err.result fault answer;
        readable = λ can damaged. all.readable can
            (ap Err (met_damage c.refuse-in-Err.result c.in-Err.fault fault answer
            c.from.ensures damaged));
        memory = λ lacks. (all.memory (ap Err (met_want c.refuse-in-Err.result c.in-Err.fault
            fault answer c.from.ensures lacks))).0;
        far = λ lacks. (all.memory (ap Err (met_want c.refuse-in-Err.result c.in-Err.fault fault
            answer c.from.ensures lacks))).1;
        only =
            only_these c.refuse-in-Err.result fault answer
            (load_faults c.in-Err.fault fault c.from.ensures all.answer.only);
      },
    )
