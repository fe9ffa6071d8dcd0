-- Calls that change the file, as steps.
use Rattle.std.proofs.Common.{◌≡◌, ◌⊎◌, inl, inr, ⊎_elim, ℕ, ◌+◌, ◌≤◌, true, false, cond, Option, Some, is_some, Result, Ok, Err, refl, sym, ◌∙◌, ap, subst, arith}
use Rattle.std.specs.FinMap.{len}
use Rattle.std.specs.Option.{option_map}
use Rattle.dbm_model.specs.Bounds.{Bounds}
use Rattle.sect_dev.specs.Device.{LeavesOnly}
use Rattle.sect_dev.specs.Moments.{followed_by}
use Rattle.dbm_model.specs.Calls as model
use Rattle.page_model.specs.Valid.{meta_buckets}
use Rattle.page_model.specs.Pages.{Meta, MetaPage}
use Rattle.dbm_model.specs.Pairs.{Contents}
use Rattle.dbm_model.specs.States.{Handle, first_fault, flagged}
use Rattle.dbm_model.specs.Sizes.{home, most_taken}
use Rattle.dbm_model.specs.Steps.{Case, Changes, case_of, Answers, Suffers, IsShort, takes_memory, growth, buckets_added}
use Rattle.page_model.specs.Meaning.{said_by}
use Rattle.page_io.specs.Store.{Settled, Pages, file_of, page_of}
use Rattle.page_io.specs.Store as store
use Rattle.page_io.specs.Meaning.{FileStandsFor, ImageStandsFor}
use Rattle.page_io.specs.declared.store.PageStore.{Ghosts}
use Rattle.page_io.specs.declared.store.PageFault.{PageFault}
use Rattle.page_io.specs.declared.store.PageFault.TheVariants as page
use Rattle.page_io.proofs.Exits.{more_later}
use Rattle.dbm_fault.specs.Faults.{fault_of, fault_from}
use Rattle.page_io.specs.Committing.{Holds, IsForgotten}
use Rattle.linear_hash.specs.Holding.{StandsForEither, IsEnded, ChangesMap}
use Rattle.dbm_file.specs.Held.{Held, held_by}
use Rattle.dbm_file.specs.Passing.{model_pass}
use Rattle.dbm_file.specs.Database.{store_of, meta_kept, page_state, error_of, handle_of}
use Rattle.dbm_file.specs.Answers.{MayBeLeft, StandsForSome, Survives, IsStep}
use Rattle.dbm_file.specs.Trying.{with_fault, IsRead}
use Rattle.dbm_fault.specs.declared.fault.Fault.{Fault}
use Rattle.dbm_file.specs.declared.database.Database.{Database}
use Rattle.dbm_file.proofs.ReadSteps.{kept_first, same_parts, at_own, no_more_pages, no_more_buckets, still_buckets, still_meta, still_bounds, still_writable, still_usable, still_capacity, still_end, still_holds, still_survives, flagged_is}
use Rattle.linear_hash.proofs.Tables.{counted}

-- how a change of the file ended, with what it leaves of the error; the pass stays
pub record IsDone {S : Type 0} (s : Ghosts S) (old new : Database S s)
    (result : Result (Unit {0}) PageFault) : Type 0 where
  pub ends : IsEnded s (store_of old) (store_of new) (meta_kept old) (meta_kept new) result
  pub error_is : new.error ≡ old.error
  pub pass_is : new.pass ≡ old.pass

-- what is forgotten leaves a store as writable as it was
pub forgotten_writable : (old new : store.StoreState) (fault : PageFault) → IsForgotten old new fault
    → new.writable ≡ old.writable
forgotten_writable old new fault (inl same) = ap (λ (st : store.StoreState). st.writable) same
forgotten_writable old new fault (inr broke) = ap (λ (st : store.StoreState). st.writable) broke.1

-- and as long, with as much room
pub forgotten_room : (old new : store.StoreState) (fault : PageFault) → IsForgotten old new fault
    → (new.capacity ≡ old.capacity) × (new.end ≡ old.end)
forgotten_room old new fault (inl same) =
    (ap (λ (st : store.StoreState). st.capacity) same, ap (λ (st : store.StoreState). st.end) same)
forgotten_room old new fault (inr broke) = (
  ap (λ (st : store.StoreState). st.capacity) broke.1,
  ap (λ (st : store.StoreState). st.end) broke.1,
)

-- and over the same store
pub forgotten_base : (old new : store.StoreState) (fault : PageFault) → IsForgotten old new fault
    → new.base ≡ old.base
forgotten_base old new fault (inl same) = ap (λ (st : store.StoreState). st.base) same
forgotten_base old new fault (inr broke) = ap (λ (st : store.StoreState). st.base) broke.1

-- What is known when a change begins: the call asks for it, after no more than a read.
pub record IsAsked {S : Type 0} (s : Ghosts S) (old mid : Database S s) (map changed : Contents)
    (wanted : Bounds) (call : model.Call) (said : model.Reply) : Type 0 where
  pub read : IsRead old mid
  pub usable : (page_state old).usable ≡ true
  pub honest : s.honest (store_of old)
  pub holds : Holds s (store_of old) (meta_kept old) map
  pub rests : (x : Settled) → s.settles_to (store_of old) x
      → ImageStandsFor x map (meta_kept old).bounds
  pub falls : case_of (handle_of old map) call
      ≡ Changes said (record (handle_of old map).state { map = changed; bounds = wanted })

module _ {S : Type 0} (s : Ghosts S) {old mid : Database S s} {map changed : Contents}
    {wanted : Bounds} {call : model.Call} {said : model.Reply}
    (asked : IsAsked s old mid map changed wanted call said) where
  pub mid_honest : s.honest (store_of mid)
  mid_honest = asked.read.reads.stages_only.honesty.1 asked.honest

  pub mid_usable : (page_state mid).usable ≡ true
  mid_usable = still_usable s old mid asked.read ∙ asked.usable

  pub mid_holds : Holds s (store_of mid) (meta_kept mid) map
  mid_holds = still_holds s old mid map asked.read asked.honest asked.holds

  mid_capacity : (page_state mid).capacity ≡ (page_state old).capacity
  mid_capacity = still_capacity s old mid asked.read

  mid_end : (page_state mid).end ≡ (page_state old).end
  mid_end = still_end s old mid asked.read

  pub mid_buckets : meta_buckets (meta_kept mid) ≡ meta_buckets (meta_kept old)
  mid_buckets = still_buckets s old mid asked.read

  pub mid_pairs : (meta_kept mid).pairs ≡ len map
  mid_pairs = ap (λ (m : Meta). m.pairs) (still_meta s old mid asked.read)
      ∙ sym (counted s (store_of old) (meta_kept old) map asked.holds)

  abbrev before : Handle
  before = handle_of old map

  -- the pages that a database of its limit needs
  of_limit : (Says : ℕ → Type 0) → Says (home (meta_kept mid).bounds)
      → Says (home (meta_kept old).bounds)
  of_limit Says = subst (λ (bounds : Bounds). Says (home bounds)) (still_bounds s old mid asked.read)

  -- the pages that a store adds are those of the definitions
  pub store_growth : said ≡ model.Stored
      → (meta_kept mid).pairs + most_taken (meta_kept mid).bounds.version ≤ growth before said
  store_growth is = subst (λ (r : model.Reply).
      (meta_kept mid).pairs + most_taken (meta_kept mid).bounds.version ≤ growth before r)
      (sym is) (omega (
        arith,
        mid_pairs,
        ap (λ (b : Bounds). most_taken b.version) (still_bounds s old mid asked.read),
      ))

  pub no_growth : 0 ≤ growth before said
  no_growth = omega arith

  module _ (new : Database S s) where
    stands_still : (x : Settled) (m : Contents) → ImageStandsFor x m (meta_kept mid).bounds
        → ImageStandsFor x m (meta_kept old).bounds
    stands_still x m is = subst (λ (n : Bounds). ImageStandsFor x m n)
        (still_bounds s old mid asked.read) is

    abbrev held_after : Held
    held_after = record { map = changed; bounds = wanted }

    -- what a stop leaves is one of the two
    survives_change : (Left : Held → Type 0) → Left (held_by before.state) → Left held_after
        → LeavesOnly s.moment s.settled_since (store_of mid) (store_of new)
        (StandsForEither map (meta_kept mid).bounds changed wanted) → Survives old new Left
    survives_change Left left also change =
        followed_by s.moment s.settled_since (store_of old) (store_of mid) (store_of new)
        (StandsForSome Left)
        (StandsForEither map (meta_kept mid).bounds changed wanted)
        (still_survives s old mid map asked.read asked.honest asked.rests Left left) change
        (λ x. ⊎_elim (λ is. (held_by before.state, left, stands_still x map is))
        (λ is. (held_after, also, is)))

    -- `only` is the store's law `only_committed`
    pub changed_step : IsDone s mid new (Ok tt) → (most : ℕ) → most ≤ growth before said
        → ((page_state new).end ≡ (page_state mid).end)
        ⊎ ((page_state new).end ≤ home (meta_kept mid).bounds)
        → meta_buckets (meta_kept new)
        ≡ meta_buckets (meta_kept mid) + buckets_added before said (len changed)
        → ChangesMap s (store_of mid) (store_of new) (meta_kept mid) (meta_kept new) map changed
        wanted most (Ok tt) → ((x : Settled) → s.settles_to (store_of new) x
        → x ≡ file_of (s.committed (store_of new))) → IsStep old new before call said
    changed_step ended most few fits grown turns only =
        let usable_is = ap (λ (st : store.StoreState). st.usable) ended.ends.ok
        ∙ still_usable s old mid asked.read in
        let writable_is = ap (λ (st : store.StoreState). st.writable) ended.ends.ok
        ∙ still_writable s old mid asked.read in
        record {
          after = handle_of new changed;
          step = record {
            counts = omega (arith, asked.read.reads.stages_only.later, ended.ends.cause.later);
            capacity = ap (λ (st : store.StoreState). st.capacity) ended.ends.ok ∙ mid_capacity;
            pages = (
              omega (arith, turns.grows.0, mid_end),
              omega (arith, turns.grows.1, mid_end, few),
            );
            bounded = ⊎_elim (λ same. inl (same ∙ mid_end))
                (λ within. inr (of_limit (λ pages. (page_state new).end ≤ pages) within)) fits;
            buckets = grown ∙ ap (λ (n : ℕ). n + buckets_added before said (len changed))
                mid_buckets;
            answers = inl (subst (λ (c : Case).
                Answers before.state c said (handle_of new changed).state)
                (sym asked.falls) (
                  refl,
                  same_parts changed _ _ _ _ _ _ _ _ _ _
                      (ap model_pass (ended.pass_is ∙ asked.read.pass_is))
                      turns.bounds
                      (ap (λ (o : Option Fault). option_map fault_of o)
                      (ended.error_is ∙ asked.read.error_is)) writable_is usable_is,
                ));
          };
          is_at = at_own new changed (λ usable. turns.done)
              (λ usable x left. subst (λ (y : Settled).
              ImageStandsFor y changed (meta_kept new).bounds) (sym (only x left))
              turns.done.stands);
          survives = λ usable. survives_change (MayBeLeft before (handle_of new changed) call)
              (inl refl) (inr (inl (ap (λ (b : Bounds). record { map = changed; bounds = b })
              (sym turns.bounds)))) turns.any_moment;
        }

    -- `counts` is the store's law `counts_now`
    module _ (e : PageFault) (ended : IsDone s mid new (Err e)) (most : ℕ)
        (turns : ChangesMap s (store_of mid) (store_of new) (meta_kept mid) (meta_kept new) map
        changed wanted most (Err e))
        (counts : (t : ℕ) (x : Settled) → t ≤ (s.moment (store_of new)).at
        → s.settles_to (store_of new) x → s.settled_since (store_of new) t x) where
      abbrev after : Handle
      after = handle_of (with_fault new (fault_from e)) map

      abbrev reply : model.Reply
      reply = model.Refused (fault_of (fault_from e))

      error_is : error_of (with_fault new (fault_from e))
          ≡ first_fault (error_of old) (fault_of (fault_from e))
      error_is = ap (λ (o : Option Fault).
          option_map fault_of (cond (is_some o) o (Some (fault_from e))))
          (ended.error_is ∙ asked.read.error_is) ∙ kept_first old.error (fault_from e)

      room_is : (after.capacity ≡ before.capacity) × (after.pages ≡ before.pages)
      room_is =
          let kept = forgotten_room (page_state mid) (page_state new) e ended.ends.err.0 in
          (kept.0 ∙ mid_capacity, kept.1 ∙ mid_end)

      after_buckets : meta_buckets (meta_kept new) ≡ meta_buckets (meta_kept old)
      after_buckets = ap meta_buckets ended.ends.err.1 ∙ mid_buckets

      still_bounds_on : (meta_kept new).bounds ≡ (meta_kept mid).bounds
      still_bounds_on = ap (λ (m : Meta). m.bounds) ended.ends.err.1

      -- the store is as usable as before
      module _ (same : (page_state new).usable ≡ (page_state old).usable)
          (takes : e ≡ page.Memory → takes_memory before call ≡ true)
          (short : e ≡ page.NoRoom → IsShort before) where
        state_is : after.state ≡ flagged (fault_of (fault_from e)) before.state
        state_is = flagged_is s old new map (fault_from e)
            (ended.pass_is ∙ asked.read.pass_is)
            (still_bounds_on ∙ still_bounds s old mid asked.read)
            (ended.error_is ∙ asked.read.error_is)
            (forgotten_writable (page_state mid) (page_state new) e ended.ends.err.0
            ∙ still_writable s old mid asked.read) same

        suffers : (e ≡ page.Broken) ⊎ ((e ≡ page.Memory)
            ⊎ ((e ≡ page.NoRoom) ⊎ ((e ≡ page.Damaged) ⊎ (e ≡ page.Device))))
            → Suffers before call
            (Changes said (record before.state { map = changed; bounds = wanted })) reply after
        suffers (inl is) = let broken = ended.ends.answer.broken (ap Err is) in let was =
            mid_usable in absurd (cc)
        suffers (inr (inl is)) = inr (inr
            (inl (
              ap (λ (f : PageFault). model.Refused (fault_of (fault_from f))) is,
              state_is ∙ ap (λ (f : PageFault).
                  flagged (fault_of (fault_from f)) before.state) is,
              takes is,
            )))
        suffers (inr (inr (inl is))) =
            inr (inr (inr (
              ap (λ (f : PageFault). model.Refused (fault_of (fault_from f))) is,
              short is,
              state_is ∙ ap (λ (f : PageFault).
                  flagged (fault_of (fault_from f)) before.state) is,
            )))
        suffers (inr (inr (inr (inl is)))) = absurd (turns.whole (ap Err is))
        suffers (inr (inr (inr (inr is)))) =
            inl (
              ap (λ (f : PageFault). model.Refused (fault_of (fault_from f))) is,
              more_later _ _ _ asked.read.reads.stages_only.later
                  (ended.ends.cause.fault (ap Err is)),
              state_is ∙ ap (λ (f : PageFault).
                  flagged (fault_of (fault_from f)) before.state) is,
            )

        holds_on : (page_state new).usable ≡ true → Holds s (store_of new) (meta_kept new) map
        holds_on is =
            let pages = sym (turns.kept is).committed in
            let m = sym ended.ends.err.1 in
            record {
              stands = subst (λ (n : Meta). FileStandsFor (s.committed (store_of new)) map n.bounds)
                  m (subst (λ (ps : Pages). FileStandsFor ps map (meta_kept mid).bounds) pages
                  mid_holds.stands);
              meta_is = subst (λ (n : Meta).
                  said_by (page_of (s.committed (store_of new))) 1 ≡ MetaPage n) m
                  (subst (λ (ps : Pages). said_by (page_of ps) 1 ≡ MetaPage (meta_kept mid)) pages
                  mid_holds.meta_is);
            }

        rests_on : (page_state new).usable ≡ true → (x : Settled) → s.settles_to (store_of new) x
            → ImageStandsFor x map (meta_kept new).bounds
        rests_on is x left =
            let run = turns.unchanged is in
            subst (λ (n : Bounds). ImageStandsFor x map n) (sym still_bounds_on)
            (run.each x (counts (s.moment (store_of mid)).at x run.later left))

        unchanged_step : IsStep old (with_fault new (fault_from e)) before call reply
        unchanged_step = record {
          after = after;
          step = record {
            counts = omega (arith, asked.read.reads.stages_only.later, ended.ends.cause.later);
            capacity = room_is.0;
            pages = no_more_pages before after reply room_is.1;
            bounded = inl room_is.1;
            buckets = no_more_buckets before after reply (len map) after_buckets refl;
            answers = inr (subst (λ (c : Case). Suffers before call c reply after) (sym asked.falls)
                (suffers ended.ends.answer.only));
          };
          is_at = at_own (with_fault new (fault_from e)) map (λ is. holds_on is)
              (λ is. rests_on is);
          survives = λ was.
              followed_by s.moment s.settled_since (store_of old) (store_of mid) (store_of new)
              (StandsForSome (MayBeLeft before after call))
              (λ x. ImageStandsFor x map (meta_kept mid).bounds)
              (still_survives s old mid map asked.read asked.honest asked.rests
              (MayBeLeft before after call) (inl refl))
              (turns.unchanged (same ∙ asked.usable))
              (λ x is. (held_by before.state, inl refl, stands_still x map is));
        }

      -- the device broke it
      broken_step : e ≡ page.Device → (page_state new).usable ≡ false
          → IsStep old (with_fault new (fault_from e)) before call reply
      broken_step is broken = record {
        after = after;
        step = record {
          counts = omega (arith, asked.read.reads.stages_only.later, ended.ends.cause.later);
          capacity = room_is.0;
          pages = no_more_pages before after reply room_is.1;
          bounded = inl room_is.1;
          buckets = no_more_buckets before after reply (len map) after_buckets refl;
          answers = inr (subst (λ (c : Case). Suffers before call c reply after)
              (sym asked.falls) (inr (inl (
                ap (λ (f : PageFault). model.Refused (fault_of (fault_from f))) is,
                more_later _ _ _ asked.read.reads.stages_only.later
                    (ended.ends.cause.fault (ap Err is)),
                before.state,
                inl refl,
                same_parts map _ _ _ _ _ _ _ _ _ _
                    (ap model_pass (ended.pass_is ∙ asked.read.pass_is))
                    (still_bounds_on ∙ still_bounds s old mid asked.read)
                    (error_is ∙ ap (λ (f : PageFault).
                    first_fault (error_of old) (fault_of (fault_from f))) is)
                    (forgotten_writable (page_state mid) (page_state new) e ended.ends.err.0
                    ∙ still_writable s old mid asked.read) broken,
              ))));
        };
        is_at = at_own (with_fault new (fault_from e)) map (λ now. absurd (let x = now in cc))
            (λ now. absurd (let x = now in cc));
        survives = λ was. survives_change (MayBeLeft before after call) (inl refl)
            (inr (inr (
              broken,
              (
                said,
                record before.state { map = changed; bounds = wanted },
                asked.falls,
                refl,
              ),
            )))
            turns.any_moment;
      }

      pub refused_step : (e ≡ page.Memory → takes_memory before call ≡ true)
          → (e ≡ page.NoRoom → IsShort before)
          → IsStep old (with_fault new (fault_from e)) before call reply
      refused_step takes short = ⊎_elim (λ same.
          unchanged_step (ap (λ (st : store.StoreState). st.usable) same
          ∙ still_usable s old mid asked.read) takes short)
          (λ broke. broken_step broke.0 (ap (λ (st : store.StoreState). st.usable) broke.1))
          ended.ends.err.0
