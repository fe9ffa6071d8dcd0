use Rattle.std.proofs.Common.{◌≡◌, ◌+◌, ◌<◌, ◌++◌, ◌∷◌, [], length, slice_index_or, sym, ◌∙◌, ap, subst, arith, List, map, drop, take, refl, cond, is_ok, vec_len, ℕ, rules}
use Rattle.std.proofs.lemmas.List.{drop_more}
use Rattle.std.proofs.lemmas.List.Elements.{All-get_or}
use Rattle.std.specs.Prelude.{All, ◌≤◌}
use Rattle.dbm_model.specs.Bounds.{Version}
use Rattle.dbm_model.specs.Calls as model
use Rattle.dbm_file.specs.Answers.{IsSameUnder}
use Rattle.dbm_file.specs.Calls.{call_of, reply_of}
use Rattle.dbm_file.specs.Database.{store_of, meta_kept}
use Rattle.dbm_file.specs.Replies.{AreAnswered, bounds_behind}
use Rattle.dbm_file.specs.Rooms.{AreRoomsFor, longest_content}
use Rattle.dbm_file.specs.Runs.{IsRun, IsMadeInSteps}
use Rattle.dbm_file.specs.declared.calls.Call.{Call}
use Rattle.dbm_file.specs.declared.calls.Call.TheVariants.{Upgrade}
use Rattle.dbm_file.specs.declared.calls.Reply.{Reply}
use Rattle.dbm_file.specs.declared.running.Rooms.{Rooms}
use Rattle.dbm_file.proofs.Answered.{answered_next}
use Rattle.dbm_file.proofs.Runs.{all_taken, no_run, goes_on_with, step_more, taken_next, seen_next, seen_last, goes_nowhere, goes_further}
use Rattle.dbm_file.proofs.RoomCounts.{still_small}
use Rattle.dbm_file.proofs.running.run.Goals as goal

-- the rooms of the calls from the next one on
rooms_now : (longest : ℕ) (rooms : Rooms) (calls : List Call) (i : ℕ) (call : Call)
    → i < length calls → call ≡ slice_index_or calls i call
    → AreRoomsFor longest (drop i calls) rooms → AreRoomsFor longest (call ∷ drop (i + 1) calls) rooms
rooms_now longest rooms calls i call lt is there =
    subst (λ (cs : List Call). AreRoomsFor longest cs rooms)
    (drop_more calls i call lt ∙ ap (λ (x : Call). x ∷ drop (i + 1) calls) (sym is)) there

-- an upgrade among the calls has room for the longest content
most_at : (longest : ℕ) (calls : List Call) (i : ℕ) (call : Call) → i < length calls
    → call ≡ slice_index_or calls i call → All (λ c. c ≡ Upgrade → longest ≡ 65535) calls
    → call ≡ Upgrade → longest ≡ 65535
most_at longest calls i call lt is all = subst (λ (c : Call). c ≡ Upgrade → longest ≡ 65535) (sym is)
    (All-get_or (λ c. c ≡ Upgrade → longest ≡ 65535) calls i call lt all)

pub loop-call-init : goal.loop-call-init
loop-call-init g c = record {
  ran = λ honest h at.
      let db = c.args.db.now in
      subst (λ (replies : List model.Reply). IsRun db db h [] replies)
      (sym (ap (map reply_of) c.in-Ok.ensures.items))
      (no_run g.S.PageStore db h at (λ x left. g.met.S.PageStore.only_now db.store x honest left));
  stepped = λ honest h at.
      let db = c.args.db.now in
      subst (λ (replies : List model.Reply). IsMadeInSteps db db h [] replies)
      (sym (ap (map reply_of) c.in-Ok.ensures.items))
      (record { after = h; is_at = at; steps = (refl, refl) });
  answered = subst (λ (replies : List Reply). AreAnswered c.args.db.now c.args.db.now [] replies)
      (sym c.in-Ok.ensures.items) refl;
  goes = goes_nowhere c.args.db.now;
  many = c.in-Ok.ensures.len;
  fits = c.in-Ok.ensures.capacity;
  small = subst (λ (v : Version). longest_content v ≤ c.longest_in-longest.result) c.version.ensures
      c.longest_in-longest.ensures.before;
  rooms = c.in-Ok-rooms_for.ensures;
}

pub loop-call-preserved : goal.loop-call-preserved
loop-call-preserved g c =
    let calls = c.args.calls.now in
    let i = c.loop-call.call-index in
    let call = c.call-item.result in
    let so_far = c.loop-call.invariant in
    let items : c.push.new.self.items ≡ c.loop-call.replies.items ++ c.answer-reply.result ∷ [] =
    c.push.ensures.items ∙ ap (λ r.
    cond (is_ok r) (c.loop-call.replies.items ++ c.answer-reply.result ∷ [])
    c.loop-call.replies.items) c.unwrap.ensures in
    record {
      ran = λ honest h at.
          let run = so_far.ran honest h at in
          goes_on_with g.S.PageStore c.args.db.now c.loop-call.db c.answer-reply.new.db h _ _
          (call_of call) (reply_of c.answer-reply.result)
          c.answer-reply.ensures.goes run
          (c.answer-reply.ensures.step (so_far.goes.honesty.1 honest) run.after run.is_at)
          (λ t x le left. g.met.S.PageStore.counts_now (store_of c.answer-reply.new.db) t x
          (c.answer-reply.ensures.goes.honesty.1 (so_far.goes.honesty.1 honest)) le left) _
          _
          (seen_next call_of calls i call c.loop-call-test.true c.call-item.is)
          (seen_last reply_of c.loop-call.replies.items c.push.new.self.items
          c.answer-reply.result items);
      stepped = λ honest h at.
          let made = so_far.stepped honest h at in
          step_more g.S.PageStore c.args.db.now c.loop-call.db c.answer-reply.new.db h _ _ _ _
          (call_of call) (reply_of c.answer-reply.result) made
          (c.answer-reply.ensures.step (so_far.goes.honesty.1 honest) made.after made.is_at)
          (seen_next call_of calls i call c.loop-call-test.true c.call-item.is)
          (seen_last reply_of c.loop-call.replies.items c.push.new.self.items
          c.answer-reply.result items);
      answered =
          subst (λ (cs : List Call). AreAnswered c.args.db.now c.answer-reply.new.db cs
          c.push.new.self.items) (sym (taken_next calls i call c.loop-call-test.true
          c.call-item.is))
          (subst (λ (rs : List Reply). AreAnswered c.args.db.now c.answer-reply.new.db
          (take i calls ++ call ∷ []) rs) (sym items)
          (answered_next c.args.db.now c.loop-call.db c.answer-reply.new.db (take i calls)
          c.loop-call.replies.items call c.answer-reply.result so_far.answered
          c.answer-reply.ensures.answered));
      goes = goes_further c.args.db.now c.loop-call.db c.answer-reply.new.db (take i calls)
          (take (i + 1) calls) c.loop-call.replies.items c.push.new.self.items call
          c.answer-reply.result so_far.answered so_far.goes c.answer-reply.ensures.goes
          (taken_next calls i call c.loop-call-test.true c.call-item.is) items;
      many = c.push.ensures.len ∙ ap
          (λ r. cond (is_ok r) (vec_len c.loop-call.replies + 1) (vec_len c.loop-call.replies))
          c.unwrap.ensures ∙ ap (λ (n : ℕ). n + 1) so_far.many;
      fits = omega (arith, c.push.ensures.capacity);
      small = still_small c.longest_in-longest.result _ _ c.answer-reply.result so_far.small call
          c.answer-reply.ensures.goes.bounds
          (most_at c.longest_in-longest.result calls i call c.loop-call-test.true c.call-item.is
          c.longest_in-longest.ensures.behind);
      rooms = c.answer-reply.ensures.rooms (drop (i + 1) calls) c.longest_in-longest.result
          (rooms_now _ _ calls i call c.loop-call-test.true c.call-item.is so_far.rooms);
    }

pub answer-reply-requires : goal.answer-reply-requires
answer-reply-requires g c = (
  drop (c.loop-call.call-index + 1) c.args.calls.now,
  c.longest_in-longest.result,
  c.loop-call.invariant.small,
  rooms_now _ _ c.args.calls.now c.loop-call.call-index c.call-item.result c.loop-call-test.true
      c.call-item.is c.loop-call.invariant.rooms,
)

pub returns-clause-run : goal.returns-clause-run
returns-clause-run g c honest h at =
    subst (λ (calls : List Call).
    IsRun c.args.db.now c.loop-call.db h (map call_of calls)
    (map reply_of c.loop-call.replies.items))
    (all_taken c.args.calls.now c.loop-call.call-index (omega (arith, c.loop-call-test.false)))
    (c.loop-call.invariant.ran honest h at)

pub returns-clause-steps : goal.returns-clause-steps
returns-clause-steps g c honest h at =
    subst (λ (calls : List Call).
    IsMadeInSteps c.args.db.now c.loop-call.db h (map call_of calls)
    (map reply_of c.loop-call.replies.items))
    (all_taken c.args.calls.now c.loop-call.call-index (omega (arith, c.loop-call-test.false)))
    (c.loop-call.invariant.stepped honest h at)

pub returns-clause-answers : goal.returns-clause-answers
returns-clause-answers g c =
    subst (λ (calls : List Call).
    AreAnswered c.args.db.now c.loop-call.db calls c.loop-call.replies.items)
    (all_taken c.args.calls.now c.loop-call.call-index (omega (arith, c.loop-call-test.false)))
    c.loop-call.invariant.answered

pub returns-clause-goes : goal.returns-clause-goes
returns-clause-goes g c =
    subst (λ (calls : List Call).
    IsSameUnder (bounds_behind (meta_kept c.args.db.now).bounds calls c.loop-call.replies.items)
    c.args.db.now c.loop-call.db)
    (all_taken c.args.calls.now c.loop-call.call-index (omega (arith, c.loop-call-test.false)))
    c.loop-call.invariant.goes

pub returns-clause-one_each : goal.returns-clause-one_each
returns-clause-one_each g c = search rules
