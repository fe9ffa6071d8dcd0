use Rattle.std.proofs.Common.{◌<◌, ◌≤◌, ◌+◌, ◌^◌, ℕ, List, [], length, get_or, inr, refl, sym, ◌∙◌, ap, subst, arith}
use Rattle.std.proofs.lemmas.List.{length-map}
use Rattle.page_io.specs.Page.{own_number}
use Rattle.page_io.specs.Store.{file_of, are_in_order, bytes_of, overlaid, page_of}
use Rattle.page_io.proofs.Memory.{state_is, capacity_fits}
use Rattle.page_io.proofs.MemoryAnswers.{fits_answer, full_answer, lacks_room, end_within}
use Rattle.page_io.proofs.Overlays.{same_file}
use Rattle.page_io.proofs.StagedPages.{order_below, in_range, replaced}
use Rattle.page_io.specs.declared.page.Page.{Page}
use Rattle.page_io.proofs.mem_pages.MemPagesPageStore.commit.Goals as goal

-- ---- there is room

pub returns-clause-answer : goal.returns-clause-answer
returns-clause-answer c =
    let staged = c.args.self.now.staged in
    fits_answer _ c.args.new_end refl refl tt
    (λ lacks. omega (
      arith,
      length-map staged.items (λ (p : Page). p.bytes),
      c.len.ensures.value,
      lacks,
    ))

pub lay-requires : goal.lay-requires
lay-requires c =
    let old = c.args.self.now in
    let staged = old.staged.items in
    let fits : c.args.new_end ≤ length old.pages.items + 1 =
    end_within _ _ _ _ _ _ _ _ c.saturating_sub-room.ensures c.capacity.ensures c.max.ensures
    (c.len.ensures.value ∙ sym (length-map old.staged.items (λ (p : Page). p.bytes)))
    c.if-len-room.false
    c.requires.some in
    let order = order_below 1 4294967296 c.args.new_end (bytes_of staged) old.order
    c.requires.below in
    subst (λ (ps : List Page). (k : ℕ) → k < length ps
    → (1 ≤ own_number (get_or (bytes_of ps) k []))
    × (own_number (get_or (bytes_of ps) k []) ≤ length old.pages.items))
    (sym c.as_slice.ensures)
    (λ k lt.
    let both = in_range 1 c.args.new_end (bytes_of staged) k order
    (omega (arith, lt, length-map staged (λ (p : Page). p.bytes))) in
    (both.0, omega (arith, both.1, fits)))

pub returns-clause-committed : goal.returns-clause-committed
returns-clause-committed c honest =
    let old = c.args.self.now in
    let end = c.args.new_end in
    let home = page_of (bytes_of old.pages.items) in
    let fits : c.args.new_end ≤ length old.pages.items + 1 =
    end_within _ _ _ _ _ _ _ _ c.saturating_sub-room.ensures c.capacity.ensures c.max.ensures
    (c.len.ensures.value ∙ sym (length-map old.staged.items (λ (p : Page). p.bytes)))
    c.if-len-room.false
    c.requires.some in
    same_file (page_of (bytes_of c.lay.new.pages.items))
    (overlaid (bytes_of old.staged.items) home) end
    (λ n ge lt. c.lay.ensures.laid n ge (omega (arith, lt, fits))
    ∙ ap (λ (ps : List Page). overlaid (bytes_of ps) home n) c.as_slice.ensures)
    ∙ replaced home old.end end (bytes_of old.staged.items) c.requires.grown

pub returns-clause-any_moment : goal.returns-clause-any_moment
returns-clause-any_moment c honest usable writable =
    let same = returns-clause-committed c honest in
    record {
      later = omega arith;
      until = omega arith;
      each = λ y s. inr (s ∙ ap file_of same);
      before = λ t y le s. inr (inr (s ∙ ap file_of same));
    }

pub invariant_of-self-2 : goal.invariant_of-self-2
invariant_of-self-2 c =
    let old = c.args.self.now in
    record {
      least = c.requires.least;
      room = omega (
        arith,
        length-map old.staged.items (λ (p : Page). p.bytes),
        c.len.ensures.value,
        c.lay.ensures.size,
      );
      fits = capacity_fits (length c.lay.new.pages.items + 1) (length old.pages.items + 1) (2 ^ 32)
          old.fits (ap (λ (n : ℕ). n + 1) c.lay.ensures.size);
      order = ap (λ (ps : List Page). are_in_order 1 (2 ^ 32) (bytes_of ps)) c.clear.ensures.items;
    }

pub returns-clause-ok : goal.returns-clause-ok
returns-clause-ok c =
    state_is (bytes_of c.clear.new.self.items) c.args.new_end _
    (length c.args.self.now.pages.items + 1) (ap bytes_of c.clear.ensures.items)
    (ap (λ (n : ℕ). n + 1) c.lay.ensures.size)

-- ---- there is no room

pub invariant_of-self : goal.invariant_of-self
invariant_of-self c = let old = c.args.self.now in
    record { least = old.least; room = old.room; fits = old.fits; order = old.order }

pub returns-then-len-room-clause-answer : goal.returns-then-len-room-clause-answer
returns-then-len-room-clause-answer c =
    let staged = c.args.self.now.staged in
    let count = c.len.ensures.value ∙ sym (length-map staged.items (λ (p : Page). p.bytes)) in
    full_answer _ c.args.new_end refl refl
    (lacks_room _ _ _ _ _ _ _ _ c.saturating_sub-room.ensures c.capacity.ensures c.max.ensures
    count c.if-len-room.true)
