-- What a put leaves.
use Rattle.std.proofs.Common.{◌≡◌, ℕ, ◌+◌, ◌≤◌, ◌||◌, Bool, true, false, cond, List, [], ◌∷◌, ◌++◌, map, flat_map, refl, sym, ap, ◌∙◌, subst, arith, append_assoc}
use Rattle.std.specs.List.{AllByRecursion}
use Rattle.std.proofs.lemmas.Bool.Decides.{nat_tests}
use Rattle.std.proofs.lemmas.List.{map-append}
use Rattle.dbm_model.specs.Bounds.{Version}
use Rattle.page_model.specs.Pages.{Body, Record, OverflowPage, NumberedBody}
use Rattle.page_model.specs.Chain.{Leaf, Chain, Entry, numbers, entries_in, pages_of, pages_in, record_of, fits, push, has_room, add}
use Rattle.page_model.specs.Space.{Space, next_page, after_take, is_page, times_of}
use Rattle.page_model.specs.PageBodies.{free_bodies, leaf_bodies, entry_bodies, AreRead}
use Rattle.page_model.proofs.Absent.{add-append}
use Rattle.page_model.proofs.Chains.{AllByRecursion-append, AllByRecursion-left, AllByRecursion-right, All-add}
use Rattle.page_model.proofs.Spaces.{times_head, times_tail}
use Rattle.page_io.specs.BucketPages.{page_records}
use Rattle.free_pages.specs.declared.free_state.FreeState.{FreeState}
use Rattle.free_pages.specs.FreeList.{state_of, IsApart}
use Rattle.content_pages.proofs.PageCounts.{times_both}
use Rattle.bucket_chain.specs.Links.{link_body}
use Rattle.bucket_chain.specs.Chains.{ReadLeaf, ReadChain, leaf_read, chain_read, number_or, kind_behind}
use Rattle.bucket_chain.specs.Walks.{IsFull, fits_leaf}
use Rattle.bucket_chain.specs.Spots.{leaf_on, IsSpot}
use Rattle.bucket_chain.specs.Changes.{IsPlaced, AreHeld, BecomesPlaced, put_in}
use Rattle.bucket_chain.specs.declared.puts.Spot.{Spot}
use Rattle.bucket_chain.proofs.Walks.{AreNumbered, IsSplit, IsReadAs, read_as, begins_same}
use Rattle.bucket_chain.proofs.KeyWalks.{none_later}
use Rattle.bucket_chain.proofs.ChainContents.{contents_each, contents_all, contents_kept, parts_of}
use Rattle.bucket_chain.proofs.Rewriting.{AreSaid, chain_said, leaves_read, free_kept, times_in, not_here, middle_there, rewritten_said, later_said, said_kept}

-- ---- the model's put, at a page that was found

full_room : (e : Entry) (before : Chain) → AllByRecursion (IsFull (record_of e))
    (chain_read before)
    → has_room e before ≡ false
full_room e [] full = refl
full_room e (leaf ∷ before) full =
    ap (λ (b : Bool). b || has_room e before) full.0 ∙ full_room e before full.1

room-append : (e : Entry) (before rest : Chain)
    → AllByRecursion (IsFull (record_of e)) (chain_read before)
    → has_room e (before ++ rest) ≡ has_room e rest
room-append e [] rest full = refl
room-append e (leaf ∷ before) rest full =
    ap (λ (b : Bool). b || has_room e (before ++ rest)) full.0
    ∙ room-append e before rest full.1

-- the page that is taken is in no other place
not_page : (end : ℕ) → is_page end end ≡ false
not_page end = grind (arith, nat_tests)

pub one_or_none : (b : Bool) (k : ℕ) → k ≤ cond b 1 0 → k ≤ 1
one_or_none true k le = le
one_or_none false k le = omega (arith, le)

fresh_of : (pages free : List ℕ) (end : ℕ) → IsApart pages (record { free = free; end = end })
    → (times_of (next_page (record { free = free; end = end })) pages ≡ 0)
    × (times_of (next_page (record { free = free; end = end }))
    (after_take (record { free = free; end = end })).free ≡ 0)
fresh_of pages [] end apart =
    (omega (arith, apart end, ap (λ (b : Bool). cond {A = ℕ} b 1 0) (not_page end)), refl)
fresh_of pages (m ∷ rest) end apart =
    let one : times_of m pages + times_of m (m ∷ rest) ≤ 1 =
    one_or_none (is_page m end) _ (apart m) in
    (omega (arith, one, times_head m rest), omega (arith, one, times_head m rest))

-- the rest of the free list
rest_read : (at : ℕ → Body) (free : List ℕ) (end : ℕ) → AreRead at (free_bodies free)
    → AreRead at (free_bodies (after_take (record { free = free; end = end })).free)
rest_read at [] end read = tt
rest_read at (m ∷ rest) end read = read.1

rest_fewer : (n : ℕ) (free : List ℕ) (end : ℕ)
    → times_of n (after_take (record { free = free; end = end })).free ≤ times_of n free
rest_fewer n [] end = omega arith
rest_fewer n (m ∷ rest) end = times_tail n m rest

-- the free list alone stands apart too
pub apart_alone : (pages : List ℕ) (s : Space) → IsApart pages s → IsApart [] s
apart_alone pages s apart n = omega (arith, apart n)

-- ---- where the spot is in the chain

pub record IsMiddle (chain : Chain) (before : ReadChain) (leaf : ReadLeaf) (next : ℕ)
    : Type 0 where
  pub front : Chain
  pub page : Leaf
  pub later : Chain
  pub parts : chain ≡ front ++ page ∷ later
  pub front_read : chain_read front ≡ before
  pub page_read : leaf_read page ≡ leaf
  pub next_is : next ≡ number_or (chain_read later) 0
  pub last : next ≡ 0 → later ≡ []

none_read : (chain : Chain) → chain_read chain ≡ [] → chain ≡ []
none_read [] e = refl
none_read (leaf ∷ rest) e = absurd (cc)

module _ (version : Version) (at : ℕ → Body) (state : FreeState) (head : ℕ) (e : Entry)
    (chain : Chain) (s : Space) (bytes : List ℕ) (spot : Spot)
    (placed : IsPlaced version at state head chain s)
    (found : IsSpot version at head (record_of e) bytes spot) where
  pub middle : IsMiddle chain found.before (leaf_on spot bytes) found.next
  middle =
      let read : IsReadAs version at s.end head (chain_read chain) =
      read_as version at s.end head chain placed.chain_is in
      let split : IsSplit (chain_read chain) (found.before ++ leaf_on spot bytes ∷ [])
      found.next =
      begins_same version at s.end head (found.before ++ leaf_on spot bytes ∷ [])
      (chain_read chain) found.next found.begins found.numbered read in
      let numbered = AllByRecursion-right (λ (leaf : ReadLeaf). 1 ≤ leaf.number)
      (found.before ++ leaf_on spot bytes ∷ []) split.later
      (subst AreNumbered split.parts read.numbered) in
      let there = parts_of chain found.before (leaf_on spot bytes) split.later
      (split.parts ∙ append_assoc found.before (leaf_on spot bytes ∷ []) split.later) in
      record {
        front = there.front;
        page = there.page;
        later = there.later;
        parts = there.parts;
        front_read = there.front_read;
        page_read = there.page_read;
        next_is = split.next
            ∙ ap (λ (c : ReadChain). number_or c 0) (sym there.later_read);
        last = λ none. none_read there.later
            (there.later_read ∙ none_later split.later numbered (sym split.next ∙ none));
      }

  number : middle.page.number ≡ spot.page
  number = ap (λ (l : ReadLeaf). l.number) middle.page_read

  records : map record_of middle.page.entries ≡ page_records bytes
  records = ap (λ (l : ReadLeaf). l.records) middle.page_read

  kind : kind_behind (chain_read middle.front) ≡ kind_behind found.before
  kind = ap kind_behind middle.front_read

  passed : AllByRecursion (IsFull (record_of e)) (chain_read middle.front)
  passed = subst (AllByRecursion (IsFull (record_of e))) (sym middle.front_read) found.passed

  room_here : spot.has_room ≡ true → fits e middle.page ≡ true
  room_here room = subst (λ (l : ReadLeaf). fits_leaf (record_of e) l ≡ true)
      (sym middle.page_read) (found.room room)

  full_here : spot.has_room ≡ false → fits e middle.page ≡ false
  full_here full = subst (λ (l : ReadLeaf). fits_leaf (record_of e) l ≡ false)
      (sym middle.page_read) (found.full full).0

  none_behind : spot.has_room ≡ false → middle.later ≡ []
  none_behind full = middle.last (found.full full).1

  chain_leaves : AreRead at (leaf_bodies chain)
  chain_leaves = AllByRecursion-left (λ (b : NumberedBody). at b.number ≡ b.body)
      (leaf_bodies chain) (flat_map entry_bodies (entries_in chain)) placed.chain_is.are_read

  chain_contents : AllByRecursion (λ x. AreRead at (entry_bodies x)) (entries_in chain)
  chain_contents = contents_each at (entries_in chain)
      (AllByRecursion-right (λ (b : NumberedBody). at b.number ≡ b.body)
      (leaf_bodies chain) (flat_map entry_bodies (entries_in chain)) placed.chain_is.are_read)

  said_in : AreSaid at 3 (middle.front ++ middle.page ∷ middle.later) 0
  said_in = subst (λ (c : Chain). AreSaid at 3 c 0) middle.parts (chain_said at chain chain_leaves)

  -- how often a page stands in the chain, and where
  counted : (n : ℕ) → times_of n (pages_in chain) ≡ times_of n (numbers middle.front)
      + times_of n (middle.page.number ∷ numbers middle.later)
      + times_of n (pages_of (entries_in chain))
  counted n = omega (
    arith,
    times_both n (numbers chain) (pages_of (entries_in chain)),
    ap (λ (c : Chain). times_of n (numbers c)) middle.parts,
    times_in n middle.front (middle.page ∷ middle.later),
  )

  -- it fits none
  pub no_room : spot.has_room ≡ false → has_room e chain ≡ false
  no_room full =
      ap (has_room e) middle.parts
      ∙ room-append e middle.front (middle.page ∷ middle.later) passed
      ∙ ap (λ (b : Bool). b || has_room e middle.later) (full_here full)
      ∙ ap (has_room e) (none_behind full)

  module _ (held : AreHeld version at (pages_in chain) s (e ∷ [])) where
    -- each page stands in one place
    once : (n : ℕ) → times_of n (pages_of (e ∷ [])) + times_of n (pages_in chain)
        + times_of n s.free ≤ 1
    once n = omega (
      arith,
      one_or_none (is_page n s.end) _ (held.apart n),
      times_both n (pages_of (e ∷ [])) (pages_in chain),
    )

    spot_once : (n : ℕ) → n ≡ spot.page → 1 ≤ times_of n
        (middle.page.number ∷ numbers middle.later)
    spot_once n same = subst (λ (k : ℕ). 1 ≤ times_of k
        (middle.page.number ∷ numbers middle.later))
        (number ∙ sym same) (omega (arith, times_head middle.page.number (numbers middle.later)))

    spot_twice : (n : ℕ) → n ≡ spot.page
        → times_of n (middle.page.number ∷ numbers middle.later)
        ≡ 1 + times_of n (numbers middle.later)
    spot_twice n same = subst (λ (k : ℕ). times_of k (middle.page.number ∷ numbers middle.later)
        ≡ 1 + times_of k (numbers middle.later)) (number ∙ sym same)
        (times_head middle.page.number (numbers middle.later))

    front_apart : (n : ℕ) → 1 ≤ times_of n (numbers middle.front) → n ≡ spot.page → ⊥
    front_apart n stands same = omega (arith, stands, once n, counted n, spot_once n same)

    later_apart : (n : ℕ) → 1 ≤ times_of n (numbers middle.later) → n ≡ spot.page → ⊥
    later_apart n stands same = omega (arith, stands, once n, counted n, spot_twice n same)

    contents_apart : (n : ℕ) → 1 ≤ times_of n (pages_of (entries_in chain)) → n ≡ spot.page → ⊥
    contents_apart n stands same = omega (arith, stands, once n, counted n, spot_once n same)

    own_apart : (n : ℕ) → 1 ≤ times_of n (pages_of (e ∷ [])) → n ≡ spot.page → ⊥
    own_apart n stands same = omega (arith, stands, once n, counted n, spot_once n same)

    free_apart : (n : ℕ) → 1 ≤ times_of n s.free → n ≡ spot.page → ⊥
    free_apart n stands same = omega (arith, stands, once n, counted n, spot_once n same)

    -- the contents are read, where their pages stay
    contents_then : (at' : ℕ → Body) (new : ℕ)
        → ((n : ℕ) → 1 ≤ times_of n (pages_of (entries_in chain)) → at' n ≡ at n)
        → ((n : ℕ) → 1 ≤ times_of n (pages_of (e ∷ [])) → at' n ≡ at n)
        → AreRead at' (flat_map entry_bodies (entries_in (add e new chain)))
    contents_then at' new same own =
        contents_all at' (entries_in (add e new chain))
        (All-add (λ x. AreRead at' (entry_bodies x)) e new chain
        (contents_kept at at' (e ∷ []) own held.are_read).0
        (contents_kept at at' (entries_in chain) same chain_contents))

    -- the record fits the page
    pub put_here : (at' : ℕ → Body) → spot.has_room ≡ true
        → at' spot.page ≡ link_body (kind_behind found.before) found.next
        (page_records bytes ++ record_of e ∷ [])
        → ((n : ℕ) → (n ≡ spot.page → ⊥) → at' n ≡ at n)
        → BecomesPlaced at at' state (put_in (chain, s) e)
    put_here at' room here others =
        let new = next_page s in
        let more = push e middle.page in
        let added : add e new chain ≡ middle.front ++ more ∷ middle.later =
        ap (add e new) middle.parts
        ∙ add-append e new middle.front (middle.page ∷ middle.later)
        (full_room e middle.front passed)
        ∙ ap (λ (b : Bool). middle.front ++ cond b (more ∷ middle.later)
        (middle.page ∷ add e new middle.later)) (room_here room) in
        let roomy : has_room e chain ≡ true =
        ap (has_room e) middle.parts
        ∙ room-append e middle.front (middle.page ∷ middle.later) passed
        ∙ ap (λ (b : Bool). b || has_room e middle.later) (room_here room) in
        let front_same : (n : ℕ) → 1 ≤ times_of n (numbers middle.front) → at' n ≡ at n =
        λ n stands. others n (front_apart n stands) in
        let later_same : (n : ℕ) → 1 ≤ times_of n (numbers middle.later) → at' n ≡ at n =
        λ n stands. others n (later_apart n stands) in
        let free_same : (n : ℕ) → 1 ≤ times_of n s.free → at' n ≡ at n =
        λ n stands. others n (free_apart n stands) in
        let entries : map record_of more.entries ≡ page_records bytes ++ record_of e ∷ [] =
        map-append record_of middle.page.entries (e ∷ [])
        ∙ ap (λ (rs : List Record). rs ++ record_of e ∷ []) records in
        let page : at' middle.page.number
        ≡ link_body (kind_behind (chain_read middle.front)) (number_or (chain_read middle.later) 0)
        (map record_of more.entries) =
        ap at' number ∙ here
        ∙ (λ i. link_body (sym kind i) (middle.next_is i) (sym entries i)) in
        let says = rewritten_said at at' middle.front middle.page middle.later 0 said_in front_same
        more.entries middle.later 0 page (said_kept at at' 4 middle.later 0 later_same
        (later_said at at' middle.front middle.page middle.later 0 said_in front_same)) in
        record {
          rewritten = record {
            chain_read = AllByRecursion-append (λ (b : NumberedBody). at' b.number ≡ b.body)
                (leaf_bodies (add e new chain))
                (flat_map entry_bodies (entries_in (add e new chain)))
                (leaves_read at' (add e new chain)
                (subst (λ (c : Chain). AreSaid at' 3 c 0) (sym added) says))
                (contents_then at' new (λ n stands. others n (contents_apart n stands))
                (λ n stands. others n (own_apart n stands)));
            free_read = subst (λ (x : Space). AreRead at' (free_bodies x.free))
                (sym (ap (λ (b : Bool). cond b s (after_take s)) roomy))
                (free_kept at at' s.free free_same placed.free_is.are_read);
            others = λ n none. others n (λ same.
                not_here middle.page.number n (numbers (add e new chain))
                (subst (λ (c : Chain). 1 ≤ times_of middle.page.number (numbers c)) (sym added)
                (middle_there middle.front more middle.later))
                (omega (
                  arith,
                  none,
                  times_both n (numbers (add e new chain))
                      (pages_of (entries_in (add e new chain))),
                )) (same ∙ sym number));
          };
          kept = placed.free_is.kept ∙ ap state_of
              (sym (ap (λ (b : Bool). cond b s (after_take s)) roomy));
        }

    -- the page that is taken is another
    fresh : (times_of (next_page s) (pages_of (e ∷ []) ++ pages_in chain) ≡ 0)
        × (times_of (next_page s) (after_take s).free ≡ 0)
    fresh = fresh_of (pages_of (e ∷ []) ++ pages_in chain) s.free s.end held.apart

    pub new_apart : next_page s ≡ spot.page → ⊥
    new_apart same = omega (
      arith,
      fresh.0,
      times_both (next_page s) (pages_of (e ∷ [])) (pages_in chain),
      counted (next_page s),
      spot_once (next_page s) same,
    )

    -- it fits none, and a page is taken for it
    pub put_last : (at' : ℕ → Body) (new : ℕ) (state' : FreeState) → spot.has_room ≡ false
        → (new ≡ next_page s) × (state' ≡ state_of (after_take s))
        → at' spot.page ≡ link_body (kind_behind found.before) new (page_records bytes)
        → at' new ≡ OverflowPage 0 (record_of e ∷ [])
        → ((n : ℕ) → (n ≡ spot.page → ⊥) → (n ≡ new → ⊥) → at' n ≡ at n)
        → BecomesPlaced at at' state' (put_in (chain, s) e)
    put_last at' new state' full taken here there others =
        let next = next_page s in
        let last : Leaf = record { number = next; entries = e ∷ [] } in
        let added : add e next chain ≡ middle.front ++ middle.page ∷ last ∷ [] =
        ap (add e next) middle.parts
        ∙ add-append e next middle.front (middle.page ∷ middle.later)
        (full_room e middle.front passed)
        ∙ ap (λ (b : Bool). middle.front ++ cond b (push e middle.page ∷ middle.later)
        (middle.page ∷ add e next middle.later)) (full_here full)
        ∙ ap (λ (c : Chain). middle.front ++ middle.page ∷ add e next c) (none_behind full) in
        let roomless : has_room e chain ≡ false = no_room full in
        let in_none : (n : ℕ) → n ≡ new
        → (times_of n (pages_of (e ∷ [])) + times_of n (pages_in chain) ≡ 0)
        × (times_of n (after_take s).free ≡ 0) =
        λ n same. subst (λ (k : ℕ). (times_of k (pages_of (e ∷ [])) + times_of k (pages_in chain)
        ≡ 0)
        × (times_of k (after_take s).free ≡ 0)) (sym (same ∙ taken.0))
        (omega (arith, fresh.0, times_both next (pages_of (e ∷ [])) (pages_in chain)), fresh.1) in
        let front_same : (n : ℕ) → 1 ≤ times_of n (numbers middle.front) → at' n ≡ at n =
        λ n stands. others n (front_apart n stands)
        (λ same. omega (arith, stands, (in_none n same).0, counted n)) in
        let contents_same : (n : ℕ) → 1 ≤ times_of n (pages_of (entries_in chain))
        → at' n ≡ at n =
        λ n stands. others n (contents_apart n stands)
        (λ same. omega (arith, stands, (in_none n same).0, counted n)) in
        let own_same : (n : ℕ) → 1 ≤ times_of n (pages_of (e ∷ [])) → at' n ≡ at n =
        λ n stands. others n (own_apart n stands)
        (λ same. omega (arith, stands, (in_none n same).0)) in
        let free_same : (n : ℕ) → 1 ≤ times_of n (after_take s).free → at' n ≡ at n =
        λ n stands. others n
        (free_apart n (omega (arith, stands, rest_fewer n s.free s.end)))
        (λ same. omega (arith, stands, (in_none n same).1)) in
        let page : at' middle.page.number ≡ link_body (kind_behind (chain_read middle.front)) next
        (map record_of middle.page.entries) =
        ap at' number ∙ here
        ∙ (λ i. link_body (sym kind i) (taken.0 i) (sym records i)) in
        let says = rewritten_said at at' middle.front middle.page middle.later 0 said_in front_same
        middle.page.entries (last ∷ []) 0 page (ap at' (sym taken.0) ∙ there, tt) in
        let numbers_new : (n : ℕ) → times_of n (numbers (add e next chain))
        ≡ times_of n (numbers middle.front) + times_of n (middle.page.number ∷ next ∷ []) =
        λ n. ap (λ (c : Chain). times_of n (numbers c)) added
        ∙ times_in n middle.front (middle.page ∷ last ∷ []) in
        record {
          rewritten = record {
            chain_read = AllByRecursion-append (λ (b : NumberedBody). at' b.number ≡ b.body)
                (leaf_bodies (add e next chain))
                (flat_map entry_bodies (entries_in (add e next chain)))
                (leaves_read at' (add e next chain)
                (subst (λ (c : Chain). AreSaid at' 3 c 0) (sym added) says))
                (contents_then at' next contents_same own_same);
            free_read = subst (λ (x : Space). AreRead at' (free_bodies x.free))
                (sym (ap (λ (b : Bool). cond b s (after_take s)) roomless))
                (free_kept at at' (after_take s).free free_same
                (rest_read at s.free s.end placed.free_is.are_read));
            others = λ n out.
                let absent : times_of n (middle.page.number ∷ next ∷ []) ≡ 0 = omega (
                  arith,
                  out,
                  times_both n (numbers (add e next chain))
                      (pages_of (entries_in (add e next chain))),
                  numbers_new n,
                ) in
                others n
                (λ same. not_here middle.page.number n (middle.page.number ∷ next ∷ [])
                (omega (arith, times_head middle.page.number (next ∷ []))) absent
                (same ∙ sym number))
                (λ same. not_here next n (middle.page.number ∷ next ∷ [])
                (omega (
                  arith,
                  times_head next [],
                  times_tail next middle.page.number (next ∷ []),
                )) absent
                (same ∙ taken.0));
          };
          kept = taken.1 ∙ ap state_of (sym (ap (λ (b : Bool). cond b s (after_take s)) roomless));
        }
