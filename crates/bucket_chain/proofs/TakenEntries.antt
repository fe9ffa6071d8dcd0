-- What the pages of a chain say once the record of a found entry was taken out.
use Rattle.std.proofs.Common.{◌≡◌, ℕ, ◌+◌, ◌<◌, ◌≤◌, Bool, true, false, cond, List, [], ◌∷◌, ◌++◌, length, map, filter, drop, refl, sym, ap, ◌∙◌, subst, arith, eq-eqb, ne_eqb, append_assoc, append-nil}
use Rattle.std.specs.Prelude.{remove as remove_at}
use Rattle.std.proofs.lemmas.List.{length-map}
use Rattle.dbm_model.specs.Bounds.{Version}
use Rattle.dbm_model.specs.Pairs.{Key}
use Rattle.page_model.specs.PairLists.{times}
use Rattle.page_model.specs.Pages.{Body, Record}
use Rattle.page_model.specs.Chain.{Leaf, Chain, numbers, entries_in, pairs_in, pages_of, pages_in, record_of, is_at, without, take_out, is_bare, remove, emptied, freed}
use Rattle.page_model.specs.Space.{Space, is_page, times_of}
use Rattle.page_model.proofs.Spaces.{times_head}
use Rattle.free_pages.specs.FreeList.{IsApart}
use Rattle.content_pages.proofs.PageCounts.{times_both}
use Rattle.bucket_chain.specs.Links.{link_body}
use Rattle.bucket_chain.specs.Chains.{ReadLeaf, ReadChain, chain_read, number_or, kind_behind}
use Rattle.bucket_chain.specs.AnyFile.{IsTakenFrom, IsTakenWith, IsUnlinked, emptied_page}
use Rattle.bucket_chain.proofs.ChainContents.{parts_of}
use Rattle.bucket_chain.proofs.FoundEntries.{IsFoundHere}
use Rattle.bucket_chain.proofs.KeyRemovals.{AreFilled, at_parts, removed_head, removed_over}
use Rattle.bucket_chain.proofs.PutLemmas.{one_or_none}
use Rattle.bucket_chain.proofs.Rewriting.{AreSaid, times_in, not_there, middle_there, rewritten_said, later_said, said_kept}

none_read : (chain : Chain) → chain_read chain ≡ [] → chain ≡ []
none_read [] e = refl
none_read (leaf ∷ rest) e = absurd (cc)

-- One page of the chain is rewritten, the others say what is left of it, and these become free.
pub record IsTakenIn (at mid : ℕ → Body) (chain : Chain) (key : Key) (pages : List ℕ)
    : Type 0 where
  pub page : ℕ
  pub stands : 1 ≤ times_of page (numbers chain)
  pub others : (m : ℕ) → (m ≡ page → ⊥) → mid m ≡ at m
  pub said : AreSaid mid 3 (remove key chain) 0
  pub given : freed key chain ≡ pages

module _ (version : Version) (at : ℕ → Body) (chain : Chain) (s : Space) (key : Key) (slot : ℕ)
    (before : ReadChain) (leaf : ReadLeaf) (after : ℕ)
    (found : IsFoundHere chain key slot before leaf after)
    (apart : IsApart (pages_in chain) s) (said : AreSaid at 3 chain 0) where
  number : found.page.number ≡ leaf.number
  number = ap (λ (l : ReadLeaf). l.number) found.page_read

  records : map record_of found.page.entries ≡ leaf.records
  records = ap (λ (l : ReadLeaf). l.records) found.page_read

  -- no page of the chain stands in it twice
  once : (m : ℕ) → times_of m (numbers chain) ≤ 1
  once m = omega (
    arith,
    one_or_none (is_page m s.end) _ (apart m),
    times_both m (numbers chain) (pages_of (entries_in chain)),
  )

  said_in : AreSaid at 3 (found.front ++ found.page ∷ found.later) 0
  said_in = subst (λ (c : Chain). AreSaid at 3 c 0) found.parts said

  -- the pages of the content
  pub of_key : filter (is_at key) (entries_in chain) ≡ found.entry.e ∷ []
  of_key = ap (λ (c : Chain). filter (is_at key) (entries_in c)) found.parts
      ∙ at_parts key found.front found.page found.later found.entry.e found.none_before
      found.none_later found.entry.only

  freed_is : (gone : List ℕ) → emptied key chain ≡ gone
      → freed key chain ≡ found.entry.e.pages ++ gone
  freed_is gone is =
      (λ i. pages_of (of_key i) ++ is i)
      ∙ ap (λ (ns : List ℕ). ns ++ gone) (append-nil found.entry.e.pages)

  over : (first : Leaf) (rest : Chain) (bare : Bool) → found.front ≡ first ∷ rest
      → is_bare (take_out key found.page) ≡ bare
      → (remove key chain ≡ first ∷ rest
      ++ cond bare found.later (take_out key found.page ∷ found.later))
      × (emptied key chain ≡ cond bare (found.page.number ∷ []) [])
  over first rest bare e is =
      let none : times key (pairs_in (first ∷ rest)) ≡ 0 =
      ap (λ (c : Chain). times key (pairs_in c)) (sym e) ∙ found.none_before in
      let filled : AreFilled rest =
      subst (λ (c : Chain). AreFilled (drop 1 c)) e found.filled_before in
      let both = removed_over key first rest found.page found.later none found.none_later filled
      found.filled_later bare is in
      let parts : chain ≡ first ∷ rest ++ found.page ∷ found.later =
      found.parts ∙ ap (λ (c : Chain). c ++ found.page ∷ found.later) e in
      (ap (remove key) parts ∙ both.0, ap (emptied key) parts ∙ both.1)

  -- the page stays, since it is the head or has more entries
  page_stays : (kind_behind before ≡ 4 → 0 < length (without key found.page.entries))
      → (remove key chain ≡ found.front ++ take_out key found.page ∷ found.later)
      × (emptied key chain ≡ [])
  page_stays why = by_front found.front refl
      (λ four. why (ap kind_behind (sym found.front_read) ∙ four))
    where
      by_front : (front : Chain) → found.front ≡ front
          → (kind_behind (chain_read front) ≡ 4 → 0 < length (without key found.page.entries))
          → (remove key chain ≡ front ++ take_out key found.page ∷ found.later)
          × (emptied key chain ≡ [])
      by_front [] e why =
          let both = removed_head key found.page found.later found.none_later found.filled_later in
          let parts : chain ≡ found.page ∷ found.later =
          found.parts ∙ ap (λ (c : Chain). c ++ found.page ∷ found.later) e in
          (ap (remove key) parts ∙ both.0, ap (emptied key) parts ∙ both.1)
      by_front (first ∷ rest) e why =
          let some = why refl in
          over first rest false e
          (ne_eqb (length (without key found.page.entries)) 0 (λ none. omega (arith, some, none)))

  -- the page leaves the chain with its one entry
  page_leaves : (found.front ≡ [] → ⊥) → length found.page.entries ≡ 1
      → (remove key chain ≡ found.front ++ found.later)
      × (emptied key chain ≡ found.page.number ∷ [])
  page_leaves behind one = by_front found.front refl behind
    where
      by_front : (front : Chain) → found.front ≡ front → (front ≡ [] → ⊥)
          → (remove key chain ≡ front ++ found.later)
          × (emptied key chain ≡ found.page.number ∷ [])
      by_front [] e behind = absurd (behind refl)
      by_front (first ∷ rest) e behind =
          over first rest true e
          (eq-eqb (length (without key found.page.entries)) 0
          (omega (arith, one, found.entry.shorter)))

  -- where page m stands
  places : (m : ℕ) → times_of m (numbers found.front)
      + times_of m (found.page.number ∷ numbers found.later) ≤ 1
  places m = omega (
    arith,
    once m,
    ap (λ (c : Chain). times_of m (numbers c)) found.parts,
    times_in m found.front (found.page ∷ found.later),
  )

  taken_here : (mid : ℕ → Body) → IsTakenFrom version at mid slot before leaf after
      → IsTakenIn at mid chain key (found.entry.e.pages ++ [])
  taken_here mid taken =
      let left = without key found.page.entries in
      let out : map record_of left ≡ remove_at leaf.records slot =
      found.entry.out ∙ ap (λ (rs : List Record). remove_at rs slot) records in
      let both = page_stays (λ four. omega (
        arith,
        taken.says.filled four,
        ap length out,
        length-map left record_of,
      )) in
      let n = found.page.number in
      let place = places n in
      let head = times_head n (numbers found.later) in
      let others : (m : ℕ) → (m ≡ n → ⊥) → mid m ≡ at m =
      λ m other. taken.others m (λ same. other (same ∙ sym number)) in
      let front_same : (m : ℕ) → 1 ≤ times_of m (numbers found.front) → mid m ≡ at m =
      λ m stands. others m
      (not_there n m (numbers found.front) (omega (arith, place, head)) stands) in
      let later_same : (m : ℕ) → 1 ≤ times_of m (numbers found.later) → mid m ≡ at m =
      λ m stands. others m
      (not_there n m (numbers found.later) (omega (arith, place, head)) stands) in
      let here : mid n ≡ link_body (kind_behind (chain_read found.front))
      (number_or (chain_read found.later) 0) (map record_of left) =
      ap mid number ∙ taken.says.says
      ∙ (λ i. link_body (kind_behind (sym found.front_read i)) (found.after_is i) (sym out i)) in
      let says = rewritten_said at mid found.front found.page found.later 0 said_in front_same left
      found.later 0 here (said_kept at mid 4 found.later 0 later_same
      (later_said at mid found.front found.page found.later 0 said_in front_same)) in
      record {
        page = n;
        stands = subst (λ (c : Chain). 1 ≤ times_of n (numbers c)) (sym found.parts)
            (middle_there found.front found.page found.later);
        others = others;
        said = subst (λ (c : Chain). AreSaid mid 3 c 0) (sym both.0) says;
        given = freed_is [] both.1;
      }

  taken_over : (mid : ℕ → Body) → IsTakenWith at mid before leaf after
      → IsTakenIn at mid chain key (found.entry.e.pages ++ leaf.number ∷ [])
  taken_over mid taken =
      let there = parts_of found.front taken.front taken.prior []
      (found.front_read ∙ taken.parts) in
      let prior = there.page in
      let behind = found.page ∷ found.later in
      let front : found.front ≡ there.front ++ prior ∷ [] =
      there.parts
      ∙ ap (λ (c : Chain). there.front ++ prior ∷ c) (none_read there.later there.later_read) in
      let one : length found.page.entries ≡ 1 = omega (
        arith,
        taken.alone,
        ap length records,
        length-map found.page.entries record_of,
      ) in
      let both = page_leaves (λ none. nothing there.front prior (sym front ∙ none)) one in
      let left : remove key chain ≡ there.front ++ prior ∷ found.later =
      both.0 ∙ ap (λ (c : Chain). c ++ found.later) front
      ∙ append_assoc there.front (prior ∷ []) found.later in
      let all : chain ≡ there.front ++ prior ∷ behind =
      found.parts ∙ ap (λ (c : Chain). c ++ behind) front
      ∙ append_assoc there.front (prior ∷ []) behind in
      let n = prior.number in
      let same : n ≡ taken.prior.number = ap (λ (l : ReadLeaf). l.number) there.page_read in
      let place = once n in
      let counted = ap (λ (c : Chain). times_of n (numbers c)) all
      ∙ times_in n there.front (prior ∷ behind) in
      let head = times_head n (numbers behind) in
      let tail = times_both n (found.page.number ∷ []) (numbers found.later) in
      let others : (m : ℕ) → (m ≡ n → ⊥) → mid m ≡ at m =
      λ m other. taken.others m (λ e. other (e ∙ sym same)) in
      let front_same : (m : ℕ) → 1 ≤ times_of m (numbers there.front) → mid m ≡ at m =
      λ m stands. others m
      (not_there n m (numbers there.front) (omega (arith, place, head, counted)) stands) in
      let later_same : (m : ℕ) → 1 ≤ times_of m (numbers found.later) → mid m ≡ at m =
      λ m stands. others m
      (not_there n m (numbers found.later) (omega (arith, place, head, counted, tail)) stands) in
      let said' : AreSaid at 3 (there.front ++ prior ∷ behind) 0 =
      subst (λ (c : Chain). AreSaid at 3 c 0) all said in
      let here : mid n ≡ link_body (kind_behind (chain_read there.front))
      (number_or (chain_read found.later) 0) (map record_of prior.entries) =
      ap mid same ∙ taken.named
      ∙ (λ i. link_body (kind_behind (sym there.front_read i)) (found.after_is i)
      ((sym there.page_read i).records)) in
      let says = rewritten_said at mid there.front prior behind 0 said' front_same prior.entries
      found.later 0 here (said_kept at mid 4 found.later 0 later_same
      (later_said at mid there.front prior behind 0 said' front_same).1) in
      record {
        page = n;
        stands = subst (λ (c : Chain). 1 ≤ times_of n (numbers c)) (sym all)
            (middle_there there.front prior behind);
        others = others;
        said = subst (λ (c : Chain). AreSaid mid 3 c 0) (sym left) says;
        given = freed_is (leaf.number ∷ [])
            (both.1 ∙ ap (λ (m : ℕ). m ∷ []) number);
      }
    where
      nothing : (front : Chain) (last : Leaf) → front ++ last ∷ [] ≡ [] → ⊥
      nothing [] last e = absurd (cc)
      nothing (first ∷ front) last e = absurd (cc)

  pub taken_in : (mid : ℕ → Body) (is_emptied : Bool)
      → IsUnlinked version at mid slot is_emptied before leaf after
      → IsTakenIn at mid chain key
      (found.entry.e.pages ++ emptied_page is_emptied leaf.number)
  taken_in mid true taken = taken_over mid taken
  taken_in mid false taken = taken_here mid taken
