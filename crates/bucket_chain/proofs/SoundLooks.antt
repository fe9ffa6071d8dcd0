-- A look for a key over pages that can be read: the page at which it stands is one of them.
use Rattle.std.proofs.Common.{◌≡◌, ◌≢◌, ◌⊎◌, ⊎_elim, ℕ, ◌≤◌, List, map, [], ◌∷◌, ◌++◌, length, refl, sym, ap, ◌∙◌, subst, arith}
use Rattle.std.specs.List.{AllByRecursion}
use Rattle.dbm_model.specs.Bounds.{Version}
use Rattle.dbm_model.specs.Pairs.{Key}
use Rattle.page_model.specs.Pages.{Body, Record}
use Rattle.page_model.specs.PairLists.{times}
use Rattle.bucket_chain.specs.Links.{link_body, AreSound, SaysLink}
use Rattle.bucket_chain.specs.Chains.{ReadLeaf, ReadChain, record_pair, number_or, AreLinked, BeginsAt}
use Rattle.bucket_chain.specs.Walks.{LacksKey, HasKey, CanLook}
use Rattle.bucket_chain.proofs.Walks.{HasPassed, AreNumbered, IsUnderWay, one_body, kind_from, kind_same}

-- each page says its records and names the next, the last one page `after`, and the first is of
-- this kind
abbrev pub AreBodies : (ℕ → Body) → ℕ → ReadChain → ℕ → Type 0
AreBodies at kind [] after = Unit {0}
AreBodies at kind (leaf ∷ rest) after =
    (at leaf.number ≡ link_body kind
    (number_or rest after) leaf.records) × AreBodies at 4 rest after

abbrev pub AreSaid : Version → (ℕ → Body) → ℕ → ReadChain → ℕ → Type 0
AreSaid version at kind [] after = Unit {0}
AreSaid version at kind (leaf ∷ rest) after =
    SaysLink version at leaf.number kind
    (number_or rest after) leaf.records × AreSaid version at 4 rest after

abbrev pub IsSound : Version → ReadLeaf → Type 0
IsSound version leaf = (1 ≤ leaf.number) × AreSound version leaf.records

linked_bodies : (at : ℕ → Body) (chain : ReadChain) (after : ℕ) → AreLinked at chain after
    → AreBodies at 4 chain after
linked_bodies at [] after linked = tt
linked_bodies at (leaf ∷ rest) after linked = (linked.0, linked_bodies at rest after linked.2)

begun_bodies : (at : ℕ → Body) (head : ℕ) (chain : ReadChain) (after : ℕ)
    → BeginsAt at head chain after
    → AreBodies at 3 chain after
begun_bodies at head [] after begins = absurd begins
begun_bodies at head (leaf ∷ rest) after begins =
    (ap at begins.0 ∙ begins.1, linked_bodies at rest after begins.2)

linked_said : (version : Version) (at : ℕ → Body) (chain : ReadChain) (after : ℕ)
    → AreLinked at chain after
    → AllByRecursion (IsSound version) chain → AreSaid version at 4 chain after
linked_said version at [] after linked sound = tt
linked_said version at (leaf ∷ rest) after linked sound = (
  record { says = linked.0; filled = λ _. linked.1; sound = sound.0.1 },
  linked_said version at rest after linked.2 sound.1,
)

begun_said : (version : Version) (at : ℕ → Body) (head : ℕ) (chain : ReadChain) (after : ℕ)
    → BeginsAt at head chain after
    → AllByRecursion (IsSound version) chain → AreSaid version at 3 chain after
begun_said version at head [] after begins sound = absurd begins
begun_said version at head (leaf ∷ rest) after begins sound = (
  record {
    says = ap at begins.0 ∙ begins.1;
    filled = λ four. absurd (omega (arith, four));
    sound = sound.0.1;
  },
  linked_said version at rest after begins.2 sound.1,
)

-- page n can be read, and as many pages were passed as are before it
pub record IsNextPage (version : Version) (at : ℕ
    → Body) (n kind : ℕ) (passed before : ReadChain) : Type 0 where
  pub next : ℕ
  pub records : List Record
  pub link : SaysLink version at n kind next records
  pub some : 1 ≤ n
  pub few : length passed ≤ length before

module _ (version : Version) (at : ℕ → Body) (key : Key) (leaf : ReadLeaf) (n after : ℕ)
    (last : HasKey key leaf after ⊎ (after ≡ 0)) where
  -- a page that was passed isn't the last one
  not_last : (rest : ReadChain) (page : ReadLeaf) → AreNumbered rest → n ≢ 0 → LacksKey key page
      → number_or rest n ≡ after → page.records ≡ leaf.records → ⊥
  not_last rest page numbered more lacks next same = ⊎_elim
      (λ has. let here = ap (λ (rs : List Record). times key (map record_pair rs)) same in
      omega (arith, has, lacks, here))
      (λ ends. none rest numbered (next ∙ ends)) last
    where
      none : (rest : ReadChain) → AreNumbered rest → number_or rest n ≡ 0 → ⊥
      none [] numbered zero = more zero
      none (other ∷ rest) numbered zero = omega (arith, numbered.0, zero)

  -- behind pages that were passed
  pub next_page : (kind : ℕ) (passed before : ReadChain) → AreBodies at kind passed n
      → AreNumbered passed → AllByRecursion (LacksKey key) passed → (passed ≢ [] → n ≢ 0)
      → AreSaid version at kind (before ++ leaf ∷ []) after
      → AllByRecursion (IsSound version) (before ++ leaf ∷ [])
      → number_or passed n ≡ number_or (before ++ leaf ∷ []) after
      → IsNextPage version at n (kind_from kind passed) passed before
  next_page kind [] [] bodies numbered lacks more said sound first = record {
    next = after;
    records = leaf.records;
    link = subst (λ (m : ℕ). SaysLink version at m kind after leaf.records) (sym first) said.0;
    some = omega (arith, first, sound.0.0);
    few = omega arith;
  }
  next_page kind [] (page ∷ before) bodies numbered lacks more said sound first = record {
    next = number_or (before ++ leaf ∷ []) after;
    records = page.records;
    link = subst (λ (m : ℕ). SaysLink version at m kind (number_or
        (before ++ leaf ∷ []) after) page.records)
        (sym first) said.0;
    some = omega (arith, first, sound.0.0);
    few = omega arith;
  }
  next_page kind (gone ∷ rest) [] bodies numbered lacks more said sound first =
      let same = one_body kind (number_or rest n) after gone.records leaf.records
      (sym bodies.0 ∙ ap at first ∙ said.0.says) in
      absurd (not_last rest gone numbered.1 (more (λ none. cc)) lacks.0 same.0 same.1)
  next_page kind (gone ∷ rest) (page ∷ before) bodies numbered lacks more said sound first =
      let same = one_body kind (number_or rest n) (number_or
      (before ++ leaf ∷ []) after) gone.records
      page.records (sym bodies.0 ∙ ap at first ∙ said.0.says) in
      let later = next_page 4 rest before bodies.1 numbered.1 lacks.1 (λ _. more (λ none. cc))
      said.1 sound.1 same.0 in
      record {
        next = later.next;
        records = later.records;
        link = subst (λ (k : ℕ). SaysLink version at n k later.next later.records)
            (four rest) later.link;
        some = later.some;
        few = omega (arith, later.few);
      }
    where
      four : (rest : ReadChain) → kind_from 4 rest ≡ 4
      four [] = refl
      four (other ∷ rest) = refl

-- where a look stands that is under way
pub stands_at : (version : Version) (at : ℕ → Body) (end head : ℕ) (key : Key) (n kind step : ℕ)
    → (can : CanLook version at end head key)
    → (walk : IsUnderWay at head (LacksKey key) n kind step)
    → IsNextPage version at n kind walk.before can.walk.before
stands_at version at end head key n kind step can walk =
    subst (λ (k : ℕ). IsNextPage version at n k walk.before can.walk.before)
    (kind_same walk.before ∙ sym walk.kind_is)
    (by_passed walk.before walk.has_passed walk.numbered walk.passed)
  where
    all : ReadChain
    all = can.walk.before ++ can.walk.leaf ∷ []

    from_head : (chain : ReadChain) → BeginsAt at head chain can.walk.after
        → head ≡ number_or chain can.walk.after
    from_head [] begins = absurd begins
    from_head (leaf ∷ rest) begins = sym begins.0

    by_passed : (passed : ReadChain) → HasPassed at head passed n → AreNumbered passed
        → AllByRecursion (LacksKey key) passed
        → IsNextPage version at n (kind_from 3 passed) passed can.walk.before
    by_passed [] here numbered lacks =
        next_page version at key can.walk.leaf n can.walk.after can.walk.last 3 []
        can.walk.before tt tt tt
        (λ some. absurd (some refl))
        (begun_said version at head all can.walk.after can.walk.are_read can.sound)
        can.sound (here ∙ from_head all can.walk.are_read)
    by_passed (leaf ∷ rest) here numbered lacks =
        next_page version at key can.walk.leaf n can.walk.after can.walk.last 3 (leaf ∷ rest)
        can.walk.before (begun_bodies at head (leaf ∷ rest) n here.0) numbered lacks
        (λ _. here.1)
        (begun_said version at head all can.walk.after can.walk.are_read can.sound) can.sound
        (here.0.0 ∙ from_head all can.walk.are_read)

-- it has passed fewer pages than there may be
pub not_over : (version : Version) (at : ℕ → Body) (end head : ℕ) (key : Key) (n kind step : ℕ)
    → (can : CanLook version at end head key)
    → (walk : IsUnderWay at head (LacksKey key) n kind step)
    → end ≤ step → ⊥
not_over version at end head key n kind step can walk over =
    let here = stands_at version at end head key n kind step can walk in
    omega (arith, over, can.few, here.few, walk.count)
