-- What becomes of a pair that comes to a batch.
use Rattle.std.proofs.Common.{◌≡◌, List, [], ◌∷◌, ◌++◌, Result, Ok, Err, OnOk, sym, ap, subst, ◌∙◌, append-nil, append_assoc}
use Rattle.std.proofs.lemmas.List.{map-append}
use Rattle.dbm_model.specs.Pairs.{Pair}
use Rattle.page_io.specs.declared.store.PageStore.{Ghosts}
use Rattle.dbm_fault.specs.declared.fault.Fault as db
use Rattle.dbm_file.specs.Answers.{IsSameDatabase}
use Rattle.dbm_file.specs.declared.database.Database.{Database}
use Rattle.dbm_engines.specs.Batches.{GroupsPair, Moves, Numbered, StopsAt, StoresBatch, pairs_of}
use Rattle.dbm_engines.specs.Storing.{IsRefused, StoresAll, StoresAlone}
use Rattle.dbm_engines.specs.declared.load_stop.LoadStop.{LoadStop}
use Rattle.dbm_engines.specs.declared.load_stop.LoadStop.TheVariants.{Memory, Read, Bad, Refused}
use Rattle.dbm_engines.proofs.Stores.{OnlyNow, Counts, stores_none, stores_one, stores_more, refused_first, refused_later}

pub pairs-append : (first later : List Numbered)
    → pairs_of (first ++ later) ≡ pairs_of first ++ pairs_of later
pairs-append first later = map-append (λ one. one.1) first later

-- it is held
pub is_held : {S : Type 0} (s : Ghosts S) (db : Database S s) (held kept : List Numbered)
    (one : Numbered) → OnlyNow db → kept ≡ held ++ one ∷ [] → Moves db db held one kept
is_held s db held kept one only is = ([], sym is, stores_none s db only)

-- it is stored with the others
pub is_stored : {S : Type 0} (s : Ghosts S) (old new : Database S s)
    (held all kept : List Numbered) (one : Numbered) (result : Result Unit LoadStop)
    → all ≡ held ++ one ∷ [] → StoresBatch result old new all → OnOk result (kept ≡ [])
    → GroupsPair result one old new held kept
is_stored s old new held all kept one (Ok done) is stores none =
    (all, sym is ∙ sym (append-nil all) ∙ ap (λ (xs : List Numbered). all ++ xs) (sym none), stores)
is_stored s old new held all kept one (Err (Refused line fault)) is stops none =
    subst (λ (ps : List Numbered). StopsAt old new ps line fault) is stops
is_stored s old new held all kept one (Err (Bad n why)) is stops none = absurd stops
is_stored s old new held all kept one (Err Memory) is stops none = absurd stops
is_stored s old new held all kept one (Err Read) is stops none = absurd stops

-- a refusal of more pairs
stops_before : {S : Type 0} {s : Ghosts S} (old new : Database S s) (held more : List Numbered)
    (line : _) (fault : db.Fault) → StopsAt old new held line fault
    → StopsAt old new (held ++ more) line fault
stops_before old new held more line fault stops = record {
  stored = stops.stored;
  refused = stops.refused;
  later = stops.later ++ more;
  held_are = ap (λ (xs : List Numbered). xs ++ more) stops.held_are
      ∙ append_assoc stops.stored (stops.refused ++ stops.later) more
      ∙ ap (λ (xs : List Numbered). stops.stored ++ xs)
      (append_assoc stops.refused stops.later more);
  how = stops.how;
  begin = stops.begin;
}

-- the others are refused before it
pub not_reached : {S : Type 0} (s : Ghosts S) (old new : Database S s)
    (held all kept : List Numbered) (one : Numbered) (stop : LoadStop) → all ≡ held
    → StoresBatch (Err stop) old new all → GroupsPair (Err stop) one old new held kept
not_reached s old new held all kept one (Refused line fault) is stops =
    stops_before old new held (one ∷ []) line fault
    (subst (λ (ps : List Numbered). StopsAt old new ps line fault) is stops)
not_reached s old new held all kept one (Bad n why) is stops = absurd stops
not_reached s old new held all kept one Memory is stops = absurd stops
not_reached s old new held all kept one Read is stops = absurd stops

-- it has its own store after the others
pub is_alone : {S : Type 0} (s : Ghosts S) (old mid new : Database S s)
    (held all kept : List Numbered) (one : Numbered) (result : Result Unit LoadStop)
    (was : IsSameDatabase old mid) (goes : IsSameDatabase mid new) → OnlyNow mid → Counts new
    → all ≡ held → StoresAll old mid (pairs_of all) → kept ≡ []
    → StoresAlone result one.0 mid new one.1 → GroupsPair result one old new held kept
is_alone s old mid new held all kept one (Ok done) was goes only counts is stores none step = (
  all ++ one ∷ [],
  ap (λ (xs : List Numbered). xs ++ one ∷ []) (sym is) ∙ sym (append-nil (all ++ one ∷ []))
      ∙ ap (λ (xs : List Numbered). (all ++ one ∷ []) ++ xs) (sym none),
  subst (λ (ps : List Pair). StoresAll old new ps) (sym (pairs-append all (one ∷ [])))
      (stores_more s old mid was (pairs_of all) stores new (one.1 ∷ []) goes
      (stores_one s mid new only counts goes one.1 step)),
)
is_alone s old mid new held all kept one (Err (Refused line fault)) was goes only counts is stores none step =
    record {
      stored = all;
      refused = one ∷ [];
      later = [];
      held_are = ap (λ (xs : List Numbered). xs ++ one ∷ []) (sym is);
      how = subst (λ (ps : List Pair). IsRefused old new ps (one.1 ∷ []) fault)
          (append-nil (pairs_of all))
          (refused_later s old mid was (pairs_of all) stores new [] (one.1 ∷ []) fault goes
          (refused_first s mid new only counts goes one.1 fault step.1));
      begin = step.0;
    }
is_alone s old mid new held all kept one (Err (Bad n why)) was goes only counts is stores none step =
    absurd step
is_alone s old mid new held all kept one (Err Memory) was goes only counts is stores none step =
    absurd step
is_alone s old mid new held all kept one (Err Read) was goes only counts is stores none step =
    absurd step
