-- Rooms for the calls, one call after another.
use Rattle.std.proofs.Common.{◌≡◌, ◌⊎◌, inl, inr, ℕ, ◌+◌, ◌<◌, ◌≤◌, Bool, true, false, cond, List, [], ◌∷◌, ◌++◌, take, length, vec_len, slice_index_or, refl, sym, ◌∙◌, ap, subst, arith}
use Rattle.std.proofs.lemmas.List.Elements.{All-nil, All-cons, All-append}
use Rattle.std.proofs.lemmas.List.Sums.{sum_by-append}
use Rattle.std.specs.Global.{Vec}
use Rattle.std.specs.Prelude.{All, count_by}
use Rattle.dbm_model.specs.Bounds.{Bounds, Version, V1, V2}
use Rattle.dbm_model.specs.Changes.{bounds_after}
use Rattle.dbm_file.specs.Calls.{call_of, reply_of}
use Rattle.dbm_file.specs.Rooms.{AreRooms, AreRoomsFor, IsRoom, gives_content, gives_key, longest_content}
use Rattle.dbm_file.specs.declared.calls.Reply.{Reply}
use Rattle.dbm_file.specs.declared.calls.Call.{Call}
use Rattle.dbm_file.specs.declared.calls.Call.TheVariants.{Store, Fetch, Delete, First, Next, Error, Clear, Upgrade}
use Rattle.dbm_file.specs.declared.octets.Octets.{Octets}
use Rattle.dbm_file.specs.declared.running.Rooms.{Rooms}
use Rattle.dbm_file.proofs.Runs.{taken_next}

-- none yet
pub no_rooms : (size : ℕ) (rooms : Vec (Vec ℕ)) → rooms.items ≡ [] → vec_len rooms ≡ 0
    → AreRooms size 0 rooms
no_rooms size rooms items none = record {
  many = none;
  each = subst (λ (xs : List (Vec ℕ)). All (IsRoom size) xs) (sym items) (All-nil (IsRoom size));
}

-- a room has room for fewer bytes
smaller : {size longest : ℕ} {room : Vec ℕ} → size ≤ longest → IsRoom longest room → IsRoom size room
smaller few room = record { empty = room.empty; large = omega (arith, few, room.large) }

module _ (takes : Call → Bool) where
  -- a call takes one, or none
  one_call : (call : Call) → takes call ≡ true → count_by takes (call ∷ []) ≡ 1
  one_call call is = ap (λ (b : Bool). 0 + cond b 1 0) is

  no_call : (call : Call) → takes call ≡ false → count_by takes (call ∷ []) ≡ 0
  no_call call is = ap (λ (b : Bool). 0 + cond b 1 0) is

  -- those of the first call and of the later ones
  first_call : (call : Call) (calls : List Call)
      → count_by takes (call ∷ calls) ≡ count_by takes (call ∷ []) + count_by takes calls
  first_call call calls = sum_by-append (λ (x : Call). cond (takes x) 1 0) (call ∷ []) calls

  module _ (size : ℕ) (calls : List Call) (i : ℕ) (call : Call) (lt : i < length calls)
      (is : call ≡ slice_index_or calls i call) where
    last_call : count_by takes (take (i + 1) calls)
        ≡ count_by takes (take i calls) + count_by takes (call ∷ [])
    last_call = ap (count_by takes) (taken_next calls i call lt is)
        ∙ sum_by-append (λ (x : Call). cond (takes x) 1 0) (take i calls) (call ∷ [])

    -- one room more for a call that takes one
    pub one_more : (rooms new : Vec (Vec ℕ)) (room : Vec ℕ) → takes call ≡ true
        → AreRooms size (count_by takes (take i calls)) rooms → IsRoom size room
        → vec_len new ≡ vec_len rooms + 1 → new.items ≡ rooms.items ++ room ∷ []
        → AreRooms size (count_by takes (take (i + 1) calls)) new
    one_more rooms new room one so_far large len items = record {
      many = omega (arith, len, so_far.many, last_call, one_call call one);
      each = subst (λ (xs : List (Vec ℕ)). All (IsRoom size) xs) (sym items)
          (All-append (IsRoom size) rooms.items (room ∷ []) so_far.each
          (All-cons (IsRoom size) room [] large (All-nil (IsRoom size))));
    }

    -- none for another
    pub none_more : (rooms : Vec (Vec ℕ)) → takes call ≡ false
        → AreRooms size (count_by takes (take i calls)) rooms
        → AreRooms size (count_by takes (take (i + 1) calls)) rooms
    none_more rooms none so_far = record {
      many = omega (arith, so_far.many, last_call, no_call call none);
      each = so_far.each;
    }

  -- the rooms that a call leaves for the later ones
  module _ (size : ℕ) (call : Call) (later : List Call) where
    pub one_left : (rooms : Vec (Vec ℕ)) → takes call ≡ true
        → AreRooms size (count_by takes (call ∷ later)) rooms
        → AreRooms size (count_by takes later + 1) rooms
    one_left rooms one there = record {
      many = omega (arith, there.many, first_call call later, one_call call one);
      each = there.each;
    }

    pub none_left : (rooms : Vec (Vec ℕ)) → takes call ≡ false
        → AreRooms size (count_by takes (call ∷ later)) rooms
        → AreRooms size (count_by takes later) rooms
    none_left rooms none there = record {
      many = omega (arith, there.many, first_call call later, no_call call none);
      each = there.each;
    }

-- which calls take which rooms
pub takes_key : (call : Call) → (call ≡ First) ⊎ (call ≡ Next)
    → (gives_content call ≡ false) × (gives_key call ≡ true)
takes_key call (inl is) = (ap gives_content is, ap gives_key is)
takes_key call (inr is) = (ap gives_content is, ap gives_key is)

pub takes_none : (call : Call) → ((key : Octets) → call ≡ Fetch key → ⊥) → (call ≡ First → ⊥)
    → (call ≡ Next → ⊥) → (gives_content call ≡ false) × (gives_key call ≡ false)
takes_none (Store key content mode) fetch first next = (refl, refl)
takes_none (Fetch key) fetch first next = absurd (fetch key refl)
takes_none (Delete key) fetch first next = (refl, refl)
takes_none First fetch first next = absurd (first refl)
takes_none Next fetch first next = absurd (next refl)
takes_none Error fetch first next = (refl, refl)
takes_none Clear fetch first next = (refl, refl)
takes_none Upgrade fetch first next = (refl, refl)

-- behind a call that takes a room for its content, and behind one that takes one for its key; a room
-- that was taken is one of that size, and the others are left
abbrev pub IsTaken : Vec (Vec ℕ) → Vec ℕ → Vec (Vec ℕ) → Type 0
IsTaken old room new = (size count : ℕ) → AreRooms size (count + 1) old
    → IsRoom size room × AreRooms size count new

module _ (longest : ℕ) (call : Call) (later : List Call) (rooms : Rooms)
    (there : AreRoomsFor longest (call ∷ later) rooms) where
  module _ (key : Octets) (is : call ≡ Fetch key) where
    pub content_room : (room : Vec ℕ) (new : Vec (Vec ℕ)) (size : ℕ) → size ≤ longest
        → IsTaken rooms.contents room new → IsRoom size room
    content_room room new size few taken = smaller few (taken longest (count_by gives_content later)
        (one_left gives_content longest call later rooms.contents
        (ap gives_content is) there.contents)).0

    pub behind_content : (room : Vec ℕ) (new : Vec (Vec ℕ)) → IsTaken rooms.contents room new
        → AreRoomsFor longest later (record rooms { contents = new })
    behind_content room new taken = record {
      contents = (taken longest (count_by gives_content later)
          (one_left gives_content longest call later rooms.contents
          (ap gives_content is) there.contents)).1;
      keys = none_left gives_key 2026 call later rooms.keys (ap gives_key is) there.keys;
    }

  module _ (is : (call ≡ First) ⊎ (call ≡ Next)) where
    pub key_room : (room : Vec ℕ) (new : Vec (Vec ℕ)) → IsTaken rooms.keys room new
        → IsRoom 2026 room
    key_room room new taken = (taken 2026 (count_by gives_key later)
        (one_left gives_key 2026 call later rooms.keys (takes_key call is).1 there.keys)).0

    pub behind_key : (room : Vec ℕ) (new : Vec (Vec ℕ)) → IsTaken rooms.keys room new
        → AreRoomsFor longest later (record rooms { keys = new })
    behind_key room new taken = record {
      contents = none_left gives_content longest call later rooms.contents
          (takes_key call is).0 there.contents;
      keys = (taken 2026 (count_by gives_key later)
          (one_left gives_key 2026 call later rooms.keys (takes_key call is).1 there.keys)).1;
    }

-- ---- how long a content may be

most_content : (version : Version) → longest_content version ≤ 65535
most_content V1 = omega arith
most_content V2 = omega arith

-- a call leaves the contents as short as the calls may have them
module _ (longest : ℕ) (before after : Bounds) (reply : Reply)
    (small : longest_content before.version ≤ longest) where
  same_bounds : after ≡ before → longest_content after.version ≤ longest
  same_bounds is = subst (λ (b : Bounds). longest_content b.version ≤ longest) (sym is) small

  pub still_small : (call : Call) → after ≡ bounds_after before (call_of call) (reply_of reply)
      → (call ≡ Upgrade → longest ≡ 65535) → longest_content after.version ≤ longest
  still_small (Store key content mode) is most = same_bounds is
  still_small (Fetch key) is most = same_bounds is
  still_small (Delete key) is most = same_bounds is
  still_small First is most = same_bounds is
  still_small Next is most = same_bounds is
  still_small Error is most = same_bounds is
  still_small Clear is most = same_bounds is
  still_small Upgrade is most = omega (arith, most refl, most_content after.version)
