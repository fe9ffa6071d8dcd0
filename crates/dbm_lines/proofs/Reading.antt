-- How far a line has been read.
use Rattle.std.proofs.Common.{◌≡◌, ◌≢◌, inl, inr, ℕ, zero, suc, ◌+◌, ◌-◌, ◌<◌, ◌≤◌, ◌==◌, min, Bool, true, false, List, [], ◌∷◌, ◌++◌, length, take, drop, slice_index, Option, Some, None, IfSome, refl, sym, ap, subst, ◌∙◌, arith, append_assoc}
use Rattle.std.proofs.lemmas.List.{take-append-drop, take-append-le, length-take, get_or-take, length-drop, take_min}
use Rattle.std.proofs.lemmas.Bool.Decides.{eqb_tells}
use Rattle.std.proofs.Math.Nat.{min_comm}
use Rattle.std.proofs.Math.Seq.{take-append-add}
use Rattle.std.specs.Io.{StartsWith}
use Rattle.std.specs.Io.BufRead.{DropsConsumable}
use Rattle.std.specs.Io.KnownBytes.{Keeps}
use Rattle.dbm_lines.specs.declared.lines.Part.{Part}
use Rattle.dbm_lines.specs.declared.lines.Part.TheVariants.{End, Whole, Begun}
use Rattle.dbm_lines.specs.Parts.{HasNoFeed, IsPart, TakesPart}
use Rattle.dbm_lines.specs.Reading.{line_bytes, after_line, ReadsLine, IsCounted}

no_feed : (x : ℕ) → (x ≢ 10) → (x == 10) ≡ false
no_feed x n = elim (eqb_tells x 10) [
  | inl same ↦ absurd (n same.1)
  | inr other ↦ other.0
]

line_cons : (x : ℕ) (ys : List ℕ) → (x ≢ 10) → line_bytes (x ∷ ys) ≡ x ∷ line_bytes ys
line_cons x ys n = rw (no_feed x n) refl

after_cons : (x : ℕ) (ys : List ℕ) → (x ≢ 10) → after_line (x ∷ ys) ≡ after_line ys
after_cons x ys n = rw (no_feed x n) refl

-- behind bytes that are no line feeds the line goes on
goes_on : (text : List ℕ) (n : ℕ) → n ≤ length text → HasNoFeed text n
    → (line_bytes text ≡ take n text ++ line_bytes (drop n text))
    × (after_line text ≡ after_line (drop n text))
goes_on text zero le none = (refl, refl)
goes_on [] (suc n) le none = absurd (omega (arith, le))
goes_on (x ∷ text) (suc n) le none =
    let other : x ≢ 10 = none 0 (omega arith) in
    let behind = goes_on text n (omega (arith, le)) (λ k lt. none (suc k) (omega arith)) in (
      line_cons x text other ∙ ap (λ (l : List ℕ). x ∷ l) behind.0,
      after_cons x text other ∙ behind.1,
    )

-- up to the first line feed it is whole
ends : (text : List ℕ) (n : ℕ) → n < length text → slice_index text n ≡ 10 → HasNoFeed text n
    → (line_bytes text ≡ take n text) × (after_line text ≡ drop (n + 1) text)
ends [] n lt feed none = absurd (omega (arith, lt))
ends (x ∷ text) zero lt feed none = rw feed (refl, refl)
ends (x ∷ text) (suc n) lt feed none =
    let other : x ≢ 10 = none 0 (omega arith) in
    let behind = ends text n (omega (arith, lt)) feed (λ k lt. none (suc k) (omega arith)) in
    let count : suc (n + 1) ≡ suc n + 1 = omega arith in (
      line_cons x text other ∙ ap (λ (l : List ℕ). x ∷ l) behind.0,
      after_cons x text other ∙ behind.1 ∙ ap (λ (m : ℕ). drop m (x ∷ text)) count,
    )

-- what a text begins with, byte by byte
byte_is : (text bytes : List ℕ) (k : ℕ) → StartsWith text bytes → k < length bytes
    → slice_index bytes k ≡ slice_index text k
byte_is text bytes k starts lt =
    ap (λ (l : List ℕ). slice_index l k) (sym starts) ∙ get_or-take (length bytes) text k 0 lt

within : (text bytes : List ℕ) → StartsWith text bytes → length bytes ≤ length text
within text bytes starts =
    omega (arith, ap length starts, length-take (length bytes) text)

first_of_both : (text bytes : List ℕ) (n : ℕ) → StartsWith text bytes → n ≤ length bytes
    → take n bytes ≡ take n text
first_of_both text bytes n starts le =
    let cut = take-append-le n (take (length bytes) text) (drop (length bytes) text)
    (omega (arith, le, ap length starts)) in
    ap (take n) (sym starts) ∙ sym cut ∙ ap (take n) (take-append-drop (length bytes) text)

-- a part of the reader's buffer is one of the text that it begins
pub part_taken : (limit : ℕ) (text bytes old new : List ℕ) (part : Part) (taken : ℕ)
    (rest : Option (List ℕ)) → StartsWith text bytes → (length bytes ≡ 0 → text ≡ [])
    → IsPart limit bytes part taken old new → rest ≡ Some (drop taken text)
    → TakesPart limit text part old new rest
part_taken limit text bytes old new End taken rest starts end part left =
    let none = end (ap length part.0) in
    (none, part.2, left ∙ ap Some (ap (drop taken) none ∙ ap (λ (n : ℕ). drop n []) part.1))
part_taken limit text bytes old new (Whole followed) taken rest starts end part left =
    let n = part.0 in
    let most = within text bytes starts in
    let inside = part.2 in
    let to_feed = ends text n (omega (arith, inside, most))
    (sym (byte_is text bytes n starts inside) ∙ part.3)
    (λ k lt same. part.4 k lt (byte_is text bytes k starts (omega arith) ∙ same)) in (
      omega (arith, inside, most),
      part.5 ∙ ap (λ (l : List ℕ). take limit (old ++ l))
          (first_of_both text bytes n starts (omega (arith, inside)) ∙ sym to_feed.0),
      left ∙ ap Some (ap (λ (m : ℕ). drop m text) part.1 ∙ sym to_feed.1),
    )
part_taken limit text bytes old new Begun taken rest starts end part left =
    let most = within text bytes starts in
    let n = length bytes in
    let on = goes_on text n most
    (λ k lt same. part.2 k lt (byte_is text bytes k starts lt ∙ same)) in
    let some = part.0 in (
      n,
      omega (arith, some, most),
      on.0,
      on.1,
      part.3 ∙ ap (λ (l : List ℕ). take limit (old ++ l)) (sym starts),
      left ∙ ap (λ (m : ℕ). Some (drop m text)) part.1,
    )

-- no more is taken than there is
part_within : (limit : ℕ) (bytes old new : List ℕ) (part : Part) (taken : ℕ)
    → IsPart limit bytes part taken old new → taken ≤ length bytes
part_within limit bytes old new End taken part = omega (arith, part.1)
part_within limit bytes old new (Whole followed) taken part =
    let inside = part.2 in omega (arith, inside, part.1)
part_within limit bytes old new Begun taken part = omega (arith, part.1)

consumable : (bytes : List ℕ) (most : Option ℕ) (taken : ℕ) → taken ≤ length bytes
    → IfSome most (λ n. length bytes ≤ n) → IfSome most (λ n. taken ≤ n)
consumable bytes None taken le shown = tt
consumable bytes (Some n) taken le shown = omega (arith, le, shown)

-- the reader's buffer is shown, and the part is consumed
pub takes_part : (limit : ℕ) (old mid new : Option (List ℕ)) (most : Option ℕ)
    (bytes kept line : List ℕ) (part : Part) (taken : ℕ) → IfSome old (λ xs. StartsWith xs bytes)
    → IfSome old (λ xs. length bytes ≡ 0 → xs ≡ []) → Keeps old mid
    → IfSome old (λ xs. IfSome most (λ n. length bytes ≤ n)) → DropsConsumable mid new most taken
    → IsPart limit bytes part taken kept line
    → IfSome old (λ text. TakesPart limit text part kept line new)
takes_part limit None mid new most bytes kept line part taken starts end same shown drops is = tt
takes_part limit (Some xs) None new most bytes kept line part taken starts end same shown drops is =
    absurd same
takes_part limit (Some xs) (Some ys) new most bytes kept line part taken starts end same shown
    drops is =
    part_taken limit xs bytes kept line part taken new starts end is
    (drops (consumable bytes most taken (part_within limit bytes kept line part taken is) shown)
    ∙ ap (λ (l : List ℕ). Some (drop taken l)) same)

-- what there is room for is kept
pub kept_all : (limit : ℕ) (line bytes new : List ℕ) (taken : ℕ) → length line ≤ limit
    → taken ≡ min (length bytes) (limit - length line) → new ≡ line ++ take taken bytes
    → new ≡ take limit (line ++ bytes)
kept_all limit line bytes new taken fits is e =
    let left = limit - length line in
    let all : length line + left ≡ limit = omega (arith, fits) in
    e ∙ ap (λ (n : ℕ). line ++ take n bytes) (is ∙ min_comm (length bytes) left)
    ∙ ap (λ (l : List ℕ). line ++ l) (take_min left bytes)
    ∙ sym (take-append-add line bytes left) ∙ ap (λ (n : ℕ). take n (line ++ bytes)) all

-- taken twice, as far as there is room
cut_again : (limit : ℕ) (kept ys : List ℕ) → take limit (take limit kept ++ ys)
    ≡ take limit (kept ++ ys)
cut_again zero kept ys = refl
cut_again (suc n) [] ys = refl
cut_again (suc n) (x ∷ kept) ys = ap (λ (l : List ℕ). x ∷ l) (cut_again n kept ys)

module _ (limit : ℕ) where
  -- of xs, the bytes ys are left, and the line so far is kept
  abbrev pub IsReading : Option (List ℕ) → Option (List ℕ) → List ℕ → Bool → Type 0
  IsReading None now kept more = Unit {0}
  IsReading (Some xs) None kept more = ⊥
  IsReading (Some xs) (Some ys) kept false = (ys ≡ xs) × (kept ≡ [])
  IsReading (Some xs) (Some ys) kept true =
      (0 < length xs) × (take limit (kept ++ line_bytes ys) ≡ take limit (line_bytes xs))
      × (after_line ys ≡ after_line xs)

  -- either way the line is what is kept, and then what is left of it
  so_far : (xs ys kept : List ℕ) (more : Bool) → IsReading (Some xs) (Some ys) kept more
      → (take limit (kept ++ line_bytes ys) ≡ take limit (line_bytes xs))
      × (after_line ys ≡ after_line xs)
  so_far xs ys kept false h = (
    ap (λ (l : List ℕ). take limit (l ++ line_bytes ys)) h.1
        ∙ ap (λ (l : List ℕ). take limit (line_bytes l)) h.0,
    ap after_line h.0,
  )
  so_far xs ys kept true h = (h.1, h.2)

  -- a text that was begun, or goes on, has some bytes
  has_some : (xs ys kept : List ℕ) (more : Bool) → IsReading (Some xs) (Some ys) kept more
      → 0 < length ys → 0 < length xs
  has_some xs ys kept false h some = omega (arith, some, ap length h.0)
  has_some xs ys kept true h some = h.0

  read : (xs line : List ℕ) (new : Option (List ℕ)) → 0 < length xs
      → line ≡ take limit (line_bytes xs) → new ≡ Some (after_line xs)
      → ReadsLine limit xs true line new
  read [] line new h e f = absurd (omega (arith, h))
  read (x ∷ xs) line new h e f = (refl, e, f)

  pub at_end : (first old new : Option (List ℕ)) (kept line : List ℕ) (more : Bool)
      → IsReading first old kept more → IfSome old (λ text. TakesPart limit text End kept line new)
      → IfSome first (λ xs. ReadsLine limit xs more line new)
  at_end None old new kept line more h g = tt
  at_end (Some xs) None new kept line more h g = absurd h
  at_end (Some xs) (Some ys) new kept line false h g =
      subst (λ (l : List ℕ). ReadsLine limit l false line new) (sym (sym h.0 ∙ g.0)) (refl, g.2)
  at_end (Some xs) (Some ys) new kept line true h g =
      read xs line new h.0
      (g.1 ∙ ap (λ (l : List ℕ). take limit (kept ++ line_bytes l)) (sym g.0) ∙ h.1)
      (g.2 ∙ ap (λ (l : List ℕ). Some (after_line l)) (sym g.0) ∙ ap Some h.2)

  pub at_feed : (first old new : Option (List ℕ)) (kept line : List ℕ) (more followed : Bool)
      → IsReading first old kept more
      → IfSome old (λ text. TakesPart limit text (Whole followed) kept line new)
      → IfSome first (λ xs. ReadsLine limit xs true line new)
  at_feed None old new kept line more followed h g = tt
  at_feed (Some xs) None new kept line more followed h g = absurd h
  at_feed (Some xs) (Some ys) new kept line more followed h g =
      let both = so_far xs ys kept more h in
      read xs line new (has_some xs ys kept more h g.0) (g.1 ∙ both.0) (g.2 ∙ ap Some both.1)

  -- the line goes on
  pub at_part : (first old new : Option (List ℕ)) (kept line : List ℕ) (more : Bool)
      → IsReading first old kept more
      → IfSome old (λ text. TakesPart limit text Begun kept line new)
      → IsReading first new line true
  at_part None old new kept line more h g = tt
  at_part (Some xs) None new kept line more h g = absurd h
  at_part (Some xs) (Some ys) new kept line more h g =
      let both = so_far xs ys kept more h in
      let n = g.0 in
      let left = line_bytes (drop n ys) in
      subst (λ (r : Option (List ℕ)). IsReading (Some xs) r line true) (sym g.5) (
        has_some xs ys kept more h g.1,
        ap (λ (l : List ℕ). take limit (l ++ left)) g.4 ∙ cut_again limit (kept ++ take n ys) left
            ∙ ap (take limit) (append_assoc kept (take n ys) left
            ∙ ap (λ (l : List ℕ). kept ++ l) (sym g.2)) ∙ both.0,
        sym g.3 ∙ both.1,
      )

pub no_byte_yet : (first : Option (List ℕ)) (count : ℕ) → IsCounted first count first count
no_byte_yet None count = tt
no_byte_yet (Some text) count = refl

-- a count goes down by what is taken
pub part_counted : (text : List ℕ) (rest : Option (List ℕ)) (taken before after : ℕ)
    → taken ≤ length text → after + taken ≡ before → rest ≡ Some (drop taken text)
    → IsCounted (Some text) before rest after
part_counted text rest taken before after most down left =
    subst (λ (r : Option (List ℕ)). IsCounted (Some text) before r after) (sym left)
    (omega (arith, most, down, length-drop taken text))

-- and by what is taken after that
pub counted_on : (first old new : Option (List ℕ)) (start before after : ℕ)
    → IsCounted first start old before → IsCounted old before new after
    → IsCounted first start new after
counted_on None old new start before after h g = tt
counted_on (Some text) None new start before after h g = absurd h
counted_on (Some text) (Some mid) None start before after h g = absurd g
counted_on (Some text) (Some mid) (Some rest) start before after h g = omega (arith, h, g)
