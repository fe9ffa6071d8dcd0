-- What a commit sector may say.
use Rattle.std.proofs.Common.{◌≡◌, ◌+◌, ℕ, List, drop, replicate, Bool, true, false, cond, ◌&&◌, eqb, leb, refl, ap, subst, arith}
use Rattle.std.proofs.lemmas.Bool.{and_parts, leb-true}
use Rattle.std.specs.Cmp.Lexicographic.{pointwise}
use Rattle.sect_dev.specs.Sector.{zeros}
use Rattle.page_model.specs.Bytes.{u32_at}
use Rattle.redo_area.specs.Header.{has_magic, is_magic, kind_of, header_by, header_of, IsInRange}
use Rattle.redo_area.specs.declared.header.CommitKind.TheVariants.{Images, Log}
use Rattle.redo_area.specs.declared.header.Header.{Header}
use Rattle.redo_area.specs.declared.header.Header.TheVariants.{Blank, Clear, Armed, Logging, NotOurs, Damaged}

pick : (P : Header → Type 0) (b : Bool) (x y : Header) → (b ≡ true → P x) → P y → P (cond b x y)
pick P true x y then other = then refl
pick P false x y then other = other

fields_in_range : (capacity : ℕ) (may_log : Bool) (state end start count : ℕ)
    → IsInRange capacity (header_by capacity may_log state end start count)
fields_in_range capacity may_log state end start count =
    pick (IsInRange capacity) (leb 4 end && leb end capacity) _ Damaged
    (λ both.
    let ends = and_parts (leb 4 end) (leb end capacity) both in
    let low = leb-true 4 end ends.0 in
    pick (IsInRange capacity) (eqb state 0 && eqb start 0 && eqb count 0) (Clear end) _
    (λ _. (low, leb-true end capacity ends.1))
    (pick (IsInRange capacity) (eqb state 1 && leb 1 count && leb end start && leb (start + count) capacity)
    (Armed end start count) _
    (λ is.
    let last = and_parts (eqb state 1 && leb 1 count && leb end start)
    (leb (start + count) capacity) is in
    let next = and_parts (eqb state 1 && leb 1 count) (leb end start) last.0 in
    (low, leb-true end start next.1, leb-true (start + count) capacity last.1))
    (pick (IsInRange capacity) (eqb state 2 && may_log && eqb count 0 && leb end start
    && leb (start + 32) capacity) (Logging start) Damaged
    (λ is.
    let last = and_parts (eqb state 2 && may_log && eqb count 0 && leb end start)
    (leb (start + 32) capacity) is in
    let next = and_parts (eqb state 2 && may_log && eqb count 0) (leb end start) last.0 in
    let above = leb-true end start next.1 in
    (omega (arith, low, above), leb-true (start + 32) capacity last.1))
    tt)))
    tt

pub sector_in_range : (capacity : ℕ) (sector : List ℕ) → IsInRange capacity (header_of capacity sector)
unfolding header_of
sector_in_range capacity sector =
    pick (IsInRange capacity) (pointwise eqb sector zeros) Blank _ (λ _. tt)
    (pick (IsInRange capacity) (has_magic sector) _ NotOurs
    (λ _. pick (IsInRange capacity) (pointwise eqb (replicate 488 0) (drop 24 sector)) _ Damaged
    (λ _. fields_in_range capacity (is_magic Log sector) (u32_at sector 8) (u32_at sector 12)
    (u32_at sector 16) (u32_at sector 20)) tt) tt)

-- a log is named under the magic of its kind alone
abbrev NamesIt : Bool → Header → Type 0
NamesIt may_log (Logging start) = may_log ≡ true
NamesIt may_log _ = Unit {0}

fields_name_it : (capacity : ℕ) (may_log : Bool) (state end start count : ℕ)
    → NamesIt may_log (header_by capacity may_log state end start count)
fields_name_it capacity may_log state end start count =
    pick (NamesIt may_log) (leb 4 end && leb end capacity) _ Damaged
    (λ _. pick (NamesIt may_log) (eqb state 0 && eqb start 0 && eqb count 0) (Clear end) _ (λ _. tt)
    (pick (NamesIt may_log) (eqb state 1 && leb 1 count && leb end start
    && leb (start + count) capacity) (Armed end start count) _ (λ _. tt)
    (pick (NamesIt may_log) (eqb state 2 && may_log && eqb count 0 && leb end start
    && leb (start + 32) capacity) (Logging start) Damaged
    (λ is.
    let last = and_parts (eqb state 2 && may_log && eqb count 0 && leb end start)
    (leb (start + 32) capacity) is in
    let next = and_parts (eqb state 2 && may_log && eqb count 0) (leb end start) last.0 in
    let more = and_parts (eqb state 2 && may_log) (eqb count 0) next.0 in
    (and_parts (eqb state 2) may_log more.0).1) tt))) tt

sector_names_it : (capacity : ℕ) (sector : List ℕ)
    → NamesIt (is_magic Log sector) (header_of capacity sector)
unfolding header_of
sector_names_it capacity sector =
    pick (NamesIt (is_magic Log sector)) (pointwise eqb sector zeros) Blank _ (λ _. tt)
    (pick (NamesIt (is_magic Log sector)) (has_magic sector) _ NotOurs
    (λ _. pick (NamesIt (is_magic Log sector)) (pointwise eqb (replicate 488 0) (drop 24 sector)) _
    Damaged (λ _. fields_name_it capacity (is_magic Log sector) (u32_at sector 8)
    (u32_at sector 12) (u32_at sector 16) (u32_at sector 20)) tt) tt)

pub logging_kind : (capacity start : ℕ) (sector : List ℕ)
    → header_of capacity sector ≡ Logging start → kind_of sector ≡ Log
logging_kind capacity start sector is =
    ap (λ (b : Bool). cond b Log Images)
    (subst (NamesIt (is_magic Log sector)) is (sector_names_it capacity sector))
