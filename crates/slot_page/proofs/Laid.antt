-- What is spelled as a page of records is laid out so.
use Rattle.std.proofs.Common.{◌≡◌, ◌≢◌, ◌⊎◌, ℕ, suc, ◌+◌, ◌-◌, ◌≤◌, ◌<◌, List, [], ◌∷◌, length, map, get_or, refl, sym, ap, subst, ◌∙◌, arith, inl, inr}
use Rattle.std.specs.Prelude.{AllPairs, None}
use Rattle.std.specs.List.{AllByRecursion}
use Rattle.std.proofs.lemmas.Bool.{cases_eq}
use Rattle.std.proofs.lemmas.List.{length-map, get_or-map}
use Rattle.page_model.specs.Pages.{Record, Bucket}
use Rattle.page_model.specs.Slots.{Slot, size, total_size, key_size, bytes_size, slot_ending, slots_ending}
use Rattle.page_model.specs.Spelling.{bucket_spelling}
use Rattle.page_model.specs.Reading.{slot_count, low, slot_of, slots_from, slot_record, records_from}
use Rattle.page_model.specs.Valid.{IsRecord, IsBucket}
use Rattle.page_model.proofs.Buckets.{stands}
use Rattle.slot_page.specs.Layout.{end_of, AreInPlace, HaveDistinctKeys, TellRecords, IsLaidOut}
use Rattle.slot_page.proofs.Held.{SpelledDistinct, distinct_held}
use Rattle.slot_page.proofs.Tellings.{told_again, each_slot}
use Rattle.slot_page.proofs.Layouts.{end_of-more}

-- a table's records end where they should
places_again : (bytes : List ℕ) (ps : List Record) (i end : ℕ) → total_size ps ≤ end → end ≤ 2048
    → AllByRecursion IsRecord ps → end_of bytes i ≡ end
    → slots_from bytes i (length ps) ≡ slots_ending end ps
    → (end_of bytes (i + length ps) + total_size ps ≡ end)
    × ((j : ℕ) → i ≤ j → j < i + length ps
    → (slot_of bytes j).offset + key_size (slot_of bytes j) + bytes_size (slot_of bytes j)
    ≡ end_of bytes j)
places_again bytes [] i end le most all at h = (
  ap (λ (j : ℕ). end_of bytes j + 0) (let e : i + 0 ≡ i = omega arith in e) ∙ omega (arith, at),
  λ j from to. absurd (omega arith),
)
places_again bytes (p ∷ ps) i end le most all at h =
    let first : slot_of bytes i ≡ slot_ending end p = cc in
    let others : slots_from bytes (i + 1) (length ps) ≡ slots_ending (end - size p) ps = cc in
    let told = told_again end p (omega arith) all.0 in
    let offset : (slot_of bytes i).offset ≡ end - size p = ap (λ (s : Slot). s.offset) first in
    let key : key_size (slot_of bytes i) ≡ length p.key = ap key_size first ∙ told.key_is in
    let rest : bytes_size (slot_of bytes i) ≡ length p.bytes =
    ap bytes_size first ∙ told.bytes_are in
    let both = places_again bytes ps (i + 1) (end - size p) (omega arith) (omega arith) all.1
    (end_of-more bytes i ∙ offset) others in
    let same : i + 1 + length ps ≡ i + suc (length ps) = omega arith in
    let ends : end_of bytes (i + suc (length ps)) + total_size ps ≡ end - size p =
    ap (λ (j : ℕ). end_of bytes j + total_size ps) (sym same) ∙ both.0 in (
      omega (arith, ends),
      λ j from to.
          elim (cases_eq j i) [
            | inl is ↦ subst (λ (k : ℕ). (slot_of bytes k).offset + key_size (slot_of bytes k)
                + bytes_size (slot_of bytes k) ≡ end_of bytes k) (sym is)
                (in_place (slot_of bytes i).offset (key_size (slot_of bytes i))
                (bytes_size (slot_of bytes i)) (length p.key) (length p.bytes) end
                (end_of bytes i) (omega (arith, le)) offset key rest at)
            | inr not ↦ both.1 j (omega arith) (omega arith)
          ],
    )
  where
    in_place : (offset key rest k r end at : ℕ) → k + r ≤ end → offset ≡ end - (k + r) → key ≡ k
        → rest ≡ r → at ≡ end → offset + key + rest ≡ at
    in_place offset key rest k r end at le a b c d = omega arith

-- distinct keys of records are distinct keys of slots
distinct_again : (bytes : List ℕ) (ss : List Slot) (ps : List Record)
    → map (slot_record bytes) ss ≡ ps
    → AllPairs (λ p q. p.key ≢ q.key) ps → SpelledDistinct bytes ss
distinct_again bytes ss ps e h i j d less lt =
    let blank : Record = record { key = []; bytes = []; far = None } in
    let first : get_or ps i blank ≡ slot_record bytes (get_or ss i d) =
    ap (λ (qs : List Record). get_or qs i blank) (sym e)
    ∙ get_or-map (slot_record bytes) ss i d blank (omega arith) in
    let second : get_or ps j blank ≡ slot_record bytes (get_or ss j d) =
    ap (λ (qs : List Record). get_or qs j blank) (sym e)
    ∙ get_or-map (slot_record bytes) ss j d blank lt in
    λ same. h i j blank less (omega (arith, ap length e, length-map ss (slot_record bytes)))
    (ap (λ (p : Record). p.key) first ∙ same ∙ sym (ap (λ (p : Record). p.key) second))

-- each test holds of a spelled page
pub laid_out_if_spelled : (bytes : List ℕ) (b : Bucket) → IsBucket b → bytes ≡ bucket_spelling b
    → IsLaidOut bytes
laid_out_if_spelled bytes b is e =
    let s = stands bytes b is e in
    let n = length b.held in
    let fits = is.fits in
    let count : slot_count bytes ≡ n = s.says.count in
    let lo : low bytes ≡ 2048 - total_size b.held = s.says.low in
    let both = places_again bytes b.held 0 2048 (omega arith) (omega arith) is.records refl
    s.slots in
    let again : records_from bytes 0 n ≡ b.held = ap (map (slot_record bytes)) s.slots ∙ s.held in
    let zero-add : 0 + n ≡ n = omega arith in
    let ends : end_of bytes n + total_size b.held ≡ 2048 =
    ap (λ (j : ℕ). end_of bytes j + total_size b.held) (sym zero-add) ∙ both.0 in
    let in_place : AreInPlace bytes n = λ j lt. both.1 j (omega arith) (omega arith) in
    record {
      header = record {
        kind = subst (λ (k : ℕ). (k ≡ 3) ⊎ (k ≡ 4)) (sym s.says.kind) is.kind;
        zero5 = s.says.zero5;
        zero14 = s.says.zero14;
        zero15 = s.says.zero15;
      };
      room = omega (arith, count, lo);
      in_place = subst (AreInPlace bytes) (sym count) in_place;
      low_is = lo ∙ (let g : 2048 - total_size b.held ≡ end_of bytes n = omega (arith, ends) in g)
          ∙ ap (end_of bytes) (sym count);
      gap = λ k from to. s.clear k (omega (arith, count)) (omega (arith, lo));
      distinct = subst (HaveDistinctKeys bytes) (sym count)
          (distinct_held bytes n (subst (SpelledDistinct bytes) (sym s.slots)
          (distinct_again bytes (slots_ending 2048 b.held) b.held s.held is.distinct)));
      records = subst (TellRecords bytes) (sym count)
          (λ j lt. each_slot IsRecord bytes n 0 (subst (AllByRecursion IsRecord) (sym again)
          is.records) j (omega arith) (omega arith));
    }
