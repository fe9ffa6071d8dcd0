-- A page that spells any records that fit it says them, also where a key comes twice: what
-- `page_model` proves of pages with different keys (`Buckets.antt`), without that premise.
use Rattle.std.proofs.Common.{◌≡◌, ◌⊎◌, ⊎_elim, ℕ, ◌+◌, ◌-◌, ◌*◌, ◌≤◌, Bool, true, cond, List, [], ◌∷◌, ◌++◌, length, map, replicate, drop, refl, sym, ap, ◌∙◌, subst, arith}
use Rattle.std.specs.Str.{bytes_eq}
use Rattle.std.specs.List.{AllByRecursion}
use Rattle.std.proofs.lemmas.List.{append-nil, length-replicate}
use Rattle.std.proofs.lemmas.Slice.Eq.{bytes_eq-Decides}
use Rattle.dbm_model.specs.Bounds.{Version}
use Rattle.page_model.specs.Numbers.{IsNumber}
use Rattle.page_model.specs.Pages.{Body, Record, HeadPage, OverflowPage, Other, Bucket, bucket}
use Rattle.page_model.specs.Slots.{size, total_size, slots_ending, slots_bytes, records, taken, room_of}
use Rattle.page_model.specs.Spelling.{bucket_spelling, spelling_of}
use Rattle.page_model.specs.Reading.{kind_of, slot_count, slot_record, records_from, read_as, body_by_kind, bucket_of, body_of}
use Rattle.page_model.specs.Valid.{IsRecord, IsBucket}
use Rattle.page_model.proofs.Texts.{skip}
use Rattle.page_model.proofs.Buckets.{length-slots_ending, length-slots_bytes, header_again, slots_again, records_again}
use Rattle.page_model.proofs.Chains.{AllByRecursion-append}
use Rattle.page_io.specs.BucketPages.{IsBucketPage, page_records}
use Rattle.slot_page.specs.Contents.{with_records}
use Rattle.slot_page.proofs.Adding.{taken-push}
use Rattle.bucket_chain.specs.Links.{link_body, IsLink}

-- a page of records that is spelled is read back
bucket_again : (bytes : List ℕ) (b : Bucket) → IsNumber b.own → IsNumber b.next
    → taken b.held ≤ 2032 → AllByRecursion IsRecord b.held → bytes ≡ bucket_spelling b
    → bucket_of bytes ≡ b
unfolding bucket_of bucket_spelling
bucket_again bytes b own_is next_is fits all e =
    let ps = b.held in
    let n = length ps in
    let lo = 2048 - total_size ps in
    let text = slots_bytes (slots_ending 2048 ps) in
    let zeros : List ℕ = replicate (room_of ps) 0 in
    let long : 16 + length text ≡ 16 + 6 * n =
    omega (arith, length-slots_bytes (slots_ending 2048 ps), length-slots_ending 2048 ps) in
    let d16 : drop 16 bytes ≡ text ++ (zeros ++ records ps) = ap (drop 16) e in
    let dn : drop (16 + 6 * n) bytes ≡ zeros ++ records ps =
    skip bytes text (zeros ++ records ps) 16 (16 + 6 * n) d16 long in
    let dlow : drop lo bytes ≡ records ps =
    skip bytes zeros (records ps) (16 + 6 * n) lo dn
    (omega (arith, length-replicate {A = ℕ} (2032 - taken ps) 0)) in
    let says = header_again bytes (text ++ (zeros ++ records ps)) b.own b.kind n b.next lo own_is
    (omega arith) next_is (omega arith) e in
    let slots = slots_again bytes (zeros ++ records ps) ps 0 2048 (omega arith) (omega arith) all
    d16 in
    let read = records_again bytes [] ps 2048 lo (omega arith) (omega arith) all
    (dlow ∙ sym (append-nil (records ps))) in
    let held : records_from bytes 0 (slot_count bytes) ≡ b.held =
    ap (records_from bytes 0) says.count ∙ ap (map (slot_record bytes)) slots ∙ read in
    let own = says.own in let kind = says.kind in let next = says.next in
    rw (own, kind, next, held) refl

kind_again : (b : Bucket) → kind_of (bucket_spelling b) ≡ b.kind
unfolding bucket_spelling
kind_again b = refl

-- what reads as a body whose spelling it is says that
body_again : (n : ℕ) (b : Body) → body_by_kind (spelling_of n b) ≡ b
    → body_of n (spelling_of n b) ≡ b
unfolding body_of
body_again n b same =
    let bytes = spelling_of n b in
    let test : bytes_eq bytes (spelling_of n (body_by_kind bytes)) ≡ true =
    (bytes_eq-Decides bytes (spelling_of n (body_by_kind bytes))).1
    (ap (spelling_of n) (sym same)) in
    ap (λ (t : Bool). cond t (body_by_kind bytes) Other) test ∙ same

module _ (n next : ℕ) (held : List Record) (own_is : IsNumber n) (next_is : IsNumber next)
    (fits : taken held ≤ 2032) (all : AllByRecursion IsRecord held) where
  head_again : body_of n (bucket_spelling (bucket n 3 next held)) ≡ HeadPage next held
  head_again =
      let b = bucket n 3 next held in
      body_again n (HeadPage next held)
      (ap (λ (k : ℕ). read_as k (bucket_spelling b)) (kind_again b)
      ∙ ap (λ (x : Bucket). HeadPage x.next x.held)
      (bucket_again (bucket_spelling b) b own_is next_is fits all refl))

  overflow_again : body_of n (bucket_spelling (bucket n 4 next held)) ≡ OverflowPage next held
  overflow_again =
      let b = bucket n 4 next held in
      body_again n (OverflowPage next held)
      (ap (λ (k : ℕ). read_as k (bucket_spelling b)) (kind_again b)
      ∙ ap (λ (x : Bucket). OverflowPage x.next x.held)
      (bucket_again (bucket_spelling b) b own_is next_is fits all refl))

  link_again : (kind : ℕ) → (kind ≡ 3) ⊎ (kind ≡ 4)
      → body_of n (bucket_spelling (bucket n kind next held)) ≡ link_body kind next held
  link_again kind is = ⊎_elim
      (λ head. subst (λ (k : ℕ). body_of n (bucket_spelling (bucket n k next held))
      ≡ link_body k next held) (sym head) head_again)
      (λ over. subst (λ (k : ℕ). body_of n (bucket_spelling (bucket n k next held))
      ≡ link_body k next held) (sym over) overflow_again)
      is

-- a page of a chain with one more record
pub added_body : (version : Version) (old new : List ℕ) (n kind next : ℕ) (r : Record)
    → IsLink version old n kind next (page_records old)
    → size r + 6 ≤ room_of (page_records old) → IsRecord r
    → new ≡ bucket_spelling (with_records (bucket_of old) (page_records old ++ r ∷ []))
    → body_of n new ≡ link_body kind next (page_records old ++ r ∷ [])
added_body version old new n kind next r link room may spelled =
    let held = page_records old ++ r ∷ [] in
    let sound : IsBucket (bucket n kind next (page_records old)) =
    subst IsBucket link.says link.page.page.sound in
    let same : new ≡ bucket_spelling (bucket n kind next held) =
    spelled ∙ ap (λ (b : Bucket). bucket_spelling (with_records b held)) link.says in
    ap (body_of n) same ∙ link_again n next held sound.own sound.next
    (taken-push (page_records old) r room)
    (AllByRecursion-append IsRecord (page_records old) (r ∷ []) sound.records (may, tt))
    kind sound.kind

-- a fresh page of one record
pub fresh_body : (blank new : List ℕ) (n : ℕ) (r : Record) → IsBucketPage blank
    → bucket_of blank ≡ bucket n 4 0 [] → size r ≤ 2026 → IsRecord r
    → new ≡ bucket_spelling (with_records (bucket_of blank) (page_records blank ++ r ∷ []))
    → body_of n new ≡ OverflowPage 0 (r ∷ [])
fresh_body blank new n r page says few may spelled =
    let sound : IsBucket (bucket n 4 0 []) = subst IsBucket says page.sound in
    let same : new ≡ bucket_spelling (bucket n 4 0 (r ∷ [])) =
    spelled ∙ ap (λ (b : Bucket). bucket_spelling (with_records b (b.held ++ r ∷ []))) says in
    ap (body_of n) same ∙ overflow_again n 0 (r ∷ []) sound.own sound.next
    (taken-push [] r (omega (arith, few))) (may, tt)
