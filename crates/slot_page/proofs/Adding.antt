-- What one more record makes of the bytes.
use Rattle.std.proofs.Common.{◌≡◌, ◌≢◌, ℕ, ◌+◌, ◌-◌, ◌*◌, ◌≤◌, ◌<◌, ◌^◌, List, [], ◌∷◌, ◌++◌, length, replicate, refl, sym, ap, subst, ◌∙◌, append_assoc, arith}
use Rattle.std.proofs.lemmas.List.{append-nil, length-append, length-replicate, replicate-append-replicate}
use Rattle.std.proofs.lemmas.List.Quantifiers.{all_pairs_push}
use Rattle.page_model.specs.Bytes.{u16_bytes, u32_bytes, overwrite}
use Rattle.page_model.specs.Pages.{Record, Bucket}
use Rattle.page_model.specs.Slots.{Slot, size, key_number, content_number, total_size, slot_ending, slots_ending, slot_bytes, slots_bytes, records, taken, room_of}
use Rattle.page_model.specs.Spelling.{header, bucket_header, bucket_spelling}
use Rattle.page_model.specs.Reading.{low, bucket_of}
use Rattle.page_model.specs.Valid.{IsRecord, IsBucket}
use Rattle.page_io.specs.BucketPages.{IsBucketPage, page_records}
use Rattle.slot_page.specs.Contents.{with_records, with_next, IsAbsent, HasRecords}
use Rattle.page_model.proofs.Chains.{AllByRecursion-append}
use Rattle.page_model.proofs.Writes.{overwrite_mid}
use Rattle.page_model.proofs.Buckets.{bucket_again, length-slots_ending, length-slots_bytes}

-- the bytes of one more record
total_size-push : (ps : List Record) (p : Record)
    → total_size (ps ++ p ∷ []) ≡ total_size ps + size p
total_size-push [] p = omega arith
total_size-push (q ∷ ps) p = omega (arith, total_size-push ps p)

-- one more slot
table-push : (end : ℕ) (ps : List Record) (p : Record)
    → slots_ending end (ps ++ p ∷ []) ≡ slots_ending end ps
    ++ slot_ending (end - total_size ps) p ∷ []
table-push end [] p = ap (λ (e : ℕ). slot_ending e p ∷ []) (omega arith)
table-push end (q ∷ ps) p =
    let at : end - size q - total_size ps ≡ end - (size q + total_size ps) = omega arith in
    ap (λ (ss : List Slot). slot_ending end q ∷ ss)
    (table-push (end - size q) ps p
    ∙ ap (λ (e : ℕ). slots_ending (end - size q) ps ++ slot_ending e p ∷ []) at)

-- the bytes of one more slot
slots_bytes-push : (ss : List Slot) (s : Slot)
    → slots_bytes (ss ++ s ∷ []) ≡ slots_bytes ss ++ slot_bytes s
slots_bytes-push [] s = refl
slots_bytes-push (t ∷ ss) s =
    ap (λ (x : List ℕ). slot_bytes t ++ x) (slots_bytes-push ss s)
    ∙ sym (append_assoc (slot_bytes t) (slots_bytes ss) (slot_bytes s))

-- one more record, in front of the others
records-push : (ps : List Record) (p : Record)
    → records (ps ++ p ∷ []) ≡ (p.key ++ p.bytes) ++ records ps
records-push [] p = sym (let e : (p.key ++ p.bytes) ++ [] ≡ p.key ++ p.bytes = simp append-nil in e)
records-push (q ∷ ps) p = ap (λ (x : List ℕ). x ++ (q.key ++ q.bytes)) (records-push ps p)
    ∙ append_assoc (p.key ++ p.bytes) (records ps) (q.key ++ q.bytes)

-- the writes behind the header
body_added : (h t z6 zm zr r rec slot : List ℕ) (offset at : ℕ)
    → length h + length t + length z6 + length zm ≡ offset → length h + length t ≡ at
    → length rec ≡ length zr → length slot ≡ length z6
    → overwrite (overwrite (h ++ (t ++ ((z6 ++ (zm ++ zr)) ++ r))) offset rec) at slot ≡ h
    ++ ((t ++ slot) ++ (zm ++ (rec ++ r)))
body_added h t z6 zm zr r rec slot offset at e f g k =
    let front : h ++ (t ++ ((z6 ++ (zm ++ zr)) ++ r)) ≡ (h ++ (t ++ (z6 ++ zm))) ++ (zr ++ r) =
    simp append_assoc in
    let long : length (h ++ (t ++ (z6 ++ zm))) ≡ offset = simp length-append (omega arith) in
    let one = overwrite_mid (h ++ (t ++ (z6 ++ zm))) zr r rec offset long g in
    let regroup : (h ++ (t ++ (z6 ++ zm))) ++ (rec ++ r) ≡ (h ++ t) ++ (z6 ++ (zm ++ (rec ++ r))) =
    simp append_assoc in
    let two = overwrite_mid (h ++ t) z6 (zm ++ (rec ++ r)) slot at (simp length-append f) k in
    let last : (h ++ t) ++ (slot ++ (zm ++ (rec ++ r))) ≡ h ++ ((t ++ slot) ++ (zm ++ (rec ++ r))) =
    simp append_assoc in
    ap (λ (x : List ℕ). overwrite (overwrite x offset rec) at slot) front
    ∙ ap (λ (x : List ℕ). overwrite x at slot) (one ∙ regroup) ∙ two ∙ last

-- the writes to the header
header_set : (own kind count next low count' low' : ℕ) (body : List ℕ)
    → overwrite (overwrite (header own kind count next low ++ body) 6 (u16_bytes count')) 12
    (u16_bytes low') ≡ header own kind count' next low' ++ body
header_set own kind count next low count' low' body = refl

-- the slot of a record that begins there
abbrev pub slot_at_place : ℕ → Record → Slot
slot_at_place offset r = record {
  offset = offset;
  key_len = key_number (length r.key) r.far;
  content_len = content_number (length r.bytes) r.far;
}

-- the four writes spell the list with one more record
pub spelling-push : (b : Bucket) (p : Record) (offset at count : ℕ) (slot : Slot) → IsBucket b
    → size p + 6 ≤ room_of b.held → offset + size p + total_size b.held ≡ 2048
    → at ≡ 16 + 6 * length b.held → count ≡ length b.held + 1
    → slot ≡ slot_at_place offset p
    → overwrite (overwrite (overwrite (overwrite (bucket_spelling b) offset (p.key ++ p.bytes)) at
    (slot_bytes slot)) 6 (u16_bytes count)) 12 (u16_bytes offset)
    ≡ bucket_spelling (with_records b (b.held ++ p ∷ []))
unfolding bucket_spelling
spelling-push b p offset at count slot is fits e f g s =
    let ps = b.held in
    let free = is.fits in
    let h : List ℕ = bucket_header b in
    let t : List ℕ = slots_bytes (slots_ending 2048 ps) in
    let m = 2032 - taken (ps ++ p ∷ []) in
    let more = total_size-push ps p in
    let many : length (ps ++ p ∷ []) ≡ length ps + 1 = omega (arith, length-append ps (p ∷ [])) in
    let z6 : List ℕ = replicate 6 0 in
    let zm : List ℕ = replicate m 0 in
    let zr : List ℕ = replicate (size p) 0 in
    let parts : replicate (room_of ps) 0 ≡ z6 ++ (zm ++ zr) =
    ap (λ (k : ℕ). replicate k 0)
    (let k : 2032 - taken ps ≡ 6 + (m + size p) = omega (arith, more, many) in k)
    ∙ sym (replicate-append-replicate 6 (m + size p) 0)
    ∙ ap (λ (x : List ℕ). z6 ++ x) (sym (replicate-append-replicate m (size p) 0)) in
    let long : length t ≡ 6 * length ps =
    omega (arith, length-slots_bytes (slots_ending 2048 ps), length-slots_ending 2048 ps) in
    let lm : length zm ≡ m = length-replicate m 0 in
    let lr : length zr ≡ size p = length-replicate (size p) 0 in
    let body = body_added h t z6 zm zr (records ps) (p.key ++ p.bytes) (slot_bytes slot) offset at
    (omega (arith, long, lm, more, many)) (omega (arith, long))
    (omega (arith, length-append p.key p.bytes, lr)) refl in
    let slot_is : slot ≡ slot_ending (2048 - total_size ps) p =
    s ∙ ap (λ (o : ℕ). slot_at_place o p)
    (let o : offset ≡ 2048 - total_size ps - size p = omega arith in o) in
    let table_is : t ++ slot_bytes slot ≡ slots_bytes (slots_ending 2048 (ps ++ p ∷ [])) =
    ap (λ (x : Slot). t ++ slot_bytes x) slot_is
    ∙ sym (slots_bytes-push (slots_ending 2048 ps) (slot_ending (2048 - total_size ps) p))
    ∙ ap slots_bytes (sym (table-push 2048 ps p)) in
    let low_is : offset ≡ 2048 - total_size (ps ++ p ∷ []) = omega (arith, more) in
    let start : bucket_spelling b ≡ h ++ (t ++ ((z6 ++ (zm ++ zr)) ++ records ps)) =
    ap (λ (z : List ℕ). h ++ (t ++ (z ++ records ps))) parts in
    let b4 : List ℕ = (t ++ slot_bytes slot) ++ (zm ++ ((p.key ++ p.bytes) ++ records ps)) in
    ap (λ (x : List ℕ). overwrite
    (overwrite (overwrite (overwrite x offset (p.key ++ p.bytes)) at (slot_bytes slot)) 6
    (u16_bytes count)) 12 (u16_bytes offset)) start
    ∙ ap (λ (x : List ℕ). overwrite (overwrite x 6 (u16_bytes count)) 12 (u16_bytes offset)) body
    ∙ header_set b.own b.kind (length ps) b.next (2048 - total_size ps) count offset b4
    ∙ ap (λ (c : ℕ). header b.own b.kind c b.next offset ++ b4) (g ∙ sym many)
    ∙ ap (λ (l : ℕ). header b.own b.kind (length (ps ++ p ∷ [])) b.next l ++ b4) low_is
    ∙ ap (λ (x : List ℕ). bucket_header (with_records b (ps ++ p ∷ []))
    ++ (x ++ (zm ++ ((p.key ++ p.bytes) ++ records ps)))) table_is
    ∙ ap (λ (x : List ℕ). bucket_header (with_records b (ps ++ p ∷ []))
    ++ (slots_bytes (slots_ending 2048 (ps ++ p ∷ [])) ++ (zm ++ x)))
    (sym (records-push ps p))

-- a page that has a bucket's spelling
pub holds : (old new : List ℕ) (ps : List Record) → IsBucket (with_records (bucket_of old) ps)
    → new ≡ bucket_spelling (with_records (bucket_of old) ps) → HasRecords old new ps
holds old new ps is e =
    let says = bucket_again new (with_records (bucket_of old) ps) is e in
    record {
      page = record {
        sound = subst IsBucket (sym says) is;
        spelled =
            e ∙ ap bucket_spelling (sym says);
      };
      says = says;
    }

-- a list with one more record may be said
pub is_bucket-push : (b : Bucket) (p : Record) → IsBucket b → size p + 6 ≤ room_of b.held
    → IsRecord p → IsAbsent p.key b.held → IsBucket (with_records b (b.held ++ p ∷ []))
is_bucket-push b p is fits may absent =
    let free = is.fits in
    record {
      own = is.own;
      kind = is.kind;
      next = is.next;
      fits = omega (arith, total_size-push b.held p, length-append b.held (p ∷ []));
      distinct = all_pairs_push (λ (q r : Record). q.key ≢ r.key) b.held p is.distinct absent;
      records = AllByRecursion-append IsRecord b.held (p ∷ []) is.records (may, tt);
    }

-- what a record that fits finds
pub record HasRoom (bytes : List ℕ) (low_is count_is key_len content_len : ℕ) : Type 0 where
  pub low_of : low_is + total_size (page_records bytes) ≡ 2048
  pub count_of : count_is ≡ length (page_records bytes)
  pub both : 16 + 6 * count_is + 6 + key_len + content_len ≤ low_is

-- what fits is not too much
pub taken-push : (ps : List Record) (p : Record)
    → size p + 6 ≤ room_of ps → taken (ps ++ p ∷ []) ≤ 2032
taken-push ps p le = omega (arith, total_size-push ps p, length-append ps (p ∷ []))

-- what the code writes is the spelling of the list with one more record
pub added : (old new : List ℕ) (p : Record) (l n offset at count : ℕ) (slot : Slot)
    → IsBucketPage old → HasRoom old l n (length p.key) (length p.bytes)
    → size p + 6 ≤ room_of (page_records old)
    → offset + length p.key + length p.bytes ≡ l → at ≡ 16 + 6 * n → count ≡ n + 1
    → slot ≡ slot_at_place offset p
    → new ≡ overwrite (overwrite (overwrite (overwrite old offset (p.key ++ p.bytes)) at
    (slot_bytes slot)) 6 (u16_bytes count)) 12 (u16_bytes offset)
    → new ≡ bucket_spelling (with_records (bucket_of old) (page_records old ++ p ∷ []))
added old new p l n offset at count slot h r fits e f g s w =
    let b = bucket_of old in
    let a = r.low_of in let d = r.count_of in
    let written = w ∙ ap (λ (x : List ℕ).
    overwrite (overwrite (overwrite (overwrite x offset (p.key ++ p.bytes)) at
    (slot_bytes slot)) 6 (u16_bytes count)) 12 (u16_bytes offset)) h.spelled in
    written ∙ spelling-push b p offset at count slot h.sound fits (omega arith) (omega arith)
    (omega arith) s

-- a page with one more record, whose key is a new one
pub added_holds : (old new : List ℕ) (p : Record) → IsBucketPage old
    → size p + 6 ≤ room_of (page_records old) → IsRecord p
    → new ≡ bucket_spelling (with_records (bucket_of old) (page_records old ++ p ∷ []))
    → IsAbsent p.key (page_records old) → HasRecords old new (page_records old ++ p ∷ [])
added_holds old new p h fits may e absent =
    holds old new (page_records old ++ p ∷ [])
    (is_bucket-push (bucket_of old) p h.sound fits may absent) e

-- the write of the next page
next_set : (own kind count next low next' : ℕ) (body : List ℕ)
    → overwrite (header own kind count next low ++ body) 8 (u32_bytes next')
    ≡ header own kind count next' low ++ body
next_set own kind count next low next' body = refl

-- a page with another next page
pub next_is : (old new : List ℕ) (n : ℕ) → n < 2 ^ 32 → IsBucketPage old
    → new ≡ overwrite old 8 (u32_bytes n)
    → IsBucketPage new × (bucket_of new ≡ with_next (bucket_of old) n)
unfolding bucket_spelling
next_is old new n lt h e =
    let b = bucket_of old in
    let s = h.sound in
    let is : IsBucket (with_next b n) =
    record {
      own = s.own;
      kind = s.kind;
      next = lt;
      fits = s.fits;
      distinct = s.distinct;
      records = s.records;
    } in
    let body : List ℕ = slots_bytes (slots_ending 2048 b.held)
    ++ (replicate (room_of b.held) 0 ++ records b.held) in
    let spelled : new ≡ bucket_spelling (with_next b n) =
    e ∙ ap (λ (x : List ℕ). overwrite x 8 (u32_bytes n)) h.spelled
    ∙ next_set b.own b.kind (length b.held) b.next (2048 - total_size b.held) n body in
    let says = bucket_again new (with_next b n) is spelled in (
      record {
        sound = subst IsBucket (sym says) is;
        spelled =
            spelled ∙ ap bucket_spelling (sym says);
      },
      says,
    )
