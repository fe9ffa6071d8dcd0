use Rattle.std.proofs.Common.{◌+◌, ◌*◌, ◌-◌, ◌++◌, ◌∷◌, [], length, refl, ap, ◌∙◌, arith, List, ℕ}
use Rattle.slot_page.specs.Slots.{as_spelled}
use Rattle.page_model.specs.Bytes.{overwrite, u16_bytes}
use Rattle.page_model.specs.Slots.{slot_bytes}
use Rattle.page_io.specs.BucketPages.{page_records}
use Rattle.slot_page.specs.Contents.{record_of}
use Rattle.slot_page.proofs.Adding.{HasRoom, taken-push, added, added_holds}
use Rattle.slot_page.proofs.Pages.{kept}
use Rattle.slot_page.proofs.bucket.add_record.Goals as goal

pub returns : goal.returns
returns c =
    let bytes = c.args.page.now.bytes in
    let new = c.set_u16_at-2.new.self.bytes in
    let r = record_of c.args.key.now c.args.bytes.now c.args.far in
    let l = c.counts-count.result.1 in
    let n = c.counts-count.result.0 in
    let offset = l - length r.key - length r.bytes in
    let n_is = c.counts-count.ensures.count in
    let l_is = c.counts-count.ensures.low in
    let room = c.counts-count.ensures.room in
    let h : HasRoom bytes l n (length r.key) (length r.bytes) =
    record { low_of = l_is; count_of = n_is; both = omega arith } in
    let slot = c.new-slot.result in
    let says = c.new-slot.ensures in
    let w2 = c.set_slot_at.ensures
    ∙ ap (λ (xs : List ℕ). overwrite xs (16 + 6 * n) (slot_bytes (as_spelled slot)))
    c.put_record.ensures in
    let w3 = c.set_u16_at.ensures ∙ ap (λ (xs : List ℕ). overwrite xs 6 (u16_bytes (n + 1))) w2 in
    let w4 = c.set_u16_at-2.ensures
    ∙ ap (λ (o : ℕ). overwrite c.set_u16_at.new.self.bytes 12 (u16_bytes o)) says.offset
    ∙ ap (λ (xs : List ℕ). overwrite xs 12 (u16_bytes offset)) w3 in
    let e = added bytes new r l n offset (16 + 6 * n) (n + 1) (as_spelled slot) c.requires.page h
    c.requires.fits (omega arith) refl refl
    (λ i. record { offset = says.offset i; key_len = says.key i; content_len = says.content i })
    w4 in
    record {
      holds = added_holds bytes new r c.requires.page c.requires.fits c.requires.may e;
      spelled = e;
      header = kept bytes new (page_records bytes ++ r ∷ []) c.requires.page
          (taken-push (page_records bytes) r c.requires.fits) e;
    }
