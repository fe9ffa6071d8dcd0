-- The head that is read from a segment's page.
use Rattle.std.proofs.Common.{◌≡◌, ℕ, ◌+◌, ◌*◌, ◌/◌, ◌%◌, ◌<◌, ◌∙◌, List, length, get_or, sym, ap, arith}
use Rattle.page_model.specs.Bytes.{u32_at}
use Rattle.page_model.specs.Pages.{Body}
use Rattle.page_model.specs.PageBodies.{segment_bodies, AreRead}
use Rattle.page_model.specs.Reading.{body_of, heads_on}
use Rattle.seg_table.specs.Heads.{HasEntry}
use Rattle.seg_table.specs.Segments.{IsSpelledSegment}
use Rattle.seg_table.proofs.HeadTexts.{entry_is, heads_said, heads_of_said}
use Rattle.seg_table.proofs.Tables.{part, part_read, get_or-part}

-- the bytes are those of the bucket's segment
module _ (at : ℕ → Body) (segments : List ℕ) (b : ℕ) (bytes : List ℕ) (len : length bytes ≡ 2048)
    (spelled : IsSpelledSegment bytes (get_or segments (b / 508) 0))
    (read : at (get_or segments (b / 508) 0) ≡ body_of (get_or segments (b / 508) 0) bytes) where
  abbrev here : ℕ
  here = get_or segments (b / 508) 0

  pub entry_read : HasEntry (at here) (b % 508) (u32_at bytes (16 + 4 * (b % 508)))
  entry_read = record {
    heads = heads_on bytes;
    segment = read ∙ heads_said bytes here spelled;
    entry = entry_is bytes (b % 508) len (omega arith);
  }

  pub head_read : (heads : List ℕ) → AreRead at (segment_bodies segments heads)
      → b / 508 < length segments → u32_at bytes (16 + 4 * (b % 508)) ≡ get_or heads b 0
  head_read heads are lt =
      let page : body_of here bytes ≡ _ = sym read ∙ part_read at segments heads (b / 508) are lt in
      entry_is bytes (b % 508) len (omega arith)
      ∙ ap (λ (xs : List ℕ). get_or xs (b % 508) 0)
      (sym (heads_of_said bytes here (part heads (b / 508)) page)) ∙ get_or-part heads b
