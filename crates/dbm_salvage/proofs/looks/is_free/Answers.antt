use Rattle.std.proofs.Common.{◌≡◌, ◌↔◌, ℕ, true, List, length, Option, Some, None, refl, sym, ap, ◌∙◌, arith}
use Rattle.std.specs.Option.{is_some}
use Rattle.page_model.specs.Numbers.{IsNumber}
use Rattle.page_model.specs.Pages.{FreePage}
use Rattle.page_model.specs.Reading.{body_of}
use Rattle.page_model.proofs.Texts.{IsBytes}
use Rattle.dbm_salvage.specs.Salvage.{ReadsAs}
use Rattle.dbm_salvage.proofs.PageKinds.{free_read, free_reads}
use Rattle.dbm_salvage.proofs.looks.is_free.Goals as goal

of_some : (r : Option ℕ) (n : ℕ) (bytes : List ℕ) → IsNumber n → length bytes ≡ 2048 → IsBytes bytes
    → ((next : ℕ) → (r ≡ Some next) ↔ (body_of n bytes ≡ FreePage next)) → is_some r ≡ true
    → ReadsAs n bytes
of_some None n bytes small len fits says is = cc
of_some (Some next) n bytes small len fits says is =
    free_reads n next bytes small len fits ((says next).0 refl)

pub returns : goal.returns
returns c =
    let bytes = c.args.page.now.bytes in (
      λ yes. of_some c.read_free.result c.args.n bytes (omega arith) (omega arith)
          c.are_bytes.ensures c.read_free.ensures.says (sym c.is_some.ensures ∙ yes),
      λ reads. let is = free_read c.args.n bytes reads c.requires in
          c.is_some.ensures ∙ ap is_some ((c.read_free.ensures.says is.next).1 is.says),
    )
