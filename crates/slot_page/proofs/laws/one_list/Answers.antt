use Rattle.std.proofs.Common.{refl, sym, ◌∙◌}
use Rattle.page_model.specs.Spelling.{bucket_spelling}
use Rattle.page_model.proofs.Buckets.{bucket_again}
use Rattle.slot_page.proofs.laws.one_list.Goals as goal

pub returns : goal.returns
returns _ = λ b d is_b is_d e.
    sym (bucket_again (bucket_spelling b) b is_b refl) ∙ bucket_again (bucket_spelling b) d is_d e
