-- The examples of pages, by computing.
use Rattle.std.specs.Prelude.{map}
use Rattle.std.proofs.Common.{refl, ap, ◌∙◌}
use Rattle.page_model.specs.Address.{hash_of}
use Rattle.page_model.specs.Placement.{Placement}
use Rattle.page_model.specs.PageBodies.{page_bodies}
use Rattle.page_model.specs.Spelling.{spell, meta_spelling, segment_spelling, bucket_spelling, free_spelling, content_spelling}
use Rattle.page_model.specs.PageExamples.{NewPages, NinePairPages, FreedPages, OverflowPages, FarPages}
use Rattle.page_model.proofs.PlacementExampleLemmas.{nine_pairs}

pub new_pages : NewPages
unfolding meta_spelling segment_spelling bucket_spelling
new_pages = refl

pub nine_pair_pages : NinePairPages
unfolding meta_spelling segment_spelling bucket_spelling
nine_pair_pages = ap (λ (p : Placement). map spell (page_bodies p)) nine_pairs ∙ refl

pub freed_pages : FreedPages
unfolding hash_of meta_spelling segment_spelling bucket_spelling free_spelling
freed_pages = refl

pub overflow_pages : OverflowPages
unfolding hash_of meta_spelling segment_spelling bucket_spelling
overflow_pages = refl

pub far_pages : FarPages
unfolding hash_of meta_spelling segment_spelling bucket_spelling content_spelling
far_pages = refl
