use Rattle.page_model.proofs.PageExampleLemmas.{new_pages, nine_pair_pages, freed_pages, overflow_pages, far_pages}
use Rattle.page_model.proofs.body_laws.page_examples.Goals as goal

pub returns : goal.returns
returns c = record {
  new = new_pages;
  nine_pairs = nine_pair_pages;
  freed = freed_pages;
  overflow = overflow_pages;
  far = far_pages;
}
