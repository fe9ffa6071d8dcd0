use Rattle.page_model.proofs.PlacementExampleLemmas.{hashes, nine_pairs, seventeen_pairs, long_pairs, thick_pairs, full_pages, far_pairs}
use Rattle.page_model.proofs.placement_laws.placement_examples.Goals as goal

pub returns : goal.returns
returns c = record {
  hashes = hashes;
  nine_pairs = nine_pairs;
  seventeen_pairs = seventeen_pairs;
  long_pairs = long_pairs;
  thick_pairs = thick_pairs;
  full_pages = full_pages;
  far_pairs = far_pairs;
}
