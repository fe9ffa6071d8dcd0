-- The examples of placements, by computing.
use Rattle.std.proofs.Common.{refl}
use Rattle.page_model.specs.Address.{hash_of}
use Rattle.page_model.specs.PlacementExamples.{HashExamples, NinePairs, SeventeenPairs, LongPairs, ThickPairs, FullPages, FarPairs}

pub hashes : HashExamples
unfolding hash_of
hashes = record { none = refl; letter = refl; word = refl }

pub nine_pairs : NinePairs
unfolding hash_of
nine_pairs = refl

pub seventeen_pairs : SeventeenPairs
unfolding hash_of
seventeen_pairs = refl

pub long_pairs : LongPairs
unfolding hash_of
long_pairs = record { stored = refl; deleted = refl; again = refl }

pub thick_pairs : ThickPairs
unfolding hash_of
thick_pairs = refl

pub full_pages : FullPages
unfolding hash_of
full_pages = record {
  stored = refl;
  replaced_keeps = refl;
  renewed_keeps = refl;
  deleted_frees = refl;
}

pub far_pairs : FarPairs
unfolding hash_of
far_pairs = record {
  near_still = refl;
  stored = refl;
  paged = refl;
  longest = refl;
  in_pages = refl;
  deleted = refl;
}
