-- The records of a sound placement's pages are sound.
use Rattle.std.proofs.Common.{◌+◌, [], ◌∷◌, ◌++◌, subst}
use Rattle.std.specs.List.{AllByRecursion}
use Rattle.std.proofs.lemmas.List.Concat.{flat_map-append}
use Rattle.dbm_model.specs.Bounds.{Version}
use Rattle.page_model.specs.Chain.{Entry, Chain, entries_in, leaf_pairs, pairs_in, pages_of, IsEntry}
use Rattle.page_model.proofs.Chains.{AllByRecursion-left, AllByRecursion-right}
use Rattle.page_model.proofs.GoodBodies.{IsPageNumber, Once, once_left, once_right, distinct_records, records_good}
use Rattle.bucket_chain.specs.Chains.{chain_read}
use Rattle.bucket_chain.specs.Links.{AreSound}
use Rattle.page_model.proofs.Versions.{records_of_version}

-- page by page
pub leaves_sound : (version : Version) (chain : Chain)
    → AllByRecursion (IsEntry version) (entries_in chain)
    → AllByRecursion IsPageNumber (pages_of (entries_in chain)) → Once (pairs_in chain)
    → AllByRecursion (λ leaf. AreSound version leaf.records) (chain_read chain)
leaves_sound version [] is ns once = tt
leaves_sound version (leaf ∷ rest) is ns once =
    let here = AllByRecursion-left (IsEntry version) leaf.entries (entries_in rest) is in
    let both : AllByRecursion IsPageNumber (pages_of leaf.entries ++ pages_of (entries_in rest)) =
    subst (AllByRecursion IsPageNumber)
    (flat_map-append (λ (e : Entry). e.pages) leaf.entries (entries_in rest)) ns in (
      record {
        distinct = distinct_records leaf.entries
            (once_left (leaf_pairs leaf) (pairs_in rest) once);
        told = records_good version leaf.entries here
            (AllByRecursion-left IsPageNumber (pages_of leaf.entries)
            (pages_of (entries_in rest)) both);
        of_version = records_of_version version leaf.entries here;
      },
      leaves_sound version rest
          (AllByRecursion-right (IsEntry version) leaf.entries (entries_in rest) is)
          (AllByRecursion-right IsPageNumber (pages_of leaf.entries)
          (pages_of (entries_in rest)) both)
          (once_right (leaf_pairs leaf) (pairs_in rest) once),
    )
