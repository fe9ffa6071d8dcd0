use Rattle.std.proofs.Common.{refl}
use Rattle.dbm_model.proofs.AllowedLemmas.{allowed_grows, first_is_near, far_is_bounded}
use Rattle.dbm_model.proofs.version_laws.pairs_by_version.Goals as goal

pub returns : goal.returns
returns c = record {
  examples = record {
    near = refl;
    not_near = refl;
    first_near = refl;
    first_far = refl;
    second_far = refl;
    longest = refl;
    too_long = refl;
    longest_key = refl;
    key_near = refl;
    key_too_long = refl;
    near_key = refl;
  };
  grows = allowed_grows;
  near = first_is_near;
  far = far_is_bounded;
}
