-- Lists of pairs: where a key comes, and what bytes they hold.
use Rattle.std.specs.Prelude.{ℕ, ◌<◌, Bool, List, count_by, slice_index}
use Rattle.std.specs.Ordering.{eq_by_cmp}
use Rattle.dbm_model.specs.Pairs.{Key, Pair, key_cmp}

abbrev pub has_key : Key → Pair → Bool
has_key key pair = eq_by_cmp key_cmp key pair.0

-- how often the key comes
abbrev pub times : Key → List Pair → ℕ
times key pairs = count_by (has_key key) pairs

-- each is below 256
abbrev pub AreBytes : List ℕ → Type 0
AreBytes bytes = (i : ℕ) → slice_index bytes i < 256

abbrev pub HasBytes : Pair → Type 0
HasBytes pair = AreBytes pair.0 × AreBytes pair.1
