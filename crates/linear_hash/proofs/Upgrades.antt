-- The file that an upgrade leaves: the same placement with the bounds of version 2.
use Rattle.std.proofs.Common.{◌≡◌, ◌∙◌, ℕ, ◌≤◌, Result, OnOk, Ok, Err, sym, ap, subst, arith}
use Rattle.dbm_model.specs.Bounds.{upgraded}
use Rattle.dbm_model.specs.Pairs.{Contents}
use Rattle.dbm_model.specs.Sizes.{home}
use Rattle.page_model.specs.Pages.{Meta, Body}
use Rattle.page_model.specs.Valid.{IsMeta}
use Rattle.page_model.specs.Placement.{Placement, contents, raised, IsGood}
use Rattle.page_model.proofs.Stores.{raised_is_good}
use Rattle.page_io.specs.declared.store.PageFault.{PageFault}
use Rattle.free_pages.specs.declared.free_state.FreeState.{FreeState}
use Rattle.linear_hash.specs.Changing.{IsWritten, IsUpgraded}
use Rattle.linear_hash.specs.Staging.{IsMidway}
use Rattle.linear_hash.specs.Tables.{space_in, IsTable}
use Rattle.linear_hash.proofs.Stagings.{table_midway}

abbrev pub raised_meta : Meta → Meta
raised_meta m = record m { bounds = upgraded m.bounds }

pub raised_valid : (m : Meta) → IsMeta m → IsMeta (raised_meta m)
raised_valid m valid = record {
  limited = valid.limited;
  split_in = valid.split_in;
  few_buckets = valid.few_buckets;
  few_pairs = valid.few_pairs;
  all_segments = valid.all_segments;
  used = valid.used;
  numbers = valid.numbers;
  ends = valid.ends;
}

pub raised_good : (p : Placement) → IsGood p → IsGood (raised p)
raised_good p good = (raised_is_good p good).0

pub raised_map : (p : Placement) (map : Contents) → IsGood p → contents p ≡ map
    → contents (raised p) ≡ map
raised_map p map good is = (raised_is_good p good).1 ∙ is

-- no page changes but the meta page
pub raised_midway : (at : ℕ → Body) (m : Meta) (end : ℕ) (p : Placement) → IsTable at m end p
    → IsMidway at (raised_meta m) (space_in m end) (raised p)
raised_midway at m end p table =
    let mid = table_midway at m end p table in
    record {
      sound = (raised_good p table.good).sound;
      below = record { are_read = mid.below.are_read; kept = mid.below.kept };
      shape_is = mid.shape_is;
      segments_are = mid.segments_are;
      bounds_are = ap upgraded mid.bounds_are;
    }

pub raised_bounded : (at : ℕ → Body) (m : Meta) (end : ℕ) (p : Placement) → IsTable at m end p
    → (raised p).space.end ≤ home (upgraded m.bounds)
raised_bounded at m end p table =
    subst (λ (n : Meta). (raised p).space.end ≤ home (upgraded n.bounds)) (sym table.meta_is)
    (raised_good p table.good).bounded

-- what was written where no other page was changed
abbrev pub Unchanged : (ℕ → Body) → (ℕ → Body) → FreeState → Type 0
Unchanged old mid space = mid ≡ old

pub upgraded_so : (old new : ℕ → Body) (before after : Meta) (end last : ℕ)
    (result : Result Unit PageFault) → OnOk result (last ≡ end) →
    OnOk result (after ≡ raised_meta before)
    → OnOk result (IsWritten (Unchanged old) new (raised_meta before) after last)
    → OnOk result (IsUpgraded old new before after end)
upgraded_so old new before after end last (Ok done) ends kept written = record {
  kept = kept;
  meta = written.meta;
  others = λ n some below.
      written.others n some (omega (arith, below, ends))
      ∙ ap (λ (f : ℕ → Body). f n) written.change;
}
upgraded_so old new before after end last (Err e) ends kept written = tt
