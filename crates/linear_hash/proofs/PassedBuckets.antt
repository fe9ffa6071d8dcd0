-- The buckets that a pass has read, on any file.
use Rattle.std.proofs.Common.{◌≡◌, inl, inr, ℕ, ◌^◌, ◌<◌, ◌≤◌, ◌/◌, ◌%◌, List, slice_index, Option, None, sym, subst, arith}
use Rattle.std.proofs.lemmas.Nat.{pow_pos}
use Rattle.dbm_model.specs.KeyOrder.{hash_of}
use Rattle.dbm_model.specs.States.{Pass, NotBegun, Begun, Behind}
use Rattle.page_model.specs.Pages.{Meta, Body}
use Rattle.page_model.specs.Valid.{meta_buckets}
use Rattle.page_model.proofs.AddressLemmas.{address_below}
use Rattle.lin_addr.specs.Intervals.{Precedes, IsFollowing, PrecedesNone}
use Rattle.lin_addr.proofs.Precedence.{never_both, never_itself, chained, before_next, before_end}
use Rattle.seg_table.specs.Heads.{HasEntry}
use Rattle.bucket_chain.specs.Leasts.{IsLeastRead}
use Rattle.linear_hash.specs.Passing.{bucket_of_pass, IsToRead, IsBucketRead, HaveNone}
use Rattle.linear_hash.specs.Tables.{shape_in}

-- a bucket that was read, by pages that say what they said at first
pub bucket_read : (at at' at'' : ℕ → Body) (m : Meta) (bucket head : ℕ) (from : Pass)
    (bytes : List ℕ) (answer : Option ℕ) → bucket < meta_buckets m → IsToRead m from bucket
    → at' ≡ at → at'' ≡ at'
    → HasEntry (at' (slice_index m.segments (bucket / 508))) (bucket % 508) head
    → IsLeastRead at'' head from bytes answer → IsBucketRead at m bucket from bytes answer
bucket_read at at' at'' m bucket head from bytes answer there to_read first second entry least =
    record {
      there = there;
      to_read = to_read;
      head = head;
      segment = subst (λ (f : ℕ → Body).
          HasEntry (f (slice_index m.segments (bucket / 508))) (bucket % 508) head) first entry;
      least = subst (λ (f : ℕ → Body). IsLeastRead f head from bytes answer) first
          (subst (λ (f : ℕ → Body). IsLeastRead f head from bytes answer) second least);
    }

module _ (m : Meta) (split_in : m.split < 2 ^ m.level) (low_level : m.level ≤ 17)
    (from : Pass) where
  pub first_below : bucket_of_pass m from < meta_buckets m
  first_below = by_pass from
    where
      by_pass : (from : Pass) → bucket_of_pass m from < meta_buckets m
      by_pass NotBegun = omega (arith, pow_pos m.level)
      by_pass Begun = omega (arith, pow_pos m.level)
      by_pass (Behind last) = address_below (shape_in m) (hash_of last) split_in

  pub to_read_next : (bucket next : ℕ) → bucket < meta_buckets m → IsToRead m from bucket
      → Precedes (shape_in m) bucket next → IsToRead m from next
  to_read_next bucket next below (inl same) before =
      inr (subst (λ (b : ℕ). Precedes (shape_in m) b next) same before)
  to_read_next bucket next below (inr behind) before =
      inr (chained (shape_in m) split_in low_level (bucket_of_pass m from) bucket next below behind
      before)

  module _ (at : ℕ → Body) where
    pub none_before_first : HaveNone at m from
        (λ other. Precedes (shape_in m) other (bucket_of_pass m from))
    none_before_first other below (inl same) before =
        absurd (never_itself (shape_in m) split_in low_level other (bucket_of_pass m from) below
        same before)
    none_before_first other below (inr behind) before =
        absurd (never_both (shape_in m) split_in low_level other (bucket_of_pass m from) below
        first_below before behind)

    module _ (bucket : ℕ) (bytes : List ℕ) (below : bucket < meta_buckets m)
        (before : HaveNone at m from (λ other. Precedes (shape_in m) other bucket))
        (read : IsBucketRead at m bucket from bytes None) where
      none_here : (other : ℕ) → other ≡ bucket
          → (bytes : List ℕ) × IsBucketRead at m other from bytes None
      none_here other same =
          (bytes, subst (λ (b : ℕ). IsBucketRead at m b from bytes None) (sym same) read)

      pub none_before_next : (next : ℕ) → IsFollowing (shape_in m) bucket next
          → HaveNone at m from (λ other. Precedes (shape_in m) other next)
      none_before_next next following other other_below to_read less =
          elim (before_next (shape_in m) split_in low_level bucket next other below other_below
          following less) [
            | inl same ↦ none_here other same
            | inr earlier ↦ before other other_below to_read earlier
          ]

      pub none_at_all : PrecedesNone (shape_in m) bucket → HaveNone at m from (λ other. Unit {0})
      none_at_all last other other_below to_read any =
          elim (before_end (shape_in m) split_in low_level bucket other below other_below last) [
            | inl same ↦ none_here other same
            | inr earlier ↦ before other other_below to_read earlier
          ]
