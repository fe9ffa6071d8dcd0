-- How the buckets stand to one another in the order of the ranks.
use Rattle.std.proofs.Common.{◌≡◌, ◌⊎◌, ℕ, ◌^◌, ◌<◌, ◌≤◌, inl, inr, sym, ap, ◌∙◌, arith}
use Rattle.std.proofs.lemmas.Bool.{cases_order}
use Rattle.dbm_model.specs.KeyOrder.{rank}
use Rattle.page_model.specs.Address.{Shape, buckets}
use Rattle.lin_addr.specs.Intervals.{Precedes, IsFollowing, PrecedesNone}
use Rattle.lin_addr.proofs.Intervals.{own, few, ordered}
use Rattle.lin_addr.proofs.Ranks.{rank_back}

module _ (s : Shape) (split_in : s.split < 2 ^ s.level) (low_level : s.level ≤ 17) where
  -- the ranks of the buckets' numbers rise
  pub rises : (b c : ℕ) → b < buckets s → c < buckets s → Precedes s b c → rank b < rank c
  rises b c b_in c_in before =
      before b c (few s split_in low_level b b_in) (few s split_in low_level c c_in)
      (own s split_in b b_in) (own s split_in c c_in)

  pub never_both : (b c : ℕ) → b < buckets s → c < buckets s → Precedes s b c → Precedes s c b → ⊥
  never_both b c b_in c_in before behind =
      omega (arith, rises b c b_in c_in before, rises c b c_in b_in behind)

  pub never_itself : (b c : ℕ) → b < buckets s → b ≡ c → Precedes s b c → ⊥
  never_itself b c b_in same before =
      let one : rank b ≡ rank c = ap rank same in
      omega (arith, rises b c b_in (omega (arith, same, b_in)) before)

  pub chained : (b c d : ℕ) → c < buckets s → Precedes s b c → Precedes s c d → Precedes s b d
  chained b c d c_in first second h g h_in g_in at_b at_d =
      let c_few = few s split_in low_level c c_in in
      let own_c = own s split_in c c_in in
      omega (arith, first h c h_in c_few at_b own_c, second c g c_few g_in own_c at_d)

  -- of two buckets one precedes the other
  pub compared : (b c : ℕ) → b < buckets s → c < buckets s
      → (b ≡ c) ⊎ (Precedes s b c ⊎ Precedes s c b)
  compared b c b_in c_in = elim (cases_order (rank b) (rank c)) [
    | inl same ↦ inl (sym (rank_back b (few s split_in low_level b b_in)) ∙ ap rank same
        ∙ rank_back c (few s split_in low_level c c_in))
    | inr (inl less) ↦ inr (inl (ordered s split_in low_level b c b_in c_in less))
    | inr (inr more) ↦ inr (inr (ordered s split_in low_level c b c_in b_in more))
  ]

  -- what precedes the bucket that follows is the bucket, or precedes it
  pub before_next : (b next other : ℕ) → b < buckets s → other < buckets s
      → IsFollowing s b next → Precedes s other next → (other ≡ b) ⊎ Precedes s other b
  before_next b next other b_in other_in following before =
      elim (compared other b other_in b_in) [
        | inl same ↦ inl same
        | inr (inl less) ↦ inr less
        | inr (inr more) ↦ elim (following.first other other_in more) [
          | inl same ↦ absurd (never_itself other next other_in same before)
          | inr behind ↦ absurd
              (never_both other next other_in following.there before behind)
        ]
      ]

  -- behind the last there is none
  pub before_end : (b other : ℕ) → b < buckets s → other < buckets s → PrecedesNone s b
      → (other ≡ b) ⊎ Precedes s other b
  before_end b other b_in other_in last = elim (compared other b other_in b_in) [
    | inl same ↦ inl same
    | inr (inl less) ↦ inr less
    | inr (inr more) ↦ absurd (last other other_in more)
  ]
