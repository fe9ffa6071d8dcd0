-- The buckets as intervals of the ranks.
use Rattle.std.proofs.Common.{◌≡◌, ◌↔◌, ◌⊎◌, ℕ, ◌+◌, ◌*◌, ◌-◌, ◌%◌, ◌^◌, ◌<◌, ◌≤◌, ◌≢◌, true, false, cond, eqb, ltb, inl, inr, refl, sym, ap, ◌∙◌, subst, arith, add-one, add_comm, mod-lt}
use Rattle.std.proofs.Math.Nat.{pow-suc, mod-eq_of_lt}
use Rattle.std.proofs.Math.Pow.{mod-mod-pow, pow_mono}
use Rattle.std.specs.Int.{bit_at}
use Rattle.std.proofs.lemmas.Nat.{pow_pos}
use Rattle.std.proofs.lemmas.Bool.{cases_lt, cases_eq, eqb-true, eqb-false}
use Rattle.std.proofs.lemmas.Bool.Decides.{nat_tests}
use Rattle.dbm_model.specs.KeyOrder.{rank}
use Rattle.page_model.specs.Address.{Shape, address, buckets, grown}
use Rattle.page_model.proofs.AddressLemmas.{bit_cases, address_below}
use Rattle.lin_addr.specs.Intervals.{Precedes, AreIntervals, BeginsWithZero, IsFollowing, PrecedesNone}
use Rattle.lin_addr.proofs.Ranks.{rank_below, rank_back, rank_zero, by_low_bits, raised}

own_on : (m x b p w n : ℕ) → x < m → p < m → ((b ≡ 0) × (w ≡ x)) ⊎ ((b ≡ 1) × (w ≡ m + x))
    → w ≡ n → n < m + p → cond (ltb x p) w x ≡ n
own_on m x b p w n h k e l u = grind (arith, nat_tests)

wide_on : (m x b p w n : ℕ) → x < m → p < m → ((b ≡ 0) × (w ≡ x)) ⊎ ((b ≡ 1) × (w ≡ m + x))
    → n < m + p → (n < p) ⊎ (m ≤ n) → (cond (ltb x p) w x ≡ n) ↔ (w ≡ n)
wide_on m x b p w n h k e u l = grind (arith, nat_tests)

narrow_on : (m x b p w n : ℕ) → x < m → p < m → ((b ≡ 0) × (w ≡ x)) ⊎ ((b ≡ 1) × (w ≡ m + x))
    → p ≤ n → n < m → (cond (ltb x p) w x ≡ n) ↔ (x ≡ n)
narrow_on m x b p w n h k e u l = grind (arith, nat_tests)

by_more_on : (x p w : ℕ) → x < p → cond (ltb x p) w x ≡ w
by_more_on x p w h = grind (arith, nat_tests)

by_fewer_on : (x p w : ℕ) → p ≤ x → cond (ltb x p) w x ≡ x
by_fewer_on x p w h = grind (arith, nat_tests)

module _ (s : Shape) (split_in : s.split < 2 ^ s.level) where
  -- a bucket's number is one of its hashes
  pub own : (b : ℕ) → b < buckets s → address s b ≡ b
  own b below =
      own_on (2 ^ s.level) (b % 2 ^ s.level) (bit_at b s.level) s.split (b % 2 ^ (s.level + 1)) b
      (mod-lt b (pow_pos s.level)) split_in (bit_cases b s.level)
      (mod-eq_of_lt (rw (add-one, pow-suc 2 s.level) (omega arith))) below

  pub wide : (b h : ℕ) → b < buckets s → (b < s.split) ⊎ (2 ^ s.level ≤ b)
      → (address s h ≡ b) ↔ (h % 2 ^ (s.level + 1) ≡ b)
  wide b h below is_split =
      wide_on (2 ^ s.level) (h % 2 ^ s.level) (bit_at h s.level) s.split
      (h % 2 ^ (s.level + 1)) b (mod-lt h (pow_pos s.level)) split_in (bit_cases h s.level)
      below is_split

  pub narrow : (b h : ℕ) → s.split ≤ b → b < 2 ^ s.level
      → (address s h ≡ b) ↔ (h % 2 ^ s.level ≡ b)
  narrow b h not_split is_low =
      narrow_on (2 ^ s.level) (h % 2 ^ s.level) (bit_at h s.level) s.split
      (h % 2 ^ (s.level + 1)) b (mod-lt h (pow_pos s.level)) split_in (bit_cases h s.level)
      not_split is_low

  low_of : (h : ℕ) → address s h % 2 ^ s.level ≡ h % 2 ^ s.level
  low_of h =
      let shorter : h % 2 ^ (s.level + 1) % 2 ^ s.level ≡ h % 2 ^ s.level =
      ap (λ x. h % 2 ^ x % 2 ^ s.level) (add_comm s.level 1) ∙ mod-mod-pow h 1 s.level in
      elim (ltb (h % 2 ^ s.level) s.split) as (λ t. cond t (h % 2 ^ (s.level + 1)) (h % 2 ^ s.level)
      % 2 ^ s.level ≡ h % 2 ^ s.level) [
        | true ↦ shorter
        | false ↦ mod-eq_of_lt (mod-lt h (pow_pos s.level))
      ]

  same_low : (h g : ℕ) → address s h ≡ address s g → h % 2 ^ s.level ≡ g % 2 ^ s.level
  same_low h g same = sym (low_of h) ∙ ap (λ x. x % 2 ^ s.level) same ∙ low_of g

  by_more : (h : ℕ) → h % 2 ^ s.level < s.split → address s h ≡ h % 2 ^ (s.level + 1)
  by_more h = by_more_on (h % 2 ^ s.level) s.split (h % 2 ^ (s.level + 1))

  same_more : (h g : ℕ) → g % 2 ^ s.level < s.split → address s h ≡ address s g
      → h % 2 ^ (s.level + 1) ≡ g % 2 ^ (s.level + 1)
  same_more h g is_split same =
      let also : h % 2 ^ s.level < s.split = omega (arith, same_low h g same, is_split) in
      sym (by_more h also) ∙ same ∙ by_more g is_split

  by_fewer : (h : ℕ) → s.split ≤ h % 2 ^ s.level → address s h ≡ h % 2 ^ s.level
  by_fewer h = by_fewer_on (h % 2 ^ s.level) s.split (h % 2 ^ (s.level + 1))

  module _ (low_level : s.level ≤ 17) where
    pub few : (b : ℕ) → b < buckets s → b < 2 ^ 32
    few b below =
        let most : 2 ^ s.level ≤ 2 ^ 17 = pow_mono low_level in omega arith

    pub intervals : AreIntervals s
    intervals h g h_in g_in order = elim (cases_eq (h % 2 ^ s.level) (g % 2 ^ s.level)) [
      | inr apart ↦ inr (λ i f i_in f_in at_h at_g. by_low_bits s.level (32 - s.level) h g i f
          (omega arith) order apart (same_low i h at_h) (same_low f g at_g))
      | inl same ↦ elim (cases_lt (h % 2 ^ s.level) s.split) [
        | inr whole ↦ inl (by_fewer h whole ∙ same
            ∙ sym (by_fewer g (let also : s.split ≤ g % 2 ^ s.level = omega arith in also)))
        | inl is_split ↦
            let also : g % 2 ^ s.level < s.split = omega arith in
            elim (cases_eq (h % 2 ^ (s.level + 1)) (g % 2 ^ (s.level + 1))) [
              | inl same_yet ↦ inl (by_more h is_split ∙ same_yet ∙ sym (by_more g also))
              | inr apart ↦ inr (λ i f i_in f_in at_h at_g. by_low_bits (s.level + 1)
                  (31 - s.level) h g i f (omega arith) order apart
                  (same_more i h is_split at_h) (same_more f g also at_g))
            ]
      ]
    ]

    -- buckets come in the order of the ranks of their numbers
    pub ordered : (b c : ℕ) → b < buckets s → c < buckets s → rank b < rank c → Precedes s b c
    ordered b c b_in c_in order =
        elim (intervals b c (few b b_in) (few c c_in) order) [
          | inl same ↦ absurd (let one : rank b ≡ rank c =
              ap rank (sym (own b b_in) ∙ same ∙ own c c_in) in omega arith)
          | inr before ↦ λ h g h_in g_in at_b at_c. before h g h_in g_in (at_b ∙ sym (own b b_in))
              (at_c ∙ sym (own c c_in))
        ]

    pub from_zero : BeginsWithZero s
    from_zero b b_in = elim (cases_eq b 0) [
      | inl same ↦ inl same
      | inr apart ↦ inr (ordered 0 b (omega arith) b_in
          (let some : rank b ≢ 0 = λ none. apart (sym (rank_back b (few b b_in)) ∙ ap rank none
          ∙ rank_zero) in omega (arith, rank_zero)))
    ]

    -- top has the greatest rank of the hashes of b
    module _ (b top : ℕ) (top_in : top < 2 ^ 32) (there : address s top ≡ b)
        (greatest : (h : ℕ) → h < 2 ^ 32 → address s h ≡ b → rank h ≤ rank top) where
      pub is_last : 2 ^ 32 ≤ rank top + 1 → PrecedesNone s b
      is_last full other other_in before =
          omega (
            arith,
            rank_below other,
            before top other top_in (few other other_in) there (own other other_in),
          )

      pub is_following : (next : ℕ) → next < 2 ^ 32 → rank next ≡ rank top + 1
          → IsFollowing s b (address s next)
      is_following next next_in is_next = record {
        there = address_below s next split_in;
        behind = elim (intervals top next top_in next_in (omega arith)) [
          | inl same ↦ absurd (let low : rank next ≤ rank top =
              greatest next next_in (sym same ∙ there) in omega arith)
          | inr before ↦ λ h g h_in g_in at_b at_next.
              before h g h_in g_in (at_b ∙ sym there) at_next
        ];
        first = λ other other_in before.
            let above : rank top < rank other =
            before top other top_in (few other other_in) there (own other other_in) in
            elim (cases_eq (rank other) (rank next)) [
              | inl same ↦ inl (sym (own other other_in) ∙ ap (λ h. address s h)
                  (sym (rank_back other (few other other_in)) ∙ ap rank same
                  ∙ rank_back next next_in))
              | inr apart ↦ elim (intervals next other next_in (few other other_in) (omega arith)) [
                | inl same ↦ inl (sym (own other other_in) ∙ sym same)
                | inr behind ↦ inr (λ h g h_in g_in at_next at_other. behind h g h_in g_in at_next
                    (at_other ∙ sym (own other other_in)))
              ]
            ];
      }

-- what the shape t after one bucket more is known by
pub record IsMore (s t : Shape) : Type 0 where
  pub split_in : t.split < 2 ^ t.level
  pub low_level : t.level ≤ 17
  pub more : buckets t ≡ buckets s + 1

is_more : (s : Shape) → s.split < 2 ^ s.level → s.level ≤ 16 → IsMore s (grown s)
is_more s split_in low_level = elim (eqb (s.split + 1) (2 ^ s.level)) as (λ t.
    eqb (s.split + 1) (2 ^ s.level) ≡ t
    → IsMore s (cond t (record { level = s.level + 1; split = 0 })
    (record { level = s.level; split = s.split + 1 }))) [
      | true ↦ λ t. let whole : s.split + 1 ≡ 2 ^ s.level = eqb-true _ _ t in
          let double : 2 ^ (s.level + 1) ≡ 2 ^ s.level * 2 = rw add-one (pow-suc 2 s.level) in
          record {
            split_in = pow_pos (s.level + 1);
            low_level = omega arith;
            more = omega arith;
          }
      | false ↦ λ t. let part : s.split + 1 ≡ 2 ^ s.level → ⊥ = eqb-false _ _ t in record {
        split_in = omega arith;
        low_level = omega arith;
        more = omega arith;
      }
    ] refl

-- the bucket that is split and the new one, in the shape t after that
pub cut : (s t : Shape) → s.split < 2 ^ s.level → s.level ≤ 16 → t ≡ grown s
    → Precedes t s.split (s.split + 2 ^ s.level)
cut s t split_in low_level e =
    let more : IsMore s (grown s) = is_more s split_in low_level in
    subst (λ u. Precedes u s.split (s.split + 2 ^ s.level)) (sym e)
    (ordered (grown s) more.split_in more.low_level s.split (s.split + 2 ^ s.level)
    (omega (arith, more.more, pow_pos s.level)) (omega (arith, more.more))
    (raised s.level (31 - s.level) s.split (omega arith) split_in))
