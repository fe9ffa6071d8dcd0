-- Numbers by their bits in reverse order.
use Rattle.std.proofs.Common.{◌≡◌, ℕ, zero, suc, ◌+◌, ◌*◌, ◌-◌, ◌/◌, ◌%◌, ◌^◌, ◌<◌, ◌≤◌, ◌≢◌, inl, inr, refl, sym, ap, ap₂, ◌∙◌, arith, mod-lt}
use Rattle.std.specs.Int.{reverse_bits_onto}
use Rattle.std.proofs.Math.Nat.{pow-suc, div-one, mul-le-mul_right, mod-eq_of_lt, div-eq_of_lt}
use Rattle.std.proofs.lemmas.Nat.{mod-pow-add, div-mul-add, mod-mul-add, shr-shr, pow_pos}
use Rattle.std.proofs.lemmas.Bool.{cases_order}
use Rattle.dbm_model.specs.KeyOrder.{rank}

-- a is moved up by the bits that come behind it
pub behind : (k n a : ℕ) → reverse_bits_onto k n a ≡ a * 2 ^ k + reverse_bits_onto k n 0
unfolding reverse_bits_onto
behind zero n a = omega arith
behind (suc k) n a =
    rw (pow-suc 2 k) (omega (
      arith,
      behind k (n / 2) (a * 2 + n % 2),
      behind k (n / 2) (0 * 2 + n % 2),
    ))

at_most : (b p : ℕ) → b < 2 → b * p ≤ p
at_most zero p h = omega arith
at_most (suc zero) p h = omega arith
at_most (suc (suc b)) p h = absurd (omega arith)

pub few_bits : (k n : ℕ) → reverse_bits_onto k n 0 < 2 ^ k
unfolding reverse_bits_onto
few_bits zero n = omega arith
few_bits (suc k) n =
    rw (pow-suc 2 k) (omega (
      arith,
      behind k (n / 2) (0 * 2 + n % 2),
      few_bits k (n / 2),
      at_most (n % 2) (2 ^ k) (mod-lt n (omega arith)),
    ))

-- the lowest k bits come first
pub parted : (k j t n a : ℕ) → t ≡ k + j
    → reverse_bits_onto t n a ≡ reverse_bits_onto j (n / 2 ^ k) (reverse_bits_onto k n a)
unfolding reverse_bits_onto
parted zero j t n a e =
    ap₂ (λ x y. reverse_bits_onto x y a) (let same : t ≡ j = omega arith in same) (sym (div-one n))
parted (suc k) j zero n a e = absurd (omega arith)
parted (suc k) j (suc t) n a e =
    parted k j t (n / 2) (a * 2 + n % 2) (omega arith)
    ∙ ap (λ x. reverse_bits_onto j x (reverse_bits_onto k (n / 2) (a * 2 + n % 2)))
    (shr-shr n 1 k ∙ ap (λ x. n / 2 ^ x) (let more : 1 + k ≡ suc k = omega arith in more))

-- the bits that were put behind a come off it in their old order
turned : (k m t n a c : ℕ) → t ≡ k + m → reverse_bits_onto t (reverse_bits_onto k n a) c
    ≡ reverse_bits_onto m a (c * 2 ^ k + n % 2 ^ k)
unfolding reverse_bits_onto
turned zero m t n a c e =
    ap₂ (λ x y. reverse_bits_onto x a y) (let same : t ≡ m = omega arith in same)
    (let none : c ≡ c * 1 + n % 1 = omega arith in none)
turned (suc k) m t n a c e =
    let low : n % 2 < 2 = mod-lt n (omega arith) in
    let wider : n % 2 ^ suc k ≡ (n / 2 % 2 ^ k) * 2 + n % 2 =
    ap (λ x. n % 2 ^ x) (let more : suc k ≡ k + 1 = omega arith in more) ∙ mod-pow-add n k 1 in
    turned k (suc m) t (n / 2) (a * 2 + n % 2) c (omega arith)
    ∙ ap₂ (λ x y. reverse_bits_onto m x y) (div-mul-add a 2 (n % 2) low)
    (rw (wider, pow-suc 2 k) (omega (arith, mod-mul-add a 2 (n % 2) low)))

pub twice : (k n : ℕ) → reverse_bits_onto k (reverse_bits_onto k n 0) 0 ≡ n % 2 ^ k
unfolding reverse_bits_onto
twice k n = turned k 0 k n 0 0 (omega arith) ∙ omega arith

-- the higher bits make no difference
pub low_bits : (k n : ℕ) → reverse_bits_onto k n 0 ≡ reverse_bits_onto k (n % 2 ^ k) 0
low_bits k n = sym (mod-eq_of_lt (few_bits k n)) ∙ sym (twice k (reverse_bits_onto k n 0))
    ∙ ap (λ x. reverse_bits_onto k x 0) (twice k n)

-- all ones stay all ones
pub all_ones : (k : ℕ) → reverse_bits_onto k (2 ^ k - 1) 0 ≡ 2 ^ k - 1
unfolding reverse_bits_onto
all_ones zero = refl
all_ones (suc k) =
    let positive : 0 < 2 ^ k = pow_pos k in
    let odd : 2 ^ suc k - 1 ≡ (2 ^ k - 1) * 2 + 1 = rw (pow-suc 2 k) (omega arith) in
    let half : (2 ^ suc k - 1) / 2 ≡ 2 ^ k - 1 =
    ap (λ x. x / 2) odd ∙ div-mul-add (2 ^ k - 1) 2 1 (omega arith) in
    let one : (2 ^ suc k - 1) % 2 ≡ 1 =
    ap (λ x. x % 2) odd ∙ mod-mul-add (2 ^ k - 1) 2 1 (omega arith) in
    behind k ((2 ^ suc k - 1) / 2) (0 * 2 + (2 ^ suc k - 1) % 2)
    ∙ ap₂ (λ x y. (0 * 2 + y) * 2 ^ k + reverse_bits_onto k x 0) half one
    ∙ rw (pow-suc 2 k) (omega (arith, all_ones k))

-- ---- hashes
pub rank_below : (h : ℕ) → rank h < 2 ^ 32
rank_below h = few_bits 32 h

pub rank_back : (h : ℕ) → h < 2 ^ 32 → rank (rank h) ≡ h
rank_back h below = twice 32 h ∙ mod-eq_of_lt below

-- the low bits of a hash are the high ones of its rank
pub rank_parts : (k j h : ℕ) → 32 ≡ k + j
    → rank h ≡ reverse_bits_onto k h 0 * 2 ^ j + reverse_bits_onto j (h / 2 ^ k) 0
rank_parts k j h e = parted k j 32 h 0 e ∙ behind j (h / 2 ^ k) (reverse_bits_onto k h 0)

next_block : (a b p : ℕ) → a < b → a * p + p ≤ b * p
next_block a b p below = omega (arith, mul-le-mul_right p below)

higher : (a b p x y : ℕ) → a * p + x < b * p + y → y < p → a ≢ b → a < b
higher a b p x y below small apart = elim (cases_order a b) [
  | inl same ↦ absurd (apart same)
  | inr (inl less) ↦ less
  | inr (inr more) ↦ absurd (omega (arith, next_block b a p more))
]

-- what a rank begins with where the low bits of the hash are those of another one
alike : (k j h i : ℕ) → 32 ≡ k + j → i % 2 ^ k ≡ h % 2 ^ k
    → rank i ≡ reverse_bits_onto k h 0 * 2 ^ j + reverse_bits_onto j (i / 2 ^ k) 0
alike k j h i e like =
    rank_parts k j i e ∙ ap (λ a. a * 2 ^ j + reverse_bits_onto j (i / 2 ^ k) 0)
    (low_bits k i ∙ ap (λ x. reverse_bits_onto k x 0) like ∙ sym (low_bits k h))

-- of two hashes whose low bits differ, these bits alone say which has the lower rank
pub by_low_bits : (k j h g i f : ℕ) → 32 ≡ k + j → rank h < rank g → h % 2 ^ k ≢ g % 2 ^ k
    → i % 2 ^ k ≡ h % 2 ^ k → f % 2 ^ k ≡ g % 2 ^ k → rank i < rank f
by_low_bits k j h g i f e below apart like_h like_g =
    let differ : reverse_bits_onto k h 0 ≢ reverse_bits_onto k g 0 = λ same.
    apart (sym (twice k h) ∙ ap (λ x. reverse_bits_onto k x 0) same ∙ twice k g) in
    let order : reverse_bits_onto k h 0 < reverse_bits_onto k g 0 =
    higher _ _ (2 ^ j) (reverse_bits_onto j (h / 2 ^ k) 0) (reverse_bits_onto j (g / 2 ^ k) 0)
    (omega (arith, rank_parts k j h e, rank_parts k j g e, below)) (few_bits j (g / 2 ^ k))
    differ in
    omega (
      arith,
      alike k j h i e like_h,
      alike k j g f e like_g,
      few_bits j (i / 2 ^ k),
      next_block _ _ (2 ^ j) order,
    )

-- the greatest rank of the hashes with these low bits
pub highest_rank : (k j h i : ℕ) → 32 ≡ k + j → i % 2 ^ k ≡ h % 2 ^ k → h / 2 ^ k ≡ 2 ^ j - 1
    → rank i ≤ rank h
highest_rank k j h i e like ones =
    let tail : reverse_bits_onto j (h / 2 ^ k) 0 ≡ 2 ^ j - 1 =
    ap (λ x. reverse_bits_onto j x 0) ones ∙ all_ones j in
    omega (arith, alike k j h i e like, rank_parts k j h e, few_bits j (i / 2 ^ k), tail)

zeros : (k : ℕ) → reverse_bits_onto k 0 0 ≡ 0
unfolding reverse_bits_onto
zeros zero = refl
zeros (suc k) = zeros k

-- rank 0 is that of hash 0
pub rank_zero : rank 0 ≡ 0
rank_zero = zeros 32

one_more : (j : ℕ) → 0 < reverse_bits_onto (suc j) 1 0
unfolding reverse_bits_onto
one_more j = omega (arith, behind j 0 1, pow_pos j)

-- one more bit makes a hash's rank greater
pub raised : (k j h : ℕ) → 32 ≡ k + suc j → h < 2 ^ k → rank h < rank (h + 2 ^ k)
raised k j h e below =
    let sum : h + 2 ^ k ≡ 1 * 2 ^ k + h = omega arith in
    let high : (h + 2 ^ k) / 2 ^ k ≡ 1 =
    ap (λ x. x / 2 ^ k) sum ∙ div-mul-add 1 (2 ^ k) h below in
    let like : (h + 2 ^ k) % 2 ^ k ≡ h % 2 ^ k = ap (λ x. x % 2 ^ k) sum
    ∙ mod-mul-add 1 (2 ^ k) h below ∙ sym (mod-eq_of_lt below) in
    let none : reverse_bits_onto (suc j) (h / 2 ^ k) 0 ≡ 0 =
    ap (λ x. reverse_bits_onto (suc j) x 0) (div-eq_of_lt below) ∙ zeros (suc j) in
    let one : reverse_bits_onto (suc j) ((h + 2 ^ k) / 2 ^ k) 0 ≡ reverse_bits_onto (suc j) 1 0 =
    ap (λ x. reverse_bits_onto (suc j) x 0) high in
    omega (
      arith,
      rank_parts k (suc j) h e,
      alike k (suc j) h (h + 2 ^ k) e like,
      none,
      one,
      one_more j,
    )
