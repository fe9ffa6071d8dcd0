-- Keys in the order of a pass, by the ranks of their hashes.
use Rattle.std.proofs.Common.{◌≡◌, ℕ, ◌*◌, ◌%◌, ◌^◌, ◌<◌, List, [], ◌∷◌, fold, arith, mod-lt, bit_xor, nat_cmp, Less, Greater, ap, sym, ◌∙◌}
use Rattle.std.specs.Cmp.{nat_cmp_is}
use Rattle.std.specs.Cmp.Lexicographic.{slice_cmp}
use Rattle.std.specs.Ordering.{ordering_then}
use Rattle.dbm_model.specs.KeyOrder.{hash_of, rank, ComesBefore}
use Rattle.dbm_model.specs.Pairs.{Key}

stays_below : (key : List ℕ) (hash : ℕ) → hash < 2 ^ 32
    → fold (λ (hash byte : ℕ). bit_xor hash byte * 16777619 % 2 ^ 32) hash key < 2 ^ 32
stays_below [] hash below = below
stays_below (byte ∷ key) hash below =
    stays_below key (bit_xor hash byte * 16777619 % 2 ^ 32)
    (mod-lt (bit_xor hash byte * 16777619) (omega arith))

pub hash_below : (key : Key) → hash_of key < 2 ^ 32
unfolding hash_of
hash_below key = stays_below key 2166136261 (omega arith)

-- a key of a lower rank comes before one of a higher rank, and not behind it
pub by_rank : (key other : Key) → rank (hash_of key) < rank (hash_of other) → ComesBefore key other
by_rank key other less =
    let known : Less ≡ nat_cmp (rank (hash_of key)) (rank (hash_of other)) =
    nat_cmp_is _ _ Less less in
    ap (λ o. ordering_then o (slice_cmp nat_cmp key other)) (sym known)

pub not_by_rank : (key other : Key) → rank (hash_of other) < rank (hash_of key)
    → ComesBefore key other → ⊥
not_by_rank key other more before =
    let known : Greater ≡ nat_cmp (rank (hash_of key)) (rank (hash_of other)) =
    nat_cmp_is _ _ Greater more in
    let turned : Greater ≡ Less =
    ap (λ o. ordering_then o (slice_cmp nat_cmp key other)) known ∙ before in cc
