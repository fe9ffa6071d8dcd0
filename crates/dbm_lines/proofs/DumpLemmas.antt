-- A dump and a listing that are worked out by hand.
use Rattle.std.proofs.Common.{◌≡◌, ℕ, List, [], ◌∷◌, sym, ◌∙◌, ap}
use Rattle.std.proofs.lemmas.List.{nil_from_length}
use Rattle.std.specs.Cmp.Lexicographic.{nat_list_cmp_total}
use Rattle.std.specs.FinMap.{empty, insert, entries, entries-insert, len-entries, len-empty}
use Rattle.std.specs.FinMap.Entries.{put}
use Rattle.dbm_model.specs.Pairs.{key_cmp}
use Rattle.dbm_lines.specs.Texts.{two_pairs}

pub no_entries : entries (empty {X = List ℕ} {R = key_cmp}) ≡ []
no_entries = nil_from_length (entries (empty {X = List ℕ} {R = key_cmp}))
    (sym (len-entries (empty {X = List ℕ} {R = key_cmp})) ∙ len-empty key_cmp (List ℕ))

-- the second key comes first
pub two_entries : entries two_pairs ≡ (0x61 ∷ 0xff ∷ [], 0x01 ∷ []) ∷ (0x62 ∷ [], []) ∷ []
two_entries =
    entries-insert nat_list_cmp_total (insert empty (0x62 ∷ []) []) (0x61 ∷ 0xff ∷ []) (0x01 ∷ [])
    ∙ ap (put key_cmp (0x61 ∷ 0xff ∷ []) (0x01 ∷ []))
    (entries-insert nat_list_cmp_total empty (0x62 ∷ []) []
    ∙ ap (put key_cmp (0x62 ∷ []) []) no_entries)
