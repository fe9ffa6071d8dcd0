-- The pairs of a batch with the numbers of their lines.
use Rattle.std.proofs.Common.{◌≡◌, inl, inr, ℕ, ◌<◌, List, [], ◌∷◌, ◌++◌, length, map, get_or, refl, sym, ap, subst, ◌∙◌, arith}
use Rattle.std.specs.List.{zip}
use Rattle.std.proofs.lemmas.List.{length-map}
use Rattle.std.proofs.lemmas.Slice.Zip.{firsts-zip, seconds-zip}
use Rattle.dbm_model.specs.Pairs.{Pair}
use Rattle.page_io.specs.declared.store.PageStore.{Ghosts}
use Rattle.dbm_fault.specs.declared.fault.Fault.{Fault}
use Rattle.dbm_file.specs.declared.Pair as code
use Rattle.dbm_file.specs.declared.database.Database.{Database}
use Rattle.dbm_engines.specs.Batches.{BeginAt, Numbered, StopsAt, pairs_of}
use Rattle.dbm_engines.specs.Storing.{IsRefused, StopsBehind, pair_of}

zip_behind : (lines : List ℕ) (pairs : List Pair) (line : ℕ) (pair : Pair)
    → length lines ≡ length pairs
    → zip (lines ++ line ∷ []) (pairs ++ pair ∷ []) ≡ zip lines pairs ++ (line, pair) ∷ []
zip_behind [] [] line pair same = refl
zip_behind [] (y ∷ pairs) line pair same = absurd (omega (arith, same))
zip_behind (x ∷ lines) [] line pair same = absurd (omega (arith, same))
zip_behind (x ∷ lines) (y ∷ pairs) line pair same =
    ap (λ (held : List Numbered). (x, y) ∷ held)
    (zip_behind lines pairs line pair (omega (arith, same)))

mapped_behind : (pairs : List code.Pair) (pair : code.Pair)
    → map pair_of (pairs ++ pair ∷ []) ≡ map pair_of pairs ++ pair_of pair ∷ []
mapped_behind [] pair = refl
mapped_behind (x ∷ pairs) pair =
    ap (λ (ps : List Pair). pair_of x ∷ ps) (mapped_behind pairs pair)

-- one more is kept
pub one_kept : (lines more_lines : List ℕ) (pairs more_pairs : List code.Pair) (line : ℕ)
    (pair : code.Pair) (key content : List ℕ) → length lines ≡ length pairs
    → more_lines ≡ lines ++ line ∷ [] → more_pairs ≡ pairs ++ pair ∷ [] → pair.key.items ≡ key
    → pair.content.items ≡ content
    → zip more_lines (map pair_of more_pairs)
    ≡ zip lines (map pair_of pairs) ++ (line, (key, content)) ∷ []
one_kept lines more_lines pairs more_pairs line pair key content same lines_are pairs_are is_key is_content =
    (λ i. zip (lines_are i) (map pair_of (pairs_are i)))
    ∙ ap (zip (lines ++ line ∷ [])) (mapped_behind pairs pair)
    ∙ zip_behind lines (map pair_of pairs) line (pair_of pair)
    (same ∙ sym (length-map pairs pair_of))
    ∙ (λ i. zip lines (map pair_of pairs) ++ (line, (is_key i, is_content i)) ∷ [])

-- the pairs alone
pub pairs_held : (lines : List ℕ) (pairs : List code.Pair) → length lines ≡ length pairs
    → pairs_of (zip lines (map pair_of pairs)) ≡ map pair_of pairs
pairs_held lines pairs same =
    seconds-zip lines (map pair_of pairs) (length-map pairs pair_of ∙ sym same)

-- a list whose images are two lists is two lists
record Split (held : List Numbered) (first later : List Pair) : Type 0 where
  pub ahead : List Numbered
  pub behind : List Numbered
  pub are : held ≡ ahead ++ behind
  pub first_are : pairs_of ahead ≡ first
  pub later_are : pairs_of behind ≡ later

split_one : (one : Numbered) (held : List Numbered) (pair : Pair) (first later : List Pair)
    → one.1 ≡ pair → Split held first later → Split (one ∷ held) (pair ∷ first) later
split_one one held pair first later is split = record {
  ahead = one ∷ split.ahead;
  behind = split.behind;
  are = ap (λ (ns : List Numbered). one ∷ ns) split.are;
  first_are = λ i. is i ∷ split.first_are i;
  later_are = split.later_are;
}

split_held : (held : List Numbered) (first later : List Pair) → pairs_of held ≡ first ++ later
    → Split held first later
split_held held [] later is = record {
  ahead = [];
  behind = held;
  are = refl;
  first_are = refl;
  later_are = is;
}
split_held [] (pair ∷ first) later is = absurd (let e = is in cc)
split_held (one ∷ held) (pair ∷ first) later is =
    split_one one held pair first later (let e = is in cc)
    (split_held held first later (let e = is in cc))

line_behind : (ahead : List Numbered) (one : Numbered) (more : List Numbered) (other : ℕ)
    → get_or (map (λ (n : Numbered). n.0) (ahead ++ one ∷ more)) (length ahead) other ≡ one.0
line_behind [] one more other = refl
line_behind (first ∷ ahead) one more other = line_behind ahead one more other

-- the first of some is that of the line which has their place
begin_at : (held ahead refused later : List Numbered) (line count : ℕ)
    → held ≡ ahead ++ (refused ++ later) → length ahead ≡ count → 0 < length refused
    → line ≡ get_or (map (λ (n : Numbered). n.0) held) count line → BeginAt line refused
begin_at held ahead [] later line count are at some is = absurd (omega (arith, some))
begin_at held ahead (one ∷ more) later line count are at some is =
    is
    ∙ (λ i. get_or (map (λ (n : Numbered). n.0) (are i)) (sym at i) line)
    ∙ line_behind ahead one (more ++ later) line

some_refused : {S : Type 0} {s : Ghosts S} (old new : Database S s) (stored refused : List Pair)
    (fault : Fault) → IsRefused old new stored refused fault → 0 < length refused
some_refused old new stored refused fault (inl (pair, is, before)) =
    omega (arith, ap length is)
some_refused old new stored refused fault (inr (some, then)) = some

-- a refusal of the pairs of these lines
pub stops_held : {S : Type 0} (s : Ghosts S) (old new : Database S s) (lines : List ℕ)
    (pairs : List code.Pair) (line count : ℕ) (fault : Fault) → length lines ≡ length pairs
    → StopsBehind old new (map pair_of pairs) count fault → line ≡ get_or lines count line
    → StopsAt old new (zip lines (map pair_of pairs)) line fault
stops_held s old new lines pairs line count fault same (stops, at) is =
    let held = zip lines (map pair_of pairs) in
    let numbers : map (λ (n : Numbered). n.0) held ≡ lines =
    firsts-zip lines (map pair_of pairs) (length-map pairs pair_of ∙ sym same) in
    let first = split_held held stops.stored (stops.refused ++ stops.later)
    (pairs_held lines pairs same ∙ stops.pairs_are) in
    let next = split_held first.behind stops.refused stops.later first.later_are in
    let are = first.are ∙ ap (λ (ns : List Numbered). first.ahead ++ ns) next.are in
    let some : 0 < length next.ahead =
    omega (
      arith,
      some_refused old new stops.stored stops.refused fault stops.how,
      length-map next.ahead (λ (n : Numbered). n.1),
      ap length next.first_are,
    ) in
    let place : length first.ahead ≡ count =
    sym (length-map first.ahead (λ (n : Numbered). n.1)) ∙ ap length first.first_are ∙ at in
    record {
      stored = first.ahead;
      refused = next.ahead;
      later = next.behind;
      held_are = are;
      how = subst (λ (ps : List Pair). IsRefused old new ps (pairs_of next.ahead) fault)
          (sym first.first_are)
          (subst (λ (ps : List Pair). IsRefused old new stops.stored ps fault)
          (sym next.first_are) stops.how);
      begin = begin_at held first.ahead next.ahead next.behind line count are place some
          (is ∙ ap (λ (ns : List ℕ). get_or ns count line) (sym numbers));
    }
