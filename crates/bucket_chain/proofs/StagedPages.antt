-- What the staging of one page changes.
use Rattle.std.proofs.Common.{◌≡◌, inl, inr, ⊎_elim, ℕ, ◌+◌, ◌<◌, ◌≤◌, ◌^◌, true, List, length, Result, Ok, Err, OnOk, OnErr, refl, sym, ◌∙◌, ap, subst, arith}
use Rattle.std.proofs.lemmas.Bool.{cases_eq}
use Rattle.page_model.specs.Pages.{Body}
use Rattle.page_model.specs.Reading.{body_of}
use Rattle.page_io.specs.Page.{own_number}
use Rattle.page_io.specs.Store.{StoreState, put_page, are_in_order, IsKnown}
use Rattle.page_io.specs.Views.{body_at, StagesOnly, ReadsOnly, MayEnd, MayEndWith}
use Rattle.page_io.specs.declared.store.PageStore.{Ghosts}
use Rattle.page_io.proofs.StagedPages.{has_page-put, has_page-put_other}
use Rattle.page_io.proofs.Views.{length-put, end_stays, same_said, others_said}

abbrev pub IsPut : StoreState → List ℕ → StoreState → Type 0
IsPut old bytes new = new ≡ record old { staged = put_page old.staged bytes }

-- either the page is staged, or nothing is
by_result : {T E : Type 0} (P : StoreState → Type 0) (old new : StoreState) (bytes : List ℕ)
    (result : Result T E) → OnOk result (IsPut old bytes new) → OnErr result (new ≡ old) → P old
    → P (record old { staged = put_page old.staged bytes }) → P new
by_result P old new bytes (Ok x) put same kept staged = subst P (sym put) staged
by_result P old new bytes (Err e) put same kept staged = subst P (sym same) kept

module _ {T E : Type 0} (old new : StoreState) (bytes : List ℕ) (result : Result T E)
    (ok : OnOk result (IsPut old bytes new)) (err : OnErr result (new ≡ old)) where
  pub few_more : are_in_order 1 (2 ^ 32) old.staged ≡ true
      → length new.staged ≤ length old.staged + 1
  few_more order = by_result (λ st. length st.staged ≤ length old.staged + 1) old new bytes result
      ok err (omega arith) (length-put old.staged bytes order)

  pub still_known : (n : ℕ) → IsKnown old n → IsKnown new n
  still_known n known = by_result (λ st. IsKnown st n) old new bytes result ok err known
      (⊎_elim (λ has. elim (cases_eq (own_number bytes) n) [
        | inl same ↦ inl (has_page-put old.staged bytes n same)
        | inr other ↦ inl (has_page-put_other old.staged bytes n other ∙ has)
      ]) (λ within. inr within) known)

  pub may_still_end : (end : ℕ) → own_number bytes < end → MayEnd old end → MayEnd new end
  may_still_end end lt may = by_result (λ st. MayEnd st end) old new bytes result ok err may
      (end_stays old end bytes may lt)

-- once it is staged
pub may_then_end : {T E : Type 0} (old new : StoreState) (bytes : List ℕ) (result : Result T E)
    → OnOk result (IsPut old bytes new) → (end : ℕ) → MayEndWith old (own_number bytes) end
    → OnOk result (MayEnd new end)
may_then_end old new bytes (Ok x) put end may =
    subst (λ (st : StoreState). MayEnd st end) (sym put) (may bytes refl)
may_then_end old new bytes (Err e) put end may = tt

-- what is said of a result that is `Ok`
pub on_ok : {T E P Q : Type 0} (result : Result T E) → OnOk result P → (P → Q) → OnOk result Q
on_ok (Ok x) p then = then p
on_ok (Err e) p then = tt

-- other pages say what they said
pub others_still : {S T E : Type 0} (s : Ghosts S) (old new : S) (bytes : List ℕ)
    (result : Result T E) → OnOk result (IsPut (s.state old) bytes (s.state new))
    → OnErr result (s.state new ≡ s.state old)
    → StagesOnly s old new → s.honest old → (n : ℕ) → (n ≡ own_number bytes → ⊥)
    → body_at s new n ≡ body_at s old n
others_still s old new bytes (Ok x) put same only honest n other =
    others_said s old new (own_number bytes) n bytes only honest put refl other
others_still s old new bytes (Err e) put same only honest n other =
    ap (λ (at : ℕ → Body). at n) (same_said s old new
    (record { same = same; stages_only = only }) honest)

-- what holds in any case
pub if_ok : {T E P : Type 0} (result : Result T E) → P → OnOk result P
if_ok (Ok x) p = p
if_ok (Err e) p = tt

-- where a page of that number may end the file, in a state that was kept
pub with_own : (old new : StoreState) (n m end : ℕ) → new ≡ old → n ≡ m → MayEndWith old n end
    → MayEndWith new m end
with_own old new n m end same number may =
    subst (λ (st : StoreState). MayEndWith st m end) (sym same)
    (subst (λ (k : ℕ). MayEndWith old k end) number may)

pub known_same : (old new : StoreState) (n : ℕ) → new ≡ old → IsKnown old n → IsKnown new n
known_same old new n same known = subst (λ (st : StoreState). IsKnown st n) (sym same) known

-- one page says this now, and each other what it said
pub record IsRewrittenAlone (old new : ℕ → Body) (n : ℕ) (body : Body) : Type 0 where
  pub says : new n ≡ body
  pub others : (m : ℕ) → (m ≡ n → ⊥) → new m ≡ old m

-- a page was staged
pub rewritten_next : {S : Type 0} (s : Ghosts S) (old new : S) (n : ℕ) (bytes : List ℕ)
    (body : Body) → own_number bytes ≡ n → body_of n bytes ≡ body
    → body_at s new (own_number bytes) ≡ body_of (own_number bytes) bytes
    → ((m : ℕ) → (m ≡ own_number bytes → ⊥) → body_at s new m ≡ body_at s old m)
    → IsRewrittenAlone (body_at s old) (body_at s new) n body
rewritten_next s old new n bytes body number is says others = record {
  says = subst (λ (k : ℕ). body_at s new k ≡ body_of k bytes) number says ∙ is;
  others = λ m other. others m (λ e. other (e ∙ number));
}

-- others were read before
pub rewritten_alone : {S : Type 0} (s : Ghosts S) (old mid new : S) → ReadsOnly s old mid
    → s.honest old → (n : ℕ) (bytes : List ℕ) (body : Body) → own_number bytes ≡ n
    → body_of n bytes ≡ body
    → body_at s new (own_number bytes) ≡ body_of (own_number bytes) bytes
    → ((m : ℕ) → (m ≡ own_number bytes → ⊥) → body_at s new m ≡ body_at s mid m)
    → IsRewrittenAlone (body_at s old) (body_at s new) n body
rewritten_alone s old mid new reads honest n bytes body number is says others =
    subst (λ (at : ℕ → Body). IsRewrittenAlone at (body_at s new) n body)
    (same_said s old mid reads honest)
    (rewritten_next s mid new n bytes body number is says others)

-- two pages were staged, one after the other: the second says this, and the first that where it
-- isn't the second
pub record AreRewritten (old new : ℕ → Body) (n : ℕ) (body : Body) (m : ℕ)
    (body' : Body) : Type 0 where
  pub first : (m ≡ n → ⊥) → new n ≡ body
  pub second : new m ≡ body'
  pub others : (k : ℕ) → (k ≡ m → ⊥) → (k ≡ n → ⊥) → new k ≡ old k

pub both_rewritten : (old mid new : ℕ → Body) (n m : ℕ) (body body' : Body)
    → IsRewrittenAlone old mid n body → IsRewrittenAlone mid new m body'
    → AreRewritten old new n body m body'
both_rewritten old mid new n m body body' one two = record {
  first = λ apart. two.others n (λ e. apart (sym e)) ∙ one.says;
  second = two.says;
  others = λ k not_m not_n. two.others k not_m ∙ one.others k not_n;
}
