-- Reads of the base of a group.
use Rattle.std.proofs.Common.{◌≡◌, ℕ, ◌<◌, ◌≤◌, List, [], false, Result, Ok, Err, OnOk, sym, ◌∙◌, ap}
use Rattle.page_io.specs.Store.{Pages, StoreState, page_of, overlaid, has_page, committed_with}
use Rattle.page_io.specs.Views.{ReadsOnly}
use Rattle.page_io.specs.declared.store.PageStore.{Ghosts}
use Rattle.page_io.specs.declared.store.PageFault.{PageFault}
use Rattle.page_io.proofs.Overlays.{overlaid-none}
use Rattle.page_group.proofs.Committed.{base_one}

-- a page that is neither staged nor changed is the base's
pub read_base : {S T : Type 0} (s : Ghosts S) (first base : S) → ReadsOnly s first base
    → (s.state first).staged ≡ [] → (changed staged : Pages) (end n : ℕ) (bytes : List ℕ)
    (result : Result T PageFault) → 1 ≤ n → n < end → has_page changed n ≡ false
    → has_page staged n ≡ false → s.honest first
    → (s.honest base → OnOk result
    (bytes ≡ overlaid (s.state base).staged (page_of (s.committed base)) n))
    → OnOk result
    (bytes ≡ overlaid staged (page_of (committed_with (s.committed first) changed end)) n)
read_base s first base reads idle changed staged end n bytes (Ok x) some within not_changed not_staged honest found =
    let was_read = found (reads.stages_only.honesty.1 honest) in
    let none = ap (λ (st : StoreState). st.staged) reads.same ∙ idle in
    let is = was_read ∙ ap (λ (ps : Pages). overlaid ps (page_of (s.committed base)) n) none
    ∙ ap (λ (ps : Pages). page_of ps n) (reads.stages_only.kept honest).committed in
    base_one (s.committed first) changed end n bytes some within not_changed is
    ∙ sym (overlaid-none staged (page_of (committed_with (s.committed first) changed end)) n
    not_staged)
read_base s first base reads idle changed staged end n bytes (Err e) some within not_changed not_staged honest found = tt
