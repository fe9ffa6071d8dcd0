-- What an image settles to whose two slots were read.
use Rattle.std.proofs.Common.{◌≡◌, ℕ, ◌+◌, ◌*◌, ◌<◌, ◌≤◌, Bool, true, false, cond, ◌||◌, sym, ◌∙◌, ap}
use Rattle.std.proofs.lemmas.Bool.{lt-ltb, le-ltb, or_left, or_right}
use Rattle.sect_dev.specs.Device.{Image}
use Rattle.page_io.specs.Page.{page_at}
use Rattle.page_io.specs.Store.{nothing}
use Rattle.commit_log.specs.Log.{Log, slot_of, log_by, is_disordered, has_disordered, settled_newer, settled_logs, settled_at}
use Rattle.commit_log.proofs.Logs.{settled_ordered}

-- what both slots say, and whether they are disordered
module _ (start : ℕ) (seen : Image) (first second : Log) (is_first is_second : Bool)
    (says_first : first ≡ log_by start (slot_of seen (4 * start)))
    (says_second : second ≡ log_by start (slot_of seen (4 * start + 64)))
    (tells_first : is_first ≡ is_disordered start (slot_of seen (4 * start)))
    (tells_second : is_second ≡ is_disordered start (slot_of seen (4 * start + 64))) where
  tells_both : has_disordered seen start ≡ (is_first || is_second)
  tells_both = sym (ap (λ (b : Bool). b || is_second) tells_first
      ∙ ap (λ (b : Bool). is_disordered start (slot_of seen (4 * start)) || b) tells_second)

  disordered_settles : (is_first || is_second) ≡ true → settled_at seen start ≡ nothing
  disordered_settles either = ap (λ (b : Bool). cond b nothing
      (settled_logs (log_by start (slot_of seen (4 * start)))
      (log_by start (slot_of seen (4 * start + 64))) (page_at seen))) (tells_both ∙ either)

  -- one that is disordered: the file is damaged
  pub first_disordered : is_first ≡ true → settled_at seen start ≡ nothing
  first_disordered is = disordered_settles (or_left is_first is_second is)

  pub second_disordered : is_second ≡ true → settled_at seen start ≡ nothing
  second_disordered is = disordered_settles (or_right is_first is_second is)

  -- none that is
  module _ (ordered_first : is_first ≡ false) (ordered_second : is_second ≡ false) where
    both : settled_at seen start ≡ settled_logs first second (page_at seen)
    both = settled_ordered seen start
        (tells_both ∙ ap (λ (b : Bool). b || is_second) ordered_first ∙ ordered_second)
        ∙ sym (ap (λ (l : Log). settled_logs l second (page_at seen)) says_first
        ∙ ap (λ (l : Log). settled_logs (log_by start (slot_of seen (4 * start))) l (page_at seen))
        says_second)

    pub first_newer : second.number < first.number
        → settled_at seen start ≡ settled_newer second first (page_at seen)
    first_newer lt = both ∙ ap (λ (b : Bool). cond b (settled_newer second first (page_at seen))
        (settled_newer first second (page_at seen))) (lt-ltb second.number first.number lt)

    pub second_newer : first.number ≤ second.number
        → settled_at seen start ≡ settled_newer first second (page_at seen)
    second_newer le = both ∙ ap (λ (b : Bool). cond b (settled_newer second first (page_at seen))
        (settled_newer first second (page_at seen))) (le-ltb second.number first.number le)
