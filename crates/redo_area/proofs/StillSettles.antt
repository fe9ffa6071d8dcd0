-- A device that was only read settles as it did.
use Rattle.std.proofs.Common.{◌≡◌, ◌/◌, ℕ, Bool, sym, subst}
use Rattle.sect_dev.specs.Device.{Image, Candidates, IsStable, NoNewCandidate}
use Rattle.page_io.specs.Store.{Pages}
use Rattle.redo_area.specs.declared.area.RedoArea.{RedoArea}
use Rattle.redo_area.specs.Settling.{MayWait, SettlesToPages, SettlesIfUsable}

module _ {before now : Candidates} (fewer : NoNewCandidate before now) where
  stable_still : {seen : Image} → IsStable before seen → IsStable now seen
  stable_still stable m x may = stable m x (fewer m x may)

  waits_still : {capacity end : ℕ} {area : RedoArea} {waiting : Pages} {seen : Image}
      → MayWait capacity end area waiting before seen → MayWait capacity end area waiting now seen
  waits_still waits = record {
    stable = stable_still waits.stable;
    kind = waits.kind;
    clear = waits.clear;
    holds = λ some.
        let held = waits.holds some in
        record {
          stable = stable_still held.stable;
          in_order = held.in_order;
          settles = held.settles;
        };
    logs = λ log is.
        let in_log = waits.logs log is in
        let logged = in_log.logged in
        record {
          header = in_log.header;
          logged = record {
            stable = stable_still logged.stable;
            places = logged.places;
            newest = logged.newest;
            some = logged.some;
            in_order = logged.in_order;
            least = logged.least;
            above = logged.above;
            highest = logged.highest;
            lower = logged.lower;
            ordered = logged.ordered;
            said = logged.said;
          };
        };
  }

  settles_still : {writable : Bool} {capacity end : ℕ} {area : RedoArea} {waiting : Pages}
      {seen : Image} → SettlesToPages writable capacity end area waiting before seen
      → SettlesToPages writable capacity end area waiting now seen
  settles_still is = record { settles = is.settles; waits = λ w. waits_still (is.waits w) }

-- what a pager knows, behind a call that only reads
pub reads_still : {honest honest_now : Type 0} {usable writable : Bool} {sectors sectors_now end : ℕ}
    {area : RedoArea} {waiting : Pages} {before now : Candidates} {seen seen_now : Image}
    → SettlesIfUsable honest usable writable (sectors / 4) end area waiting before seen
    → (honest_now → honest) → sectors_now ≡ sectors → (honest → seen_now ≡ seen)
    → (honest → NoNewCandidate before now)
    → SettlesIfUsable honest_now usable writable (sectors_now / 4) end area waiting now seen_now
reads_still {honest} {honest_now} {usable} {writable} {sectors} {sectors_now} {end} {area} {waiting}
    {before} {now} {seen} {seen_now} is same_honest size same fewer still is_usable =
    let was = same_honest still in
    subst (λ (s : ℕ). SettlesToPages writable (s / 4) end area waiting now seen_now) (sym size)
    (subst (λ (image : Image). SettlesToPages writable (sectors / 4) end area waiting now image)
    (sym (same was)) (settles_still (fewer was) (is was is_usable)))
