-- A log that was read, which a commit may follow.
use Rattle.std.proofs.Common.{◌≡◌, ◌≤◌, ◌<◌, ℕ, true, false, sym, ◌∙◌, ap, arith}
use Rattle.sect_dev.specs.Device.{Image, Candidates, IsStable}
use Rattle.page_io.specs.Page.{page_at}
use Rattle.page_io.specs.Store.{overlaid, are_in_order, has_page}
use Rattle.page_io.proofs.Overlays.{overlaid-over, apart-has_page}
use Rattle.commit_log.specs.Log.{Log, slot_of, log_by, is_disordered, ArePlaces, IsLogged}
use Rattle.commit_log.specs.Found.{AreAtMost}

pub rests : {candidate : Candidates} {seen : Image} (start at beside highest highest_older : ℕ)
    (newest older : Log) → IsStable candidate seen → ArePlaces start at beside
    → newest ≡ log_by start (slot_of seen at) → older ≡ log_by start (slot_of seen beside)
    → is_disordered start (slot_of seen beside) ≡ false
    → AreAtMost highest (slot_of seen at) → AreAtMost highest_older (slot_of seen beside)
    → 1 ≤ newest.number → highest ≡ newest.number → highest_older < newest.number
    → are_in_order 1 newest.end newest.pages ≡ true → 4 ≤ newest.end → newest.end ≤ start
    → ((n : ℕ) → has_page newest.pages n ≡ false
    → overlaid older.pages (page_at seen) n ≡ page_at seen n)
    → IsLogged newest.end start newest.number at beside newest.pages candidate seen
rests {candidate} {seen} start at beside highest highest_older newest older stable places found
    found_older ordered most most_older some highest_is lower order least above home = record {
      stable = stable;
      places = places;
      newest = sym found;
      some = some;
      in_order = order;
      least = least;
      above = above;
      highest = λ k lt. omega (arith, most k lt, highest_is);
      lower = λ k lt. omega (arith, most_older k lt, lower);
      ordered = ordered;
      said = λ n. overlaid-over newest.pages (page_at seen)
          (overlaid (log_by start (slot_of seen beside)).pages (page_at seen)) n
          (λ apart. ap (λ (l : Log). overlaid l.pages (page_at seen) n) (sym found_older)
          ∙ home n (apart-has_page newest.pages n apart));
    }
