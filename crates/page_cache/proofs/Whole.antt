-- A store over another is the one below with its copies.
use Rattle.std.proofs.Common.{◌≡◌}
use Rattle.std.proofs.Props.{props}
use mathlib.Core.HLevel.{is_prop→PathP}
use Rattle.page_io.specs.declared.store.PageStore.{Ghosts}
use Rattle.page_cache.specs.Current.{AreCurrent}
use Rattle.page_cache.specs.Copies.{copies_of}
use Rattle.page_cache.specs.declared.cached_pages.CachedPages.{CachedPages}
use Rattle.page_cache.specs.declared.page_copies.PageCopies.{PageCopies}

pub same_store : {S : Type 0} (s : Ghosts S) (old new : S) (copies : PageCopies)
    (now : AreCurrent s new (copies_of copies)) (before : AreCurrent s old (copies_of copies))
    → new ≡ old
    → ◌≡◌ {A = CachedPages S s} (record { store = new; copies = copies; are_current = now })
    (record { store = old; copies = copies; are_current = before })
same_store s old new copies now before same = λ i. record {
  store = same i;
  copies = copies;
  are_current = is_prop→PathP (λ j. AreCurrent s (same j) (copies_of copies))
      (λ j. Prim.hlevel props) now before i;
}
