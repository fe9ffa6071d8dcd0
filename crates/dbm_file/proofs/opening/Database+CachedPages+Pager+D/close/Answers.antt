use Rattle.std.proofs.Common.{rules, ◌/◌, inl, sym, ◌∙◌, ap, subst}
use Rattle.sect_dev.specs.Device.{LeavesOnly}
use Rattle.sect_dev.specs.Moments.{IsOutcome}
use Rattle.redo_area.specs.File.{settled}
use Rattle.redo_area.specs.Pagers.{device_of}
use Rattle.redo_area.specs.Settling.{SettlesTo}
use Rattle.page_cache.specs.Stores.{store_below}
use Rattle.dbm_file.proofs.Closings.{lower, left_now, same_capacity}
use Rattle.dbm_file.proofs.OpenedFiles.{stands_for}
use Rattle.dbm_file.proofs.opening.Database+CachedPages+Pager+D.close.Goals as goal

pub returns-clause-any_moment : goal.returns-clause-any_moment
returns-clause-any_moment g c honest =
    let dev = g.D.SectorDev in
    let old = c.args.self.store in
    let new = c.rest-rested.new.store in
    let done = c.rest-rested.ensures in
    let cap = dev.sectors old.store.dev / 4 in
    let P = SettlesTo cap (dev.candidate old.store.dev) in
    subst (λ d. LeavesOnly dev.moment (IsOutcome dev.left_since (settled cap)) old.store.dev d P)
    (sym (c.into_dev-dev.ensures ∙ ap device_of c.into_inner.ensures))
    (lower dev (λ cached. device_of (store_below cached)) old new P P
    (same_capacity _ _ c.rest-rested.result done.ok done.breaks
    (λ is. ap (λ cached. dev.sectors (device_of (store_below cached)) / 4)
    (done.untouched (inl (done.answer.broken.0 is)))) done.answer.only)
    (done.any_moment honest) (λ y is. is))

pub returns-clause-stands : goal.returns-clause-stands
returns-clause-stands g c still h at usable image is =
    let dev = g.D.SectorDev in
    let old = c.args.self.store in
    let new = c.rest-rested.new.store in
    let done = c.rest-rested.ensures in
    let same = c.into_dev-dev.ensures ∙ ap device_of c.into_inner.ensures in
    let honest = done.honesty.0 (subst dev.honest same still) in
    let cap = dev.sectors old.store.dev / 4 in
    let P = SettlesTo cap (dev.candidate old.store.dev) in
    let capacity = same_capacity _ _ c.rest-rested.result done.ok done.breaks
    (λ is. ap (λ cached. dev.sectors (device_of (store_below cached)) / 4)
    (done.untouched (inl (done.answer.broken.0 is)))) done.answer.only in
    let run = subst
    (λ d. LeavesOnly dev.moment (IsOutcome dev.left_since (settled cap)) old.store.dev d P) (sym same)
    (lower dev (λ cached. device_of (store_below cached)) old new P P capacity
    (done.any_moment honest) (λ y p. p)) in
    stands_for _ c.args.self h (settled (dev.sectors c.into_dev-dev.result / 4) image) at usable
    (left_now dev old.store.dev c.into_dev-dev.result P image
    (ap (λ d. dev.sectors d / 4) same ∙ capacity) run
    (λ later. g.met.D.SectorDev.counts_now c.into_dev-dev.result (dev.moment old.store.dev).at image
    still later is))

pub returns-clause-closed : goal.returns-clause-closed
returns-clause-closed g c = search rules

pub returns-clause-broken : goal.returns-clause-broken
returns-clause-broken g c = search rules
