use Rattle.std.proofs.Common.{sym, ap, ◌∙◌}
use Rattle.std.proofs.lemmas.Result.{IfOk-from_err}
use Rattle.sect_dev.specs.Device.{Image}
use Rattle.page_io.proofs.Exits.{later_then, both_ways}
use Rattle.redo_area.proofs.Recoveries.{sync_alone, sync_and_read, still_at_start}
use Rattle.redo_area.proofs.Results.{cause_first, cause_after, cause_ok}
use Rattle.redo_area.proofs.recovery.sync_and_read.Goals as goal

-- the device is not synced
pub returns-in_err-sync : goal.returns-in_err-sync
returns-in_err-sync g c =
    let dev = g.D.SectorDev in
    let first = c.args.dev.now in
    let mid = c.sync.new.self in
    let synced = c.sync.ensures in
    let result = c.from_residual in
    record {
      any_moment = λ h. sync_alone dev first mid
          (λ image left. g.met.D.SectorDev.only_now first image h left) (synced.time h)
          (synced.candidates h);
      start = λ h m.
          let stays = g.met.D.SectorDev.seen_may_stay mid (synced.honesty.1 h) m in
          synced.candidates h m (dev.seen mid m) stays;
      stable = λ h. IfOk-from_err _ _ result.ensures.0;
      read = λ h. IfOk-from_err _ _ result.ensures.0;
      device = record {
        honesty = synced.honesty;
        cause = cause_first _ c.in_err-sync.field-0.0 _ _ c.in_err-sync.ensures.cause;
        size = synced.size;
      };
    }

-- the sector is not read
pub returns-in_err-read : goal.returns-in_err-read
returns-in_err-read g c =
    let dev = g.D.SectorDev in
    let first = c.args.dev.now in
    let mid = c.sync.new.self in
    let new = c.read.new.self in
    let synced = c.sync.ensures in
    let told = c.read.ensures in
    let only_now = λ (h : dev.honest first) (image : Image)
    (left : dev.left_since first (dev.moment first).at image).
    g.met.D.SectorDev.only_now first image h left in
    let stays = g.met.D.SectorDev.seen_may_stay new in
    let result = c.from_residual-in_err-read in
    let failed = c.in_err-read in
    record {
      any_moment = λ h. sync_and_read dev first mid (only_now h) (synced.time h)
          (synced.candidates h)
          new (told.candidates (synced.honesty.1 h)) (told.time (synced.honesty.1 h));
      start = λ h. still_at_start dev first mid (only_now h) (synced.time h) (synced.candidates h)
          new (told.candidates (synced.honesty.1 h)) (stays (told.honesty.1 (synced.honesty.1 h)));
      stable = λ h. IfOk-from_err _ _ result.ensures.0;
      read = λ h. IfOk-from_err _ _ result.ensures.0;
      device = record {
        honesty = both_ways told.honesty synced.honesty;
        cause = cause_after _ failed.field-0.0 _ _ _ synced.cause.later failed.ensures.cause;
        size = told.size ∙ synced.size;
      };
    }

-- it is read
pub returns : goal.returns
returns g c =
    let dev = g.D.SectorDev in
    let first = c.args.dev.now in
    let mid = c.sync.new.self in
    let new = c.read.new.self in
    let synced = c.sync.ensures in
    let told = c.read.ensures in
    let only_now = λ (h : dev.honest first) (image : Image)
    (left : dev.left_since first (dev.moment first).at image).
    g.met.D.SectorDev.only_now first image h left in
    let stays = g.met.D.SectorDev.seen_may_stay new in
    record {
      any_moment = λ h. sync_and_read dev first mid (only_now h) (synced.time h)
          (synced.candidates h)
          new (told.candidates (synced.honesty.1 h)) (told.time (synced.honesty.1 h));
      start = λ h. still_at_start dev first mid (only_now h) (synced.time h) (synced.candidates h)
          new (told.candidates (synced.honesty.1 h)) (stays (told.honesty.1 (synced.honesty.1 h)));
      stable = λ h m x may.
          let h1 = synced.honesty.1 h in
          c.in_ok-sync.ensures.stable h m x (told.candidates h1 m x may)
          ∙ sym (ap (λ (s : Image). s m) (told.seen h1));
      read = λ h.
          let h1 = synced.honesty.1 h in
          c.in_ok-read.ensures.read h1 ∙ sym (ap (λ (s : Image). s 0) (told.seen h1));
      device = record {
        honesty = both_ways told.honesty synced.honesty;
        cause = cause_ok _ _ _ (later_then _ _ _ synced.cause.later told.cause.later);
        size = told.size ∙ synced.size;
      };
    }
