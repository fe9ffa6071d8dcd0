use Rattle.std.proofs.Common.{Result, Ok, Err, IfOk, sym, ap, ◌∙◌, subst}
use Rattle.sect_dev.specs.Device.{Image, MoreFaults}
use Rattle.page_io.proofs.Exits.{more_later}
use Rattle.dbm_salvage.specs.Laid.{laid}
use Rattle.dbm_salvage.specs.Salvage.{IsPageSalvaged}
use Rattle.dbm_salvage.specs.declared.records.PageFound.{PageFound}
use Rattle.dbm_salvage.proofs.FoundPages.{unread_page, other_page, bare_page, page_weaker}
use Rattle.dbm_salvage.proofs.LookRuns.{from_test, fault_from_test, looks_then}
use Rattle.dbm_salvage.proofs.salvage.salvage_page.Goals as goal

-- what follows of a value, where there is one
if_then : {T E : Type 0} (P Q : T → Type 0) (r : Result T E) → ((x : T) → P x → Q x) → IfOk r P
    → IfOk r Q
if_then P Q (Ok x) more p = more x p
if_then P Q (Err e) more p = tt

pub returns-then-is_err-clause-page : goal.returns-then-is_err-clause-page
returns-then-is_err-clause-page g c honest =
    unread_page (laid c.args.images.now (g.D.SectorDev.seen c.args.dev.now)) c.args.pages _ c.args.n _ _ _
    c.in_trouble.ensures.0 c.in_trouble.ensures.1
    (fault_from_test c.read_laid.result c.is_err.ensures.value c.if-is_err.true
    c.read_laid.ensures.device.cause.fault)

pub returns-in-Ok-true-clause-looks : goal.returns-in-Ok-true-clause-looks
returns-in-Ok-true-clause-looks g c =
    let told = c.read_laid.ensures in
    looks_then g.D.SectorDev _ _ _
    (record {
      only_reads = λ h. record {
        seen = told.seen h;
        no_new = told.candidates h;
        no_lost = told.keeps h;
        still = told.still;
        any_moment = told.any_moment h;
      };
      still = told.still;
      honesty = told.device.honesty;
      later = told.device.cause.later;
      size = told.device.size;
    })
    c.salvage_records.ensures.looks

pub returns-in-Ok-true-clause-page : goal.returns-in-Ok-true-clause-page
returns-in-Ok-true-clause-page g c honest =
    let dev = g.D.SectorDev in
    let told = c.read_laid.ensures in
    let first = c.args.dev.now in
    let mid = c.read_laid.new.dev in
    let last = c.salvage_records.new.dev in
    let old = g.W.Write.contents c.args.writer.now in
    let new = g.W.Write.contents c.salvage_records.new.writer in
    let read = from_test c.read_laid.result c.is_err.ensures.value c.if-is_err.false
    (told.read honest) in
    let same = told.seen honest in
    if_then
    (λ (found : PageFound). IsPageSalvaged (laid c.args.images.now (dev.seen mid)) c.args.pages
    (MoreFaults (dev.faults mid) (dev.faults last)) c.args.n old new found.printed found.trouble)
    (λ (found : PageFound). IsPageSalvaged (laid c.args.images.now (dev.seen first)) c.args.pages
    (MoreFaults (dev.faults first) (dev.faults last)) c.args.n old new found.printed
    found.trouble)
    c.salvage_records.result
    (λ found is.
    page_weaker (laid c.args.images.now (dev.seen first)) c.args.pages (MoreFaults (dev.faults mid) (dev.faults last))
    (MoreFaults (dev.faults first) (dev.faults last)) c.args.n old new found.printed found.trouble
    (more_later _ _ _ told.device.cause.later)
    (subst (λ (image : Image). IsPageSalvaged (laid c.args.images.now image) c.args.pages
    (MoreFaults (dev.faults mid) (dev.faults last)) c.args.n old new found.printed found.trouble)
    same is))
    (c.salvage_records.ensures.page (told.device.honesty.1 honest)
    (read ∙ ap (λ (image : Image). laid c.args.images.now image c.args.n) (sym same)))

pub returns-in-Ok-false-clause-page : goal.returns-in-Ok-false-clause-page
returns-in-Ok-false-clause-page g c honest =
    let told = c.read_laid.ensures in
    let read = from_test c.read_laid.result c.is_err.ensures.value c.if-is_err.false
    (told.read honest) in
    bare_page (laid c.args.images.now (g.D.SectorDev.seen c.args.dev.now)) c.args.pages _ c.args.n
    c.read_laid.new.page.bytes _ read c.in-Ok-false.ensures.reads
    (c.look_at.ensures.other (c.in-Ok-false.is ∙ ap Ok c.in-Ok-false.field-0-test))

pub returns-in-Err-clause-page : goal.returns-in-Err-clause-page
returns-in-Err-clause-page g c honest =
    let told = c.read_laid.ensures in
    let read = from_test c.read_laid.result c.is_err.ensures.value c.if-is_err.false
    (told.read honest) in
    other_page (laid c.args.images.now (g.D.SectorDev.seen c.args.dev.now)) c.args.pages _ c.args.n
    c.read_laid.new.page.bytes _ _ _ c.in-Err.trouble c.in_trouble-in-Err.ensures.0
    c.in_trouble-in-Err.ensures.1 read c.in-Err.ensures.trouble
