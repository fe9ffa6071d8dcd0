use Rattle.dbm_salvage.proofs.PageKinds.{bucket_read, no_records}
use Rattle.dbm_salvage.proofs.looks.look_at.Goals as goal

pub returns-clause-bucket : goal.returns-clause-bucket
returns-clause-bucket c told =
    let reads = c.reads_as.ensures.0 c.if-not-reads_as.false in
    let is = bucket_read c.args.n c.args.page.now.bytes reads (c.has_records.ensures.yes cc) in
    (is.page, is.records)

pub returns-clause-other : goal.returns-clause-other
returns-clause-other c told =
    let reads = c.reads_as.ensures.0 c.if-not-reads_as.false in
    let none = c.has_records.ensures.no cc in
    no_records c.args.n c.args.page.now.bytes reads none.0 none.1
