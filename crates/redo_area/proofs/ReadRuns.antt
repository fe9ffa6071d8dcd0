-- Calls that only read, one after another.
pub use Rattle.commit_log.proofs.ReadRuns.{more_reads}
