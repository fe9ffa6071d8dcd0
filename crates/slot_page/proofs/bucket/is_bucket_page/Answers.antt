use Rattle.std.proofs.Common.{arith}
use Rattle.page_io.specs.Versions.{model_version}
use Rattle.slot_page.proofs.Pages.{page_of_version, version_of_page}
use Rattle.slot_page.proofs.bucket.is_bucket_page.Goals as goal

pub returns : goal.returns
returns c =
    let bytes = c.args.page.now.bytes in
    let version = model_version c.args.version in record {
      exact = (
        λ yes. page_of_version version bytes (omega arith) c.are_bytes.ensures
            (c.is_laid_out.ensures.0 yes).0 (c.is_laid_out.ensures.0 yes).1,
        λ h. c.is_laid_out.ensures.1 (version_of_page version bytes h),
      );
    }
