-- A record of the code that is to be added.
use Rattle.page_model.specs.Pages.{Record}
use Rattle.bucket_chain.specs.declared.puts.Record as code

-- as one of the model
abbrev pub as_record : code.Record → Record
as_record r = record { key = r.key.now; bytes = r.bytes.now; far = r.far }
