-- Where the pass of a database stands.
use Rattle.std.specs.Prelude.{ℕ, Bool, if◌then◌else◌, List, [], Option, Some, None, slice_index_or}
use Rattle.std.specs.Borrow.{Bor}
use Rattle.dbm_model.specs.Calls.{Call, First, Next}
use Rattle.dbm_model.specs.States as model
use Rattle.page_io.specs.declared.store.PageStore.{Ghosts}
use Rattle.page_io.specs.BucketPages.{page_records}
use Rattle.dbm_file.specs.declared.pass.Pass.{Pass}
use Rattle.dbm_file.specs.declared.pass.Pass.TheVariants.{NotBegun, Begun, Behind}
use Rattle.dbm_file.specs.declared.database.Database.{Database}

-- as one of the model
abbrev pub model_pass : Pass → model.Pass
model_pass NotBegun = model.NotBegun
model_pass Begun = model.Begun
model_pass (Behind last) = model.Behind last.items

abbrev pub pass_of : {S : Type 0} {s : Ghosts S} → Database S s → model.Pass
pass_of db = model_pass db.pass

-- where a call goes on from: before all keys where it begins a pass
abbrev pub pass_from : {S : Type 0} {s : Ghosts S} → Bool → Database S s → model.Pass
pass_from begins db = if begins then model.Begun else pass_of db

-- the key in a slot of the page
abbrev pub key_in : List ℕ → ℕ → List ℕ
key_in bytes slot =
    (slice_index_or (page_records bytes) slot (record { key = []; bytes = []; far = None })).key

-- where it stands after a step from there: behind the key in this slot of the page, which the bytes
-- are, or where it was if there is none
abbrev pub pass_at : model.Pass → List ℕ → Option ℕ → model.Pass
pass_at from bytes None = from
pass_at from bytes (Some slot) = model.Behind (key_in bytes slot)

-- where it stands after a call that found this
abbrev pub pass_after : Call → Option (Bor (List ℕ)) → model.Pass → model.Pass
pass_after First None from = model.Begun
pass_after First (Some key) from = model.Behind key.now
pass_after Next None from = from
pass_after Next (Some key) from = model.Behind key.now
pass_after _ found from = from
