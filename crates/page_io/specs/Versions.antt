-- The program's version as that of the definitions.
use Rattle.dbm_model.specs.Bounds as model
use Rattle.page_io.specs.declared.version.Version.{Version}
use Rattle.page_io.specs.declared.version.Version.TheVariants.{V1, V2}

abbrev pub model_version : Version → model.Version
model_version V1 = model.V1
model_version V2 = model.V2
