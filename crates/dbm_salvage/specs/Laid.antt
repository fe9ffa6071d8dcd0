-- The pages of a file with what lies over them.
use Rattle.std.specs.Prelude.{ℕ, List}
use Rattle.sect_dev.specs.Device.{Image}
use Rattle.page_io.specs.Page.{page_at}
use Rattle.page_io.specs.Store.{bytes_of, overlaid}
use Rattle.dbm_salvage.specs.Images.{place}
use Rattle.dbm_salvage.specs.declared.images.Images.{Images}

-- a page that is among those of a log is that one, and any other is what an image of the device has
-- in its place
unfoldable pub laid : Images → Image → ℕ → List ℕ
laid images image =
    overlaid (bytes_of images.logged.items) (λ n. page_at image (place images.places.items n))
