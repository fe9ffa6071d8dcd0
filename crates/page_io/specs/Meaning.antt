-- What a file, an image and a store stand for.
use Rattle.std.specs.Prelude.{◌≡◌, ◌+◌, length}
use Rattle.dbm_model.specs.Bounds.{Bounds}
use Rattle.dbm_model.specs.Pairs.{Contents}
use Rattle.page_model.specs.Placement.{Placement, contents, IsGood}
use Rattle.page_model.specs.PageBodies.{IsSpelled}
use Rattle.page_model.specs.Meaning.{said_by, PagesStandFor}
use Rattle.page_io.specs.Store.{Pages, Settled, blank, file_of, nothing, page_of, overlaid, committed_with}

-- the pages of a file stand for a map and bounds
abbrev pub FileStandsFor : Pages → Contents → Bounds → Type 0
FileStandsFor pages map bounds = PagesStandFor (page_of pages) (length pages + 1) map bounds

-- An image stands for the map and the bounds of the file that it settles to. A blank one stands for
-- no database, others for nothing.
abbrev pub ImageStandsFor : Settled → Contents → Bounds → Type 0
ImageStandsFor blank map bounds = ⊥
ImageStandsFor (file_of pages) map bounds = FileStandsFor pages map bounds
ImageStandsFor nothing map bounds = ⊥

-- these pages, with those that are staged in their places, spell a placement
abbrev pub Spell : Pages → Pages → Placement → Type 0
Spell pages staged p = IsSpelled (said_by (overlaid staged (page_of pages))) p

-- an image stands for one map and its bounds at most
abbrev pub ImagesHaveOneMeaning : Type 0
ImagesHaveOneMeaning = (settled : Settled) (m n : Contents) (bounds other : Bounds)
    → ImageStandsFor settled m bounds → ImageStandsFor settled n other → (m ≡ n) × (bounds ≡ other)

-- where a store's pages spell a good placement, the pages that a commit at its end leaves stand for
-- its map and bounds
abbrev pub CommitsStand : Type 0
CommitsStand = (pages staged : Pages) (p : Placement) → IsGood p → Spell pages staged p
    → FileStandsFor (committed_with pages staged p.space.end) (contents p) p.bounds
