-- The pages that commits of a group put in memory.
use Rattle.std.specs.Prelude.{[], ◌∷◌}
use Rattle.page_io.specs.Store.{Pages, put_page}
use Rattle.page_group.specs.Numbered.{pages_in}
use Rattle.page_group.specs.declared.changed_pages.ChangedPages.{ChangedPages}

-- the bytes of the changed pages, in rising order of their own numbers
abbrev pub changed_pages : ChangedPages → Pages
changed_pages changed = pages_in changed.pages.entries

-- the changed pages, with these in the places of their numbers
abbrev pub put_all : Pages → Pages → Pages
put_all changed [] = changed
put_all changed (page ∷ pages) = put_all (put_page changed page) pages
