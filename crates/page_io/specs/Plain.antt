-- The header of a page without slots.
use Rattle.std.specs.Prelude.{◌≡◌, ℕ, List}
use Rattle.page_model.specs.Reading.{own_number, kind_of, IsClear}

-- own number and kind, no slots, any next page
pub record HasPlainHeader (bytes : List ℕ) (own kind : ℕ) : Type 0 where
  pub own_is : own_number bytes ≡ own
  pub kind_is : kind_of bytes ≡ kind
  pub zeros : IsClear bytes 5 8
  pub rest : IsClear bytes 12 16
