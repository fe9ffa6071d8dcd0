-- The own number of a page, by its names.
use Rattle.std.proofs.Common.{◌≡◌, ℕ, [], List, refl, sym, ap, ◌∙◌}
use Rattle.page_model.specs.Pages.{Bucket, bucket}
use Rattle.page_model.specs.Reading.{bucket_of}
use Rattle.page_model.specs.Reading as model
use Rattle.page_io.specs.Page.{own_number}

-- the own number, by both of its names
pub own_same : (bytes : List ℕ) → own_number bytes ≡ model.own_number bytes
unfolding own_number
own_same bytes = refl

-- a bucket page says it
pub own_is : (bytes : List ℕ) → (bucket_of bytes).own ≡ model.own_number bytes
unfolding bucket_of
own_is bytes = refl

-- a head page with no pair has the number that it says
pub own_of_head : (bytes : List ℕ) (n : ℕ) → bucket_of bytes ≡ bucket n 3 0 []
    → own_number bytes ≡ n
own_of_head bytes n says = own_same bytes ∙ sym (own_is bytes) ∙ ap (λ (b : Bucket). b.own) says
