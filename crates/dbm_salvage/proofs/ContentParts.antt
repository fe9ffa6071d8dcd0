-- Pages of an file as content pages.
use Rattle.std.proofs.Common.{◌≡◌, ℕ, ◌+◌, ◌≤◌, ◌<◌, Bool, cond, List, [], length, take, drop, refl, sym, ap, ◌∙◌}
use Rattle.std.proofs.lemmas.Bool.{le-ltb, lt-ltb}
use Rattle.page_model.specs.Numbers.{IsNumber}
use Rattle.page_model.specs.PageBodies.{filled}
use Rattle.page_model.specs.Pages.{ContentPage, Other}
use Rattle.page_model.specs.Reading.{next_of, body_of, IsClear}
use Rattle.page_model.proofs.Texts.{IsBytes}
use Rattle.page_io.specs.Plain.{HasPlainHeader}
use Rattle.content_pages.proofs.ContentTexts.{content_said, said_headed, not_other, one_text, part_filled, filled_clear}
use Rattle.dbm_salvage.specs.Salvage.{said_in}

-- no bytes say nothing
nothing_said : (n : ℕ) → body_of n [] ≡ Other
unfolding body_of
nothing_said n = refl

-- there is no page behind the last
pub said_behind : (file : ℕ → List ℕ) (pages n : ℕ) → pages ≤ n → said_in file pages n ≡ Other
said_behind file pages n behind =
    ap (λ (b : Bool). body_of n (cond b (file n) [])) (le-ltb n pages behind)
    ∙ nothing_said n

-- a page of the file says what its bytes say
pub said_within : (file : ℕ → List ℕ) (pages n : ℕ) → n < pages
    → said_in file pages n ≡ body_of n (file n)
said_within file pages n within =
    ap (λ (b : Bool). body_of n (cond b (file n) [])) (lt-ltb n pages within)

-- no content page is behind the last
pub not_behind : (file : ℕ → List ℕ) (pages n next : ℕ) (text : List ℕ) → pages ≤ n
    → said_in file pages n ≡ ContentPage next text → ⊥
not_behind file pages n next text behind says =
    not_other next text (sym says ∙ said_behind file pages n behind)

module _ (file : ℕ → List ℕ) (pages n long : ℕ) (bytes : List ℕ) (within : n < pages)
    (small : IsNumber n) (len : length bytes ≡ 2048) (fits : IsBytes bytes) (few : long ≤ 2032)
    (read : bytes ≡ file n) where
  here : said_in file pages n ≡ body_of n bytes
  here = said_within file pages n within ∙ ap (body_of n) (sym read)

  -- a page that passes the tests says the part
  pub part_said : HasPlainHeader bytes n 6 → IsClear bytes (16 + long) 2048
      → said_in file pages n ≡ ContentPage (next_of bytes) (filled (take long (drop 16 bytes)))
  part_said headed clear =
      here ∙ content_said bytes n small len fits headed
      ∙ ap (ContentPage (next_of bytes)) (part_filled bytes long len few clear)

  -- and back
  pub headed_again : (next : ℕ) (part : List ℕ)
      → said_in file pages n ≡ ContentPage next (filled part) → HasPlainHeader bytes n 6
  headed_again next part says = said_headed bytes (filled part) n next small (sym here ∙ says)

  pub clear_again : (next : ℕ) (part : List ℕ) → length part ≡ long
      → said_in file pages n ≡ ContentPage next (filled part) → IsClear bytes (16 + long) 2048
  clear_again next part size says =
      let headed = headed_again next part says in
      filled_clear bytes part long size few
      (one_text _ _ _ _ (sym (content_said bytes n small len fits headed) ∙ sym here ∙ says))
