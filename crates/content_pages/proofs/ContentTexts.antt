-- The bytes of a content page: found by the tests of its places, read back, and made.
use Rattle.std.proofs.Common.{◌≡◌, ℕ, ◌+◌, ◌-◌, ◌≤◌, min, List, [], ◌++◌, length, replicate, get_or, take, drop, refl, sym, ap, ◌∙◌, arith}
use Rattle.std.proofs.lemmas.List.{append-nil, drop_all, length-append, length-drop, length-replicate, length-take, length-take-le, take_min, replicate-append-replicate}
use Rattle.std.proofs.Math.Nat.{min_comm}
use Rattle.page_model.specs.Bytes.{u32_at, u32_bytes, overwrite}
use Rattle.page_model.specs.Numbers.{IsNumber}
use Rattle.page_model.specs.PageBodies.{filled}
use Rattle.page_model.specs.Pages.{ContentPage, Other}
use Rattle.page_model.specs.Reading.{next_of, body_of, IsClear}
use Rattle.page_model.specs.Spelling.{header, content_spelling, spelling_of}
use Rattle.page_model.proofs.Texts.{IsBytes, part_text, zeros_text, clear_again, skip, u16_below}
use Rattle.page_model.proofs.Buckets.{four_is}
use Rattle.page_model.proofs.Bodies.{body_is, body_spelled}
use Rattle.page_model.proofs.Writes.{overwrite_mid}
use Rattle.page_io.specs.Plain.{HasPlainHeader}
use Rattle.page_io.proofs.PlainPages.{plain_text}

-- four bytes hold a number
next_below : (bytes : List ℕ) → IsBytes bytes → IsNumber (next_of bytes)
next_below bytes fits = omega (arith, u16_below bytes 8 fits, u16_below bytes 10 fits)

-- a page with the header of a content page is spelled so
content_found : (bytes : List ℕ) (own : ℕ) → length bytes ≡ 2048 → IsBytes bytes
    → HasPlainHeader bytes own 6 → bytes ≡ content_spelling own (next_of bytes) (drop 16 bytes)
unfolding content_spelling
content_found bytes own len fits headed = plain_text bytes own 6 (omega arith) fits headed

-- and says its bytes
pub content_said : (bytes : List ℕ) (own : ℕ) → IsNumber own → length bytes ≡ 2048 → IsBytes bytes
    → HasPlainHeader bytes own 6 → body_of own bytes ≡ ContentPage (next_of bytes) (drop 16 bytes)
content_said bytes own small len fits headed =
    (body_is own bytes (ContentPage (next_of bytes) (drop 16 bytes))
    (small, next_below bytes fits, omega (arith, len, length-drop 16 bytes))).0
    (content_found bytes own len fits headed)

-- a spelled content page passes the tests
headed_again : (bytes content : List ℕ) (own next : ℕ) → IsNumber own
    → bytes ≡ content_spelling own next content → HasPlainHeader bytes own 6
unfolding content_spelling
headed_again bytes content own next small e = record {
  own_is = ap (λ (x : List ℕ). u32_at x 0) e ∙ four_is own small;
  kind_is = ap (λ (x : List ℕ). get_or x 4 0) e;
  zeros = clear_again bytes (u32_bytes next ++ (replicate 4 0 ++ content)) 5 3 8
      (ap (drop 5) e) refl;
  rest = clear_again bytes content 12 4 16 (ap (drop 12) e) refl;
}

-- so does a page that says a content
pub said_headed : (bytes content : List ℕ) (own next : ℕ) → IsNumber own
    → body_of own bytes ≡ ContentPage next content → HasPlainHeader bytes own 6
said_headed bytes content own next small e =
    headed_again bytes content own next small
    (body_spelled own bytes (λ other. absurd (cc)) ∙ ap (spelling_of own) e)

-- a content page says one thing
pub not_other : (next : ℕ) (content : List ℕ) → ContentPage next content ≡ Other → ⊥
not_other next content e = cc

pub one_next : (a b : ℕ) (xs ys : List ℕ) → ContentPage a xs ≡ ContentPage b ys → a ≡ b
one_next a b xs ys e = cc

pub one_text : (a b : ℕ) (xs ys : List ℕ) → ContentPage a xs ≡ ContentPage b ys → xs ≡ ys
one_text a b xs ys e = cc

-- the part of a page
pub length-part : (bytes : List ℕ) (long : ℕ) → length bytes ≡ 2048 → long ≤ 2032
    → length (take long (drop 16 bytes)) ≡ long
length-part bytes long len le =
    length-take-le long (drop 16 bytes) (omega (arith, len, length-drop 16 bytes))

-- a part with zeros behind it
pub part_filled : (bytes : List ℕ) (long : ℕ) → length bytes ≡ 2048 → long ≤ 2032
    → IsClear bytes (16 + long) 2048 → drop 16 bytes ≡ filled (take long (drop 16 bytes))
part_filled bytes long len le clear =
    let part : List ℕ = take long (drop 16 bytes) in
    let size : length part ≡ long = length-part bytes long len le in
    let none : drop 2048 bytes ≡ [] = drop_all 2048 bytes (omega arith) in
    let zeros : drop (16 + long) bytes ≡ replicate (2032 - long) 0 =
    zeros_text bytes (2032 - long) (16 + long) 2048 (omega arith) (omega arith) clear
    ∙ ap (λ (x : List ℕ). replicate (2032 - long) 0 ++ x) none
    ∙ append-nil (replicate (2032 - long) 0) in
    part_text bytes 16 long (16 + long) refl ∙ ap (λ (x : List ℕ). part ++ x) zeros
    ∙ ap (λ (k : ℕ). part ++ replicate (2032 - k) 0) (sym size)

-- and back
pub filled_clear : (bytes part : List ℕ) (long : ℕ) → length part ≡ long → long ≤ 2032
    → drop 16 bytes ≡ filled part → IsClear bytes (16 + long) 2048
filled_clear bytes part long size le e =
    let zeros : List ℕ = replicate (2032 - length part) 0 in
    clear_again bytes [] (16 + long) (2032 - length part) 2048
    (skip bytes part zeros 16 (16 + long) e (omega arith) ∙ sym (append-nil zeros)) (omega arith)

-- a filled part is a page's
pub length-filled : (part : List ℕ) → length part ≤ 2032 → length (filled part) ≡ 2032
length-filled part le =
    omega (
      arith,
      length-append part (replicate (2032 - length part) 0),
      length-replicate {A = ℕ} (2032 - length part) 0,
    )

-- bytes written over the zeros behind a header
pub content_made : (zeros bytes new : List ℕ) (own next long : ℕ)
    → zeros ≡ header own 6 0 next 0 ++ replicate 2032 0 → long ≡ min (length bytes) 2032
    → new ≡ overwrite zeros 16 (take long bytes)
    → new ≡ header own 6 0 next 0 ++ filled (take 2032 bytes)
content_made zeros bytes new own next long is size e =
    let part : List ℕ = take 2032 bytes in
    let front : List ℕ = header own 6 0 next 0 in
    let under : List ℕ = replicate (length part) 0 in
    let behind : List ℕ = replicate (2032 - length part) 0 in
    let all : length part + (2032 - length part) ≡ 2032 = omega (arith, length-take 2032 bytes) in
    let both : under ++ behind ≡ replicate 2032 0 =
    replicate-append-replicate (length part) (2032 - length part) 0
    ∙ ap (λ (k : ℕ). replicate k 0) all in
    let least : take long bytes ≡ part =
    ap (λ (k : ℕ). take k bytes) (size ∙ min_comm (length bytes) 2032) ∙ take_min 2032 bytes in
    e ∙ ap (overwrite zeros 16) least
    ∙ ap (λ (x : List ℕ). overwrite x 16 part) (is ∙ ap (λ (x : List ℕ). front ++ x) (sym both))
    ∙ overwrite_mid front under behind part 16 refl
    (sym (length-replicate {A = ℕ} (length part) 0))

-- say the content
pub made_says : (new bytes : List ℕ) (own next : ℕ) → IsNumber own → IsNumber next
    → new ≡ header own 6 0 next 0 ++ filled (take 2032 bytes)
    → body_of own new ≡ ContentPage next (filled (take 2032 bytes))
unfolding content_spelling
made_says new bytes own next small fits e =
    let part : List ℕ = take 2032 bytes in
    let size : length (filled part) ≡ 2032 =
    length-filled part (omega (arith, length-take 2032 bytes)) in
    (body_is own new (ContentPage next (filled part)) (small, fits, size)).0 e
