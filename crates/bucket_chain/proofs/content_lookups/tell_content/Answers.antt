use Rattle.std.proofs.Common.{◌∙◌, ◌++◌, ℕ, List, length, ap, sym, arith, Ok, Err, OnOk, Result}
use Rattle.std.specs.Result.{IsOk}
use Rattle.bucket_chain.proofs.ContentLookups.{blank, few_bytes}
use Rattle.bucket_chain.proofs.content_lookups.tell_content.Goals as goal

-- what holds at `Ok`, where the result is that
at_ok : {T E P : Type 0} (r : Result T E) → IsOk r → OnOk r P → P
at_ok (Ok x) ok p = p
at_ok (Err e) ok p = absurd (let is = ok in cc)

pub returns : goal.returns
returns c d =
    let done = c.try_extend_from_slice.ensures in
    let few = few_bytes c.args.page.now.bytes c.args.slot c.requires.page c.requires.within in
    let long = ap (λ (xs : List ℕ). length xs) (c.pair_at.ensures blank).1 in
    let none = ap (λ (xs : List ℕ). length xs) c.clear.ensures in
    let fits = at_ok c.try_extend_from_slice.result (done.variant.1 (omega (arith, few, long, none)))
    done.ok in (
      c.in_default.ensures d,
      (c.pair_at.ensures d).1 ∙ sym (fits ∙ ap (λ (xs : List ℕ). xs ++ c.pair_at.result.1.now)
          c.clear.ensures),
    )
