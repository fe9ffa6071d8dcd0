use Rattle.std.proofs.Common.{◌≡◌, ◌≢◌, ap, sym, subst, ◌∙◌, AllPairs, List, ℕ, Option, length, rules}
use Rattle.std.specs.Option.{unwrap_or}
use Rattle.page_model.specs.Chain.{pages_long}
use Rattle.page_model.specs.Pages.{Body}
use Rattle.page_model.specs.PageBodies.{first_of, content_bodies}
use Rattle.page_model.specs.Rewrites.{AreRewritten}
use Rattle.page_io.specs.Views.{body_at}
use Rattle.page_io.proofs.Views.{same_said}
use Rattle.content_pages.proofs.ContentTakes.{put_there}
use Rattle.content_pages.proofs.ContentWrites.{first_got}
use Rattle.content_pages.proofs.putting.put_content.Given.{Over}
use Rattle.content_pages.proofs.putting.put_content.Goals as goal

-- the first of the pages is answered
first_is : (g : Over) (c : goal.After-unwrap_or g)
    → c.unwrap_or.result ≡ first_of c.in_ok-pages.pages.items
first_is g c =
    c.unwrap_or.ensures
    ∙ ap (λ (o : Option ℕ). unwrap_or o 0) (c.copied.ensures ∙ c.first.ensures.value)
    ∙ first_got c.deref-2.result.now ∙ ap first_of c.deref-2.ensures.0

pub returns-clause-exact : goal.returns-clause-exact
returns-clause-exact g c honest s list apart =
    let st = g.S.PageStore in
    let told = c.in_ok-pages.ensures in
    let taken = told.exact honest s list apart in
    let h1 = told.reads.only.stages_only.honesty.1 honest in
    let same = same_said st _ _ told.reads.only honest in
    let pages = c.in_ok-pages.pages.items in
    let begins = first_is g c in
    let enough : c.pages_for.result ≡ pages_long (length c.args.content.now) = search rules in
    let mid = body_at st c.take_pages.new.store in
    let new = body_at st c.write_content.new.store in
    let content = c.args.content.now in
    let written : AreRewritten mid new (content_bodies pages content) =
    subst (λ (ns : List ℕ). AreRewritten mid new (content_bodies ns content)) c.deref.ensures.0
    (c.in_ok-write_content.ensures.written h1
    (subst (AllPairs (λ (n m : ℕ). n ≢ m)) (sym c.deref.ensures.0) told.many.2)) in
    put_there (body_at st c.args.store.now) new c.args.space.now c.take_pages.new.space s
    c.pages_for.result c.unwrap_or.result pages content list apart enough taken.0 taken.1 begins
    (subst (λ (f : ℕ → Body). AreRewritten f new (content_bodies pages content)) same written)
