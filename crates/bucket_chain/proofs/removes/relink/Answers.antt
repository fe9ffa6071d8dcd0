use Rattle.std.proofs.Common.{◌≡◌, ℕ, List, refl, sym, ap, ◌∙◌, subst, arith}
use Rattle.std.proofs.lemmas.Result.{IfOk-from_err}
use Rattle.page_model.specs.Pages.{Body, Record}
use Rattle.page_model.specs.Reading.{body_of}
use Rattle.page_io.specs.Page.{own_number}
use Rattle.page_io.specs.Store.{StoreState}
use Rattle.page_io.specs.Versions.{model_version}
use Rattle.page_io.specs.Views.{body_at, MayEnd}
use Rattle.page_io.specs.declared.store.PageFault.TheVariants.{Damaged}
use Rattle.page_io.proofs.Views.{stages_then, same_said, known_below}
use Rattle.page_io.proofs.Exits.{exit_is, came, cause_first, cause_stage_last, last_not_damaged}
use Rattle.page_io.specs.BucketPages.{page_records}
use Rattle.bucket_chain.specs.Links.{SaysLink}
use Rattle.bucket_chain.proofs.Headers.{header_of}
use Rattle.bucket_chain.proofs.LinkBodies.{says_link}
use Rattle.bucket_chain.proofs.ReadPages.{still_honest}
use Rattle.bucket_chain.proofs.Walks.{one_next}
use Rattle.page_io.proofs.OwnNumbers.{own_same}
use Rattle.bucket_chain.proofs.StagedPages.{on_ok, if_ok}
use Rattle.bucket_chain.proofs.LinkedPages.{link_linked}
use Rattle.bucket_chain.proofs.Refusals.{walk_removes, stage_removes_last, few_same, few_then}
use Rattle.bucket_chain.proofs.removes.relink.Given.{Over}
use Rattle.bucket_chain.proofs.removes.relink.Goals as goal

pub stage_page-requires-clause-own : goal.stage_page-requires-clause-own
stage_page-requires-clause-own g c = omega (
  arith,
  own_same c.set_next.new.page.bytes,
  c.set_next.ensures.own,
  (header_of _ _ _ _ _ _ c.in_ok-read_link.ensures.link).own,
  c.in_ok-read_link.ensures.known.0,
)

pub stage_page-requires-clause-known : goal.stage_page-requires-clause-known
stage_page-requires-clause-known g c =
    (link_linked _ _ _ _ _ _ c.args.next c.in_ok-read_link.ensures.link c.set_next.ensures.page
    c.set_next.ensures.says).page

-- the page that is staged is page n
number : (g : Over) (c : goal.After-stage_page g) → own_number c.set_next.new.page.bytes ≡ c.args.n
number g c = own_same c.set_next.new.page.bytes ∙ c.set_next.ensures.own
    ∙ (header_of _ _ _ _ _ _ c.in_ok-read_link.ensures.link).own

-- the page is not read
pub returns-in_err-read_link : goal.returns-in_err-read_link
returns-in_err-read_link g c =
    let st = g.S.PageStore in
    let told = c.in_err-read_link.ensures in
    let result = c.from_residual in
    let exit = exit_is result.result c.in_err-read_link.field-0.0 result.ensures.1 in
    record {
      stages = record {
        only = told.reads.only.stages_only;
        cause = cause_first _ _ exit _ _ told.reads.cause;
      };
      few = few_same _ _ 1 told.reads.only.same;
      answer = walk_removes _ _ refl _ _ exit _ _ told.answer;
      may_end = λ end may. IfOk-from_err _ _ result.ensures.0;
      says = λ honest was records link. IfOk-from_err _ _ result.ensures.0;
      relinked = λ honest. IfOk-from_err _ _ result.ensures.0;
      others = λ honest m other. ap (λ (at : ℕ → Body). at m) (same_said st _ _ told.reads.only
          honest);
      whole = λ honest was records some link damaged. told.whole honest was records some link
          (came _ _ exit Damaged damaged);
    }

-- it is staged with the other number
pub returns : goal.returns
returns g c =
    let st = g.S.PageStore in
    let read = c.in_ok-read_link.ensures in
    let told = c.stage_page.ensures in
    let bytes = c.set_next.new.page.bytes in
    let at' = body_at st c.stage_page.new.store in
    let linked = link_linked _ _ bytes _ _ _ c.args.next read.link c.set_next.ensures.page
    c.set_next.ensures.says in
    let own : ℕ = own_number bytes in
    let here : at' own ≡ body_of own bytes → at' c.args.n ≡ body_of c.args.n bytes =
    subst (λ (n : ℕ). at' n ≡ body_of n bytes) (number g c) in
    record {
      stages = record {
        only = stages_then st _ _ _ (g.met.S.PageStore.counts_now c.read_link.new.store)
            read.reads.only.stages_only told.stages;
        cause = cause_stage_last _ _ _ _ _ _ _ read.reads.only.stages_only.later told.faults
            told.answer;
      };
      few = few_then _ _ _ 1 read.reads.only.same told.few;
      answer = stage_removes_last _ _ _ _ _ (ap (λ (s : StoreState). s.usable)
          read.reads.only.same) _
          (few_same _ _ 0 read.reads.only.same) told.answer;
      may_end = λ end may.
          let below = known_below (st.state c.args.store.now) end c.args.n may read.known.1 in
          if_ok c.stage_page.result (told.may_end end (omega (arith, number g c, below))
          (subst (λ (s : StoreState). MayEnd s end) (sym read.reads.only.same) may));
      says = λ honest was records link.
          let same : page_records c.read_link.new.page.bytes ≡ records =
          (one_next _ _ _ _ _ _ _ records (read.says honest) link).1 in
          on_ok c.stage_page.result (told.says (still_honest st _ _ read.reads.only honest)) (λ
          says.
          subst (λ (ps : List Record). SaysLink
          (model_version c.args.version) at' c.args.n c.args.kind c.args.next ps) same
          (says_link _ at' bytes c.args.n c.args.kind c.args.next _
          (here says) c.requires linked));
      relinked = λ honest.
          on_ok c.stage_page.result (told.says (still_honest st _ _ read.reads.only honest))
          (λ says. record {
            old_next = c.in_ok-read_link.field-0;
            records = page_records c.read_link.new.page.bytes;
            was = read.says honest;
            says = says_link _ at' bytes c.args.n c.args.kind c.args.next _ (here says)
                c.requires linked;
          });
      others = λ honest m other.
          told.others (still_honest st _ _ read.reads.only honest) m (λ e. other (e ∙ number g c))
          ∙ ap (λ (at : ℕ → Body). at m) (same_said st _ _ read.reads.only honest);
      whole = λ honest was records some link damaged.
          absurd (last_not_damaged _ _ _ _ told.answer damaged);
    }
