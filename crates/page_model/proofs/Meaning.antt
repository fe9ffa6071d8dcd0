-- What pages stand for.
use Rattle.std.proofs.Common.{◌≡◌, ℕ, refl, sym, ap, ◌∙◌}
use Rattle.dbm_model.specs.Bounds.{Bounds, in_v1}
use Rattle.page_model.specs.Placement.{Placement, delete, store}
use Rattle.page_model.specs.Pages.{Body}
use Rattle.page_model.specs.PageBodies.{meta_of}
use Rattle.page_model.specs.Meaning.{said_by}
use Rattle.page_model.specs.Pages.{MetaPage, SegmentPage, HeadPage, OverflowPage, FreePage, ContentPage, Other}
use Rattle.page_model.specs.BodyLaws.{OneMeaning, PagesHaveOneMeaning, GoodPagesStand, StoredStands, DeletedStands}
use Rattle.page_model.proofs.Flat.{flat_is_contents}
use Rattle.page_model.proofs.Stores.{store_stays_good, delete_stays_good}
use Rattle.page_model.proofs.GoodBodies.{pages_exactly}

bounds_on : Bounds → Body → Bounds
bounds_on other (MetaPage meta) = meta.bounds
bounds_on other (SegmentPage heads) = other
bounds_on other (HeadPage next pairs) = other
bounds_on other (OverflowPage next pairs) = other
bounds_on other (FreePage next) = other
bounds_on other (ContentPage next bytes) = other
bounds_on other Other = other

bounds_read : (at : ℕ → Body) (p : Placement) → at 1 ≡ MetaPage (meta_of p)
    → bounds_on (in_v1 0) (at 1) ≡ p.bounds
unfolding bounds_on
bounds_read at p e = ap (bounds_on (in_v1 0)) e

pub one_meaning : OneMeaning
one_meaning at end m n bounds other s t = (
  sym s.holds ∙ t.holds,
  sym s.bounded ∙ sym (bounds_read at s.placement s.spelled.0)
      ∙ bounds_read at t.placement t.spelled.0 ∙ t.bounded,
)

pub stored_stands : StoredStands
stored_stands p at pair g may spelled =
    let all = store_stays_good p pair g may in
    record {
      placement = store p pair;
      good = all.0;
      spelled = spelled;
      ends = refl;
      bounded = all.2;
      holds = flat_is_contents (store p pair) at all.0 spelled ∙ all.1;
    }

pub deleted_stands : DeletedStands
deleted_stands p at key g spelled =
    let all = delete_stays_good p key g in
    record {
      placement = delete p key;
      good = all.0;
      spelled = spelled;
      ends = refl;
      bounded = refl;
      holds = flat_is_contents (delete p key) at all.0 spelled ∙ all.1;
    }

pub pages_one_meaning : PagesHaveOneMeaning
pages_one_meaning page end m n bounds other s t =
    one_meaning (said_by page) end m n bounds other s t

pub good_pages_stand : GoodPagesStand
good_pages_stand page p g are =
    let read = (pages_exactly page p g).0 are in
    record {
      placement = p;
      good = g;
      spelled = read;
      ends = refl;
      bounded = refl;
      holds = flat_is_contents p (said_by page) g read;
    }
