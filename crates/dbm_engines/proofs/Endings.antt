-- The bad line that ends a load.
use Rattle.std.proofs.Common.{◌≡◌, ℕ, ◌+◌, Bool, true, false, List, [], ◌∷◌, ◌++◌, length, Option, Some, None, IfSome, Result, Ok, Err, ap, subst, ◌∙◌}
use Rattle.dbm_lines.specs.Lines.{lines_of}
use Rattle.dbm_model.specs.Pairs.{Pair}
use Rattle.page_io.specs.declared.store.PageStore.{Ghosts}
use Rattle.dbm_file.specs.declared.database.Database.{Database}
use Rattle.dbm_lines.specs.BadLines.{IsBadBy}
use Rattle.dbm_lines.specs.Bounds.{longest_in}
use Rattle.dbm_lines.specs.Forms.{is_passed_in, pair_in}
use Rattle.dbm_lines.specs.Reading.{line_bytes, after_line, ReadsLine}
use Rattle.dbm_lines.specs.declared.bad_lines.BadLine.{BadLine}
use Rattle.dbm_lines.specs.declared.forms.TextForm.{TextForm}
use Rattle.dbm_lines.proofs.BadLines.{bad-kept}
use Rattle.dbm_lines.proofs.TextLines.{first_line}
use Rattle.dbm_engines.specs.Batches.{GroupsLine, Numbered, StoresBatch}
use Rattle.dbm_engines.specs.LoadEndings.{IsBadFor, TellsWhy}
use Rattle.dbm_engines.specs.Loading.{LoadsLine}
use Rattle.dbm_engines.specs.declared.load_stop.LoadStop.{LoadStop}
use Rattle.dbm_engines.specs.declared.load_stop.LoadStop.TheVariants.{Memory, Read, Bad, Refused}
use Rattle.dbm_engines.proofs.Loading.{AreRead}

-- a bad line was read behind those that are done
bad_behind : (form : TextForm) (first now next : Option (List ℕ)) (line : List ℕ)
    (done : List (List ℕ)) (number n : ℕ) (why : BadLine) → AreRead first now done
    → number ≡ length done + 1
    → IfSome now (λ text. ReadsLine (longest_in form + 1) text true line next)
    → IsBadBy form line why → n ≡ number → TellsWhy form (Err (Bad n why)) first
bad_behind form None now next line done number n why read counted r bad is = tt
bad_behind form (Some text) None next line done number n why read counted r bad is = absurd read
bad_behind form (Some text) (Some []) next line done number n why read counted r bad is =
    absurd (let e = r.0 in cc)
bad_behind form (Some text) (Some (x ∷ xs)) next line done number n why read counted r bad is = (
  line_bytes (x ∷ xs),
  record {
    first = done;
    rest = lines_of (after_line (x ∷ xs));
    lines = read ∙ ap (λ (rest : List (List ℕ)). done ++ rest) (first_line x xs);
    counted = is ∙ counted;
  },
  bad-kept form (line_bytes (x ∷ xs)) why (subst (λ (l : List ℕ). IsBadBy form l why) r.1 bad),
)

module _ {S : Type 0} {s : Ghosts S} (form : TextForm) (mid new : Database S s)
    (first now next : Option (List ℕ)) (line : List ℕ) (done : List (List ℕ)) (number : ℕ)
    (read : AreRead first now done) (counted : number ≡ length done + 1)
    (r : IfSome now (λ text. ReadsLine (longest_in form + 1) text true line next)) where
  -- of a line with a commit of its own
  pub alone_why : (stop : LoadStop)
      → LoadsLine (is_passed_in form line) (Err stop) (pair_in form line) number mid new
      → IsBadFor form line (Err stop) → TellsWhy form (Err stop) first
  alone_why stop loaded bad = by_stop stop (is_passed_in form line) (pair_in form line) loaded bad
    where
      by_stop : (stop : LoadStop) (b : Bool) (said : Option Pair)
          → LoadsLine b (Err stop) said number mid new → IsBadFor form line (Err stop)
          → TellsWhy form (Err stop) first
      by_stop (Bad n why) false None loaded bad =
          bad_behind form first now next line done number n why read counted r bad loaded.0
      by_stop (Bad n why) false (Some pair) loaded bad = absurd loaded
      by_stop (Bad n why) true said loaded bad = absurd loaded
      by_stop (Refused n fault) b said loaded bad = tt
      by_stop Memory b said loaded bad = tt
      by_stop Read b said loaded bad = tt

  -- of a line of a group
  pub grouped_why : (stop : LoadStop) (held kept : List Numbered)
      → GroupsLine (is_passed_in form line) (Err stop) (pair_in form line) number mid new held kept
      → IsBadFor form line (Err stop) → TellsWhy form (Err stop) first
  grouped_why stop held kept went bad =
      by_stop stop (is_passed_in form line) (pair_in form line) went bad
    where
      by_stop : (stop : LoadStop) (b : Bool) (said : Option Pair)
          → GroupsLine b (Err stop) said number mid new held kept → IsBadFor form line (Err stop)
          → TellsWhy form (Err stop) first
      by_stop (Bad n why) false None went bad =
          bad_behind form first now next line done number n why read counted r bad went.0
      by_stop (Bad n why) false (Some pair) went bad = absurd went
      by_stop (Bad n why) true said went bad = absurd went
      by_stop (Refused n fault) b said went bad = tt
      by_stop Memory b said went bad = tt
      by_stop Read b said went bad = tt

-- a store of the pairs of a batch tells of no bad line
pub batch_why : {S : Type 0} (s : Ghosts S) (form : TextForm) (result : Result Unit LoadStop)
    (mid new : Database S s) (held : List Numbered) (first : Option (List ℕ))
    → StoresBatch result mid new held → TellsWhy form result first
batch_why s form (Ok done) mid new held first stores = tt
batch_why s form (Err (Refused line fault)) mid new held first stores = tt
batch_why s form (Err (Bad n why)) mid new held first stores = absurd stores
batch_why s form (Err Memory) mid new held first stores = tt
batch_why s form (Err Read) mid new held first stores = tt

-- a reason is told alike under the same form
pub why_in : (form other : TextForm) (result : Result Unit LoadStop) (first : Option (List ℕ))
    → other ≡ form → TellsWhy other result first → TellsWhy form result first
why_in form other result first same =
    subst (λ (f : TextForm). TellsWhy f result first) same
