-- What lines say, some of which are passed over.
use Rattle.std.proofs.Common.{◌≡◌, ℕ, suc, ◌+◌, Bool, true, false, cond, List, [], ◌∷◌, ◌++◌, length, map, Option, Some, refl, sym, ap, subst, ◌∙◌, arith, append-nil}
use Rattle.std.proofs.lemmas.List.{map-append}
use Rattle.dbm_model.specs.Pairs.{Pair}
use Rattle.dbm_lines.specs.Forms.{is_passed_in, lines_said, pair_in}
use Rattle.dbm_lines.specs.declared.forms.TextForm.{TextForm}
use Rattle.dbm_engines.specs.Batches.{Numbered, pairs_of}
use Rattle.dbm_engines.specs.Loading.{AllSay, FirstIsSaid, FirstSays}

-- ---- with no numbers

one_ahead : (line : List ℕ) (all first later : List (List ℕ)) (passed : Bool)
    → all ≡ first ++ later → cond passed all (line ∷ all) ≡ cond passed first (line ∷ first) ++ later
one_ahead line all first later true is = is
one_ahead line all first later false is = ap (λ (lines : List (List ℕ)). line ∷ lines) is

pub said_append : (form : TextForm) (first later : List (List ℕ))
    → lines_said form (first ++ later) ≡ lines_said form first ++ lines_said form later
said_append form [] later = refl
said_append form (line ∷ first) later =
    one_ahead line (lines_said form (first ++ later)) (lines_said form first)
    (lines_said form later) (is_passed_in form line) (said_append form first later)

one_said : (form : TextForm) (line : List ℕ) (passed : Bool) → is_passed_in form line ≡ passed
    → lines_said form (line ∷ []) ≡ cond passed [] (line ∷ [])
one_said form line passed is = ap (λ b. cond b [] (line ∷ [])) is

-- one more line that is passed over
pub passes_one : (form : TextForm) (lines : List (List ℕ)) (pairs : List Pair) (line : List ℕ)
    → is_passed_in form line ≡ true → AllSay form lines pairs
    → AllSay form (lines ++ line ∷ []) pairs
passes_one form lines pairs line is said =
    ap (map (pair_in form)) (said_append form lines (line ∷ [])
    ∙ ap (λ (more : List (List ℕ)). lines_said form lines ++ more) (one_said form line true is))
    ∙ map-append (pair_in form) (lines_said form lines) []
    ∙ ap (λ (said : List (Option Pair)). said ++ []) said
    ∙ sym (map-append Some pairs [])
    ∙ ap (map Some) (append-nil pairs)

-- one more that says a pair
pub says_one : (form : TextForm) (lines : List (List ℕ)) (pairs : List Pair) (line : List ℕ)
    (pair : Pair) → is_passed_in form line ≡ false → pair_in form line ≡ Some pair
    → AllSay form lines pairs → AllSay form (lines ++ line ∷ []) (pairs ++ pair ∷ [])
says_one form lines pairs line pair is says said =
    ap (map (pair_in form)) (said_append form lines (line ∷ [])
    ∙ ap (λ (more : List (List ℕ)). lines_said form lines ++ more) (one_said form line false is))
    ∙ map-append (pair_in form) (lines_said form lines) (line ∷ [])
    ∙ (λ i. said i ++ says i ∷ [])
    ∙ sym (map-append Some pairs (pair ∷ []))

-- ---- with the numbers of lines

-- a line of this number is passed over, or says the first of these pairs; and the rest is so
abbrev pub SayFirst : Bool → TextForm → List ℕ → ℕ → (List Numbered → Type 0) → List Numbered
    → Type 0
SayFirst true form line k Rest told = Rest told
SayFirst false form line k Rest [] = ⊥
SayFirst false form line k Rest (one ∷ told) =
    (one.0 ≡ k) × (pair_in form line ≡ Some one.1) × Rest told

-- these lines, of which the first has this number, say these pairs
abbrev pub SayAt : TextForm → ℕ → List (List ℕ) → List Numbered → Type 0
SayAt form k [] [] = Unit {0}
SayAt form k [] (one ∷ told) = ⊥
SayAt form k (line ∷ lines) told =
    SayFirst (is_passed_in form line) form line k (SayAt form (suc k) lines) told

says_next : (form : TextForm) (k : ℕ) (line : List ℕ) (lines : List (List ℕ))
    (Rest : List Numbered → Type 0)
    → ((told : List Numbered) → Rest told → AllSay form lines (pairs_of told)) → (passed : Bool)
    → is_passed_in form line ≡ passed → (told : List Numbered)
    → SayFirst passed form line k Rest told → AllSay form (line ∷ lines) (pairs_of told)
says_next form k line lines Rest rest true is told h =
    ap (λ b. map (pair_in form) (cond b (lines_said form lines) (line ∷ lines_said form lines))) is
    ∙ rest told h
says_next form k line lines Rest rest false is [] h = absurd h
says_next form k line lines Rest rest false is (one ∷ told) h =
    let later = rest told h.2 in
    ap (λ b. map (pair_in form) (cond b (lines_said form lines) (line ∷ lines_said form lines))) is
    ∙ (λ i. h.1 i ∷ later i)

pub says_of : (form : TextForm) (k : ℕ) (lines : List (List ℕ)) (told : List Numbered)
    → SayAt form k lines told → AllSay form lines (pairs_of told)
says_of form k [] [] h = refl
says_of form k [] (one ∷ told) h = absurd h
says_of form k (line ∷ lines) told h =
    says_next form k line lines (SayAt form (suc k) lines)
    (λ (more : List Numbered) said. says_of form (suc k) lines more said)
    (is_passed_in form line) refl told h

-- what the rest says may be said of other lines, also with one pair more
first_same : (passed : Bool) (form : TextForm) (line : List ℕ) (k : ℕ)
    (Rest More : List Numbered → Type 0) → ((told : List Numbered) → Rest told → More told)
    → (told : List Numbered) → SayFirst passed form line k Rest told
    → SayFirst passed form line k More told
first_same true form line k Rest More on told h = on told h
first_same false form line k Rest More on [] h = absurd h
first_same false form line k Rest More on (one ∷ told) h = (h.0, h.1, on told h.2)

first_more : (passed : Bool) (form : TextForm) (line : List ℕ) (k : ℕ)
    (Rest More : List Numbered → Type 0) (last : Numbered)
    → ((told : List Numbered) → Rest told → More (told ++ last ∷ [])) → (told : List Numbered)
    → SayFirst passed form line k Rest told → SayFirst passed form line k More (told ++ last ∷ [])
first_more true form line k Rest More last on told h = on told h
first_more false form line k Rest More last on [] h = absurd h
first_more false form line k Rest More last on (one ∷ told) h = (h.0, h.1, on told h.2)

-- one more line that is passed over
nothing_more : (form : TextForm) (k : ℕ) (told : List Numbered) → SayAt form k [] told
    → SayAt form (suc k) [] told
nothing_more form k [] h = tt
nothing_more form k (one ∷ told) h = absurd h

pub passes_on : (form : TextForm) (k : ℕ) (lines : List (List ℕ)) (told : List Numbered)
    (line : List ℕ) → is_passed_in form line ≡ true → SayAt form k lines told
    → SayAt form k (lines ++ line ∷ []) told
passes_on form k [] told line is h =
    subst (λ b. SayFirst b form line k (SayAt form (suc k) []) told) (sym is)
    (nothing_more form k told h)
passes_on form k (other ∷ lines) told line is h =
    first_same (is_passed_in form other) form other k (SayAt form (suc k) lines)
    (SayAt form (suc k) (lines ++ line ∷ []))
    (λ (more : List Numbered) said. passes_on form (suc k) lines more line is said) told h

-- one more that says a pair
pub takes_on : (form : TextForm) (k : ℕ) (lines : List (List ℕ)) (told : List Numbered)
    (line : List ℕ) (one : Numbered) → is_passed_in form line ≡ false
    → pair_in form line ≡ Some one.1 → one.0 ≡ length lines + k → SayAt form k lines told
    → SayAt form k (lines ++ line ∷ []) (told ++ one ∷ [])
takes_on form k [] [] line one is says at h =
    let same : one.0 ≡ k = omega (arith, at) in
    subst (λ b. SayFirst b form line k (SayAt form (suc k) []) (one ∷ [])) (sym is) (same, says, tt)
takes_on form k [] (other ∷ told) line one is says at h = absurd h
takes_on form k (other ∷ lines) told line one is says at h =
    let later : one.0 ≡ length lines + suc k = omega (arith, at) in
    first_more (is_passed_in form other) form other k (SayAt form (suc k) lines)
    (SayAt form (suc k) (lines ++ line ∷ [])) one
    (λ (more : List Numbered) said. takes_on form (suc k) lines more line one is says later said)
    told h

-- the first of these pairs is that of the first of these lines, which has this number
abbrev pub Heads : TextForm → ℕ → List (List ℕ) → List Numbered → Type 0
Heads form k lines [] = Unit {0}
Heads form k lines (one ∷ told) = (one.0 ≡ k) × FirstSays form lines (Some one.1)

-- lines in two parts, which say one list of pairs each
pub record Parts (form : TextForm) (k : ℕ) (lines : List (List ℕ)) (first later : List Numbered)
    : Type 0 where
  pub ahead : List (List ℕ)
  pub rest : List (List ℕ)
  pub lines_are : lines ≡ ahead ++ rest
  pub say_first : SayAt form k ahead first
  pub say_later : SayAt form (length ahead + k) rest later
  pub heads : Heads form (length ahead + k) rest later

-- one more line in front
ahead_of : (form : TextForm) (k : ℕ) (line : List ℕ) (lines : List (List ℕ))
    (before first later : List Numbered) → Parts form (suc k) lines first later
    → ((ahead : List (List ℕ)) → SayAt form (suc k) ahead first
    → SayAt form k (line ∷ ahead) before) → Parts form k (line ∷ lines) before later
ahead_of form k line lines before first later parts onto =
    let count : length parts.ahead + suc k ≡ suc (length parts.ahead) + k = omega arith in
    record {
      ahead = line ∷ parts.ahead;
      rest = parts.rest;
      lines_are = ap (λ (ls : List (List ℕ)). line ∷ ls) parts.lines_are;
      say_first = onto parts.ahead parts.say_first;
      say_later = subst (λ n. SayAt form n parts.rest later) count parts.say_later;
      heads = subst (λ n. Heads form n parts.rest later) count parts.heads;
    }

parts_next : (form : TextForm) (k : ℕ) (line : List ℕ) (lines : List (List ℕ))
    → ((first later : List Numbered) → SayAt form (suc k) lines (first ++ later)
    → Parts form (suc k) lines first later) → (passed : Bool) → is_passed_in form line ≡ passed
    → (first later : List Numbered)
    → SayFirst passed form line k (SayAt form (suc k) lines) (first ++ later)
    → Parts form k (line ∷ lines) first later
parts_next form k line lines rest true is first later h =
    ahead_of form k line lines first first later (rest first later h)
    (λ (ahead : List (List ℕ)) said.
    subst (λ b. SayFirst b form line k (SayAt form (suc k) ahead) first) (sym is) said)
parts_next form k line lines rest false is [] [] h = absurd h
parts_next form k line lines rest false is [] (one ∷ later) h =
    let none : k ≡ 0 + k = omega arith in
    let said : SayAt form k (line ∷ lines) (one ∷ later) =
    subst (λ b. SayFirst b form line k (SayAt form (suc k) lines) (one ∷ later)) (sym is) h in
    record {
      ahead = [];
      rest = line ∷ lines;
      lines_are = refl;
      say_first = tt;
      say_later = subst (λ (n : ℕ). SayAt form n (line ∷ lines) (one ∷ later)) none said;
      heads = (h.0 ∙ none, (is, h.1));
    }
parts_next form k line lines rest false is (one ∷ first) later h =
    ahead_of form k line lines (one ∷ first) first later (rest first later h.2)
    (λ (ahead : List (List ℕ)) said.
    subst (λ b. SayFirst b form line k (SayAt form (suc k) ahead) (one ∷ first)) (sym is)
    (h.0, h.1, said))

-- where they say two lists, one behind the other
pub parted : (form : TextForm) (k : ℕ) (lines : List (List ℕ)) (first later : List Numbered)
    → SayAt form k lines (first ++ later) → Parts form k lines first later
parted form k [] [] [] h = record {
  ahead = [];
  rest = [];
  lines_are = refl;
  say_first = tt;
  say_later = tt;
  heads = tt;
}
parted form k [] [] (one ∷ later) h = absurd h
parted form k [] (one ∷ first) later h = absurd h
parted form k (line ∷ lines) first later h =
    parts_next form k line lines
    (λ (ahead behind : List Numbered) said. parted form (suc k) lines ahead behind said)
    (is_passed_in form line) refl first later h

-- the first line stays the first before others
pub first_before : (form : TextForm) (lines over : List (List ℕ)) (said : Option Pair)
    → FirstSays form lines said → FirstSays form (lines ++ over) said
first_before form [] over said h = absurd h
first_before form (line ∷ lines) over said h = h

pub first_is_said : (form : TextForm) (lines : List (List ℕ)) (said : Option Pair)
    → FirstSays form lines said → FirstIsSaid form lines
first_is_said form [] said h = absurd h
first_is_said form (line ∷ lines) said h = h.0
