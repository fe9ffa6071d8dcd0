use Rattle.std.proofs.Common.{◌≡◌, ◌∙◌, ℕ, List, [], ◌∷◌, map, flat_map, refl, ap, ap₂, subst, rules}
use Rattle.std.specs.Borrow.{Bor}
use Rattle.std.specs.Global.{Vec}
use Rattle.std.specs.Io.KnownBytes.{Appends}
use Rattle.std.specs.Map.Iter.{deref_pair}
use Rattle.std.proofs.lemmas.Map.Iter.{iter_end}
use Rattle.std.proofs.lemmas.Result.{IfOk-from_err}
use Rattle.dbm_lines.specs.Forms.{line_in}
use Rattle.dbm_model.specs.Pairs.{Pair}
use Rattle.dbm_engines.proofs.Writing.{one_more}
use Rattle.dbm_engines.proofs.dump.write_pairs.Goals as goal

abbrev bytes : Vec ℕ × Vec ℕ → Pair
bytes pair = (pair.0.items, pair.1.items)

seen : (pairs : List (Bor (Vec ℕ) × Bor (Vec ℕ)))
    → map (λ (pair : Bor (Vec ℕ) × Bor (Vec ℕ)). (pair.0.now.items, pair.1.now.items)) pairs
    ≡ map bytes (map deref_pair pairs)
seen [] = refl
seen (pair ∷ pairs) = ap (λ (rest : List Pair). bytes (deref_pair pair) ∷ rest) (seen pairs)

pub returns : goal.returns
returns g c =
    let all : map deref_pair c.loop-key.yielded ≡ c.args.pairs.now.entries =
    search (rules, iter_end) in
    subst (λ (pairs : List Pair).
    Appends (g.W.Write.contents c.args.writer.now) (g.W.Write.contents c.loop-key.writer)
    (flat_map (line_in c.args.form) pairs))
    (seen c.loop-key.yielded ∙ ap (map bytes) all) c.loop-key.invariant

pub returns-in_err-write_pair : goal.returns-in_err-write_pair
returns-in_err-write_pair g c = IfOk-from_err _ _ c.from_residual.ensures.0

pub loop-key-preserved : goal.loop-key-preserved
loop-key-preserved g c =
    one_more (line_in c.args.form)
    (λ (pair : Bor (Vec ℕ) × Bor (Vec ℕ)). (pair.0.now.items, pair.1.now.items))
    c.loop-key.yielded (c.in-Some.key, c.in-Some.content)
    (c.deref.result.now, c.deref-in-loop-key.result.now) (g.W.Write.contents c.args.writer.now)
    (g.W.Write.contents c.loop-key.writer) (g.W.Write.contents c.write_pair.new.writer)
    (ap₂ (λ (key content : List ℕ). let pair : Pair = (key, content) in pair)
    c.deref.ensures.value c.deref-in-loop-key.ensures.value)
    c.loop-key.invariant c.in_ok-write_pair.ensures
