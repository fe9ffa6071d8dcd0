use Rattle.std.proofs.Common.{◌≡◌, ◌∙◌, ℕ, List, [], ◌∷◌, map, flat_map, refl, ap, subst, rules}
use Rattle.std.specs.Borrow.{Bor}
use Rattle.std.specs.Global.{Vec}
use Rattle.std.specs.Io.KnownBytes.{Appends}
use Rattle.std.specs.Map.Iter.{deref}
use Rattle.std.proofs.lemmas.Map.Iter.{iter_end}
use Rattle.std.proofs.lemmas.Result.{IfOk-from_err}
use Rattle.dbm_lines.specs.Forms.{key_line_in}
use Rattle.dbm_engines.proofs.Writing.{one_more}
use Rattle.dbm_engines.proofs.dump.write_keys.Goals as goal

seen : (keys : List (Bor (Vec ℕ)))
    → map (λ (key : Bor (Vec ℕ)). key.now.items) keys
    ≡ map (λ (key : Vec ℕ). key.items) (map deref keys)
seen [] = refl
seen (key ∷ keys) = ap (λ (rest : List (List ℕ)). key.now.items ∷ rest) (seen keys)

pub returns : goal.returns
returns g c =
    let all : map deref c.loop-key.yielded ≡ c.args.keys.now.keys = search (rules, iter_end) in
    subst (λ (keys : List (List ℕ)).
    Appends (g.W.Write.contents c.args.writer.now) (g.W.Write.contents c.loop-key.writer)
    (flat_map (key_line_in c.args.form) keys))
    (seen c.loop-key.yielded ∙ ap (map (λ (key : Vec ℕ). key.items)) all) c.loop-key.invariant

pub returns-in_err-write_key : goal.returns-in_err-write_key
returns-in_err-write_key g c = IfOk-from_err _ _ c.from_residual.ensures.0

pub loop-key-preserved : goal.loop-key-preserved
loop-key-preserved g c =
    one_more (key_line_in c.args.form) (λ (key : Bor (Vec ℕ)). key.now.items)
    c.loop-key.yielded c.in-Some.key c.deref.result.now (g.W.Write.contents c.args.writer.now)
    (g.W.Write.contents c.loop-key.writer) (g.W.Write.contents c.write_key.new.writer)
    c.deref.ensures.value c.loop-key.invariant c.in_ok-write_key.ensures
