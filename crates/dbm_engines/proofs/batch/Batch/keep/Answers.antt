use Rattle.std.proofs.Common.{◌≡◌, ◌++◌, ◌∷◌, [], ◌∙◌, length, rules, sym, vec_len}
use Rattle.dbm_engines.proofs.Held.{one_kept}
use Rattle.dbm_engines.proofs.batch.Batch.keep.Goals as goal

pub returns-clause-held : goal.returns-clause-held
returns-clause-held c =
    let lines : c.push-2.new.self.items ≡ c.args.self.now.lines.items ++ c.args.line ∷ [] =
    search rules in
    let as_many_lines : length c.args.self.now.lines.items ≡ vec_len c.args.self.now.lines =
    search rules in
    let as_many_pairs : length c.args.self.now.pairs.items ≡ vec_len c.args.self.now.pairs =
    search rules in
    one_kept c.args.self.now.lines.items _ c.args.self.now.pairs.items _ c.args.line
    (record { key = c.in_ok-key.key; content = c.in_ok-content.content }) _ _
    (as_many_lines ∙ c.args.self.now.numbered ∙ sym as_many_pairs) lines c.in_ok-push.ensures.items c.in_ok-key.ensures.items
    c.in_ok-content.ensures.items
