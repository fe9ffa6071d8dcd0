use Rattle.std.proofs.Common.{◌≡◌, ◌∷◌, ◌∙◌, None, ap, codes, refl, rules, sym}
use Rattle.dbm_lines.specs.Lines.{call_of_parts}
use Rattle.dbm_lines.specs.BadLines.{parts_in}
use Rattle.dbm_lines.specs.Requests.{bytes_in, pair_of_parts}
use Rattle.dbm_lines.proofs.Requests.{no_name, no_pair_call}
use Rattle.dbm_lines.proofs.parsing.request_with_parts.Goals as goal

pub returns-in_default-name_of-5-clause-request : goal.returns-in_default-name_of-5-clause-request
returns-in_default-name_of-5-clause-request c bare =
    no_name c.args.form c.in-Some.name.now c.in-Some.rest.now
    (rw c.in_default-name_of.is at c.name_of.ensures)
    ∙ sym (ap (call_of_parts (bytes_in c.args.form)) c.in-Some.ensures.split)

pub returns-in_default-name_of-clause-request : goal.returns-in_default-name_of-clause-request
returns-in_default-name_of-clause-request c bare =
    let form = c.args.form in
    let named : c.in-Some.name.now ≡ codes "S" =
    rw (c.in-Some-Store.is, c.in-Some-Store.field-0-is) at c.name_of.ensures in
    let says : None ≡ pair_of_parts form (parts_in form c.in-Some.rest.now) =
    rw c.if-pair_in_parts.false at c.pair_in_parts.ensures.pair in
    no_pair_call form (codes "S") refl (λ key. refl) (parts_in form c.in-Some.rest.now) says
    ∙ sym (ap (call_of_parts (bytes_in form)) (c.in-Some.ensures.split
    ∙ ap (λ name. name ∷ parts_in form c.in-Some.rest.now) named))

pub returns-in_default-name_of-2-clause-request : goal.returns-in_default-name_of-2-clause-request
returns-in_default-name_of-2-clause-request c bare =
    let form = c.args.form in
    let named : c.in-Some.name.now ≡ codes "I" =
    rw (c.in-Some-Insert.is, c.in-Some-Insert.field-0-is) at c.name_of.ensures in
    let says : None ≡ pair_of_parts form (parts_in form c.in-Some.rest.now) =
    search rules in
    no_pair_call form (codes "I") refl (λ key. refl) (parts_in form c.in-Some.rest.now) says
    ∙ sym (ap (call_of_parts (bytes_in form)) (c.in-Some.ensures.split
    ∙ ap (λ name. name ∷ parts_in form c.in-Some.rest.now) named))
