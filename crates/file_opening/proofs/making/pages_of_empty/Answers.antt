use Rattle.std.proofs.Common.{◌∙◌}
use Rattle.page_io.proofs.OwnNumbers.{own_same, own_of_head}
use Rattle.file_opening.proofs.NewFiles.{bare_head, new_stands, three_numbers}
use Rattle.seg_table.specs.MetaPages.{model_meta}
use Rattle.file_opening.proofs.making.pages_of_empty.Goals as goal

pub returns-clause-stands : goal.returns-clause-stands
returns-clause-stands c =
    let m = c.args.meta.now in
    new_stands (model_meta m).bounds (model_meta m) c.write_meta.new.page.bytes
    c.segment_of_one.result.bytes c.empty.result.bytes c.requires.limited.0
    c.requires.limited.1 c.requires.fresh c.write_meta.ensures.body c.segment_of_one.ensures.says
    (bare_head c.empty.result.bytes c.empty.ensures.page c.empty.ensures.says)

pub returns-clause-numbers : goal.returns-clause-numbers
returns-clause-numbers c = three_numbers _ _ _
    (own_same c.write_meta.new.page.bytes ∙ c.write_meta.ensures.number)
    c.segment_of_one.ensures.number (own_of_head c.empty.result.bytes 3 c.empty.ensures.says)
