use Rattle.std.proofs.Common.{refl}
use Rattle.page_model.specs.Pages.{MetaPage}
use Rattle.page_model.proofs.Bodies.{body_is}
use Rattle.page_model.proofs.Metas.{few_segments}
use Rattle.seg_table.specs.MetaPages.{model_meta}
use Rattle.seg_table.proofs.Metas.{meta_written}
use Rattle.seg_table.proofs.meta.write_meta.Goals as goal

pub returns-clause-spelled : goal.returns-clause-spelled
returns-clause-spelled c =
    let m = model_meta c.args.meta.now in
    meta_written m c.plain.result.bytes c.set_numbers.new.self.bytes c.set_numbers-2.new.self.bytes
    c.deref.result.now c.number.result c.len.result (few_segments m c.requires) c.len.ensures.value
    c.deref.ensures.0 c.number.ensures c.plain.ensures c.set_numbers.ensures c.set_numbers-2.ensures

pub returns-clause-body : goal.returns-clause-body
returns-clause-body c = (body_is 1 c.set_numbers-2.new.self.bytes
    (MetaPage (model_meta c.args.meta.now)) (refl, c.requires)).0 (returns-clause-spelled c)
