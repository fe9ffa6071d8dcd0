use Rattle.std.proofs.Common.{◌≡◌, List, OnOk, IfErr, inr, flat_map, refl, subst, rules}
use Rattle.std.proofs.lemmas.Result.{IfOk-from_err}
use Rattle.std.specs.Io.KnownBytes.{Appends}
use Rattle.dbm_model.specs.Pairs.{Pair}
use Rattle.dbm_fault.specs.declared.fault.Fault.TheVariants.{Device, Broken}
use Rattle.dbm_fault.specs.declared.engine_fault.EngineFault.TheVariants.{Write, Db}
use Rattle.dbm_lines.specs.Forms.{line_in}
use Rattle.dbm_engines.proofs.Dumping.{reads_well, reads_told, reads_refused}
use Rattle.page_io.proofs.Exits.{exit_is, if_exit, no_err}
use Rattle.dbm_engines.proofs.Exits.{same_exit, of_pairs, wrote_well, write_or, write_among, no_call_refused, writes_pairs}
use Rattle.dbm_engines.proofs.dump.dump_in_form.Given.{Over}
use Rattle.dbm_engines.proofs.dump.dump_in_form.Goals as goal

-- a pair is not read
pub returns-in_err-pairs : goal.returns-in_err-pairs
returns-in_err-pairs g c =
    let exit = exit_is _ _ c.from_residual.ensures.1 in
    let fault = c.in_err-pairs.field-0.0 in
    let told = c.in_err-pairs.ensures in
    record {
      dump = λ honest h at usable. IfOk-from_err _ _ c.from_residual.ensures.0;
      whole = λ honest h at usable. if_exit _ _ fault exit (inr (told.pairs honest h at usable));
      reads = reads_refused g.S.PageStore _ _ c.gather_pairs.result _ fault c.in_err-pairs.was exit
          c.gather_pairs.ensures.reads;
      lines = IfOk-from_err _ _ c.from_residual.ensures.0;
      broken = λ broken. same_exit _ fault (Db Broken) exit (told.broken broken);
      unwritten = if_exit _ _ fault exit (inr refl);
      memory = search rules;
      only = if_exit _ _ fault exit (of_pairs _ told.only);
    }

only_write : (g : Over) (c : goal.After-drop-pairs g) → IfErr c.map_err.result (λ e. e ≡ Write)
only_write g c = search rules

-- all is read
pub returns : goal.returns
returns g c =
    let write = only_write g c in
    let before = g.W.Write.contents c.args.writer.now in
    let after = g.W.Write.contents c.write_pairs.new.writer in
    record {
      dump = λ honest h at usable.
          wrote_well _ c.write_pairs.result _ c.map_err.ensures.variant
          (subst (λ (pairs : List Pair). OnOk c.write_pairs.result
          (Appends before after (flat_map (line_in c.args.form) pairs)))
          (c.in_ok-pairs.ensures.pairs honest h at usable) c.write_pairs.ensures);
      whole = λ honest h at usable. write_or _ _ write;
      reads = reads_told g.S.PageStore _ _ c.map_err.result
          (reads_well g.S.PageStore _ _ c.gather_pairs.result c.in_ok-pairs.pairs c.in_ok-pairs.was
          c.gather_pairs.ensures.reads)
          (no_call_refused c.map_err.result Device write)
          (no_call_refused c.map_err.result Broken write);
      lines = wrote_well _ c.write_pairs.result _ c.map_err.ensures.variant
          (writes_pairs (line_in c.args.form) c.write_pairs.result c.in_ok-pairs.pairs _ before after
          c.in_ok-pairs.ensures.counted c.write_pairs.ensures);
      broken = λ broken. no_err c.in_ok-pairs.pairs (Db Broken) (c.in_ok-pairs.ensures.broken broken);
      unwritten = write_or _ _ write;
      memory = search rules;
      only = write_among _ write;
    }
