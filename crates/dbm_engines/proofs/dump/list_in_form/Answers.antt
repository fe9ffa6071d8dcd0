use Rattle.std.proofs.Common.{◌≡◌, List, OnOk, IfErr, inr, flat_map, refl, subst, rules}
use Rattle.std.proofs.lemmas.Result.{IfOk-from_err}
use Rattle.std.specs.Io.KnownBytes.{Appends}
use Rattle.dbm_model.specs.Pairs.{Key}
use Rattle.dbm_fault.specs.declared.fault.Fault.TheVariants.{Device, Broken}
use Rattle.dbm_fault.specs.declared.engine_fault.EngineFault.TheVariants.{Write, Db}
use Rattle.dbm_lines.specs.Forms.{key_line_in}
use Rattle.dbm_engines.proofs.Dumping.{reads_well, reads_told, reads_refused}
use Rattle.page_io.proofs.Exits.{exit_is, if_exit, no_err}
use Rattle.dbm_engines.proofs.Exits.{same_exit, of_keys, wrote_well, write_or, write_among_keys, no_call_refused, writes_keys}
use Rattle.dbm_engines.proofs.dump.list_in_form.Given.{Over}
use Rattle.dbm_engines.proofs.dump.list_in_form.Goals as goal

-- a key is not read
pub returns-in_err-keys : goal.returns-in_err-keys
returns-in_err-keys g c =
    let exit = exit_is _ _ c.from_residual.ensures.1 in
    let fault = c.in_err-keys.field-0.0 in
    let told = c.in_err-keys.ensures in
    record {
      list = λ honest h at usable. IfOk-from_err _ _ c.from_residual.ensures.0;
      whole = λ honest h at usable. if_exit _ _ fault exit (inr (told.keys honest h at usable));
      reads = reads_refused g.S.PageStore _ _ c.gather_keys.result _ fault c.in_err-keys.was exit
          c.gather_keys.ensures.reads;
      lines = IfOk-from_err _ _ c.from_residual.ensures.0;
      broken = λ broken. same_exit _ fault (Db Broken) exit (told.broken broken);
      unwritten = if_exit _ _ fault exit (inr refl);
      only = if_exit _ _ fault exit (of_keys _ told.only);
    }

only_write : (g : Over) (c : goal.After-drop-keys g) → IfErr c.map_err.result (λ e. e ≡ Write)
only_write g c = search rules

-- all is read
pub returns : goal.returns
returns g c =
    let write = only_write g c in
    let before = g.W.Write.contents c.args.writer.now in
    let after = g.W.Write.contents c.write_keys.new.writer in
    record {
      list = λ honest h at usable.
          wrote_well _ c.write_keys.result _ c.map_err.ensures.variant
          (subst (λ (keys : List Key). OnOk c.write_keys.result
          (Appends before after (flat_map (key_line_in c.args.form) keys)))
          (c.in_ok-keys.ensures.keys honest h at usable) c.write_keys.ensures);
      whole = λ honest h at usable. write_or _ _ write;
      reads = reads_told g.S.PageStore _ _ c.map_err.result
          (reads_well g.S.PageStore _ _ c.gather_keys.result c.in_ok-keys.keys c.in_ok-keys.was
          c.gather_keys.ensures.reads)
          (no_call_refused c.map_err.result Device write)
          (no_call_refused c.map_err.result Broken write);
      lines = wrote_well _ c.write_keys.result _ c.map_err.ensures.variant
          (writes_keys (key_line_in c.args.form) c.write_keys.result c.in_ok-keys.keys _ before after
          c.in_ok-keys.ensures.counted c.write_keys.ensures);
      broken = λ broken. no_err c.in_ok-keys.keys (Db Broken) (c.in_ok-keys.ensures.broken broken);
      unwritten = write_or _ _ write;
      only = write_among_keys _ write;
    }
