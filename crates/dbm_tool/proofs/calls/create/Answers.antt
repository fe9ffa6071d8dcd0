use Rattle.std.proofs.Common.{Ok, None, true, false, refl, subst}
use Rattle.file_opening.specs.declared.open_how.Access.TheVariants.{ReadWrite}
use Rattle.page_io.specs.declared.version.Version.{Version}
use Rattle.dbm_commands.specs.declared.outcomes.Outcome.TheVariants.{Done}
use Rattle.dbm_file.specs.Named.{OpensFile}
use Rattle.redo_area.specs.declared.header.CommitKind.{CommitKind}
use Rattle.dbm_tool.specs.Files.{made_new, version_of}
use Rattle.dbm_tool.proofs.Carrying.{was_closed}
use Rattle.dbm_tool.proofs.calls.create.Goals as goal

pub returns-clause-carried : goal.returns-clause-carried
returns-clause-carried g c =
    was_closed _ (made_new c.args.limit c.args.version c.args.commits) _ _ c.in_ok-db.db
    c.in_ok-db.db (Ok Done)
    (subst (λ (kind : CommitKind). OpensFile (record {
      access = ReadWrite;
      create = true;
      exclusive = true;
      truncate = false;
      limit = c.args.limit;
      version = version_of c.args.version;
      commits = kind;
      kept_pages = None;
    }) c.in_ok-db.db) c.commit_kind.ensures
    (subst (λ (version : Version). OpensFile (record {
      access = ReadWrite;
      create = true;
      exclusive = true;
      truncate = false;
      limit = c.args.limit;
      version = version;
      commits = c.commit_kind.result;
      kept_pages = None;
    }) c.in_ok-db.db) c.file_version.ensures.file c.in_ok-db.ensures.opens))
    c.in_ok-db.ensures.fresh (refl, refl) c.close.ensures.closed
