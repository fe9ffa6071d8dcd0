use Rattle.std.proofs.Common.{Ok, codes}
use Rattle.dbm_command_line.specs.CommandLine.{backup_line, command_line, create_line, faults_line, file_line, key_line, load_line, pair_line, pairs_line, program_line, rehearse_line, resize_line, script_line, upgrade_line}
use Rattle.dbm_command_line.proofs.Building.{eighteen_lines_added}
use Rattle.dbm_command_line.proofs.commands.command.Goals as goal

pub returns : goal.returns
unfolding command_line
returns c =
    eighteen_lines_added program_line create_line (pair_line (codes "store"))
    (pair_line (codes "insert")) (key_line (codes "fetch")) (key_line (codes "delete"))
    (pairs_line (codes "list")) (pairs_line (codes "dump")) load_line
    (file_line (codes "stat")) (file_line (codes "verify")) (file_line (codes "version")) upgrade_line
    resize_line backup_line (file_line (codes "salvage"))
    script_line rehearse_line faults_line
    c.program.result c.with_subcommand-command.result c.with_subcommand-command-2.result c.with_subcommand-command-3.result
    c.with_subcommand-command-4.result c.with_subcommand-command-5.result c.with_subcommand-command-6.result
    c.with_subcommand-command-7.result c.with_subcommand-command-8.result c.with_subcommand-command-9.result
    c.with_subcommand-command-10.result c.with_subcommand-command-11.result c.with_subcommand-command-12.result
    c.with_subcommand-command-13.result c.with_subcommand-command-14.result c.with_subcommand-command-15.result
    c.with_subcommand-command-16.result c.with_subcommand-command-17.result
    c.create_command.result c.store_command.result c.insert_command.result c.fetch_command.result
    c.delete_command.result c.list_command.result c.dump_command.result c.load_command.result
    c.stat_command.result c.verify_command.result c.version_command.result c.upgrade_command.result
    c.resize_command.result c.backup_command.result c.salvage_command.result
    c.script_command.result c.rehearse_command.result
    (Ok c.faults_command.result) c.with_subcommand.result
    c.program.ensures
    c.create_command.ensures c.with_subcommand-command.ensures
    c.store_command.ensures c.with_subcommand-command-2.ensures
    c.insert_command.ensures c.with_subcommand-command-3.ensures
    c.fetch_command.ensures c.with_subcommand-command-4.ensures
    c.delete_command.ensures c.with_subcommand-command-5.ensures
    c.list_command.ensures c.with_subcommand-command-6.ensures
    c.dump_command.ensures c.with_subcommand-command-7.ensures
    c.load_command.ensures c.with_subcommand-command-8.ensures
    c.stat_command.ensures c.with_subcommand-command-9.ensures
    c.verify_command.ensures c.with_subcommand-command-10.ensures
    c.version_command.ensures c.with_subcommand-command-11.ensures
    c.upgrade_command.ensures c.with_subcommand-command-12.ensures
    c.resize_command.ensures c.with_subcommand-command-13.ensures
    c.backup_command.ensures c.with_subcommand-command-14.ensures
    c.salvage_command.ensures c.with_subcommand-command-15.ensures
    c.script_command.ensures c.with_subcommand-command-16.ensures
    c.rehearse_command.ensures c.with_subcommand-command-17.ensures
    c.faults_command.ensures c.with_subcommand.ensures
