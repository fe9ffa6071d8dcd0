-- The names that the walks of this crate cite.
pub use Rattle.core.proofs.alloc.Calls.{Goes-blank}
pub use Rattle.core.proofs.alloc.Shapes.{after}
pub use Rattle.std.proofs.Common.{◌≡◌, List, [], ◌∷◌, ◌++◌, refl, ap, ◌∙◌, true, false, Some}
pub use Rattle.std.proofs.Common.{None}
pub use Rattle.std.proofs.raw_atomic.Walks.{proved, proved_at, leaves}
pub use base.Fml.{ftrue, flft}
pub use base.Logic.{id⊢}
pub use contract.Monad.{fact}
pub use contract.Running.{tables}
pub use denote.Exit.{yes, no}
pub use denote.Laws.{shows}
pub use denote.RawPtr.{Ptr, RawPtr, null_ptr, block_ptr, ptr_val, rawptr_Lawful, in_a_block}
pub use denote.Signature.{plain}
pub use denote.Steps.{nothing, heard, peeks, only}
pub use denote.Triple.Call.{calls_at, calls_at_last}
pub use denote.Triple.Clauses.{Lasts, lasts}
pub use denote.Triple.Entry.{on_entry}
pub use denote.Triple.Spec.{triple_of}
pub use denote.Triple.Table.{framed}
pub use denote.Triple.Walked.{Stays, walk_of, says, stay_dropped, Goes-dropped, ends_at}
pub use mir.Val.{Val, vnil, vcons, vptr, vstruct, of_list}
pub use types.ByLocal.{alloc_all, pass_all, free_all, look_at, get, get_in, sets, sets_last}
pub use types.ByLocal.{lands_as, lands_last, env}
pub use types.Kit.{‵, raw, ◌⊛◌, some, later, prop, at_ret, ◌$◌, ◌∵◌, !, qed, by, move, drop}
pub use types.Kit.{split, split3, join, fsplit, fjoin, fpick, feq_i, feq_l, pick, await, rewrite}
pub use types.Kit.{regoal, suffices, done, use0, use1}
pub use types.Match.{live}
pub use types.Part.{agg, sub, whole}
pub use types.Run.{enter, of_opd, lit, false_lit, true_lit, stop, fld, no_more, and_then, first}
pub use types.Run.{blocks, branches, exec, returns}
