use Rattle.std.proofs.Common.{inl}
use Rattle.row_model.specs.declared.request.Request.TheVariants.{CloseCursor}
use Rattle.txn_commits.specs.Keeping.{meanings}
use Rattle.txn_core.proofs.EndLaws.{kept_by, served_by, turn-valid}
use Rattle.txn_sessions.specs.declared.turn.Turn.TheVariants.{Answered}
use Rattle.txn_core.proofs.engine.Engine.close_cursor.Goals as goal

pub finish-requires-clause-valid : goal.finish-requires-clause-valid
finish-requires-clause-valid g c = turn-valid c.self.inside.machine c.close_cursor_in.new.machine (CloseCursor c.args.session c.args.cursor) (Answered c.close_cursor_in.result) c.self.invariant.valid tt (inl c.close_cursor_in.ensures)

pub invariant_of-self : goal.invariant_of-self
invariant_of-self g c = kept_by (meanings g.K.Keeper.ended g.K.Keeper.tells g.K.Keeper.tables g.K.Keeper.faults g.K.Keeper.stopped g.K.Keeper.moment g.K.Keeper.stopped_since) c.self.inside.machine c.close_cursor_in.new.machine c.finish.new.machine c.self.inside.keeper c.finish.new.keeper (CloseCursor c.args.session c.args.cursor) (Answered c.close_cursor_in.result) c.finish.result tt c.self.invariant (inl c.close_cursor_in.ensures) c.finish.ensures

pub returns-clause-served : goal.returns-clause-served
returns-clause-served g c = rw c.self.view_is at (served_by (meanings g.K.Keeper.ended g.K.Keeper.tells g.K.Keeper.tables g.K.Keeper.faults g.K.Keeper.stopped g.K.Keeper.moment g.K.Keeper.stopped_since) c.self.inside.machine c.close_cursor_in.new.machine c.finish.new.machine c.self.inside.keeper c.finish.new.keeper (CloseCursor c.args.session c.args.cursor) (Answered c.close_cursor_in.result) c.finish.result (inl c.close_cursor_in.ensures) c.finish.ensures)
