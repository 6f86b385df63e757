use Rattle.std.proofs.Common.{inl}
use Rattle.vec_shell.proofs.Causes.{shell_run, none_refused, only_starved, some_refused}
use Rattle.vec_shell.proofs.top.run.Goals as goal

pub returns-in-Ok-Some-clause-none_refused : goal.returns-in-Ok-Some-clause-none_refused
returns-in-Ok-Some-clause-none_refused g c = λ status. none_refused _ _ _ (shell_run _ _ _ _ _ (rw c.in-Ok-Some.field-0-is at c.in-Ok-Some.ensures.session) c.run_session.ensures.ran) status

pub returns-in-Ok-Some-clause-some_refused : goal.returns-in-Ok-Some-clause-some_refused
returns-in-Ok-Some-clause-some_refused g c = λ status. some_refused _ _ _ (shell_run _ _ _ _ _ (rw c.in-Ok-Some.field-0-is at c.in-Ok-Some.ensures.session) c.run_session.ensures.ran) status

pub returns-in-Ok-Some-clause-starved : goal.returns-in-Ok-Some-clause-starved
returns-in-Ok-Some-clause-starved g c = λ status. inl (only_starved _ _ _ (shell_run _ _ _ _ _ (rw c.in-Ok-Some.field-0-is at c.in-Ok-Some.ensures.session) c.run_session.ensures.ran) status)
