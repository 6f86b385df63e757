use Rattle.std.proofs.Common.{◌≡◌, List, Ok, Err, inl, inr, refl, ap, subst, rules}
use Rattle.vec_base.specs.declared.refusal.Refusal.{Refusal}
use Rattle.vec_base.specs.declared.value.Value.{Value}
use Rattle.row_model.specs.declared.request.Reply.{Reply}
use Rattle.row_model.specs.declared.request.Reply.TheVariants.{Refused}
use Rattle.row_model.specs.declared.request.Request.TheVariants.{Execute}
use Rattle.sql_reader.specs.StatementReading.{IsRefusal, SpellsStatement}
use Rattle.vec_shell.proofs.SureSteps.{in_memory}
use Rattle.vec_shell.proofs.engine_session.EngineSession.answer.Goals as goal

pub returns-in-Ok : goal.returns-in-Ok
returns-in-Ok g c = inl (
  Ok c.in-Ok.statement,
  subst (λ (params : List Value). SpellsStatement c.args.text.now params c.in-Ok.statement) c.args.self.now.none c.in-Ok.ensures.exact.value,
  in_memory c.args.self.now.engine.state c.execute.new.self.state (Execute 1 c.in-Ok.statement) c.execute.result c.execute.ensures.served.costs.rose c.execute.ensures.served.step,
)

pub returns-in-Err : goal.returns-in-Err
returns-in-Err g c =
    elim c.in-Err.ensures.exact.error [
      | inl starved ↦ inr (ap (λ (refusal : Refusal). (let reply : Reply = Refused refusal in reply)) starved, refl)
      | inr refused ↦ inl (Err c.in-Err.refusal, subst (λ (params : List Value). IsRefusal c.args.text.now params c.in-Err.refusal) c.args.self.now.none refused, (refl, refl))
    ]
