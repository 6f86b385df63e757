-- What the shape of a plan says of its target, and which answers are too long for a reply.
use Rattle.std.proofs.Common.{◌≡◌, ℕ, ◌<◌, ◌≤◌, Bool, true, false, List, [], refl, sym, ap, ◌∙◌, arith, Option, inl, inr, Some, None}
use Rattle.std.specs.Prelude.{is_some, nat_lt, not, ◌&&◌}
use Rattle.std.proofs.lemmas.Bool.{cases_Bool, ltb-false, ltb-true}
use Rattle.vec_base.specs.declared.limits.TheConstants.{MOST_REPLY_ROWS}
use Rattle.vec_base.specs.declared.refusal.Refusal.TheVariants.{TooManyRows}
use Rattle.knn_plan.specs.Plans.{IsPlanFor, Planned, PlannedTarget}
use Rattle.knn_plan.proofs.PlanLaws.{is_nearest_shape, target_found, target_there, plain_target}
use Rattle.row_model.specs.Check.{is_nearest}
use Rattle.row_model.specs.RefusalOrder.{first, when}
use Rattle.row_model.specs.Step.{too_many}
use Rattle.row_model.specs.declared.request.Shape.TheVariants.{Nearest, Point, Scan}
use Rattle.row_model.specs.declared.schema.Column.{Column}
use Rattle.row_model.specs.declared.statement.Select.{Select}
use Rattle.row_model.proofs.ShapeLaws.{nearest_with_target}
use Rattle.table_query.proofs.AnswerLaws.{none_nearest}
use Rattle.knn_plan.specs.Plans.{planned_target}
use Rattle.row_model.specs.Answer.{target_of}
use Rattle.table_query.proofs.FindLaws.{mapped_none}

none_of : {A : Type 0} (o : Option A) → is_some o ≡ false → o ≡ None
none_of None gone = refl
none_of (Some x) gone = absurd cc

-- ---- the target

pub with_target : (columns : List Column) (plan : Planned) → IsPlanFor columns plan → plan.shape ≡ Nearest → is_some plan.target ≡ true
with_target columns plan is nearest = target_there columns plan is ∙ ap is_nearest_shape nearest

pub point_plain : (columns : List Column) (plan : Planned) → IsPlanFor columns plan → plan.shape ≡ Point → plan.target ≡ None
point_plain columns plan is point = none_of plan.target (target_there columns plan is ∙ ap is_nearest_shape point)

pub scan_plain : (columns : List Column) (plan : Planned) → IsPlanFor columns plan → plan.shape ≡ Scan → plan.target ≡ None
scan_plain columns plan is scan = none_of plan.target (target_there columns plan is ∙ ap is_nearest_shape scan)

pub without_match : (columns : List Column) (plan : Planned) → IsPlanFor columns plan → plan.target ≡ None → is_nearest plan.select.where_terms ≡ false
without_match columns plan is none =
    none_nearest columns plan.select.where_terms (is_nearest plan.select.where_terms) refl
    (mapped_none (planned_target columns) (target_of columns plan.select.where_terms) (sym is.target ∙ none))

pub with_match : (columns : List Column) (plan : Planned) → IsPlanFor columns plan → plan.shape ≡ Nearest → is_nearest plan.select.where_terms ≡ true
with_match columns plan is nearest = by_target plan.target refl where
  by_target : (o : Option PlannedTarget) → plan.target ≡ o → is_nearest plan.select.where_terms ≡ true
  by_target None e = let gone = sym (ap is_some e) ∙ with_target columns plan is nearest in absurd cc
  by_target (Some target) e = nearest_with_target columns plan.select.where_terms (plain_target target) (target_found columns plan is target e)

-- ---- answers that are too long

few_enough : (nearest : Bool) (count : ℕ) → count ≤ MOST_REPLY_ROWS → when (not nearest && nat_lt MOST_REPLY_ROWS count) (TooManyRows count) ≡ []
few_enough true count few = refl
few_enough false count few = elim (cases_Bool (nat_lt MOST_REPLY_ROWS count)) [
  | inl more ↦ (let above = ltb-true MOST_REPLY_ROWS count more in absurd (omega (arith, above, few)))
  | inr less ↦ ap (λ b. when b (TooManyRows count)) less
]

pub few_welcome : (select : Select) (count : ℕ) → count ≤ MOST_REPLY_ROWS → too_many select count ≡ []
few_welcome select count few = few_enough (is_nearest select.where_terms) count few

-- an answer with a MATCH is never too long
pub nearest_welcome : (columns : List Column) (plan : Planned) (count : ℕ) → IsPlanFor columns plan → plan.shape ≡ Nearest → too_many plan.select count ≡ []
nearest_welcome columns plan count is nearest = ap (λ b. when (not b && nat_lt MOST_REPLY_ROWS count) (TooManyRows count)) (with_match columns plan is nearest)

pub many_refused : (columns : List Column) (plan : Planned) (count : ℕ) → IsPlanFor columns plan → plan.target ≡ None → MOST_REPLY_ROWS < count → first (too_many plan.select count) ≡ Some (TooManyRows count)
many_refused columns plan count is none many = elim (cases_Bool (nat_lt MOST_REPLY_ROWS count)) [
  | inl more ↦
      ap (λ b. first (when (not b && nat_lt MOST_REPLY_ROWS count) (TooManyRows count))) (without_match columns plan is none)
      ∙ ap (λ b. first (when b (TooManyRows count))) more
  | inr less ↦ (let above = ltb-false MOST_REPLY_ROWS count less in absurd (omega (arith, above, many)))
]
