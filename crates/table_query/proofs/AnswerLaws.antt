-- What rows found one after another make of the answer of a SELECT without a MATCH.
use Rattle.std.proofs.Common.{◌≡◌, Bool, true, false, cond, List, [], ◌∷◌, refl, sym, ap, ap₂, ◌∙◌, Option, None}
use Rattle.std.specs.Prelude.{not, ◌&&◌, if◌then◌else◌}
use Rattle.std.specs.List.{AllByRecursion, list_any}
use Rattle.std.proofs.lemmas.Bool.{false≢true}
use Rattle.row_model.specs.Answer.{Target, at_zero, counted, counts, is_bounded, is_point_term, meets_at, shape_by, target_of}
use Rattle.row_model.specs.Check.{is_bound, is_nearest}
use Rattle.row_model.specs.ColumnNames.{is_distance, place_of}
use Rattle.row_model.specs.Values.{meets, meets_all, met}
use Rattle.row_model.specs.declared.request.Shape.TheVariants.{Point, Scan}
use Rattle.row_model.specs.declared.row.Row.{Row}
use Rattle.row_model.specs.declared.schema.Column.{Column}
use Rattle.row_model.specs.declared.statement.Constraint.{Constraint}
use Rattle.row_model.proofs.ShapeLaws.{nearest_shape}
use Rattle.knn_plan.proofs.PlanLaws.{is_nearest_shape}
use Rattle.knn_plan.proofs.TermLaws.{IsTermFor, terms_fit}
use Rattle.knn_plan.specs.Plans.{IsPlanFor, Planned, planned_target}
use Rattle.table_query.proofs.FindLaws.{mapped_none}

-- ---- without a MATCH the rows that count are those that meet all terms

plain_shape : (some : Bool) → is_nearest_shape (if some then Point else Scan) ≡ false
plain_shape true = refl
plain_shape false = refl

pub none_nearest : (columns : List Column) (terms : List Constraint) (b : Bool) → is_nearest terms ≡ b → target_of columns terms ≡ None → b ≡ false
none_nearest columns terms false is none = refl
none_nearest columns terms true is none =
    absurd (false≢true (sym (plain_shape (list_any (is_point_term columns) terms)) ∙ ap (λ (t : Option Target). is_nearest_shape (shape_by t columns terms)) (sym none) ∙ ap is_nearest_shape (nearest_shape columns terms is)))

no_bound : (distance bound nearest : Bool) → nearest ≡ false → (distance && not (nearest && bound)) ≡ false → distance ≡ false
no_bound false bound nearest plain none = refl
no_bound true bound true plain none = absurd cc
no_bound true bound false plain none = absurd cc

term_met : (columns : List Column) (nearest : Bool) (row : Row) (term : Constraint) → nearest ≡ false → IsTermFor columns nearest term → meets_at columns (at_zero row) term ≡ meets columns row term
term_met columns nearest row term plain fits =
    ap (λ b. if b then is_bounded 0 term.test else meets columns row term) (no_bound (is_distance (place_of columns term.column)) (is_bound term.test) nearest plain fits.bound)

terms_met : (columns : List Column) (nearest : Bool) (row : Row) (terms : List Constraint) → nearest ≡ false → AllByRecursion (IsTermFor columns nearest) terms → counts columns terms (at_zero row) ≡ meets_all columns terms row
terms_met columns nearest row [] plain all = refl
terms_met columns nearest row (term ∷ terms) plain all = ap₂ (λ a b. a && b) (term_met columns nearest row term plain all.0) (terms_met columns nearest row terms plain all.1)

pub counted_met : (columns : List Column) (plan : Planned) → IsPlanFor columns plan → plan.target ≡ None → (rows : List Row) →
    counted columns plan.select.where_terms None rows ≡ met columns plan.select.where_terms rows
counted_met columns plan is none [] = refl
counted_met columns plan is none (row ∷ rows) =
    let terms = plan.select.where_terms in
    let target = mapped_none (planned_target columns) (target_of columns terms) (sym is.target ∙ none) in
    let plain = none_nearest columns terms (is_nearest terms) refl target in
    ap₂ (λ (b : Bool) (rest : List Row). cond b (row ∷ rest) rest) (terms_met columns (is_nearest terms) row terms plain (terms_fit columns plan.select is.checked)) (counted_met columns plan is none rows)
