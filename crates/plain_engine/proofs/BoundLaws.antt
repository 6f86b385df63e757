-- A row counts where it meets the terms that look at it, and its distance the bounds.
use Rattle.std.proofs.Common.{◌≡◌, Bool, true, false, not, ◌&&◌, ◌||◌, cond, List, [], ◌∷◌, refl, ap, ◌∙◌}
use Rattle.row_model.specs.declared.schema.Column.{Column}
use Rattle.row_model.specs.declared.statement.Constraint.{Constraint}
use Rattle.row_model.specs.Answer.{Near, counts, is_bounded}
use Rattle.row_model.specs.ColumnNames.{place_of, is_distance}
use Rattle.row_model.specs.Values.{meets}
use Rattle.plain_engine.specs.inner.Bounds.{meets_row_terms, meets_bounds}

-- one term: which part it belongs to, and what it says
one_term : (bound within met rest bounds : Bool) → (cond bound within met && (rest && bounds)) ≡ ((bound || met) && rest) && ((not bound || within) && bounds)
one_term true true met rest bounds = refl
one_term true false met true true = refl
one_term true false met true false = refl
one_term true false met false true = refl
one_term true false met false false = refl
one_term false within true rest bounds = refl
one_term false within false rest bounds = refl

pub counts_split : (columns : List Column) (terms : List Constraint) (near : Near) → counts columns terms near ≡ (meets_row_terms columns terms near.row && meets_bounds columns terms near.distance)
counts_split columns [] near = refl
counts_split columns (term ∷ terms) near =
    let bound = is_distance (place_of columns term.column) in
    let within = is_bounded near.distance term.test in
    let met = meets columns near.row term in
    ap (λ b. cond bound within met && b) (counts_split columns terms near)
    ∙ one_term bound within met (meets_row_terms columns terms near.row) (meets_bounds columns terms near.distance)
