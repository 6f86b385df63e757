-- A row's vector is read where its partition values, its metadata and the rest of it meet the terms.
use Rattle.std.proofs.Common.{◌≡◌, Bool, true, false, not, ◌&&◌, ◌||◌, List, [], ◌∷◌, refl, sym, ap, ap₂, ◌∙◌}
use Rattle.std.specs.List.{list_all}
use Rattle.row_model.specs.Answer.{Near, counts}
use Rattle.row_model.specs.ColumnNames.{is_distance, is_of, place_of}
use Rattle.row_model.specs.Schemas.{is_metadata, is_partition}
use Rattle.row_model.specs.Values.{meets}
use Rattle.row_model.specs.declared.row.Row.{Row}
use Rattle.row_model.specs.declared.schema.Column.{Column}
use Rattle.row_model.specs.declared.schema.Place.{Place}
use Rattle.row_model.specs.declared.schema.Place.TheVariants.{Unknown, Rowid, Declared, Count, Distance}
use Rattle.row_model.specs.declared.statement.Constraint.{Constraint}
use Rattle.knn_plan.specs.Levels.{meets_on, meets_rest, meets_bound}
use Rattle.knn_plan.specs.TermUses.{is_on_chunks}
use Rattle.knn_plan.proofs.LevelLaws.{counts_by_levels}
use Rattle.nearest_query.specs.Searches.{is_read}

by_sorts : (p m b : Bool) → b ≡ (((not p || b) && (not m || b)) && ((p || m) || b))
by_sorts true true true = refl
by_sorts true true false = refl
by_sorts true false true = refl
by_sorts true false false = refl
by_sorts false true true = refl
by_sorts false true false = refl
by_sorts false false true = refl
by_sorts false false false = refl

at_levels : (place : Place) (met : Bool) → (is_distance place || met) ≡ (((not (is_of is_partition place) || met) && (not (is_of is_metadata place) || met)) && (is_on_chunks place || (is_distance place || met)))
at_levels Unknown met = refl
at_levels Rowid met = refl
at_levels (Declared number kind) met = by_sorts (is_partition kind) (is_metadata kind) met
at_levels Count met = refl
at_levels Distance met = refl

and_three : (a b c x y z : Bool) → (((a && b) && c) && ((x && y) && z)) ≡ (((a && x) && (b && y)) && (c && z))
and_three true true true x y z = refl
and_three true true false true true z = refl
and_three true true false true false z = refl
and_three true true false false y z = refl
and_three true false c true y z = refl
and_three true false c false y z = refl
and_three false b c x y z = refl

pub read_by_levels : (columns : List Column) (row : Row) (terms : List Constraint) → is_read columns terms row
    ≡ ((list_all (meets_on is_partition columns row) terms && list_all (meets_on is_metadata columns row) terms) && list_all (meets_rest columns row) terms)
read_by_levels columns row [] = refl
read_by_levels columns row (term ∷ terms) =
    let place = place_of columns term.column in
    let met = meets columns row term in
    ap₂ (λ a b. a && b) (at_levels place met) (read_by_levels columns row terms)
    ∙ and_three (not (is_of is_partition place) || met) (not (is_of is_metadata place) || met) (is_on_chunks place || (is_distance place || met))
    (list_all (meets_on is_partition columns row) terms) (list_all (meets_on is_metadata columns row) terms) (list_all (meets_rest columns row) terms)

-- and it counts where its distance meets the terms too
pub counts_read : (columns : List Column) (terms : List Constraint) (near : Near) → counts columns terms near ≡ (is_read columns terms near.row && list_all (meets_bound columns near.distance) terms)
counts_read columns terms near = counts_by_levels columns terms near ∙ ap (λ b. b && list_all (meets_bound columns near.distance) terms) (sym (read_by_levels columns near.row terms))
