use Rattle.std.proofs.Common.{◌≡◌, true, false, sym, ◌∙◌}
use Rattle.std.specs.List.{list_any}
use Rattle.row_model.specs.Answer.{is_point_term}
use Rattle.row_model.specs.Check.{is_nearest}
use Rattle.row_model.proofs.ShapeLaws.{nearest_shape, plain_shape}
use Rattle.row_model.proofs.shape.shape_of.Goals as goal

pub returns-then-is_nearest : goal.returns-then-is_nearest
returns-then-is_nearest c =
    let nearest : is_nearest c.args.select.now.where_terms ≡ true = rw (← c.as_slice-terms.ensures) (sym c.is_nearest.ensures ∙ c.if-is_nearest.true) in
    sym (nearest_shape c.args.columns.now c.args.select.now.where_terms nearest)

pub returns-then-some_point_term : goal.returns-then-some_point_term
returns-then-some_point_term c =
    let plain : is_nearest c.args.select.now.where_terms ≡ false = rw (← c.as_slice-terms.ensures) (sym c.is_nearest.ensures ∙ c.if-is_nearest.false) in
    let point : list_any (is_point_term c.args.columns.now) c.args.select.now.where_terms ≡ true =
    rw (← c.as_slice-terms.ensures) (sym c.some_point_term.ensures ∙ c.if-some_point_term.true) in
    sym (plain_shape c.args.columns.now c.args.select.now.where_terms true plain point)

pub returns-else-some_point_term : goal.returns-else-some_point_term
returns-else-some_point_term c =
    let plain : is_nearest c.args.select.now.where_terms ≡ false = rw (← c.as_slice-terms.ensures) (sym c.is_nearest.ensures ∙ c.if-is_nearest.false) in
    let scan : list_any (is_point_term c.args.columns.now) c.args.select.now.where_terms ≡ false =
    rw (← c.as_slice-terms.ensures) (sym c.some_point_term.ensures ∙ c.if-some_point_term.false) in
    sym (plain_shape c.args.columns.now c.args.select.now.where_terms false plain scan)
