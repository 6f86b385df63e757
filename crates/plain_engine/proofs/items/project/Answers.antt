use Rattle.std.proofs.Common.{List, [], ◌∷◌, ◌++◌, ◌∙◌, ap, ap₂}
use Rattle.std.proofs.lemmas.List.{map-append, take_more}
use Rattle.vec_base.specs.declared.value.Value.{Value}
use Rattle.row_model.specs.Answer.{items_of}
use Rattle.plain_engine.proofs.items.project.Goals as goal

pub loop-near-preserved : goal.loop-near-preserved
loop-near-preserved c =
    let places = c.args.places.now in
    let nears = c.args.nears.now in
    let one = take_more nears c.loop-near.near-index c.near-item.result c.loop-near-test.true in
    rw (one, map-append (items_of places) _ _)
    (c.in_ok-push.ensures.ok
    ∙ ap₂ (λ (xs : List (List Value)) (x : List Value). xs ++ x ∷ []) c.loop-near.invariant (c.in_ok-items_of.ensures ∙ ap (items_of places) c.near-item.is))
