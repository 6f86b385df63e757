use Rattle.std.proofs.Common.{rules}
use Rattle.std.proofs.lemmas.Fn.{always_returns_same}
use Rattle.shadow_records.specs.Keys.{key_cmp}
use Rattle.record_bodies.proofs.SearchLaws.{rise_against, found_at, not_found}
use Rattle.record_bodies.proofs.search.body.Goals as goal

pub returns-in-Ok : goal.returns-in-Ok
returns-in-Ok c =
    found_at c.args.records.now c.in-Ok.at c.index-records-at.result c.args.key.now c.requires c.in-Ok.ensures.bound
    (c.in-Ok.ensures.position (λ y. key_cmp y.0 c.args.key.now) (always_returns_same _ _ _ (λ a r f called. search rules)) c.index-records-at.result)

pub returns-in-Err : goal.returns-in-Err
returns-in-Err c =
    not_found c.args.key.now c.args.records.now c.in-Err.field-0
    (c.in-Err.ensures.position (λ y. key_cmp y.0 c.args.key.now) (always_returns_same _ _ _ (λ a r f called. search rules)) (rise_against c.args.key.now c.args.records.now c.requires))
