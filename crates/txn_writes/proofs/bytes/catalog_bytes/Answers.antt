use Rattle.std.proofs.Common.{◌≡◌, ◌∙◌, ap, length, min, refl, rules}
use Rattle.vec_base.specs.declared.limits.TheConstants.{LAST_COUNT}
use Rattle.txn_writes.specs.inner.VersionBytes.{all_sides, all_vectors, sides_in, vectors_in}
use Rattle.txn_writes.proofs.ByteLaws.{all-taken, capped-place}
use Rattle.txn_writes.proofs.bytes.catalog_bytes.Goals as goal

pub loop-at-preserved : goal.loop-at-preserved
loop-at-preserved c =
    let shelf = c.args.shelf.now in
    let places = c.args.held.now.places in
    record {
      vectors = c.saturating_add-vectors.ensures ∙ capped-place vectors_in shelf places c.loop-at.at LAST_COUNT c.loop-at.vectors c.version_bytes-bytes.result.vectors refl c.loop-at.invariant.vectors c.version_bytes-bytes.ensures.vectors;
      sides = c.saturating_add-sides.ensures ∙ capped-place sides_in shelf places c.loop-at.at LAST_COUNT c.loop-at.sides c.version_bytes-bytes.result.sides refl c.loop-at.invariant.sides c.version_bytes-bytes.ensures.sides;
    }

pub returns-clause-vectors : goal.returns-clause-vectors
returns-clause-vectors c =
    let long : length c.args.held.now.places ≡ 64 = search rules in
    c.loop-at.invariant.vectors ∙ ap (λ vs. min (all_vectors vs) LAST_COUNT) (all-taken c.args.shelf.now c.args.held.now.places c.loop-at.at long c.loop-at-test.false)

pub returns-clause-sides : goal.returns-clause-sides
returns-clause-sides c =
    let long : length c.args.held.now.places ≡ 64 = search rules in
    c.loop-at.invariant.sides ∙ ap (λ vs. min (all_sides vs) LAST_COUNT) (all-taken c.args.shelf.now c.args.held.now.places c.loop-at.at long c.loop-at-test.false)
