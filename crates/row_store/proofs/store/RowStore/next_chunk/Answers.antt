use Rattle.std.proofs.Common.{◌≡◌, ℕ, ◌<◌, true, None, ap, subst}
use Rattle.std.specs.Prelude.{is_some, MatchOption}
use Rattle.row_store.specs.StoredRows.{first_in}
use Rattle.row_store.proofs.ReadLaws.{next-first_in}
use Rattle.row_store.proofs.store.RowStore.next_chunk.Goals as goal

pub returns : goal.returns
returns c =
    let store = c.self.inside in
    let rows = store.rows in
    subst (λ rs. MatchOption c.next_number.result ((d : ℕ) → c.args.after < d → first_in rs d ≡ None) (λ n. (c.args.after < n) × (is_some (first_in rs n) ≡ true) × ((d : ℕ) → c.args.after < d → d < n → first_in rs d ≡ None)))
    (ap (λ s. s.rows) c.self.view_is)
    (next-first_in rows.parts rows.places rows.index rows.claim store.shape c.self.invariant.tied c.known.ensures.rising c.self.invariant.shapes c.args.after c.next_number.result c.next_number.ensures)
