-- Which of several refusals is answered.
use Rattle.std.proofs.Common.{◌≡◌, List, [], ◌∷◌, Some, None, Ok, Err, sym, ap, refl}
use Rattle.vec_base.specs.declared.refusal.Refusal.{Refusal}
use Rattle.row_model.specs.declared.request.Reply.{Reply}
use Rattle.row_model.specs.declared.request.Reply.TheVariants.{Refused}
use Rattle.row_model.specs.declared.row.Catalog.{Catalog}
use Rattle.row_model.specs.declared.state.State.{State}
use Rattle.row_model.specs.Machine.{unless}
use Rattle.row_model.specs.RefusalOrder.{first}
use Rattle.row_model.specs.Step.{if_none}

pub some_none : {A : Type 0} (a : A) → Some a ≡ None → ⊥
some_none a h = cc

pub if_none-some : (refusals : List Refusal) (change : Reply × Catalog) (refusal : Refusal) → first refusals ≡ Some refusal → if_none refusals change ≡ Err refusal
if_none-some [] change refusal h = absurd (some_none refusal (sym h))
if_none-some (r ∷ rs) change refusal h = (let same : r ≡ refusal = cc in ap (λ (z : Refusal). Err z) same)

pub if_none-none : (refusals : List Refusal) (change : Reply × Catalog) → first refusals ≡ None → if_none refusals change ≡ Ok change
if_none-none [] change h = refl
if_none-none (r ∷ rs) change h = absurd (some_none r h)

-- the first of the refusals is answered
pub unless-some : (refusals : List Refusal) (state : State) (answer : Reply × State) (refusal : Refusal) → first refusals ≡ Some refusal →
    unless refusals state answer ≡ (Refused refusal, state)
unless-some [] state answer refusal h = absurd (some_none refusal (sym h))
unless-some (r ∷ rs) state answer refusal h = (let same : r ≡ refusal = cc in ap (λ (z : Refusal). (Refused z, state)) same)

pub unless-none : (refusals : List Refusal) (state : State) (answer : Reply × State) → first refusals ≡ None → unless refusals state answer ≡ answer
unless-none [] state answer h = refl
unless-none (r ∷ rs) state answer h = absurd (some_none r h)
