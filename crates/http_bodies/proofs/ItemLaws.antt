-- Reading the items of an array one after another.
use Rattle.std.proofs.Common.{◌≡◌, ◌+◌, ◌<◌, ◌≤◌, ℕ, List, [], ◌∷◌, ◌++◌, Option, Some, None, option_map, option_and_then, length, drop, get_or, refl, sym, ap, ◌∙◌, append_assoc, add-one, drop-cons, suc}
use Rattle.std.proofs.lemmas.List.{append-nil}
use Rattle.std.proofs.Math.ListN.{drop_of_length-le}
use Rattle.serde_json.specs.Data.{Data}
use Rattle.serde_json.specs.View.{view, items_view}
use Rattle.serde_json.specs.declared.value.Value.{Value}
use Rattle.http_bodies.specs.declared.body.BodyFault.{BodyFault}
use Rattle.http_bodies.specs.declared.body.BodyFault.TheVariants.{Form, Memory}
use Rattle.http_bodies.specs.Bodies.{Denies, all_items}

-- what was read so far, and then the items that are left
abbrev pub going_on : {A : Type 0} → (Data → Option A) → List A → List Value → Option (List A)
going_on read_one front items = option_map (λ rest. front ++ rest) (all_items read_one (items_view items))

join_front : {A : Type 0} (front : List A) (x : A) (rest : Option (List A))
    → option_map (λ xs. front ++ xs) (option_map (λ xs. x ∷ xs) rest) ≡ option_map (λ xs. (front ++ x ∷ []) ++ xs) rest
join_front front x None = refl
join_front front x (Some xs) = ap Some (sym (append_assoc front (x ∷ []) xs))

first_item : (items : List Value) (i : ℕ) (d : Value) → i < length items → d ≡ get_or items i d
    → drop i items ≡ d ∷ drop (i + 1) items
first_item items i d within at = rw add-one (drop-cons items i d within ∙ ap (λ z. z ∷ drop (suc i) items) (sym at))

-- an item is read
pub item_read : {A : Type 0} (read_one : Data → Option A) (items : List Value) (i : ℕ) (d : Value) (front : List A) (x : A)
    → i < length items → d ≡ get_or items i d → read_one (view d) ≡ Some x
    → going_on read_one front (drop i items) ≡ going_on read_one (front ++ x ∷ []) (drop (i + 1) items)
unfolding all_items
item_read read_one items i d front x within at reads =
    let rest = all_items read_one (items_view (drop (i + 1) items)) in
    ap (going_on read_one front) (first_item items i d within at)
    ∙ ap (λ o. option_map (λ xs. front ++ xs) (option_and_then (λ y. option_map (λ ys. y ∷ ys) rest) o)) reads
    ∙ join_front front x rest

-- an item is not read
pub item_denied : {A : Type 0} (read_one : Data → Option A) (items : List Value) (i : ℕ) (d : Value) (front : List A) (all : Option (List A))
    → i < length items → d ≡ get_or items i d → read_one (view d) ≡ None → going_on read_one front (drop i items) ≡ all → all ≡ None
unfolding all_items
item_denied read_one items i d front all within at denied so_far =
    let rest = all_items read_one (items_view (drop (i + 1) items)) in
    sym so_far ∙ ap (going_on read_one front) (first_item items i d within at)
    ∙ ap (λ o. option_map (λ xs. front ++ xs) (option_and_then (λ y. option_map (λ ys. y ∷ ys) rest) o)) denied

-- the same of any error of an item
pub item_fault : {A : Type 0} (read_one : Data → Option A) (items : List Value) (i : ℕ) (d : Value) (front : List A) (all : Option (List A)) (fault : BodyFault)
    → i < length items → d ≡ get_or items i d → Denies fault (read_one (view d)) → going_on read_one front (drop i items) ≡ all → Denies fault all
item_fault read_one items i d front all Form within at denied so_far = item_denied read_one items i d front all within at denied so_far
item_fault read_one items i d front all Memory within at denied so_far = tt

-- no item is left
pub all_read : {A : Type 0} (read_one : Data → Option A) (items : List Value) (i : ℕ) (front : List A) (all : Option (List A))
    → length items ≤ i → going_on read_one front (drop i items) ≡ all → all ≡ Some front
unfolding all_items
all_read read_one items i front all past so_far =
    sym so_far ∙ ap (going_on read_one front) (drop_of_length-le items past) ∙ ap Some (append-nil front)
