-- The vectors among values, up to one value more.
use Rattle.std.proofs.Common.{◌≡◌, ◌<◌, ◌+◌, ℕ, List, [], ◌∷◌, ◌++◌, map, length, take, drop, get_or, Some, None, refl, sym, ap, ◌∙◌, arith, append_assoc, length-append}
use Rattle.std.proofs.lemmas.List.{take_more, take-append-drop, get_or-map, append-nil}
use Rattle.std.proofs.Math.Seq.{get_or-append_seam}
use Rattle.std.proofs.lemmas.List.Elements.{filter_map-append}
use Rattle.vec_base.specs.declared.value.Value.{Value}
use Rattle.chunk_slots.specs.Slots.{vector_of, vectors_of}

one_value : (x : Value) (v : List ℕ) → vector_of x ≡ Some v → vectors_of (x ∷ []) ≡ v ∷ []
one_value x v is = rw is refl

no_value : (x : Value) → vector_of x ≡ None → vectors_of (x ∷ []) ≡ []
no_value x is = rw is refl

pub vectors_more : (values : List Value) (k : ℕ) (x : Value) (v : List ℕ) → k < length values → x ≡ get_or values k x → vector_of x ≡ Some v → vectors_of (take (k + 1) values) ≡ vectors_of (take k values) ++ v ∷ []
vectors_more values k x v lt there is =
    ap vectors_of (take_more values k x lt ∙ ap (λ y. take k values ++ y ∷ []) (sym there))
    ∙ filter_map-append vector_of (take k values) (x ∷ [])
    ∙ ap (λ vs. vectors_of (take k values) ++ vs) (one_value x v is)

pub vectors_same : (values : List Value) (k : ℕ) (x : Value) → k < length values → x ≡ get_or values k x → vector_of x ≡ None → vectors_of (take (k + 1) values) ≡ vectors_of (take k values)
vectors_same values k x lt there is =
    ap vectors_of (take_more values k x lt ∙ ap (λ y. take k values ++ y ∷ []) (sym there))
    ∙ filter_map-append vector_of (take k values) (x ∷ [])
    ∙ ap (λ vs. vectors_of (take k values) ++ vs) (no_value x is)
    ∙ append-nil (vectors_of (take k values))

-- where a value's vector stands among all
pub vectors_split : (values : List Value) (k : ℕ) (x : Value) (v : List ℕ) → k < length values → x ≡ get_or values k x → vector_of x ≡ Some v →
    vectors_of values ≡ vectors_of (take k values) ++ (v ∷ vectors_of (drop (k + 1) values))
vectors_split values k x v lt there is =
    ap vectors_of (sym (take-append-drop (k + 1) values))
    ∙ filter_map-append vector_of (take (k + 1) values) (drop (k + 1) values)
    ∙ ap (λ vs. vs ++ vectors_of (drop (k + 1) values)) (vectors_more values k x v lt there is)
    ∙ append_assoc (vectors_of (take k values)) (v ∷ []) (vectors_of (drop (k + 1) values))

pub vector_counted : (values : List Value) (k : ℕ) (x : Value) (v : List ℕ) → k < length values → x ≡ get_or values k x → vector_of x ≡ Some v → length (vectors_of (take k values)) < length (vectors_of values)
vector_counted values k x v lt there is =
    omega (arith, ap length (vectors_split values k x v lt there is), length-append (vectors_of (take k values)) (v ∷ vectors_of (drop (k + 1) values)))

pub width_there : (values : List Value) (k : ℕ) (x : Value) (v : List ℕ) → k < length values → x ≡ get_or values k x → vector_of x ≡ Some v →
    get_or (map length (vectors_of values)) (length (vectors_of (take k values))) 0 ≡ length v
width_there values k x v lt there is =
    get_or-map length (vectors_of values) (length (vectors_of (take k values))) [] 0 (vector_counted values k x v lt there is)
    ∙ ap length (ap (λ vs. get_or vs (length (vectors_of (take k values))) []) (vectors_split values k x v lt there is)
    ∙ get_or-append_seam (vectors_of (take k values)) v (vectors_of (drop (k + 1) values)) [])
