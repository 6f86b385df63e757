-- Cells that are laid out behind each other, where one of them is written anew.
use Rattle.std.proofs.Common.{◌≡◌, ℕ, zero, suc, ◌+◌, ◌*◌, ◌<◌, ◌≤◌, ◌==◌, List, [], ◌∷◌, ◌++◌, length, take, drop, cond, ⊎_elim, refl, sym, ap, ap₂, ◌∙◌, replicate, arith, length-append, append_assoc}
use Rattle.std.proofs.lemmas.List.{take-append-le, append-nil, replicate-append-replicate}
use Rattle.std.proofs.lemmas.Bool.{cases_eq, eq-eqb, ne_eqb}
use Rattle.std.proofs.Math.Seq.{take-append_seam}
use Rattle.record_bodies.proofs.CellLaws.{length-laid, room}
use Rattle.shadow_records.specs.Batches.{patched}
use Rattle.shadow_records.specs.Cells.{laid}

-- the cell of one place is another
abbrev pub cell_set : (ℕ → List ℕ) → ℕ → List ℕ → ℕ → List ℕ
cell_set cell i bytes k = cond (k == i) bytes (cell k)

pub laid-same : (f g : ℕ → List ℕ) (count : ℕ) → ((k : ℕ) → k < count → f k ≡ g k) → laid f count ≡ laid g count
laid-same f g zero h = refl
laid-same f g (suc count) h = ap₂ ◌++◌ (laid-same f g count (λ k less. h k (omega arith))) (h count (omega arith))

drop_left : (k : ℕ) (a b : List ℕ) → k ≤ length a → drop k (a ++ b) ≡ drop k a ++ b
drop_left zero a b h = refl
drop_left (suc k) [] b h = absurd (omega arith)
drop_left (suc k) (x ∷ a) b h = drop_left k a b (omega arith)

drop_past : (k : ℕ) (a : List ℕ) → length a ≤ k → drop k a ≡ []
drop_past zero [] h = refl
drop_past (suc k) [] h = refl
drop_past zero (x ∷ a) h = absurd (omega arith)
drop_past (suc k) (x ∷ a) h = drop_past k a (omega arith)

patched-left : (a b x : List ℕ) (at : ℕ) → at + length x ≤ length a → patched (a ++ b) at x ≡ patched a at x ++ b
patched-left a b x at h =
    let t = take-append-le at a b (omega arith) in
    let d = drop_left (at + length x) a b h in
    ap₂ (λ l r. (l ++ x) ++ r) t d ∙ sym (append_assoc (take at a ++ x) (drop (at + length x) a) b)

patched-seam : (a b x : List ℕ) (at : ℕ) → length a ≡ at → length x ≡ length b → patched (a ++ b) at x ≡ a ++ x
patched-seam a b x at e f =
    let t : take at (a ++ b) ≡ a = ap (λ k. take k (a ++ b)) (sym e) ∙ take-append_seam a b in
    let d : drop (at + length x) (a ++ b) ≡ [] = drop_past (at + length x) (a ++ b) (omega (arith, length-append a b)) in
    ap₂ (λ l r. (l ++ x) ++ r) t d ∙ append-nil (a ++ x)

set_same : (f : ℕ → List ℕ) (i : ℕ) (x : List ℕ) → cell_set f i x i ≡ x
set_same f i x = ap (λ b. cond b x (f i)) (eq-eqb i i refl)

set_other : (f : ℕ → List ℕ) (i k : ℕ) (x : List ℕ) → (k ≡ i → ⊥) → cell_set f i x k ≡ f k
set_other f i k x ne = ap (λ b. cond b x (f k)) (ne_eqb k i ne)

pub laid-room : (f : ℕ → List ℕ) (width count i : ℕ) (x : List ℕ) → ((k : ℕ) → length (f k) ≡ width) → length x ≡ width → i < count → i * width + length x ≤ length (laid f count)
laid-room f width count i x wide e less = rw (length-laid f width count wide, e) (room i count width less)

-- cells of zeros
pub zeros : (count width : ℕ) → replicate (count * width) 0 ≡ laid (λ k. replicate width 0) count
zeros zero width = let e : 0 * width ≡ 0 = omega arith in ap (λ k. replicate k 0) e
zeros (suc count) width =
    let e : suc count * width ≡ count * width + width = grind arith in
    ap (λ k. replicate k 0) e ∙ sym (replicate-append-replicate (count * width) width 0) ∙ ap (λ l. l ++ replicate width 0) (zeros count width)

-- a cell is written where it lies
pub laid-patch : (f : ℕ → List ℕ) (width count i : ℕ) (x : List ℕ) → ((k : ℕ) → length (f k) ≡ width) → length x ≡ width → i < count → patched (laid f count) (i * width) x ≡ laid (cell_set f i x) count
laid-patch f width zero i x h e less = absurd (omega arith)
laid-patch f width (suc count) i x h e less =
    ⊎_elim
    (λ (same : i ≡ count).
    patched-seam (laid f count) (f count) x (i * width) (length-laid f width count h ∙ ap (λ k. k * width) (sym same)) (e ∙ sym (h count))
    ∙ ap₂ ◌++◌ (laid-same f (cell_set f i x) count (λ k below. sym (set_other f i k x (λ eq. absurd (omega arith))))) (sym (ap (cell_set f i x) (sym same) ∙ set_same f i x)))
    (λ ne.
    let below : i < count = omega arith in
    let room : i * width + length x ≤ length (laid f count) = laid-room f width count i x h e below in
    patched-left (laid f count) (f count) x (i * width) room
    ∙ ap₂ ◌++◌ (laid-patch f width count i x h e below) (sym (set_other f i count x (λ eq. absurd (omega arith)))))
    (cases_eq i count)
