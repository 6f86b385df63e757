-- Items that pass a test: the first of them, and all of them, in a list with one item more, less or changed.
use Rattle.std.proofs.Common.{◌≡◌, ℕ, zero, suc, ◌<◌, ◌≤◌, Bool, true, false, cond, List, [], ◌∷◌, length, get_or, set, refl, ap, arith, Some, None}
use Rattle.std.specs.List.{filter, find, insert, remove, AllByRecursion}

-- what holds of all items holds of the one at a place
pub all_at : {A : Type 0} (P : A → Type 0) (xs : List A) (at : ℕ) (d : A) → AllByRecursion P xs → at < length xs → P (get_or xs at d)
all_at P [] at d all lt = absurd (omega arith)
all_at P (x ∷ xs) zero d all lt = all.0
all_at P (x ∷ xs) (suc at) d all lt = all_at P xs at d all.1 (omega arith)

pub all-insert : {A : Type 0} (P : A → Type 0) (xs : List A) (at : ℕ) (y : A) → at ≤ length xs → AllByRecursion P xs → P y → AllByRecursion P (insert xs at y)
all-insert P xs zero y le all here = (here, all)
all-insert P [] (suc at) y le all here = absurd (omega arith)
all-insert P (x ∷ xs) (suc at) y le all here = (all.0, all-insert P xs at y (omega arith) all.1 here)

pub all-set : {A : Type 0} (P : A → Type 0) (xs : List A) (at : ℕ) (y : A) → AllByRecursion P xs → P y → AllByRecursion P (set xs at y)
all-set P [] at y all here = all
all-set P (x ∷ xs) zero y all here = (here, all.1)
all-set P (x ∷ xs) (suc at) y all here = (all.0, all-set P xs at y all.1 here)

pub all-remove : {A : Type 0} (P : A → Type 0) (xs : List A) (at : ℕ) → AllByRecursion P xs → AllByRecursion P (remove xs at)
all-remove P [] zero all = all
all-remove P [] (suc at) all = all
all-remove P (x ∷ xs) zero all = all.1
all-remove P (x ∷ xs) (suc at) all = (all.0, all-remove P xs at all.1)

-- an item that fails is as none
pub find-insert : {A : Type 0} (p : A → Bool) (xs : List A) (at : ℕ) (y : A) → at ≤ length xs → p y ≡ false → find p (insert xs at y) ≡ find p xs
find-insert p xs zero y le fails = rw fails refl
find-insert p [] (suc at) y le fails = absurd (omega arith)
find-insert p (x ∷ xs) (suc at) y le fails = ap (λ r. cond (p x) (Some x) r) (find-insert p xs at y (omega arith) fails)

pub find-remove : {A : Type 0} (p : A → Bool) (xs : List A) (at : ℕ) (d : A) → at < length xs → p (get_or xs at d) ≡ false → find p (remove xs at) ≡ find p xs
find-remove p [] at d lt fails = absurd (omega arith)
find-remove p (x ∷ xs) zero d lt fails = rw fails refl
find-remove p (x ∷ xs) (suc at) d lt fails = ap (λ r. cond (p x) (Some x) r) (find-remove p xs at d (omega arith) fails)

-- the items before a place fail, and the one there passes
pub find_first : {A : Type 0} (p : A → Bool) (xs : List A) (at : ℕ) (d : A) → at < length xs → ((k : ℕ) → k < at → p (get_or xs k d) ≡ false) → p (get_or xs at d) ≡ true → find p xs ≡ Some (get_or xs at d)
find_first p [] at d lt before here = absurd (omega arith)
find_first p (x ∷ xs) zero d lt before here = rw here refl
find_first p (x ∷ xs) (suc at) d lt before here = rw (before 0 (omega arith)) (find_first p xs at d (omega arith) (λ k l. before (suc k) (omega arith)) here)

pub find_none : {A : Type 0} (p : A → Bool) (xs : List A) → ((k : ℕ) (d : A) → k < length xs → p (get_or xs k d) ≡ false) → find p xs ≡ None
find_none p [] fail = refl
find_none p (x ∷ xs) fail = rw (fail 0 x (omega arith)) (find_none p xs (λ k d l. fail (suc k) d (omega arith)))

pub find_fails : {A : Type 0} (p : A → Bool) (xs : List A) → AllByRecursion (λ x. p x ≡ false) xs → find p xs ≡ None
find_fails p [] fail = refl
find_fails p (x ∷ xs) fail = rw fail.0 (find_fails p xs fail.1)

-- ---- all items that pass

pub filter_all : {A : Type 0} (p : A → Bool) (xs : List A) → ((k : ℕ) (d : A) → k < length xs → p (get_or xs k d) ≡ true) → filter p xs ≡ xs
filter_all p [] pass = refl
filter_all p (x ∷ xs) pass = rw (pass 0 x (omega arith)) (ap (λ ys. x ∷ ys) (filter_all p xs (λ k d l. pass (suc k) d (omega arith))))

-- all pass but the one at a place
pub filter-remove : {A : Type 0} (p : A → Bool) (xs : List A) (at : ℕ) (d : A) → at < length xs → p (get_or xs at d) ≡ false → ((k : ℕ) (d : A) → k < length xs → (k ≡ at → ⊥) → p (get_or xs k d) ≡ true) → filter p xs ≡ remove xs at
filter-remove p [] at d lt fails pass = absurd (omega arith)
filter-remove p (x ∷ xs) zero d lt fails pass = rw fails (filter_all p xs (λ k e l. pass (suc k) e (omega arith) (λ is. absurd cc)))
filter-remove p (x ∷ xs) (suc at) d lt fails pass =
    rw (pass 0 x (omega arith) (λ is. absurd cc))
    (ap (λ ys. x ∷ ys) (filter-remove p xs at d (omega arith) fails (λ k e l differs. pass (suc k) e (omega arith) (λ is. differs (omega arith)))))

all_kept : {A : Type 0} (P : A → Type 0) (b : Bool) (x : A) (rest : List A) → (b ≡ true → P x) → AllByRecursion P rest → AllByRecursion P (cond b (x ∷ rest) rest)
all_kept P true x rest here all = (here refl, all)
all_kept P false x rest here all = all

-- what holds of items that pass holds of all that are left
pub all-filter : {A : Type 0} (P Q : A → Type 0) (p : A → Bool) (xs : List A) → ((x : A) → P x → p x ≡ true → Q x) → AllByRecursion P xs → AllByRecursion Q (filter p xs)
all-filter P Q p [] turn all = tt
all-filter P Q p (x ∷ xs) turn all = all_kept Q (p x) x (filter p xs) (λ is. turn x all.0 is) (all-filter P Q p xs turn all.1)

pub all_turned : {A : Type 0} (P Q : A → Type 0) (xs : List A) → ((x : A) → P x → Q x) → AllByRecursion P xs → AllByRecursion Q xs
all_turned P Q [] turn all = tt
all_turned P Q (x ∷ xs) turn all = (turn x all.0, all_turned P Q xs turn all.1)
