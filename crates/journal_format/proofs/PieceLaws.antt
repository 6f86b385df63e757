-- One counted after the other.
use Rattle.std.proofs.Common.{◌≡◌, ◌++◌, ◌∷◌, ◌+◌, ◌-◌, [], List, ℕ, length, take, drop, sym, ap, ◌∙◌, arith, append_assoc, length-append}
use Rattle.std.specs.Int.{w64, to_le_bytes}
use Rattle.std.proofs.lemmas.List.{append-nil, take_all, drop_all, take_at, drop_at}

pub two : (o a b n1 n2 : List ℕ) → n1 ≡ o ++ a → n2 ≡ n1 ++ b → n2 ≡ o ++ (a ++ b)
two o a b n1 n2 e1 e2 = e2 ∙ ap (λ (l : List ℕ). l ++ b) e1 ∙ append_assoc o a b

pub three : (o a b c n1 n2 n3 : List ℕ) → n1 ≡ o ++ a → n2 ≡ n1 ++ b → n3 ≡ n2 ++ c → n3 ≡ o ++ (a ++ (b ++ c))
three o a b c n1 n2 n3 e1 e2 e3 = two n1 b c n2 n3 e2 e3 ∙ ap (λ (l : List ℕ). l ++ (b ++ c)) e1 ∙ append_assoc o a (b ++ c)

pub four : (o a b c d n1 n2 n3 n4 : List ℕ) → n1 ≡ o ++ a → n2 ≡ n1 ++ b → n3 ≡ n2 ++ c → n4 ≡ n3 ++ d → n4 ≡ o ++ (a ++ (b ++ (c ++ d)))
four o a b c d n1 n2 n3 n4 e1 e2 e3 e4 = three n1 b c d n2 n3 n4 e2 e3 e4 ∙ ap (λ (l : List ℕ). l ++ (b ++ (c ++ d))) e1 ∙ append_assoc o a (b ++ (c ++ d))

-- the length of a body, written over the eight bytes before it
pub lengthened : (old made over zeros body : List ℕ) (start n : ℕ) → start ≡ length old → n ≡ length made → length over ≡ length made
    → over ≡ take start made ++ (to_le_bytes w64 (n - start - 8) ++ drop (start + 8) made) → made ≡ old ++ (zeros ++ body) → length zeros ≡ 8
    → take n (over ++ drop (length over) made) ++ 0 ∷ [] ≡ old ++ ((to_le_bytes w64 (length body) ++ body) ++ 0 ∷ [])
lengthened old made over zeros body start n begins long same written parts eight =
    let none : drop (length over) made ≡ [] = drop_all (length over) made (omega (arith, same)) in
    let whole : take n (over ++ drop (length over) made) ≡ over = ap (λ (l : List ℕ). take n (over ++ l)) none ∙ ap (λ (l : List ℕ). take n l) (append-nil over) ∙ take_all n over (omega (arith, same, long)) in
    let front : take start made ≡ old = ap (λ (l : List ℕ). take start l) parts ∙ take_at old (zeros ++ body) start (sym begins) in
    let regrouped : made ≡ (old ++ zeros) ++ body = parts ∙ sym (append_assoc old zeros body) in
    let rest : drop (start + 8) made ≡ body = ap (λ (l : List ℕ). drop (start + 8) l) regrouped ∙ drop_at (old ++ zeros) body (start + 8) (omega (arith, length-append old zeros, begins, eight)) in
    let count : n - start - 8 ≡ length body = omega (arith, long, ap length parts, length-append old (zeros ++ body), length-append zeros body, eight, begins) in
    ap (λ (l : List ℕ). l ++ 0 ∷ []) (whole ∙ written ∙ ap (λ (l : List ℕ). l ++ (to_le_bytes w64 (n - start - 8) ++ drop (start + 8) made)) front
    ∙ ap (λ (k : ℕ). old ++ (to_le_bytes w64 k ++ drop (start + 8) made)) count ∙ ap (λ (l : List ℕ). old ++ (to_le_bytes w64 (length body) ++ l)) rest)
    ∙ append_assoc old (to_le_bytes w64 (length body) ++ body) (0 ∷ [])
