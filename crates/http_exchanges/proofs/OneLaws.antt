-- The bytes of one connection are one exchange.
use Rattle.std.proofs.Common.{◌≡◌, ℕ, List, [], ◌∷◌, ◌++◌, Result, Ok, Err, refl, sym, ap, ◌∙◌, subst, inl, inr}
use Rattle.httparse.specs.Grammar.{RequestHead, print_blank}
use Rattle.httparse.specs.Ascii.{space}
use Rattle.httparse.proofs.GrammarLemmas.{print_request-append, request_unique}
use Rattle.http_heads.specs.Heads.{IsHead}
use Rattle.http_requests.specs.declared.request.WireRequest.{WireRequest}
use Rattle.http_exchanges.specs.declared.exchange.Exchange.{Exchange}
use Rattle.http_exchanges.specs.declared.exchange.Exchange.TheVariants as exchange
use Rattle.http_exchanges.specs.Exchanges.{Asks, ExchangeOf, asked_by}

-- bytes have at most one head, and so ask for one thing
asks_one : (bytes : List ℕ) (one other : Result WireRequest ℕ) → Asks bytes one → Asks bytes other → one ≡ other
asks_one bytes one other (h, behind, is, asks) (k, after, also, wants) =
    let same = request_unique bytes h k behind after is.reads also.reads in
    sym asks ∙ ap (λ head. asked_by head behind) same.0 ∙ ap (asked_by k) same.1 ∙ wants

-- bytes in which there is a space are some
some_space : (front middle rest : List ℕ) → [] ≡ front ++ (middle ++ space ∷ rest) → ⊥
some_space [] [] rest none = cc none
some_space [] (b ∷ middle) rest none = cc none
some_space (b ∷ front) middle rest none = cc none

none_empty : (h : RequestHead) (behind : List ℕ) → IsHead [] h behind → ⊥
none_empty h behind is = some_space (print_blank h.blank) h.method _ (is.reads.1 ∙ print_request-append h behind)

ok_is_no_err : (first second : Result WireRequest ℕ) (wanted : WireRequest) (status : ℕ) → first ≡ Ok wanted → second ≡ Err status → first ≡ second → ⊥
ok_is_no_err first second wanted status ok err same = cc (ok, err, same)

ok_same : (first second : Result WireRequest ℕ) (a b : WireRequest) → first ≡ Ok a → second ≡ Ok b → first ≡ second → a ≡ b
ok_same first second a b one two same = cc (one, two, same)

err_same : (first second : Result WireRequest ℕ) (a b : ℕ) → first ≡ Err a → second ≡ Err b → first ≡ second → a ≡ b
err_same first second a b one two same = cc (one, two, same)

pub one : (bytes : List ℕ) (one other : Exchange) → ExchangeOf bytes one → ExchangeOf bytes other → one ≡ other
one bytes (exchange.Asked a) (exchange.Asked b) x y = ap exchange.Asked (ok_same (Ok a) (Ok b) a b refl refl (asks_one bytes (Ok a) (Ok b) x y))
one bytes (exchange.Asked a) (exchange.Bad b) x (inl y) = absurd (ok_is_no_err (Ok a) (Err b) a b refl refl (asks_one bytes (Ok a) (Err b) x y))
one bytes (exchange.Asked a) (exchange.Bad b) (h, behind, is, asks) (inr (none, status)) = absurd (none.1 h behind is)
one bytes (exchange.Asked a) exchange.Empty (h, behind, is, asks) y = absurd (none_empty h behind (subst (λ l. IsHead l h behind) y is))
one bytes (exchange.Asked a) exchange.Lost x y = absurd y
one bytes (exchange.Asked a) exchange.Memory x y = absurd y
one bytes (exchange.Bad a) (exchange.Asked b) (inl x) y = absurd (ok_is_no_err (Ok b) (Err a) b a refl refl (asks_one bytes (Ok b) (Err a) y x))
one bytes (exchange.Bad a) (exchange.Asked b) (inr (none, status)) (h, behind, is, asks) = absurd (none.1 h behind is)
one bytes (exchange.Bad a) (exchange.Bad b) (inl x) (inl y) = ap exchange.Bad (err_same (Err a) (Err b) a b refl refl (asks_one bytes (Err a) (Err b) x y))
one bytes (exchange.Bad a) (exchange.Bad b) (inl (h, behind, is, asks)) (inr (none, status)) = absurd (none.1 h behind is)
one bytes (exchange.Bad a) (exchange.Bad b) (inr (none, status)) (inl (h, behind, is, asks)) = absurd (none.1 h behind is)
one bytes (exchange.Bad a) (exchange.Bad b) (inr (none, first)) (inr (also, second)) = ap exchange.Bad (first ∙ sym second)
one bytes (exchange.Bad a) exchange.Empty (inl (h, behind, is, asks)) y = absurd (none_empty h behind (subst (λ l. IsHead l h behind) y is))
one bytes (exchange.Bad a) exchange.Empty (inr (none, status)) y = absurd (none.0 y)
one bytes (exchange.Bad a) exchange.Lost x y = absurd y
one bytes (exchange.Bad a) exchange.Memory x y = absurd y
one bytes exchange.Empty (exchange.Asked b) x (h, behind, is, asks) = absurd (none_empty h behind (subst (λ l. IsHead l h behind) x is))
one bytes exchange.Empty (exchange.Bad b) x (inl (h, behind, is, asks)) = absurd (none_empty h behind (subst (λ l. IsHead l h behind) x is))
one bytes exchange.Empty (exchange.Bad b) x (inr (none, status)) = absurd (none.0 x)
one bytes exchange.Empty exchange.Empty x y = refl
one bytes exchange.Empty exchange.Lost x y = absurd y
one bytes exchange.Empty exchange.Memory x y = absurd y
one bytes exchange.Lost other x y = absurd x
one bytes exchange.Memory other x y = absurd x
