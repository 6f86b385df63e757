-- A text beyond the limit is read as its kept bytes are: both are refused by their length.
use Rattle.std.proofs.Common.{◌≡◌, ℕ, ◌+◌, ◌≤◌, ◌<◌, Bool, true, false, nat_lt, List, [], length, take, inl, inr, Ok, Err, ap, refl, sym, subst, arith, lt-ltb, ltb-true, ltb-false}
use Rattle.std.proofs.lemmas.List.{take_all, length-take}
use Rattle.std.specs.declared.result.Result.{Result}
use Rattle.vec_base.specs.declared.limits.TheConstants.{MOST_TEXT_BYTES}
use Rattle.vec_base.specs.declared.refusal.Refusal.{Refusal}
use Rattle.row_model.specs.declared.statement.Statement.{Statement}
use Rattle.row_model.specs.declared.state.State.{State}
use Rattle.row_model.specs.declared.request.Reply.{Reply}
use Rattle.row_model.specs.Shelled.{Answers}
use Rattle.vec_base.specs.declared.refusal.Refusal.TheVariants.{Syntax}
use Rattle.sql_reader.specs.StatementReading.{IsRefusal}
use Rattle.vec_shell.specs.ShellTexts.{Reads}

-- the kept bytes of a longer text are too many as well
still_long : (n : ℕ) (t : List ℕ) → nat_lt n (length t) ≡ true → nat_lt n (length (take (n + 1) t)) ≡ true
still_long n t long =
    let more : n < length t = ltb-true n (length t) long in
    lt-ltb n (length (take (n + 1) t)) (omega (arith, length-take (n + 1) t))

-- the kept bytes of a text that is not longer are all
whole_kept : (n : ℕ) (t : List ℕ) → nat_lt n (length t) ≡ false → take (n + 1) t ≡ t
whole_kept n t short = let few : length t ≤ n = ltb-false n (length t) short in take_all (n + 1) t (omega arith)

beyond : (t : List ℕ) → nat_lt MOST_TEXT_BYTES (length t) ≡ true → length t ≤ MOST_TEXT_BYTES → ⊥
beyond t long within = (let more : MOST_TEXT_BYTES < length t = ltb-true MOST_TEXT_BYTES (length t) long in absurd (omega arith))

refused_long : (t : List ℕ) (refusal : Refusal) → nat_lt MOST_TEXT_BYTES (length t) ≡ true → IsRefusal t [] refusal → refusal ≡ Syntax MOST_TEXT_BYTES
refused_long t refusal long (inl far) = far.1
refused_long t refusal long (inr near) = absurd (beyond t long near.0)

-- a text beyond the limit gets one refusal
too_long : (t : List ℕ) (read : Result Statement Refusal) → nat_lt MOST_TEXT_BYTES (length t) ≡ true → Reads t read → read ≡ Err (Syntax MOST_TEXT_BYTES)
too_long t (Ok statement) long reads = absurd (beyond t long reads.within)
too_long t (Err refusal) long refused = ap (λ (z : Refusal). Err z) (refused_long t refusal long refused)

reads_kept : (t : List ℕ) (read : Result Statement Refusal) (b : Bool) → nat_lt MOST_TEXT_BYTES (length t) ≡ b → Reads (take (MOST_TEXT_BYTES + 1) t) read → Reads t read
reads_kept t read true long reads =
    subst (λ (z : Result Statement Refusal). Reads t z) (sym (too_long (take (MOST_TEXT_BYTES + 1) t) read (still_long MOST_TEXT_BYTES t long) reads))
    (inl (ltb-true MOST_TEXT_BYTES (length t) long, refl))
reads_kept t read false short reads = subst (λ (u : List ℕ). Reads u read) (whole_kept MOST_TEXT_BYTES t short) reads

pub answers_kept : (session : ℕ) (old new : State) (t : List ℕ) (reply : Reply) →
    Answers Reads session old (take (MOST_TEXT_BYTES + 1) t) reply new → Answers Reads session old t reply new
answers_kept session old new t reply answers =
    elim answers [ inl read ↦ inl (read.0, reads_kept t read.0 (nat_lt MOST_TEXT_BYTES (length t)) refl read.1, read.2) | inr starved ↦ inr starved ]
