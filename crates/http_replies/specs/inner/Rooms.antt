-- What a room of 512 bytes holds.
use Rattle.std.specs.Prelude.{◌≡◌, ℕ, ◌≤◌, List, [], ◌++◌, length, take}
use Rattle.std.proofs.Common.{sym, subst, append_assoc}
use Rattle.std.proofs.lemmas.List.{append-nil}
use Rattle.http_replies.specs.declared.room.Room.{Room}

-- These bytes were put into the room. It holds them unless they are too many.
abbrev pub Holds : List ℕ → Room → Type 0
Holds bytes room = length bytes ≤ 512 → (room.filled ≡ length bytes) × (take (length bytes) room.bytes ≡ bytes)

-- Whatever was put into the room before, this part was put behind it.
pub record Puts (part : List ℕ) (old new : Room) : Type 0 where
  pub adds : (bytes : List ℕ) → Holds bytes old → Holds (bytes ++ part) new

-- the two laws of what takes a text

pub puts_none : (x : Room) → Puts [] x x
puts_none x = record { adds = λ bytes h. subst (λ (xs : List ℕ). Holds xs x) (sym (append-nil bytes)) h }

pub puts_both : (a b : List ℕ) (x y z : Room) → Puts a x y → Puts b y z → Puts (a ++ b) x z
puts_both a b x y z p q = record {
  adds = λ bytes h. subst (λ (xs : List ℕ). Holds xs z) (append_assoc bytes a b) (q.adds (bytes ++ a) (p.adds bytes h));
}
