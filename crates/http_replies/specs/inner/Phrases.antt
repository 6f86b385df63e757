-- Statuses whose phrase is the one that `http` gives.
use Rattle.std.specs.Prelude.{◌≡◌, ℕ, ◌<◌, Some}
use Rattle.http.specs.StatusCode.{reason_phrase}
use Rattle.http_replies.specs.Statuses.{phrase}

pub record IsPhrased (status : ℕ) : Type 0 where
  pub phrased : reason_phrase status ≡ Some (phrase status)
  pub three_digits : status < 1000
