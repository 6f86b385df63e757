-- What the tally says of replies.
use Rattle.std.specs.Prelude.{◌≡◌, List}
use Rattle.std.specs.List.{list_any}
use Rattle.row_model.specs.declared.request.Reply.{Reply}
use Rattle.vec_shell.specs.declared.tally.Tally.{Tally}
use Rattle.vec_shell.specs.Statuses.{is_refused, is_faulted, is_starved}

-- the tally is that of the replies
pub record Counts (tally : Tally) (replies : List Reply) : Type 0 where
  pub refused : tally.refused ≡ list_any is_refused replies
  pub faulted : tally.faulted ≡ list_any is_faulted replies
  pub starved : tally.starved ≡ list_any is_starved replies
