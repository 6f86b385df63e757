-- What becomes of a commit by the answer of the keeper.
use Rattle.vec_base.specs.declared.refusal.Refusal.TheVariants.{StoreFault, WantOfMemory}
use Rattle.row_model.specs.declared.request.Reply.{Reply}
use Rattle.row_model.specs.declared.request.Reply.TheVariants.{Refused}
use Rattle.row_model.specs.declared.row.Catalog.{Catalog}
use Rattle.run_commits.specs.Commits.{Commit, Acknowledged, Faulted, Starved}
use Rattle.shadow_keeper.specs.declared.keeper.Kept.{Kept}
use Rattle.shadow_keeper.specs.declared.keeper.Kept.TheVariants.{Done, Failed, Memory}

-- the next one where the commit was made, and else the old one
abbrev pub if_kept : {A : Type 0} → Kept → A → A → A
if_kept Done next old = next
if_kept Failed next old = old
if_kept Memory next old = old

abbrev pub reply_as : Kept → Reply → Reply
reply_as Done reply = reply
reply_as Failed reply = Refused StoreFault
reply_as Memory reply = Refused WantOfMemory

abbrev pub commit_as : Kept → Catalog → Commit
commit_as Done next = Acknowledged next
commit_as Failed next = Faulted next
commit_as Memory next = Starved next
