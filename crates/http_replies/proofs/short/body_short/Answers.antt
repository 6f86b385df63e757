use Rattle.http_replies.proofs.LengthLaws.{changed_body, session_body, cursor_body, planned_body, refused_body}
use Rattle.http_replies.proofs.short.body_short.Goals as goal

pub returns-in-Changed : goal.returns-in-Changed
returns-in-Changed c = rw c.in-Changed.is (changed_body c.in-Changed.count c.number_fits.ensures)

pub returns-in-Session : goal.returns-in-Session
returns-in-Session c = rw c.in-Session.is (session_body c.in-Session.id (rw c.from.ensures at c.number_fits-in-Session.ensures))

pub returns-in-Cursor : goal.returns-in-Cursor
returns-in-Cursor c = rw c.in-Cursor.is (cursor_body c.in-Cursor.number (rw c.from-in-Cursor.ensures at c.number_fits-in-Cursor.ensures))

pub returns-in-Planned : goal.returns-in-Planned
returns-in-Planned c = rw c.in-Planned.is (planned_body _)

pub returns-in-Refused : goal.returns-in-Refused
returns-in-Refused c = rw c.in-Refused.is (refused_body c.in-Refused.refusal c.text_short.ensures)
