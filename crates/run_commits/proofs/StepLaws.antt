-- What a step does to the committed tables: it commits, or leaves them.
use Rattle.std.proofs.Common.{◌≡◌, ◌⊎◌, ℕ, ℤ, ◌+◌, ◌==◌, ◌&&◌, if◌then◌else◌, Bool, true, false, List, [], ◌∷◌, length, Option, Some, None, Ok, Err, inl, inr, refl, sym, ap, ◌∙◌, subst, arith}
use Rattle.std.proofs.lemmas.Bool.Decides.{Decides-eqb}
use Rattle.std.specs.declared.result.Result.{Result}
use Rattle.vec_base.specs.declared.refusal.Refusal.{Refusal}
use Rattle.vec_base.specs.declared.refusal.Refusal.TheVariants.{StoreFault, WantOfMemory}
use Rattle.row_model.specs.declared.row.Catalog.{Catalog}
use Rattle.row_model.specs.declared.row.Named.{Named}
use Rattle.row_model.specs.declared.row.Table.{Table}
use Rattle.row_model.specs.declared.schema.Schema.{Schema}
use Rattle.row_model.specs.declared.state.CursorRows.{CursorRows}
use Rattle.row_model.specs.declared.state.Mark.{Mark}
use Rattle.row_model.specs.declared.state.Phase.{Phase}
use Rattle.row_model.specs.declared.state.Phase.TheVariants.{Idle, Reading, Writing}
use Rattle.row_model.specs.declared.state.Session.{Session}
use Rattle.row_model.specs.declared.state.State.{State}
use Rattle.row_model.specs.declared.request.Request.{Request}
use Rattle.row_model.specs.declared.request.Request.TheVariants.{OpenSession, CloseSession, Execute, OpenCursor, Fetch, CloseCursor}
use Rattle.row_model.specs.declared.request.Reply.{Reply}
use Rattle.row_model.specs.declared.request.Reply.TheVariants.{Done, Inserted, Changed, Rows, Planned, Session as Opened, Cursor, Page, Refused}
use Rattle.row_model.specs.declared.statement.Delete.{Delete as DeleteRows}
use Rattle.row_model.specs.declared.statement.Insert.{Insert as InsertRows}
use Rattle.row_model.specs.declared.statement.Update.{Update as UpdateRows}
use Rattle.row_model.specs.declared.statement.Select.{Select as SelectRows}
use Rattle.row_model.specs.declared.statement.Statement.{Statement}
use Rattle.row_model.specs.declared.statement.Statement.TheVariants.{Create, Drop, Insert, Update, Delete, Select, Explain, Begin, Commit as CommitWork, Rollback, RollbackTo, Savepoint, Release}
use Rattle.run_commits.specs.Commits.{Commit, Acknowledged, Faulted, Starved, answered_by, commit_of, listed_commit, after}
use Rattle.row_model.specs.Machine.{seen, unless, in_session, where_open, session_of, before_mark, newest_mark, cursor_of}
use Rattle.row_model.specs.Step.{committed, rolled_to, released, wrote, writes, if_none, created, dropped, inserted, grown_catalog, updates, deletes, selected, explained, cursor_opened, fetched, cursor_closed, found, executed, answer_of, Steps, kept_catalog, with_tables}
use Rattle.row_model.specs.Change.{other_tables}

abbrev pub refuses : Reply → Bool
refuses (Refused refusal) = true
refuses reply = false

-- the state as it was; or no refusal, and a commit or the committed tables as they were
abbrev pub Sound : State → Reply × State → Type 0
Sound s answer =
    (answer.1 ≡ s) ⊎ ((refuses answer.0 ≡ false) × ((answer.1.commits ≡ s.commits + 1) ⊎ ((answer.1.catalog ≡ s.catalog) × (answer.1.commits ≡ s.commits))))

unless_sound : (refusals : List Refusal) (s : State) (answer : Reply × State) → Sound s answer → Sound s (unless refusals s answer)
unless_sound [] s answer h = h
unless_sound (r ∷ rs) s answer h = inl refl

committed_sound : (s : State) (session : Session) (phase : Phase) → Sound s (committed s session phase)
committed_sound s session Idle = inl refl
committed_sound s session (Reading catalog number) = inr (refl, inr (refl, refl))
committed_sound s session (Writing base work) = unless_sound _ s _ (inr (refl, inl refl))

rolled_to_sound : (name : List ℕ) (s : State) (session : Session) (mark : Option Mark) → Sound s (rolled_to name s session mark)
rolled_to_sound name s session None = inl refl
rolled_to_sound name s session (Some mark) = inr (refl, inr (refl, refl))

released_sound : (name : List ℕ) (s : State) (session : Session) (mark : Option Mark) → Sound s (released name s session mark)
released_sound name s session None = inl refl
released_sound name s session (Some mark) =
    elim (length (before_mark name session.marks) == 0 && session.by_savepoint) as (λ b. Sound s (if b then committed s session session.phase else (Done, in_session s (record session { marks = before_mark name session.marks })))) [
      | true ↦ committed_sound s session session.phase
      | false ↦ inr (refl, inr (refl, refl))
    ]

-- a change whose reply is no refusal
abbrev SoundChange : Result (Reply × Catalog) Refusal → Type 0
SoundChange (Err refusal) = Unit {0}
SoundChange (Ok (reply, new)) = refuses reply ≡ false

wrote_sound : (s : State) (session : Session) (phase : Phase) (change : Result (Reply × Catalog) Refusal) → session.phase ≡ phase → SoundChange change → Sound s (wrote s session change)
wrote_sound s session phase (Err refusal) e h = inl refl
wrote_sound s session Idle (Ok (reply, new)) e h = subst (λ (p : Phase). Sound s (wrote s (record session { phase = p }) (Ok (reply, new)))) (sym e) (unless_sound _ s _ (inr (h, inl refl)))
wrote_sound s session (Reading catalog number) (Ok (reply, new)) e h = subst (λ (p : Phase). Sound s (wrote s (record session { phase = p }) (Ok (reply, new)))) (sym e) (inr (h, inr (refl, refl)))
wrote_sound s session (Writing base work) (Ok (reply, new)) e h = subst (λ (p : Phase). Sound s (wrote s (record session { phase = p }) (Ok (reply, new)))) (sym e) (inr (h, inr (refl, refl)))

writes_sound : (s : State) (session : Session) (fault : Option Refusal) (change : Result (Reply × Catalog) Refusal) → SoundChange change → Sound s (writes s session fault change)
writes_sound s session fault change h = unless_sound _ s _ (wrote_sound s session session.phase change refl h)

if_none_sound : (refusals : List Refusal) (reply : Reply) (new : Catalog) → refuses reply ≡ false → SoundChange (if_none refusals (reply, new))
if_none_sound [] reply new h = h
if_none_sound (r ∷ rs) reply new h = tt

grown_sound : (insert : InsertRows) (last : ℤ) (tables : List Named) (grew : Result Table Refusal) → SoundChange (grown_catalog insert last tables grew)
grown_sound insert last tables (Err refusal) = tt
grown_sound insert last tables (Ok table) = refl

created_sound : (name : List ℕ) (schema : Schema) (s : State) (session : Session) (named : Option Named) → Sound s (created name schema s session named)
created_sound name schema s session (Some named) = inl refl
created_sound name schema s session None = writes_sound s session None _ (if_none_sound _ Done _ refl)

dropped_sound : (name : List ℕ) (s : State) (session : Session) (named : Option Named) → Sound s (dropped name s session named)
dropped_sound name s session None = inl refl
dropped_sound name s session (Some named) = writes_sound s session None (Ok (Done, with_tables (other_tables name (seen s session).tables))) refl

inserted_sound : (insert : InsertRows) (s : State) (session : Session) (named : Option Named) → Sound s (inserted insert s session named)
inserted_sound insert s session None = inl refl
inserted_sound insert s session (Some named) = writes_sound s session _ _ (grown_sound insert _ _ _)

updates_sound : (update : UpdateRows) (s : State) (session : Session) (named : Option Named) → Sound s (updates update s session named)
updates_sound update s session None = inl refl
updates_sound update s session (Some named) = writes_sound s session _ _ (if_none_sound _ _ _ refl)

deletes_sound : (delete : DeleteRows) (s : State) (session : Session) (named : Option Named) → Sound s (deletes delete s session named)
deletes_sound delete s session None = inl refl
deletes_sound delete s session (Some named) = writes_sound s session _ (Ok (kept_catalog delete (seen s session) named.table)) refl

-- an answer that leaves the tables
kept_sound : (refusals : List Refusal) (s : State) (reply : Reply) (new : State) → refuses reply ≡ false → new.catalog ≡ s.catalog → new.commits ≡ s.commits → Sound s (unless refusals s (reply, new))
kept_sound refusals s reply new a b c = unless_sound refusals s (reply, new) (inr (a, inr (b, c)))

selected_sound : (select : SelectRows) (s : State) (named : Option Named) → Sound s (selected select s named)
selected_sound select s None = inl refl
selected_sound select s (Some named) = kept_sound _ s _ _ refl refl refl

explained_sound : (select : SelectRows) (s : State) (named : Option Named) → Sound s (explained select s named)
explained_sound select s None = inl refl
explained_sound select s (Some named) = kept_sound _ s _ _ refl refl refl

executed_sound : (s : State) (session : Session) (statement : Statement) → Sound s (executed s session statement)
executed_sound s session (Create name schema) = created_sound name schema s session (found name s session)
executed_sound s session (Drop name) = dropped_sound name s session (found name s session)
executed_sound s session (Insert insert) = inserted_sound insert s session (found insert.table s session)
executed_sound s session (Update update) = updates_sound update s session (found update.table s session)
executed_sound s session (Delete delete) = deletes_sound delete s session (found delete.table s session)
executed_sound s session (Select select) = selected_sound select s (found select.table s session)
executed_sound s session (Explain select) = explained_sound select s (found select.table s session)
executed_sound s session (Begin immediate) = kept_sound _ s _ _ refl refl refl
executed_sound s session CommitWork = committed_sound s session session.phase
executed_sound s session Rollback = kept_sound _ s _ _ refl refl refl
executed_sound s session (RollbackTo name) = rolled_to_sound name s session (newest_mark name session.marks)
executed_sound s session (Savepoint name) = kept_sound _ s _ _ refl refl refl
executed_sound s session (Release name) = released_sound name s session (newest_mark name session.marks)

cursor_opened_sound : (select : SelectRows) (s : State) (session : Session) (named : Option Named) → Sound s (cursor_opened select s session named)
cursor_opened_sound select s session None = inl refl
cursor_opened_sound select s session (Some named) = kept_sound _ s _ _ refl refl refl

fetched_sound : (count : ℕ) (s : State) (session : Session) (cursor : Option CursorRows) → Sound s (fetched count s session cursor)
fetched_sound count s session None = inl refl
fetched_sound count s session (Some cursor) = inr (refl, inr (refl, refl))

cursor_closed_sound : (number : ℕ) (s : State) (session : Session) (cursor : Option CursorRows) → Sound s (cursor_closed number s session cursor)
cursor_closed_sound number s session None = inl refl
cursor_closed_sound number s session (Some cursor) = inr (refl, inr (refl, refl))

where_open_sound : (s : State) (session : Option Session) (answer : Session → Reply × State) → ((session : Session) → Sound s (answer session)) → Sound s (where_open s session answer)
where_open_sound s None answer h = inl refl
where_open_sound s (Some session) answer h = h session

pub answer_sound : (s : State) (request : Request) → Sound s (answer_of s request)
answer_sound s OpenSession = kept_sound _ s _ _ refl refl refl
answer_sound s (CloseSession id) = where_open_sound s (session_of id s.sessions) _ (λ session. inr (refl, inr (refl, refl)))
answer_sound s (Execute id statement) = where_open_sound s (session_of id s.sessions) _ (λ session. executed_sound s session statement)
answer_sound s (OpenCursor id select) = where_open_sound s (session_of id s.sessions) _ (λ session. cursor_opened_sound select s session (found select.table s session))
answer_sound s (Fetch id number count) = where_open_sound s (session_of id s.sessions) _ (λ session. fetched_sound count s session (cursor_of number session.cursors))
answer_sound s (CloseCursor id number) = where_open_sound s (session_of id s.sessions) _ (λ session. cursor_closed_sound number s session (cursor_of number session.cursors))

-- ---- the commit of a step

abbrev pub commit_by : Bool → Reply → Catalog → Option Commit
commit_by b reply catalog = if b then Some (answered_by reply catalog) else None

rises : (n : ℕ) → (n == n + 1) ≡ false
rises n = elim (n == n + 1) as (λ b. (n == n + 1) ≡ b → b ≡ false) [ true ↦ λ e. (let same : n ≡ n + 1 = (Decides-eqb n (n + 1)).0 e in absurd (omega (arith, same))) | false ↦ λ e. refl ] refl

pub no_commit : (s : State) (request : Request) (reply : Reply) → (answer_of s request).1.commits ≡ s.commits → commit_of s request reply ≡ None
no_commit s request reply e =
    ap (λ n. commit_by (n == s.commits + 1) reply (answer_of s request).1.catalog) e
    ∙ ap (λ b. commit_by b reply (answer_of s request).1.catalog) (rises s.commits)

equal_self : (n : ℕ) → (n == n) ≡ true
equal_self n = (Decides-eqb n n).1 refl

pub a_commit : (s : State) (request : Request) (reply : Reply) → (answer_of s request).1.commits ≡ s.commits + 1 → commit_of s request reply ≡ Some (answered_by reply (answer_of s request).1.catalog)
a_commit s request reply e =
    ap (λ n. commit_by (n == s.commits + 1) reply (answer_of s request).1.catalog) e
    ∙ ap (λ b. commit_by b reply (answer_of s request).1.catalog) (equal_self (s.commits + 1))

pub acknowledged_by : (reply : Reply) (catalog : Catalog) → refuses reply ≡ false → answered_by reply catalog ≡ Acknowledged catalog
acknowledged_by Done catalog e = refl
acknowledged_by (Inserted count last) catalog e = refl
acknowledged_by (Changed count) catalog e = refl
acknowledged_by (Rows rows) catalog e = refl
acknowledged_by (Planned shape) catalog e = refl
acknowledged_by (Opened id) catalog e = refl
acknowledged_by (Cursor number) catalog e = refl
acknowledged_by (Page rows done) catalog e = refl
acknowledged_by (Refused refusal) catalog e = absurd cc

-- ---- the catalog after a step

pub after_answer : (s : State) (request : Request) (reply : Reply) (new : State) → answer_of s request ≡ (reply, new) → new.catalog ≡ after s.catalog (listed_commit (commit_of s request reply))
after_answer s request reply new e =
    elim (answer_sound s request) [
      | inl same ↦ (let stays : new ≡ s = sym (ap (λ a. a.1) e) ∙ same in
          ap (λ (t : State). t.catalog) stays ∙ sym (ap (λ o. after s.catalog (listed_commit o)) (no_commit s request reply (ap (λ (t : State). t.commits) same))))
      | inr (fine, inl made) ↦ (let is : answered_by reply (answer_of s request).1.catalog ≡ Acknowledged (answer_of s request).1.catalog = acknowledged_by reply _ (subst (λ (r : Reply). refuses r ≡ false) (ap (λ a. a.0) e) fine) in
          sym (ap (λ a. a.1.catalog) e) ∙ sym (ap (λ o. after s.catalog (listed_commit o)) (a_commit s request reply made ∙ ap (λ k. Some k) is)))
      | inr (fine, inr kept) ↦ (sym (ap (λ a. a.1.catalog) e) ∙ kept.0) ∙ sym (ap (λ o. after s.catalog (listed_commit o)) (no_commit s request reply kept.1))
    ]

-- a refusal that the machine does not give itself leaves the catalog
refusal_kept : (s : State) (request : Request) (refusal : Refusal) → ((c : Catalog) → (answered_by (Refused refusal) c ≡ Faulted c) ⊎ (answered_by (Refused refusal) c ≡ Starved c)) → s.catalog ≡ after s.catalog (listed_commit (commit_of s request (Refused refusal)))
refusal_kept s request refusal open_one =
    elim ((answer_of s request).1.commits == s.commits + 1) as (λ b. s.catalog ≡ after s.catalog (listed_commit (commit_by b (Refused refusal) (answer_of s request).1.catalog))) [
      | true ↦ elim (open_one (answer_of s request).1.catalog) [
        | inl e ↦ sym (ap (λ k. after s.catalog (k ∷ [])) e)
        | inr e ↦ sym (ap (λ k. after s.catalog (k ∷ [])) e)
      ]
      | false ↦ refl
    ]

pub after_step : (s : State) (request : Request) (reply : Reply) (new : State) → Steps s request reply new → new.catalog ≡ after s.catalog (listed_commit (commit_of s request reply))
after_step s request reply new (inl e) = after_answer s request reply new e
after_step s request reply new (inr (inl (starved, same))) =
    subst (λ (r : Reply). new.catalog ≡ after s.catalog (listed_commit (commit_of s request r))) (sym starved)
    (ap (λ (t : State). t.catalog) same ∙ refusal_kept s request WantOfMemory (λ c. inr refl))
after_step s request reply new (inr (inr (commits, faulted, same))) =
    subst (λ (r : Reply). new.catalog ≡ after s.catalog (listed_commit (commit_of s request r))) (sym faulted)
    (ap (λ (t : State). t.catalog) same ∙ refusal_kept s request StoreFault (λ c. inl refl))
