-- What the plain engine is asked.
use Rattle.std.specs.Prelude.{Bool, true, false}
use Rattle.row_model.specs.declared.request.Request.{Request}
use Rattle.row_model.specs.declared.request.Request.TheVariants.{OpenSession, Execute}
use Rattle.plain_engine.specs.DirectStatements.{is_direct}

-- a session is to be opened, or a statement to be executed that needs no transaction and no plan
abbrev pub is_direct_request : Request → Bool
is_direct_request OpenSession = true
is_direct_request (Execute id statement) = is_direct statement
is_direct_request _ = false
