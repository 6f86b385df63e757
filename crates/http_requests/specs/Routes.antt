-- What a path and a method ask for.
use Rattle.std.specs.Prelude.{ℕ, Bool, true, false, List, Option, Some, None, codes, if◌then◌else◌, bytes_eq}
use Rattle.http_requests.specs.declared.path.Path.{Path}
use Rattle.http_requests.specs.declared.path.Path.TheVariants as path
use Rattle.http_requests.specs.declared.route.Route.{Route}
use Rattle.http_requests.specs.declared.route.Route.TheVariants as route

abbrev when_posted : List ℕ → Route → Option Route
when_posted method r = if bytes_eq method (codes "POST") then Some r else None

abbrev when_deleted : List ℕ → Route → Option Route
when_deleted method r = if bytes_eq method (codes "DELETE") then Some r else None

-- each path has one method
abbrev pub route_of : Path → List ℕ → Option Route
route_of path.Sessions method = when_posted method route.OpenSession
route_of (path.Session s) method = when_deleted method (route.CloseSession s)
route_of (path.Statements s) method = when_posted method (route.Statement s)
route_of (path.Cursors s) method = when_posted method (route.OpenCursor s)
route_of (path.Cursor s c) method = when_deleted method (route.CloseCursor s c)
route_of (path.Rows s c) method = when_posted method (route.Fetch s c)
route_of path.Shutdown method = when_posted method route.Shutdown

-- the route has a body
abbrev pub has_body : Route → Bool
has_body route.OpenSession = false
has_body (route.CloseSession s) = false
has_body (route.Statement s) = true
has_body (route.OpenCursor s) = true
has_body (route.Fetch s c) = true
has_body (route.CloseCursor s c) = false
has_body route.Shutdown = false
