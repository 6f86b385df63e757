-- What the target of a request names.
use Rattle.std.specs.Prelude.{ℕ, not, ◌==◌, ◌+◌, List, [], Option, Some, Result, Ok, Err, codes, drop, take, option_map, option_and_then}
use Rattle.std.specs.List.{prefix_len}
use Rattle.matchit.specs.Rows.{RowsOf}
use Rattle.matchit.specs.Route.{Scan, parse_route}
use Rattle.matchit.specs.declared.error.InsertError.{InsertError}
use Rattle.matchit.specs.Order.{placed}
use Rattle.matchit.specs.Router.{RouteOf, route_from}
use Rattle.matchit.specs.Seek.{first}
use Rattle.vec_base.specs.declared.limits.TheConstants.{LAST_SESSION, LAST_CURSOR}
use Rattle.http_requests.specs.declared.path.Pattern.{Pattern}
use Rattle.http_requests.specs.declared.path.Pattern.TheVariants as pattern
use Rattle.http_requests.specs.declared.path.Path.{Path}
use Rattle.http_requests.specs.declared.path.Path.TheVariants as path
use Rattle.http_requests.specs.Numbers.{id_in}

-- ---- the pieces of a target

abbrev pub slash : ℕ
slash = 47

-- how many bytes there are before the first slash
abbrev pub piece_len : List ℕ → ℕ
piece_len bytes = prefix_len (λ b. not (b == slash)) bytes

-- the bytes before the first slash, and those behind it
abbrev pub piece_before : List ℕ → List ℕ
piece_before bytes = take (piece_len bytes) bytes

abbrev pub behind_piece : List ℕ → List ℕ
behind_piece bytes = drop (piece_len bytes + 1) bytes

-- the third and the fifth piece of a target, whose first piece is empty
abbrev pub session_piece : List ℕ → List ℕ
session_piece target = piece_before (behind_piece (behind_piece target))

abbrev pub cursor_piece : List ℕ → List ℕ
cursor_piece target = piece_before (behind_piece (behind_piece (behind_piece (behind_piece target))))

-- ---- the patterns

abbrev with_scan : Result Scan InsertError → Pattern → RowsOf (RouteOf Pattern) → RowsOf (RouteOf Pattern)
with_scan (Ok scan) p rows = placed ((route_from scan p).pattern, route_from scan p) rows
with_scan (Err e) p rows = rows

-- the patterns with one more
abbrev with_pattern : List ℕ → Pattern → RowsOf (RouteOf Pattern) → RowsOf (RouteOf Pattern)
with_pattern text p rows = with_scan (parse_route text) p rows

-- the patterns of all paths
abbrev pub all_patterns : RowsOf (RouteOf Pattern)
all_patterns =
    with_pattern (codes "/shutdown") pattern.Shutdown
    (with_pattern (codes "/sessions/{s}/cursors/{c}/rows") pattern.Rows
    (with_pattern (codes "/sessions/{s}/cursors/{c}") pattern.Cursor
    (with_pattern (codes "/sessions/{s}/cursors") pattern.Cursors
    (with_pattern (codes "/sessions/{s}/statements") pattern.Statements
    (with_pattern (codes "/sessions/{s}") pattern.Session
    (with_pattern (codes "/sessions") pattern.Sessions []))))))

-- ---- paths

abbrev pub session_in : List ℕ → Option ℕ
session_in target = id_in LAST_SESSION (session_piece target)

abbrev pub cursor_in : List ℕ → Option ℕ
cursor_in target = id_in LAST_CURSOR (cursor_piece target)

-- the path of a target in the pattern, where its parameters are numbers
abbrev pub path_with : List ℕ → Pattern → Option Path
path_with target pattern.Sessions = Some path.Sessions
path_with target pattern.Session = option_map path.Session (session_in target)
path_with target pattern.Statements = option_map path.Statements (session_in target)
path_with target pattern.Cursors = option_map path.Cursors (session_in target)
path_with target pattern.Cursor = option_and_then (λ s. option_map (path.Cursor s) (cursor_in target)) (session_in target)
path_with target pattern.Rows = option_and_then (λ s. option_map (path.Rows s) (cursor_in target)) (session_in target)
path_with target pattern.Shutdown = Some path.Shutdown

-- the path that a target names: the pattern that it is in, with numbers for its parameters
abbrev pub path_of : List ℕ → Option Path
path_of target = option_and_then (λ route. path_with target route.value) (first all_patterns target)
