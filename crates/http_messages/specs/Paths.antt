-- the paths of the counter, each with its method and its route
use Rattle.std.specs.Prelude.{ℕ, List, [], ◌∷◌, Bool, false, Option, option_map, is_none, Result, Ok, Err, codes, fold}
use Rattle.std.specs.Borrow.{Bor}
use Rattle.matchit.specs.Order.{placed}
use Rattle.matchit.specs.Route.{Scan, parse_route}
use Rattle.matchit.specs.Router.{RouteOf, nearest, route_from}
use Rattle.matchit.specs.Rows.{RowsOf}
use Rattle.matchit.specs.Seek.{first}
use Rattle.matchit.specs.declared.error.InsertError.{InsertError}
use Rattle.office.specs.declared.commands.Kind.TheVariants.{Object, Autocoder}
use Rattle.http_messages.specs.declared.routes.Path.{Path}
use Rattle.http_messages.specs.declared.routes.Route.{Route}
use Rattle.http_messages.specs.declared.routes.Route.TheVariants.{Submit, Job, Jobs, Queue}
use Rattle.http_messages.specs.declared.routes.Verb.TheVariants as verb

-- a path whose requests submit a job, with PUT
abbrev pub put : Route → Path
put route = record { method = codes "PUT"; route = route }

-- a path whose requests have a job act, with POST
abbrev pub post : Route → Path
post route = record { method = codes "POST"; route = route }

-- a path whose requests are queries, with GET
abbrev pub get : Route → Path
get route = record { method = codes "GET"; route = route }

-- the thirteen paths of the counter, each with its method and its route
abbrev pub paths : List (List ℕ × Path)
paths =
    (codes "/c/{customer}/j/{number}/object/{size}/{switches}", put (Submit Object))
    ∷ (codes "/c/{customer}/j/{number}/autocoder/{size}/{switches}", put (Submit Autocoder))
    ∷ (codes "/c/{customer}/j/{number}/slice/{limit}", post (Job verb.Slice))
    ∷ (codes "/c/{customer}/j/{number}/start/{switches}", post (Job verb.Start))
    ∷ (codes "/c/{customer}/j/{number}/hold", post (Job verb.Hold))
    ∷ (codes "/c/{customer}/j/{number}/release", post (Job verb.Release))
    ∷ (codes "/c/{customer}/j/{number}/collect", post (Job verb.Collect))
    ∷ (codes "/c/{customer}/j/{number}", get (Job verb.Standing))
    ∷ (codes "/c/{customer}/j/{number}/cards", get (Job verb.Cards))
    ∷ (codes "/c/{customer}/j/{number}/cards/{pocket}", get (Job verb.Pocket))
    ∷ (codes "/c/{customer}/j/{number}/lines", get (Job verb.Lines))
    ∷ (codes "/c/{customer}/jobs", get Jobs)
    ∷ (codes "/queue", get Queue)
    ∷ []

-- a path with its text, as a pair of the code's table has them
abbrev pub path_of : Bor (List ℕ) × Path → List ℕ × Path
path_of entry = (entry.0.now, entry.1)

-- the rows of a router with one more, for a path that was parsed
abbrev pub with_read : Result Scan InsertError → Path → RowsOf (RouteOf Path) →
    RowsOf (RouteOf Path)
with_read (Ok scan) path rows = placed (scan.pattern, route_from scan path) rows
with_read (Err error) path rows = rows

-- the rows of a router with one more, for this path with its text
abbrev pub with_path : RowsOf (RouteOf Path) → List ℕ × Path → RowsOf (RouteOf Path)
with_path rows path = with_read (parse_route path.0) path.1 rows

-- the rows of the router that has these paths
abbrev pub routed : List (List ℕ × Path) → RowsOf (RouteOf Path)
routed some = fold with_path [] some

-- whether a path that was parsed is in no conflict with these rows
abbrev pub is_free_of : Result Scan InsertError → RowsOf (RouteOf Path) → Bool
is_free_of (Ok scan) rows = is_none (nearest scan.pattern rows)
is_free_of (Err error) rows = false

-- whether a text is a path that is in no conflict with these rows
abbrev pub is_free : RowsOf (RouteOf Path) → List ℕ → Bool
is_free rows text = is_free_of (parse_route text) rows

-- the path of a target: the first that it matches, if it matches one
unfoldable pub path_at : List ℕ → Option Path
path_at target = option_map (λ row. row.value) (first (routed paths) target)

-- the route of a target: that of its path, if it has one
abbrev pub route_at : List ℕ → Option Route
route_at target = option_map (λ path. path.route) (path_at target)
