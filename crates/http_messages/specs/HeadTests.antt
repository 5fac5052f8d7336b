-- the tests of a head, in order
use Rattle.std.specs.Prelude.{ℕ, ◌==◌, ◌||◌, nat_le, not, Bool, true, false, List, [], ◌∷◌, if◌then◌else◌, map, length, codes, Option, Some, None}
use Rattle.std.specs.Str.{bytes_eq}
use Rattle.httparse.specs.Grammar.{RequestHead}
use Rattle.httparse.specs.Spans.{name_and_value}
use Rattle.http_messages.specs.Paths.{path_at}
use Rattle.http_messages.specs.declared.routes.Path.{Path}
use Rattle.http_messages.specs.Fields.{Field, body_length, values_of}
use Rattle.http_messages.specs.declared.lengths.BodyLength.{BodyLength}
use Rattle.http_messages.specs.declared.lengths.BodyLength.TheVariants.{Unsaid, Bytes, Bad}

-- whether requests with this method have a body, which those with PUT do
abbrev pub has_body : List ℕ → Bool
has_body method = bytes_eq method (codes "PUT")

-- whether the length of a body is not a bad one
abbrev pub is_length : BodyLength → Bool
is_length Bad = false
is_length other = true

-- whether the length of a body is given, be it a good or a bad one
abbrev pub is_said : BodyLength → Bool
is_said Unsaid = false
is_said other = true

-- the number of bytes of a body, 0 if none is given
abbrev pub count_of : BodyLength → ℕ
count_of (Bytes count) = count
count_of other = 0

-- the tests of a body's length, each with the status if it fails
abbrev pub length_tests : List ℕ → BodyLength → List (Bool × ℕ)
length_tests method said =
    (is_length said, 400)
    ∷ (not (has_body method) || is_said said, 411)
    ∷ (nat_le (count_of said) 200000, 413)
    ∷ (has_body method || count_of said == 0, 400)
    ∷ []

-- the tests of a request with this path, in order, each with the status if it fails
abbrev pub tests : Path → List ℕ → List Field → List (Bool × ℕ)
tests path method fields =
    (bytes_eq method path.method, 405)
    ∷ (length (values_of (codes "Transfer-Encoding") fields) == 0, 400)
    ∷ length_tests path.method (body_length fields)

-- the status of the first test that fails, if one does
abbrev pub first_failed : List (Bool × ℕ) → Option ℕ
first_failed [] = None
first_failed ((passed, status) ∷ rest) = if passed then first_failed rest else Some status

-- the status with which a request of this path is refused, if one is; 404 if there is no path
abbrev pub status_on : Option Path → List ℕ → List Field → Option ℕ
status_on None method fields = Some 404
status_on (Some path) method fields = first_failed (tests path method fields)

-- the header fields of a head, each with its name and value
abbrev pub fields_of : RequestHead → List Field
fields_of h = map name_and_value h.fields

-- the status with which a head is refused for its target, its method or its header fields, if one
-- is
abbrev pub status_of : RequestHead → Option ℕ
status_of h = status_on (path_at h.target) h.method (fields_of h)
