-- the tables of a bureau as the database's schema has them, and their version
use Rattle.sqlite.specs.Collation.TheVariants.{Binary}
use Rattle.std.specs.Prelude.{true, false, [], ◌∷◌, Some, None, codes, List, ℕ}
use Rattle.sqlite.specs.declared.types.Value.TheVariants.{Null}
use Rattle.sqlite.specs.Table.{Table}
use Rattle.sqlite.specs.Schema.{Schema}
use Rattle.sqlite.specs.Change.{created, without_table}
use Rattle.sqlite_value.specs.Keys.{plain}
use Rattle.sqlite_schema.specs.declared.schema.Column.{Column}
use Rattle.sqlite_schema.specs.declared.schema.Reference.{Reference}
use Rattle.sqlite_schema.specs.declared.schema.Action.TheVariants.{NoAction}
use Rattle.sqlite.specs.Kind.{Kind}
use Rattle.sqlite.specs.Kind.TheVariants.{Integer, Text, Blob}

-- the version of the tables that this program makes and opens
abbrev pub own_version : ℕ
own_version = 4

-- a column of this name that always has a value of this kind
abbrev pub required : List ℕ → Kind → Column
required name kind = record {
  name = name;
  kind = kind;
  is_strict = true;
  not_null = true;
  default = Null;
  collation = Binary;
}

-- the reference of a row to its job, by customer and number
abbrev pub to_job : Reference
to_job = record {
  columns = 1 ∷ 2 ∷ [];
  parent = codes "jobs";
  parent_columns = codes "customer" ∷ codes "number" ∷ [];
  on_delete = NoAction;
  on_update = NoAction;
  is_deferred = false;
}

-- the reference of a row to a punched card, by its job's customer and number and its place
abbrev pub to_card : Reference
to_card = record {
  columns = 1 ∷ 2 ∷ 3 ∷ [];
  parent = codes "cards";
  parent_columns = codes "customer" ∷ codes "number" ∷ codes "place" ∷ [];
  on_delete = NoAction;
  on_update = NoAction;
  is_deferred = false;
}

-- a schema without tables
abbrev pub no_schema : Schema
no_schema = record { tables = []; indexes = []; views = [] }

-- the table `bureau`, which has one row with the version of the tables
abbrev pub bureau : Table
bureau = record {
  name = codes "bureau";
  tree = 0;
  columns = required (codes "id") Integer ∷ required (codes "version") Integer ∷ [];
  key = Some 0;
  primary = 0 ∷ [];
  uniques = [];
  orders = [];
  checks = [];
  references = [];
  computed = [];
  stamps = record { places = []; terms = []; formats = [] };
  is_counted = false;
}

-- the schema once `bureau` is created
abbrev pub up_to_bureau : Schema
up_to_bureau = created no_schema bureau

-- the table `jobs`, with a row for each job
abbrev pub jobs : Table
jobs = record {
  name = codes "jobs";
  tree = 0;
  columns = required (codes "customer") Text ∷ required (codes "number") Integer
      ∷ required (codes "kind") Integer ∷ required (codes "size") Integer
      ∷ required (codes "deck") Blob ∷ required (codes "loaded") Blob
      ∷ required (codes "held") Integer ∷ required (codes "collected") Integer ∷ [];
  key = None;
  primary = 1 ∷ 2 ∷ [];
  uniques = (1 ∷ 2 ∷ []) ∷ [];
  orders = plain ∷ [];
  checks = [];
  references = [];
  computed = [];
  stamps = record { places = []; terms = []; formats = [] };
  is_counted = false;
}

-- the schema once `bureau` and `jobs` are created
abbrev pub up_to_jobs : Schema
up_to_jobs = created up_to_bureau jobs

-- the table `stretches`, with a row for each stretch of a job
abbrev pub stretches : Table
stretches = record {
  name = codes "stretches";
  tree = 0;
  columns = required (codes "customer") Text ∷ required (codes "number") Integer
      ∷ required (codes "place") Integer ∷ required (codes "switches") Integer
      ∷ required (codes "granted") Integer ∷ [];
  key = None;
  primary = 1 ∷ 2 ∷ 3 ∷ [];
  uniques = (1 ∷ 2 ∷ 3 ∷ []) ∷ [];
  orders = plain ∷ [];
  checks = [];
  references = to_job ∷ [];
  computed = [];
  stamps = record { places = []; terms = []; formats = [] };
  is_counted = false;
}

-- the schema once the first three tables, up to `stretches`, are created
abbrev pub up_to_stretches : Schema
up_to_stretches = created up_to_jobs stretches

-- the table `pictures` of version 1, with a row for each job's machine and its storage
abbrev pub pictures : Table
pictures = record {
  name = codes "pictures";
  tree = 0;
  columns = required (codes "customer") Text ∷ required (codes "number") Integer
      ∷ required (codes "storage") Blob ∷ required (codes "i") Integer
      ∷ required (codes "a") Integer ∷ required (codes "b") Integer
      ∷ required (codes "compare") Integer ∷ required (codes "overflow") Integer
      ∷ required (codes "channel") Integer ∷ required (codes "waiting") Integer
      ∷ required (codes "form") Integer ∷ required (codes "line") Integer
      ∷ required (codes "taken") Integer ∷ required (codes "cards") Integer
      ∷ required (codes "lines") Integer ∷ required (codes "standing") Integer ∷ [];
  key = None;
  primary = 1 ∷ 2 ∷ [];
  uniques = (1 ∷ 2 ∷ []) ∷ [];
  orders = plain ∷ [];
  checks = [];
  references = to_job ∷ [];
  computed = [];
  stamps = record { places = []; terms = []; formats = [] };
  is_counted = false;
}

-- the schema once the first four tables, up to `pictures`, are created
abbrev pub up_to_pictures : Schema
up_to_pictures = created up_to_stretches pictures

-- the table `cards`, with a row for each card that a job has punched
abbrev pub cards : Table
cards = record {
  name = codes "cards";
  tree = 0;
  columns = required (codes "customer") Text ∷ required (codes "number") Integer
      ∷ required (codes "place") Integer ∷ required (codes "card") Blob ∷ [];
  key = None;
  primary = 1 ∷ 2 ∷ 3 ∷ [];
  uniques = (1 ∷ 2 ∷ 3 ∷ []) ∷ [];
  orders = plain ∷ [];
  checks = [];
  references = to_job ∷ [];
  computed = [];
  stamps = record { places = []; terms = []; formats = [] };
  is_counted = false;
}

-- the schema once the first five tables, up to `cards`, are created
abbrev pub up_to_cards : Schema
up_to_cards = created up_to_pictures cards

-- the table `lines`, with a row for each line that a job has printed
abbrev pub lines : Table
lines = record {
  name = codes "lines";
  tree = 0;
  columns = required (codes "customer") Text ∷ required (codes "number") Integer
      ∷ required (codes "place") Integer ∷ required (codes "form") Integer
      ∷ required (codes "line") Integer ∷ required (codes "image") Blob ∷ [];
  key = None;
  primary = 1 ∷ 2 ∷ 3 ∷ [];
  uniques = (1 ∷ 2 ∷ 3 ∷ []) ∷ [];
  orders = plain ∷ [];
  checks = [];
  references = to_job ∷ [];
  computed = [];
  stamps = record { places = []; terms = []; formats = [] };
  is_counted = false;
}

-- the schema of version 1, with its six tables
abbrev pub first_schema : Schema
first_schema = created up_to_cards lines

-- the table `states`, with a row for each job's machine, without its storage
abbrev pub states : Table
states = record {
  name = codes "states";
  tree = 0;
  columns = required (codes "customer") Text ∷ required (codes "number") Integer
      ∷ required (codes "i") Integer ∷ required (codes "a") Integer
      ∷ required (codes "b") Integer ∷ required (codes "compare") Integer
      ∷ required (codes "overflow") Integer ∷ required (codes "channel") Integer
      ∷ required (codes "waiting") Integer ∷ required (codes "form") Integer
      ∷ required (codes "line") Integer ∷ required (codes "taken") Integer
      ∷ required (codes "cards") Integer ∷ required (codes "lines") Integer
      ∷ required (codes "standing") Integer ∷ [];
  key = None;
  primary = 1 ∷ 2 ∷ [];
  uniques = (1 ∷ 2 ∷ []) ∷ [];
  orders = plain ∷ [];
  checks = [];
  references = to_job ∷ [];
  computed = [];
  stamps = record { places = []; terms = []; formats = [] };
  is_counted = false;
}

-- the schema once `states` is created beside the tables of version 1
abbrev pub up_to_states : Schema
up_to_states = created first_schema states

-- the table `pages`, with a row for each page of a job's storage that is not blank
abbrev pub pages : Table
pages = record {
  name = codes "pages";
  tree = 0;
  columns = required (codes "customer") Text ∷ required (codes "number") Integer
      ∷ required (codes "page") Integer ∷ required (codes "storage") Blob ∷ [];
  key = None;
  primary = 1 ∷ 2 ∷ 3 ∷ [];
  uniques = (1 ∷ 2 ∷ 3 ∷ []) ∷ [];
  orders = plain ∷ [];
  checks = [];
  references = to_job ∷ [];
  computed = [];
  stamps = record { places = []; terms = []; formats = [] };
  is_counted = false;
}

-- the schema once `pages` is created too: `pictures` is still there
abbrev pub raising_schema : Schema
raising_schema = created up_to_states pages

-- the schema of versions 2 and 3, with their seven tables: `pictures` is dropped
abbrev pub paged_schema : Schema
paged_schema = without_table raising_schema 5

-- the table `profiles`, with a row for each job
abbrev pub profiles : Table
profiles = record {
  name = codes "profiles";
  tree = 0;
  columns = required (codes "customer") Text ∷ required (codes "number") Integer
      ∷ required (codes "profile") Integer ∷ required (codes "chosen") Integer ∷ [];
  key = None;
  primary = 1 ∷ 2 ∷ [];
  uniques = (1 ∷ 2 ∷ []) ∷ [];
  orders = plain ∷ [];
  checks = [];
  references = to_job ∷ [];
  computed = [];
  stamps = record { places = []; terms = []; formats = [] };
  is_counted = false;
}

-- the schema once `profiles` is created beside the tables of version 3
abbrev pub up_to_profiles : Schema
up_to_profiles = created paged_schema profiles

-- the table `pockets`, with a row for each punched card that is not in the normal pocket
abbrev pub pockets : Table
pockets = record {
  name = codes "pockets";
  tree = 0;
  columns = required (codes "customer") Text ∷ required (codes "number") Integer
      ∷ required (codes "place") Integer ∷ required (codes "pocket") Integer ∷ [];
  key = None;
  primary = 1 ∷ 2 ∷ 3 ∷ [];
  uniques = (1 ∷ 2 ∷ 3 ∷ []) ∷ [];
  orders = plain ∷ [];
  checks = [];
  references = to_card ∷ [];
  computed = [];
  stamps = record { places = []; terms = []; formats = [] };
  is_counted = false;
}

-- the schema of a bureau, with its nine tables
abbrev pub bureau_schema : Schema
bureau_schema = created up_to_profiles pockets

-- the schema of a new file once `profiles` is created: `pictures` is dropped at the end
abbrev pub new_up_to_profiles : Schema
new_up_to_profiles = created raising_schema profiles

-- the schema of a new file once `pockets` is created too
abbrev pub new_up_to_pockets : Schema
new_up_to_pockets = created new_up_to_profiles pockets
