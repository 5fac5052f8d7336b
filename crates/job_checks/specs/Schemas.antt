-- how the schema of a file differs from a bureau's
use Rattle.std.specs.Prelude.{◌≡◌, ◌⊎◌, List, [], map, Contains}
use Rattle.std.specs.List.{AllByRecursion}
use Rattle.sqlite.specs.Schema.{Schema}
use Rattle.sqlite_schema.specs.declared.schema.Index.{Index as Keyed}
use Rattle.sqlite_schema.specs.declared.schema.Table.{Table as Listed}
use Rattle.sqlite_schema.specs.declared.schema.View.{View as Kept}
use Rattle.job_checks.specs.declared.alike.Unlike.{Unlike}
use Rattle.job_checks.specs.declared.alike.Unlike.TheVariants.{Has, Misses}
use Rattle.job_checks.specs.declared.schemas.SchemaDifference.{SchemaDifference}
use Rattle.job_checks.specs.declared.schemas.SchemaDifference.TheVariants.{Table, Index, View, Lacks}

-- no rule and no default of the table is an expression
pub record HasNoTerms (t : Listed) : Type 0 where
  pub checks : t.checks ≡ []
  pub stamps : t.stamps.terms ≡ []

-- the part that is told is one of the list that has it
abbrev pub IsOf : {T : Type 0} → List T → List T → Unlike T → Type 0
IsOf parts others (Has part) = Contains parts part.now
IsOf parts others (Misses other) = Contains others other.now

-- the schema is the other, whose tables have no expressions and which has no views
pub record IsSame (schema own : Schema) : Type 0 where
  pub same : schema ≡ own
  pub terms : AllByRecursion HasNoTerms own.tables
  pub views : own.views ≡ []

-- a table is told by its name, one of these or one of a bureau's own
abbrev pub IsTableOf : List Listed → List Listed → SchemaDifference → Type 0
IsTableOf tables own (Table name) = Contains (map (λ t. t.name) tables) name.items
IsTableOf tables own (Index name) = ⊥
IsTableOf tables own (View name) = ⊥
IsTableOf tables own (Lacks name) = Contains (map (λ t. t.name) own) name.items

-- an index is told by its name, one of these or one of a bureau's own
abbrev pub IsIndexOf : List Keyed → List Keyed → SchemaDifference → Type 0
IsIndexOf indexes own (Table name) = ⊥
IsIndexOf indexes own (Index name) = Contains (map (λ i. i.name) indexes) name.items
IsIndexOf indexes own (View name) = ⊥
IsIndexOf indexes own (Lacks name) = Contains (map (λ i. i.name) own) name.items

-- a view is told by its name, one of these
abbrev pub IsViewOf : List Kept → SchemaDifference → Type 0
IsViewOf views (Table name) = ⊥
IsViewOf views (Index name) = ⊥
IsViewOf views (View name) = Contains (map (λ v. v.name) views) name.items
IsViewOf views (Lacks name) = ⊥

-- what is told is a part of the schema, or one of a bureau's own that is not there
abbrev pub IsTold : Schema → Schema → SchemaDifference → Type 0
IsTold schema own it = IsTableOf schema.tables own.tables it
    ⊎ (IsIndexOf schema.indexes own.indexes it ⊎ IsViewOf schema.views it)
