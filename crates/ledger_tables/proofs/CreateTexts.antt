-- What the text of a CREATE TABLE is under any schema.
use Rattle.std.proofs.Common.{inl, inr, ◌≡◌, ◌+◌, ◌*◌, ◌^◌, ◌<◌, ℕ, List, [], length, Bool, true, false, if◌then◌else◌, codes, slice_range, Option, None, Ok, Err, Result, is_some, refl, sym, ap, ◌∙◌, arith}
use Rattle.std.specs.Option.{option_or}
use Rattle.std.proofs.lemmas.Bool.{cases_Bool}
use Rattle.sqlite.specs.Schema.{Schema}
use Rattle.sqlite.specs.Table.{Table}
use Rattle.sqlite.specs.Command.{Command}
use Rattle.sqlite.specs.Command.TheVariants.{CreateTable, Nothing}
use Rattle.sqlite.specs.Compile.{first, compiled, creates, is_attached, is_reserved, table_defined_by}
use Rattle.sqlite.specs.Does.{sequence_text}
use Rattle.sqlite.specs.Listing.{understood, reads_listing, if_select, is_select, listing_schema}
use Rattle.sqlite.specs.State.{text_of}
use Rattle.sqlite_tied.specs.Compute.{everything}
use Rattle.sqlite_resolve.specs.declared.compiled.Compiled.{Compiled}
use Rattle.sqlite_resolve.specs.declared.error.CompileError.{CompileError}
use Rattle.sqlite_resolve.specs.declared.error.CompileError.TheVariants.{Misuse, Exists, Unsupported}
use Rattle.sqlite_resolve.specs.Lowering.{Checked, and_then}
use Rattle.sqlite_schema.specs.declared.command.Returning.{Returning}
use Rattle.sqlite_schema.specs.Names.{table_named, index_named, view_named}
use Rattle.ledger_tables.proofs.Texts.{create_bureau, create_jobs, create_stretches, create_pictures, create_cards, create_lines, create_states, create_pages, create_profiles, create_pockets}

-- a part that gave something gave it through what it stands on
pub given : {A B : Type 0} (x : Checked A) (f : A → Checked B) (b : B) → and_then x f ≡ Ok b → (a : A) × (x ≡ Ok a) × (f a ≡ Ok b)
given (Ok a) f b h = (a, refl, h)
given (Err e) f b h = absurd (let no = h in cc)

otherwise : {A : Type 0} (test : Bool) (e : CompileError) (x : Checked A) (a : A) → (if test then Err e else x) ≡ Ok a → x ≡ Ok a
otherwise true e x a h = absurd (let no = h in cc)
otherwise false e x a h = h

always_new : (found : Bool) (new : Bool) → (if found then Err Exists else Ok true) ≡ Ok new → new ≡ true
always_new true new h = absurd (let no = h in cc)
always_new false new h = let same = h in cc

new_only : (name : List ℕ) (same other : Option ℕ) (new : Bool) → creates false name same other ≡ Ok new → new ≡ true
unfolding creates
new_only name same other new h =
    let a = otherwise (is_reserved name) Misuse _ new h in
    let b = otherwise (is_some other) Exists _ new a in
    always_new (is_some same) new b

-- the command of a CREATE TABLE of this name with no IF NOT EXISTS
abbrev makes : Schema → List ℕ → Checked Command
makes schema name =
    if is_attached schema name then Err Unsupported else
    and_then (creates false name (option_or (table_named schema name) (view_named schema name)) (index_named schema name)) (λ is_new. if is_new then Ok CreateTable else Ok Nothing)

makes_only : (schema : Schema) (name : List ℕ) (k : Command) → makes schema name ≡ Ok k → k ≡ CreateTable
makes_only schema name k h =
    let a = otherwise (is_attached schema name) Unsupported _ k h in
    let b = given _ _ k a in
    let new = new_only name _ _ b.0 b.1 in
    let same = rw new at b.2 in cc

abbrev pub Plan : Type 0
Plan = List (List ℕ) × (Command × Option Returning)

abbrev plans : Schema → List ℕ → Checked Plan
plans schema name = and_then (and_then (makes schema name) (λ c. Ok (c, None))) (λ found. Ok ([], found))

plans_only : (schema : Schema) (name : List ℕ) (plan : Plan) → plans schema name ≡ Ok plan → (plan.0 ≡ []) × (plan.1.0 ≡ CreateTable) × (plan.1.1 ≡ None)
plans_only schema name plan h =
    let a = given _ _ plan h in
    let b = given _ _ a.0 a.1 in
    let made = makes_only schema name b.0 b.1 in
    let first : a.0 ≡ (b.0, None) = let same = b.2 in cc in
    let last : ([], a.0) ≡ plan = let same = a.2 in cc in
    (sym (ap (λ (p : Plan). p.0) last), sym (ap (λ (p : Plan). p.1.0) last) ∙ ap (λ (p : Command × Option Returning). p.0) first ∙ made, sym (ap (λ (p : Plan). p.1.1) last) ∙ ap (λ (p : Command × Option Returning). p.1) first)

abbrev pub with_plan : List ℕ → Plan → Compiled
with_plan sql plan = record { command = plan.1.0; returning = plan.1.1; names = []; formats = plan.0; start = 0; end = length sql; tail = length sql }

-- the whole text is a CREATE TABLE of this name with no IF NOT EXISTS
abbrev pub IsCreation : List ℕ → List ℕ → Type 0
IsCreation sql name = (schema : Schema) → compiled schema sql ≡ and_then (plans schema name) (λ plan. Ok (with_plan sql plan))

-- what a schema makes of the text, where it is not refused
pub record Creation (sql : List ℕ) (c : Compiled) : Type 0 where
  pub command : c.command ≡ CreateTable
  pub returning : c.returning ≡ None
  pub formats : c.formats ≡ []
  pub text : text_of sql c ≡ sql

module _ (sql : List ℕ) (name : List ℕ) (is : IsCreation sql name) (whole : slice_range sql 0 (length sql) ≡ sql) where
  compiled_only : (schema : Schema) (c : Compiled) → compiled schema sql ≡ Ok c → Creation sql c
  compiled_only schema c h =
      let plan = given _ _ c (sym (is schema) ∙ h) in
      let did = plans_only schema name plan.0 plan.1 in
      let same : with_plan sql plan.0 ≡ c = let e = plan.2 in cc in
      record {
        command = sym (ap (λ (k : Compiled). k.command) same) ∙ did.1;
        returning = sym (ap (λ (k : Compiled). k.returning) same) ∙ did.2;
        formats = sym (ap (λ (k : Compiled). k.formats) same) ∙ did.0;
        text = sym (ap (text_of sql) same) ∙ whole;
      }

  chosen_only : (r : Checked Compiled) (c : Compiled) → ((c : Compiled) → r ≡ Ok c → Creation sql c) → if_select r ≡ Ok c → Creation sql c
  chosen_only (Ok k) c each h = elim (cases_Bool (is_select k.command)) [
    | inl yes_it ↦ let e = rw yes_it at h in each c e
    | inr not_it ↦ absurd (let no = rw not_it at h in cc)
  ]
  chosen_only (Err e) c each h = absurd (let no = h in cc)

  pub only_creates : (schema : Schema) (c : Compiled) → understood schema sql ≡ Ok c → Creation sql c
  unfolding understood
  only_creates schema c h = elim (cases_Bool (reads_listing schema sql)) [
    | inl listed ↦ chosen_only (compiled listing_schema sql) c (compiled_only listing_schema) (rw listed at h)
    | inr unlisted ↦ compiled_only schema c (rw unlisted at h)
  ]

-- a text and a name that are nowhere near a billion bytes
abbrev pub IsShort : List ℕ → Result Table CompileError → Type 0
IsShort sql (Ok table) = 2 * length table.name + length sql + 200 < 10 ^ 9
IsShort sql (Err e) = ⊥

-- the text is such a statement, and short
pub record IsText (sql : List ℕ) (name : List ℕ) : Type 0 where
  pub creates : IsCreation sql name
  pub whole : slice_range sql 0 (length sql) ≡ sql
  pub short : IsShort sql (table_defined_by sql)

pub bureau_text : IsText create_bureau (codes "bureau")
unfolding first everything
bureau_text = record { creates = λ schema. refl; whole = refl; short = omega arith }

pub jobs_text : IsText create_jobs (codes "jobs")
unfolding first everything
jobs_text = record { creates = λ schema. refl; whole = refl; short = omega arith }

pub stretches_text : IsText create_stretches (codes "stretches")
unfolding first everything
stretches_text = record { creates = λ schema. refl; whole = refl; short = omega arith }

pub pictures_text : IsText create_pictures (codes "pictures")
unfolding first everything
pictures_text = record { creates = λ schema. refl; whole = refl; short = omega arith }

pub cards_text : IsText create_cards (codes "cards")
unfolding first everything
cards_text = record { creates = λ schema. refl; whole = refl; short = omega arith }

pub lines_text : IsText create_lines (codes "lines")
unfolding first everything
lines_text = record { creates = λ schema. refl; whole = refl; short = omega arith }

pub states_text : IsText create_states (codes "states")
unfolding first everything
states_text = record { creates = λ schema. refl; whole = refl; short = omega arith }

pub pages_text : IsText create_pages (codes "pages")
unfolding first everything
pages_text = record { creates = λ schema. refl; whole = refl; short = omega arith }

pub profiles_text : IsText create_profiles (codes "profiles")
unfolding first everything
profiles_text = record { creates = λ schema. refl; whole = refl; short = omega arith }

pub pockets_text : IsText create_pockets (codes "pockets")
unfolding first everything
pockets_text = record { creates = λ schema. refl; whole = refl; short = omega arith }

pub sequence_short : IsShort sequence_text (table_defined_by sequence_text)
unfolding first everything
sequence_short = omega arith
