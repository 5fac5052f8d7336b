-- what the bureau's replies say, as JSON
use Rattle.std.specs.Prelude.{ℕ, ◌≡◌, ◌&&◌, Bool, List, [], ◌∷◌, Option, Some, None, IfSome, if◌then◌else◌, nat_le, option_and_then, option_map, codes}
use Rattle.std.specs.Str.{IsUtf8}
use Rattle.serde_json.specs.Data.{Data, Items, no_items, item}
use Rattle.serde_json.specs.Find.{get, as_array, as_bool, as_number, as_str, as_u64}
use Rattle.serde_json.specs.Read.{read as read_text}
use Rattle.queue_rounds.specs.Names.{Name}
use Rattle.queue_rounds.specs.StandingTexts.{is_standing}
use Rattle.texts.specs.Names.{is_customer, is_number}

-- a number, if it has 32 bits
abbrev pub word_of : ℕ → Option ℕ
word_of number = if nat_le number 4294967295 then Some number else None

-- the number of a member, if it has 32 bits
abbrev pub number_at : List ℕ → Data → Option ℕ
number_at name value = option_and_then word_of
    (option_and_then as_u64 (option_and_then as_number (get name value)))

-- the text of a member
abbrev pub text_at : List ℕ → Data → Option (List ℕ)
text_at name value = option_and_then as_str (get name value)

-- a text, if it is what a bureau prints of a standing
abbrev pub standing_of : List ℕ → Option (List ℕ)
standing_of text = if is_standing text then Some text else None

-- the text of a standing that a value tells
abbrev pub standing_at : Data → Option (List ℕ)
standing_at value = option_and_then standing_of (text_at (codes "standing") value)

-- the name of a customer and a number, if a bureau's job can have them
abbrev pub name_with : List ℕ → ℕ → Option Name
name_with customer number =
    if is_customer customer && is_number number then Some (customer, number) else None

-- the name of the job that an item of a queue tells
abbrev pub name_in : Data → Option Name
name_in value = option_and_then
    (λ customer. option_and_then (name_with customer) (number_at (codes "number") value))
    (text_at (codes "customer") value)

-- what a rule reads of each of these items, if it reads something of each
unfoldable pub each_in : {X : Type 0} → (Data → Option X) → Items → Option (List X)
each_in rule no_items = Some []
each_in rule (item value rest) = option_and_then
    (λ found. option_map (λ more. found ∷ more) (each_in rule rest)) (rule value)

-- the jobs of the queue that a value is
abbrev pub queue_in : Data → Option (List Name)
queue_in value =
    option_and_then (each_in name_in) (option_and_then as_array (get (codes "queue") value))

-- a number, if a bureau's job can have it
abbrev pub numbered : ℕ → Option ℕ
numbered number = if is_number number then Some number else None

-- the number of the job that an item of a customer's jobs tells
abbrev pub job_number_in : Data → Option ℕ
job_number_in value = option_and_then numbered (number_at (codes "number") value)

-- the numbers of the customer's jobs that a value is
abbrev pub jobs_in : Data → Option (List ℕ)
jobs_in value =
    option_and_then (each_in job_number_in) (option_and_then as_array (get (codes "jobs") value))

-- the instructions that a slice executed, and how its job stands then
abbrev pub ran_in : Data → Option (ℕ × List ℕ)
ran_in value = option_and_then
    (λ executed. option_map (λ standing. (executed, standing)) (standing_at value))
    (number_at (codes "executed") value)

-- the number of a refusal
abbrev pub refusal_in : Data → Option ℕ
refusal_in value = number_at (codes "refusal") value

-- whether a member says true
abbrev pub flag_at : List ℕ → Data → Option Bool
flag_at name value = option_and_then as_bool (get name value)

-- how a job stands: its standing, whether it is held and collected, and how many instructions it
-- was granted, cards it punched and lines it printed
pub record Stands : Type 0 where
  pub standing : List ℕ
  pub held : Bool
  pub collected : Bool
  pub granted : ℕ
  pub cards : ℕ
  pub lines : ℕ

-- the standing that a value tells
abbrev pub standing_in : Data → Option Stands
standing_in value =
    option_and_then (λ standing. option_and_then (λ held. option_and_then (λ collected.
    option_and_then (λ granted. option_and_then (λ cards. option_map (λ lines. record {
      standing = standing;
      held = held;
      collected = collected;
      granted = granted;
      cards = cards;
      lines = lines;
    }) (number_at (codes "lines") value)) (number_at (codes "cards") value))
    (number_at (codes "granted") value)) (flag_at (codes "collected") value))
    (flag_at (codes "held") value)) (standing_at value)

-- what a body tells by a rule is this, and nothing if it is no text or no JSON
pub record Tells {X : Type 0} (rule : Data → Option X) (body : List ℕ) (it : Option X)
    : Type 0 where
  pub is_text : IfSome it (λ found. IsUtf8 body)
  pub is_told : IsUtf8 body → it ≡ option_and_then rule (read_text body)
