-- Clap reads a plain argument as a value, wherever it stands, and so as it reads any argument after
-- `--`.
use Rattle.std.proofs.Common.{◌≡◌, ◌∙◌, ◌==◌, ◌||◌, ℕ, Bool, List, [], ◌∷◌, true, false, refl, Some, None, not, ap, ap₂, sym, if◌then◌else◌}
use Rattle.std.specs.Prelude.{Option, fold}
use Rattle.std.specs.Str.{bytes_eq}
use Rattle.std.specs.Option.{option_map_or}
use Rattle.std.proofs.lemmas.List.Elements.{All-head, All-tail}
use Rattle.clap.specs.Lexer.{long_of, short_of}
use Rattle.clap.specs.Walk.{Held, Rule, Text, Walk, arg_by_index, idle, is_multiple, next_position, positional, positional_held, to_positional, walked}
use Rattle.clap.specs.Simple.{Shape}
use Rattle.clap.specs.Faults.{positional_fault, stray_fault, turn_fault, walk_fault}
use Rattle.clap.specs.Kinds.{Kinds, or_else}
use Rattle.command_line.specs.Plain.{ArePlain, is_plain}

-- clap stands before a value, after `--` where `is_trailing`
abbrev pub at : Bool → Bool → ℕ → Held → Walk
at is_several is_trailing position h = record {
  held = h;
  waiting = if is_several then positional else idle;
  position = position;
  is_trailing = is_trailing;
  stopped = None;
}

-- clap reads the argument as a value
pub record IsValue (w : Text) : Type 0 where
  pub dashes : bytes_eq w (45 ∷ 45 ∷ []) ≡ false
  pub long : long_of w ≡ None
  pub short : short_of w ≡ None

not_true : (b : Bool) → not b ≡ true → b ≡ false
not_true true e = sym e
not_true false e = refl

pub plain_value : (w : Text) → is_plain w ≡ true → IsValue w
plain_value [] e = record { dashes = refl; long = refl; short = refl }
plain_value (x ∷ []) e = go (x == 45) refl
  where
    go : (b : Bool) → (x == 45) ≡ b → IsValue (x ∷ [])
    go false f = record { dashes = rw f refl; long = rw f refl; short = rw f refl }
    go true f = record { dashes = rw f refl; long = rw f refl; short = rw f refl }
plain_value (x ∷ y ∷ ys) e =
    let f : (x == 45) ≡ false = not_true (x == 45) e in record { dashes = rw f refl; long = rw f refl; short = rw f refl }

pub plain_head : (w : Text) (ws : List Text) → ArePlain (w ∷ ws) → IsValue w
plain_head w ws plain = plain_value w (All-head (λ x. is_plain x ≡ true) w ws plain)

pub plain_tail : (w : Text) (ws : List Text) → ArePlain (w ∷ ws) → ArePlain ws
plain_tail w ws plain = All-tail (λ x. is_plain x ≡ true) w ws plain

-- ---- one value

walked_value : (c : List Rule) (m t : Bool) (p : ℕ) (h : Held) (w : Text) → IsValue w
    → walked c [] (at m t p h) w ≡ to_positional c (arg_by_index c p) w (at m t p h) h
unfolding walked
walked_value c m true p h w v = refl
walked_value c true false p h w v = rw v.dashes (rw v.long (rw v.short refl))
walked_value c false false p h w v = rw v.dashes (rw v.long (rw v.short refl))

turn_value : (s : Shape) (m t : Bool) (p : ℕ) (h : Held) (w : Text) → IsValue w
    → turn_fault s [] (at m t p h) w ≡ option_map_or (λ a. positional_fault s.rules s.args_override_self a h) (arg_by_index s.rules p) (stray_fault s)
turn_value s m true p h w v = refl
turn_value s true false p h w v = rw v.dashes (rw v.long (rw v.short refl))
turn_value s false false p h w v = rw v.dashes (rw v.long (rw v.short refl))

-- ---- all values

-- what clap holds after these arguments
abbrev pub held_by : List Rule → List Text → Walk → Held
held_by c arguments w = (fold (walked c []) w arguments).held

held_next : (c : List Rule) (m t : Bool) (p : ℕ) (h : Held) (o : Option Rule) (w : Text) (ws : List Text)
    → ((m t : Bool) (p : ℕ) (h : Held) → held_by c ws (at m t p h) ≡ held_by c ws (at m true p h))
    → held_by c ws (to_positional c o w (at m t p h) h) ≡ held_by c ws (to_positional c o w (at m true p h) h)
held_next c m t p h None w ws same = same m t p h
held_next c m t p h (Some a) w ws same = same (is_multiple a) (t || a.trailing_var_arg) (next_position a p) (positional_held c a w h)

-- plain arguments are held as the same arguments after `--` are
pub same_held : (c : List Rule) (m t : Bool) (p : ℕ) (h : Held) (ws : List Text) → ArePlain ws
    → held_by c ws (at m t p h) ≡ held_by c ws (at m true p h)
same_held c m t p h [] plain = refl
same_held c m t p h (w ∷ ws) plain =
    let v = plain_head w ws plain in
    ap (held_by c ws) (walked_value c m t p h w v)
    ∙ (held_next c m t p h (arg_by_index c p) w ws (λ m t p h. same_held c m t p h ws (plain_tail w ws plain))
    ∙ sym (ap (held_by c ws) (walked_value c m true p h w v)))

-- the faults of these arguments
abbrev faults_by : Shape → List Text → Walk → Kinds
faults_by s arguments w = walk_fault s [] w arguments

faults_next : (s : Shape) (m t : Bool) (p : ℕ) (h : Held) (o : Option Rule) (w : Text) (ws : List Text)
    → ((m t : Bool) (p : ℕ) (h : Held) → faults_by s ws (at m t p h) ≡ faults_by s ws (at m true p h))
    → faults_by s ws (to_positional s.rules o w (at m t p h) h) ≡ faults_by s ws (to_positional s.rules o w (at m true p h) h)
faults_next s m t p h None w ws same = same m t p h
faults_next s m t p h (Some a) w ws same = same (is_multiple a) (t || a.trailing_var_arg) (next_position a p) (positional_held s.rules a w h)

-- plain arguments have the faults that the same arguments after `--` have
pub same_faults : (s : Shape) (m t : Bool) (p : ℕ) (h : Held) (ws : List Text) → ArePlain ws
    → walk_fault s [] (at m t p h) ws ≡ walk_fault s [] (at m true p h) ws
unfolding walk_fault
same_faults s m t p h [] plain = refl
same_faults s m t p h (w ∷ ws) plain =
    let v = plain_head w ws plain in
    ap₂ or_else (turn_value s m t p h w v ∙ sym (turn_value s m true p h w v))
    (ap (faults_by s ws) (walked_value s.rules m t p h w v)
    ∙ (faults_next s m t p h (arg_by_index s.rules p) w ws (λ m t p h. same_faults s m t p h ws (plain_tail w ws plain))
    ∙ sym (ap (faults_by s ws) (walked_value s.rules m true p h w v))))

-- the first of two steps is without fault where both are
pub or_else_none : (k l : Kinds) → or_else k l ≡ [] → k ≡ []
or_else_none [] l e = refl
or_else_none (x ∷ xs) l e = e
