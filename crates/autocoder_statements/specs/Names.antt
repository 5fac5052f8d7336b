-- names: labels, and the names that addresses begin with
use Rattle.std.specs.Prelude.{ℕ, ◌==◌, nat_le, Bool, not, ◌&&◌, ◌||◌, if◌then◌else◌, List, length, Option, Some, None, codes}
use Rattle.autocoder_statements.specs.Characters.{run, begins, begins_with_letter, with_blanks}
use Rattle.autocoder_statements.specs.declared.characters.Class.TheVariants.{LetterOrDigit}
use Rattle.autocoder_statements.specs.declared.names.Name.{Name}

-- the most letters and digits of a name in a source
abbrev pub longest_name : ℕ
longest_name = 6

-- how many letters and digits a text begins with
abbrev pub name_run : List ℕ → ℕ
name_run text = run LetterOrDigit text

-- whether a word is the name of an index location, X1, X2 or X3, and so not one that a label may
-- have
abbrev pub is_index_name : List ℕ → Bool
is_index_name word = (length word == 2)
    && (begins (codes "X1") word || (begins (codes "X2") word || begins (codes "X3") word))

-- whether a word is a name: one to six letters and digits, a letter first
abbrev pub is_name : List ℕ → Bool
is_name word = begins_with_letter word
    && ((name_run word == length word)
    && (nat_le (length word) longest_name && not (is_index_name word)))

-- the name that a word is, if it is one
unfoldable pub name_of : List ℕ → Option Name
name_of word =
    if is_name word then Some (record { characters = with_blanks longest_name word }) else None
