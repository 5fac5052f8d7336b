-- the lines of an attempt and of the fields at which it works
use Rattle.std.proofs.Common.{◌≡◌, ℕ, ◌==◌, if◌then◌else◌, List, [], ◌++◌, Some, codes, ap, ◌∙◌, append_assoc}
use Rattle.core_store.specs.Storage.{Storage}
use Rattle.run_traces.specs.Fields.{both_lines, field_shown, fields_lines}

-- the lines of two fields, as they were before and are after
two_lines : List ℕ → List ℕ → Storage → ℕ → ℕ → List ℕ
two_lines at_a at_b after a b = both_lines (codes "A ") at_a (field_shown after a)
    ++ (if a == b then [] else both_lines (codes "B ") at_b (field_shown after b))

pub shown : (start line middle text at_a at_b : List ℕ) (before after now : Storage) (a b : ℕ)
    → middle ≡ start ++ line → at_a ≡ field_shown before a → at_b ≡ field_shown before b → now ≡ after
    → text ≡ middle ++ (both_lines (codes "A ") at_a (field_shown now a)
    ++ (if a == b then [] else both_lines (codes "B ") at_b (field_shown now b)))
    → text ≡ start ++ (line ++ fields_lines before after (Some (a, b)))
unfolding two_lines fields_lines
shown start line middle text at_a at_b before after now a b first is_a is_b later same =
    same ∙ ap (λ t. t ++ two_lines at_a at_b now a b) first
    ∙ append_assoc start line (two_lines at_a at_b now a b)
    ∙ ap (λ t. start ++ (line ++ t))
    (ap (λ t. two_lines t at_b now a b) is_a ∙ ap (λ t. two_lines (field_shown before a) t now a b) is_b
    ∙ ap (λ s. two_lines (field_shown before a) (field_shown before b) s a b) later)
