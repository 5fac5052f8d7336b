-- the film of a run
use Rattle.std.proofs.Common.{◌≡◌, ℕ, ◌+◌, ◌-◌, ◌≤◌, List, ◌++◌, length, length-set, sym, ap, ◌∙◌, arith}
use Rattle.std.specs.Prelude.{Option}
use Rattle.std.proofs.lemmas.List.{length-replicate}
use Rattle.cards.specs.declared.decks.Card.{Card}
use Rattle.core_store.specs.Storage.{blank_cell, blank_storage, positions_of, put_codes}
use Rattle.core_store.specs.declared.sizes.Size.{Size}
use Rattle.core_store.proofs.Fields.{length-put_codes}
use Rattle.units.specs.declared.profiles.Profile.TheVariants.{Selecting}
use Rattle.units.specs.declared.switches.Switches.{Switches}
use Rattle.machine.specs.Reports.{report_of}
use Rattle.machine.specs.Run.{State, after, attempts, first_card, loaded, most_instructions}
use Rattle.machine.specs.Standings.{standing_of}
use Rattle.machine.proofs.Attempts.{after_attempts}
use Rattle.machine.proofs.Steps.{after-after, attempts-add, stems_after, stems_same}
use Rattle.run_traces.specs.Names.{Named}
use Rattle.films.specs.Films.{IsFilm, begun, end_cause, ended, film_text, most_steps, passed_over, rest_of, steps_of, text_before}
use Rattle.films.specs.Steps.{change_lines, most_bytes}
use Rattle.films.specs.declared.films.Film.{Film}
use Rattle.films.specs.declared.films.FilmOptions.{FilmOptions}

pub is_film : (names : Option Named) (options : FilmOptions) (m x y z : State) (film : Film) (changes : List ℕ) (more : ℕ)
    → x ≡ after m (passed_over options) → y ≡ after x (most_steps options) → z ≡ after y (rest_of options)
    → film.made ≡ attempts m (passed_over options) → film.steps ≡ attempts x (most_steps options) → more ≡ attempts y (rest_of options)
    → changes ≡ change_lines names x film.steps → length changes ≤ most_bytes
    → film.text.items ≡ text_before names film.made x.works.units.hopper.taken y ++ changes
    → film.standing ≡ standing_of y → film.cause ≡ end_cause y → film.instructions ≡ film.made + film.steps + more → film.report ≡ report_of z
    → IsFilm names options m film
unfolding film_text
is_film names options m x y z film changes more is_x is_y is_z is_made is_steps is_more is_changes short is_text is_standing is_cause is_all is_report =
    let b = begun options m in
    let most = most_steps options in
    let p = passed_over options in
    let steps = steps_of options m in
    let whole : most + rest_of options ≡ most_instructions - p = omega arith in
    let all : p + (most_instructions - p) ≡ most_instructions = omega arith in
    let steps_is : film.steps ≡ steps = is_steps ∙ ap (λ (s : State). attempts s most) is_x in
    let y_at : y ≡ after b most = is_y ∙ ap (λ (s : State). after s most) is_x in
    let y_is : y ≡ ended options m = y_at ∙ sym (after_attempts b most) in
    let lines : changes ≡ change_lines names b steps = is_changes ∙ ap (λ (s : State). change_lines names s film.steps) is_x ∙ ap (change_lines names b) steps_is in
    record {
      text = is_text
          ∙ ap (λ n. text_before names n x.works.units.hopper.taken y ++ changes) is_made
          ∙ ap (λ (s : State). text_before names (attempts m p) s.works.units.hopper.taken y ++ changes) is_x
          ∙ ap (λ (s : State). text_before names (attempts m p) b.works.units.hopper.taken s ++ changes) y_is
          ∙ ap (λ text. text_before names (attempts m p) b.works.units.hopper.taken (ended options m) ++ text) lines;
      short = omega (arith, short, ap length lines);
      made = is_made;
      steps = steps_is;
      standing = is_standing ∙ ap standing_of y_is;
      cause = is_cause ∙ ap end_cause y_is;
      instructions = omega (arith, is_all, is_made, steps_is, is_more, ap (λ (s : State). attempts s (rest_of options)) y_at, attempts-add b most (rest_of options), ap (attempts b) whole, attempts-add m p (most_instructions - p), ap (attempts m) all);
      report = is_report ∙ ap report_of (is_z ∙ ap (λ (s : State). after s (rest_of options)) y_at ∙ after-after b most (rest_of options) ∙ ap (after b) whole ∙ after-after m p (most_instructions - p) ∙ ap (after m) all);
    }

-- the size of a storage after the load button and so many steps
pub positions_loaded : (deck : List Card) (size : Size) (switches : Switches) (count : ℕ) (x : State) → x ≡ after (loaded deck size switches Selecting) count
    → positions_of size ≡ length x.works.storage
positions_loaded deck size switches count x is =
    let m = loaded deck size switches Selecting in
    let s = put_codes (blank_storage (positions_of size)) 1 (first_card deck) in
    sym (ap (λ (y : State). length y.works.storage) is ∙ (stems_after m m count (stems_same m)).size ∙ length-set s 1 _ ∙ length-put_codes (blank_storage (positions_of size)) 1 (first_card deck) ∙ length-replicate (positions_of size) blank_cell)

pub size_loaded : (deck : List Card) (size : Size) (switches : Switches) (count : ℕ) (x : State) → x ≡ after (loaded deck size switches Selecting) count
    → blank_storage (positions_of size) ≡ blank_storage (length x.works.storage)
size_loaded deck size switches count x is = ap blank_storage (positions_loaded deck size switches count x is)
