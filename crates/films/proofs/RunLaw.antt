-- the film of a deck's run is read as the frames of its machine
use Rattle.std.proofs.Common.{◌≡◌, ℕ, ◌+◌, ◌<◌, ◌≤◌, List, length, take, refl, sym, ap, ◌∙◌, arith, subst}
use Rattle.std.specs.Prelude.{Option}
use Rattle.std.specs.List.{All}
use Rattle.cards.specs.Decks.{largest_deck}
use Rattle.cards.specs.declared.decks.Card.{Card}
use Rattle.core_store.specs.Storage.{positions_of}
use Rattle.core_store.specs.declared.sizes.Size.{Size}
use Rattle.units.specs.declared.profiles.Profile.TheVariants.{Selecting}
use Rattle.units.specs.declared.switches.Switches.{Switches}
use Rattle.machine.specs.Run.{State, after, attempts, loaded}
use Rattle.machine.proofs.InRange.{after_in_range, loaded_in_range}
use Rattle.machine.proofs.Steps.{after-after, stems_after, stems_same}
use Rattle.run_traces.specs.Names.{Named}
use Rattle.films.specs.Changes.{all_played}
use Rattle.films.specs.Films.{IsFilm, begun, film_text, passed_over}
use Rattle.films.specs.Frames.{cards_before, frame_of, lines_before, nothing}
use Rattle.films.specs.Laws.{IsReadable, Shows}
use Rattle.films.specs.Reading.{changes_read}
use Rattle.films.specs.declared.films.Film.{Film}
use Rattle.films.specs.declared.films.FilmOptions.{FilmOptions}
use Rattle.films.proofs.FilmLaw.{film_again}
use Rattle.films.proofs.FilmLemmas.{positions_loaded}

-- a machine after so many steps from the load button can be read
readable : (deck : List Card) (size : Size) (switches : Switches) (count : ℕ) → 0 < length deck → length deck ≤ largest_deck
    → All (λ cell. cell.0 < 64) (after (loaded deck size switches Selecting) count).works.storage → IsReadable (after (loaded deck size switches Selecting) count)
readable deck size switches count some few characters =
    let m = loaded deck size switches Selecting in
    record {
      range = after_in_range m count (loaded_in_range deck size switches Selecting some);
      few = omega (arith, few, ap length (stems_after m m count (stems_same m)).deck);
      characters = characters;
    }

pub run_again : (names : Option Named) (deck : List Card) (size : Size) (switches : Switches) (made before steps n : ℕ) → 0 < length deck → length deck ≤ largest_deck
    → ((k : ℕ) → k ≤ before + steps → All (λ cell. cell.0 < 64) (after (loaded deck size switches Selecting) k).works.storage) → n ≤ steps
    → all_played (nothing (positions_of size)) (take (n + 1) (changes_read (film_text names made (after (loaded deck size switches Selecting) before) steps)))
    ≡ frame_of (lines_before (after (loaded deck size switches Selecting) before)) (cards_before (after (loaded deck size switches Selecting) before)) (after (loaded deck size switches Selecting) (before + n))
run_again names deck size switches made before steps n some few characters within =
    let m = loaded deck size switches Selecting in
    let x = after m before in
    let can : (k : ℕ) → k ≤ steps → IsReadable (after x k) = λ k few_steps. subst IsReadable (sym (after-after m before k)) (readable deck size switches (before + k) some few (characters (before + k) (omega arith))) in
    ap (λ positions. all_played (nothing positions) (take (n + 1) (changes_read (film_text names made x steps)))) (positions_loaded deck size switches before x refl)
    ∙ film_again names made x steps can n within
    ∙ ap (frame_of (lines_before x) (cards_before x)) (after-after m before n)

-- the film of a run shows it, where each storage that it shows has one of the 64 characters at each position
pub run_shown : (names : Option Named) (deck : List Card) (size : Size) (switches : Switches) (options : FilmOptions) (x : State) (film : Film) → 0 < length deck → length deck ≤ largest_deck
    → x ≡ after (loaded deck size switches Selecting) (passed_over options) → ((k : ℕ) → k ≤ film.steps → All (λ cell. cell.0 < 64) (after x k).works.storage)
    → IsFilm names options (loaded deck size switches Selecting) film → Shows film.text.items (begun options (loaded deck size switches Selecting)) film.steps
run_shown names deck size switches options x film some few is_x characters is =
    let m = loaded deck size switches Selecting in
    let b = begun options m in
    let p = passed_over options in
    let at = λ (k : ℕ) (within : k ≤ film.steps).
    subst (λ (s : State). All (λ cell. cell.0 < 64) s.works.storage) (ap (λ (s : State). after s k) is_x ∙ after-after m p k) (characters k within) in
    let can : (k : ℕ) → k ≤ film.steps → IsReadable (after b k) = λ k within. subst IsReadable (sym (after-after m p k)) (readable deck size switches (p + k) some few (at k within)) in
    subst (λ text. Shows text b film.steps) (sym (is.text ∙ ap (film_text names (attempts m p) b) (sym is.steps))) (film_again names (attempts m p) b film.steps can)
