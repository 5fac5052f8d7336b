-- the page of a film
use Rattle.std.specs.Prelude.{ℕ, ◌+◌, ◌==◌, if◌then◌else◌, List, ◌++◌, codes, decimal}
use Rattle.core_store.specs.declared.sizes.Size.{Size}
use Rattle.core_store.specs.Storage.{positions_of}
use Rattle.units.specs.declared.switches.Switches.{Switches}
use Rattle.machine.specs.Reports.{report_words}
use Rattle.machine.specs.Standings.{standing_words}
use Rattle.texts.specs.Switches as switches
use Rattle.run_traces.specs.Causes.{cause_shown}
use Rattle.pictures.specs.Decks.{stock_definition}
use Rattle.pictures.specs.Escapes.{escaped}
use Rattle.pictures.specs.Heads.{page_head, page_heading}
use Rattle.pictures.specs.declared.styles.TheConstants.{CARD_STYLE}
use Rattle.films.specs.declared.bodies.TheConstants.{FILM_BODY}
use Rattle.films.specs.declared.films.Film.{Film}
use Rattle.films.specs.declared.pages.Subject.{Subject}
use Rattle.films.specs.declared.scripts.TheConstants.{FILM_SCRIPT}
use Rattle.films.specs.declared.styles.TheConstants.{FILM_STYLE}

-- the head of the page, with its title
abbrev pub film_head : List ℕ → List ℕ
film_head title = page_head title ++ codes "<style>" ++ FILM_STYLE.now ++ CARD_STYLE.now
    ++ (codes "</style><noscript><style>#film{display:block!important}"
    ++ codes "#keys,main{display:none}</style></noscript>\n")

-- what was run: the name of the deck, and the machine
abbrev pub machine_fact : List ℕ → Size → Switches → List ℕ
machine_fact deck size on = escaped deck ++ codes ", storage " ++ decimal (positions_of size)
    ++ codes ", switches " ++ switches.text_of on

-- which instructions of a run a film has that begins after so many and has so many steps
abbrev pub steps_fact : ℕ → ℕ → List ℕ
steps_fact made steps = if steps == 0 then codes ". No instruction of "
    else codes ". Instructions " ++ decimal (made + 1) ++ codes " to " ++ decimal (made + steps)
    ++ codes " of "

-- how many instructions the run has, and how it ended
abbrev pub run_fact : Film → List ℕ
run_fact film = decimal film.instructions ++ codes "; the run: " ++ report_words film.report

-- how the film ends: the machine's standing, and the cause if that is a check
abbrev pub end_fact : Film → List ℕ
end_fact film = escaped (standing_words film.standing ++ cause_shown film.cause)

-- the header of the page
abbrev pub page_header : Subject → Film → List ℕ
page_header subject film = codes "<header>" ++ page_heading subject.title.now ++ codes "<p>"
    ++ machine_fact subject.deck.now subject.size subject.switches
    ++ steps_fact film.made film.steps ++ run_fact film ++ codes "</p><p id=ended hidden>"
    ++ end_fact film ++ codes "</p></header>\n"

-- the text of the film, and the script that shows it
abbrev pub film_part : List ℕ → List ℕ
film_part text = codes "<pre id=film hidden>\n" ++ text ++ codes "</pre>\n<script>\n"
    ++ FILM_SCRIPT.now ++ codes "</script></html>\n"

-- the page of a film
abbrev pub page_of : Subject → Film → List ℕ
page_of subject film = film_head subject.title.now ++ page_header subject film ++ FILM_BODY.now
    ++ stock_definition ++ film_part film.text.items
