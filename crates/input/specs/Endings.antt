-- What a program is asked, and how it ends.
use Rattle.std.specs.Prelude.{ℕ, ◌≡◌, ◌≤◌, ◌++◌, List, [], Bool, true, ◌==◌, if◌then◌else◌, ◌&&◌, bytes_eq, Option, Some, None, Result, Ok, Err, ⊤, codes}
use Rattle.input.specs.declared.requests.TheConstants.{VERSION}
use Rattle.input.specs.declared.Failure.{Failure}
use Rattle.input.specs.declared.requests.Request.{Request}
use Rattle.input.specs.declared.requests.About.{About}
use Rattle.input.specs.declared.requests.Page.{Page}

-- whether a program that takes so many words takes these many
abbrev pub fits : Option ℕ → ℕ → Bool
fits None words = true
fits (Some n) words = words == n

-- what is asked by the first word of so many: about the program where it is the only one, by its two names
abbrev pub asked_of : List ℕ → ℕ → Option ℕ → Request
asked_of first words takes =
    if (words == 1) && bytes_eq first (codes "--help") then Request.About About.Help
    else (if (words == 1) && bytes_eq first (codes "--version") then Request.About About.Version
    else (if fits takes words then Request.Answer else Request.About About.Usage))

-- the exit status: 0 where nothing failed, 1 where reading or writing did
abbrev pub status_of : Result ⊤ Failure → ℕ
status_of (Ok u) = 0
status_of (Err e) = 1

-- the exit status of a program that is asked about itself: 2 where it is called with other words than it takes
abbrev pub Ends : About → ℕ → Type 0
Ends About.Usage status = status ≡ 2
Ends about status = status ≤ 1

-- the name, and the version of all that the repository builds
abbrev pub version_line : List ℕ → List ℕ
version_line name = name ++ codes " " ++ VERSION.now ++ codes "\n"

-- what it prints then
abbrev pub text_about : Page → About → List ℕ
text_about page About.Help = page.help.now
text_about page About.Version = version_line page.name.now
text_about page About.Usage = []

-- what it prints for a file, where it is asked to answer it by these lines
abbrev pub asked_lines : Page → Request → (List ℕ → List ℕ) → List ℕ → List ℕ
asked_lines page Request.Answer lines f = lines f
asked_lines page (Request.About about) lines f = text_about page about

-- the exit status of a program that reads and writes: its answer is whole, or something failed
abbrev pub EndsBy : Request → ℕ → Type 0
EndsBy Request.Answer status = status ≤ 1
EndsBy (Request.About about) status = Ends about status
