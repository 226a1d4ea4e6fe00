-- Card 1: "?" would stand where the Rust resolves no name. What a file can name: its names by their numbers, and every predicate that is absent
-- or has one of its names.
use Rattle.std.specs.Prelude.{List, ◌++◌, ◌≡◌, ℕ, ◌<◌, length, None, Option, Some}
use Rattle.format.specs.Schema.{Predicate, get}
use Rattle.format.specs.File.{Form}
use Rattle.format.specs.All.{All}
use Rattle.meaning.specs.Messages.{message_text, text_in}
use Rattle.meaning.specs.Check.{Checked, typed, exhausted}
use Rattle.laws.specs.Over.{Language, language_of}

abbrev pub NamedBelow : ℕ → Option Predicate → Type 0
NamedBelow n None = Unit {0}
NamedBelow n (Some d) = d.name < n

abbrev pub of_file : Form → Language
of_file f = language_of (λ p. NamedBelow (length f.names) (get f.schema p)) (length f.names)

-- No message would show a name that stood after the file's names, so none shows "?" for want of it.
abbrev pub NoMark : Form → Checked → Type 0
NoMark f (typed t) = All (λ d. (more : List (List ℕ)) → text_in f d.message ≡ message_text (f.names ++ more) f.schema d.message) t.diagnostics
NoMark f exhausted = Unit {0}
