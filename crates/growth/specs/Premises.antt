-- Card 14: the premises, and which of them is told. "If the new file differs only by added names, types and predicates,
-- each after all old ones of its kind, and no predicate number named in the old file was absent there, an old query
-- accepted before gets the same answer, byte for byte. Both files are past refusals 1 to 10 and 13." What a file holds
-- is `content` of crates/format/specs/Content.antt; `Grown` and `NoAbsent` are of crates/laws/specs/Growth.antt.
use Rattle.std.specs.Prelude.{List, [], ◌∷◌, ◌⊎◌, ◌≡◌, ℕ, ◌≤◌}
use Rattle.format.specs.Frame.{wide}
use Rattle.format.specs.File.{Form}
use Rattle.format.specs.Content.{Content, Says}
use Rattle.meaning.specs.Outcome.{min_words}
use Rattle.laws.specs.Growth.{Grown, NoAbsent}

-- Past 1, which is of the work slice alone, and past 2 to 10 and 13 (`says_exactly` in
-- crates/format/proofs/Content.antt).
pub record Past (words : ℕ) (file : List ℕ) : Type 0 where
  pub enough : min_words ≤ words
  pub form : Form
  pub says : Says wide file form

abbrev pub content_of : {words : ℕ} {file : List ℕ} → Past words file → Content
content_of p = p.says.content

-- "only such additions"
pub record OnlyAdded (words : ℕ) (old new : List ℕ) : Type 0 where
  pub past_old : Past words old
  pub past_new : Past words new
  pub grown : Grown (content_of past_old) (content_of past_new)

-- "no absent predicate", in a type or in a node, used or not
pub record NamesNoAbsent (words : ℕ) (old : List ℕ) : Type 0 where
  pub past_old : Past words old
  pub no_absent : NoAbsent (content_of past_old)

-- "prints the line 00 if the premises hold, else the first that fails: 01 the old file past those refusals, 02 the new
-- one past them, 03 only such additions, 04 no absent predicate"
pub record Premise : Type 1 where
  pub number : ℕ
  pub holds : Type 0

abbrev pub premises : ℕ → List ℕ → List ℕ → List Premise
premises words old new =
    record { number = 1; holds = Past words old } ∷
    record { number = 2; holds = Past words new } ∷
    record { number = 3; holds = OnlyAdded words old new } ∷
    record { number = 4; holds = NamesNoAbsent words old } ∷
    []

abbrev pub FirstFailing : List Premise → ℕ → Type 0
FirstFailing [] n = n ≡ 0
FirstFailing (p ∷ ps) n = ((p.holds → ⊥) × (n ≡ p.number)) ⊎ (p.holds × FirstFailing ps n)
