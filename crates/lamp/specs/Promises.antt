-- What the functions of src/ promise: the call is the one of meaning/specs/Lamp.antt, for every file and every work slice, and it makes the
-- visits of that definition's runs, no more.
use Rattle.std.specs.Prelude.{List, [], ◌∷◌, ◌≡◌, ℕ, ◌-◌, ◌≤◌, length, replicate, Bool, Err, Ok, Result, false, true}
use Rattle.unification.specs.Ty as Tree
use Rattle.cells.specs.Stands.{Rows}
use Rattle.meaning.specs.Diag.{Diagnostic}
use Rattle.format.specs.Refusal.{number}
use Rattle.format.specs.Bytes.{hex_line}
use Rattle.format.specs.File.{Described, Form, described, reading}
use Rattle.format.specs.Sound.{Sound}
use Rattle.meaning.specs.Check.{Step, goes, out}
use Rattle.meaning.specs.Outcome.{min_words, max_visits}
use Rattle.meaning.specs.Lamp as Defined
use Rattle.meaning.specs.Lamp.{lit_run, lamp_all, visits_all, lamp, lamp_visits}
use Rattle.tree.specs.Stands.{SchemaStands, Stands}
use Rattle.reading.specs.Promises.{refusal}
use Rattle.lamp.specs.declared.Lit.{Lit}
use Rattle.reading.specs.declared.Refusal.{Refusal}
use Rattle.reading.specs.declared.Refusal.TheVariants as Refusal

abbrev pub signal_of : Result Bool Refusal → Defined.Lamp
signal_of (Ok true) = Defined.Yes
signal_of (Ok false) = Defined.No
signal_of (Err e) = Defined.Refused (refusal e)

-- What the program prints for it.
unfoldable pub lamp_line : Defined.Lamp → List ℕ
unfolding hex_line
lamp_line Defined.Yes = hex_line (0x0d ∷ 1 ∷ [])
lamp_line Defined.No = hex_line (0x0d ∷ 0 ∷ [])
lamp_line (Defined.Refused i) = hex_line (0x0f ∷ number i ∷ [])

-- ---- A query

-- A run that stopped, by its diagnostics.
abbrev pub glow_of : List Diagnostic → ℕ → Lit
glow_of [] v = record { signal = Err Refusal.TooManyVisits; visits = v }
glow_of (d ∷ ds) v = record { signal = Ok true; visits = v }

-- As the definition's run ends; where it went through, the schema stands as before.
unfoldable pub Glowed : List ℕ → List ℕ → Described → Lit → Step Tree.Ty → Type 0
Glowed f w' d g (goes ty c) = (g ≡ record { signal = Ok false; visits = max_visits - c.state.left }) × ((T : Rows) × SchemaStands f w' T d.names d.schema)
Glowed f w' d g (out c) = g ≡ glow_of c.diagnostics (max_visits - c.state.left)

pub record Glows (f w w' : List ℕ) (g : Lit) : Type 0 where
  pub is : (T : Rows) (d : Described) → Sound d → Stands f w T d → Glowed f w' d g (lit_run d.schema d.ast max_visits)
  pub few : g.visits ≤ 1048576
  pub words : length w' ≡ length w

-- ---- The whole

-- The queries of a described form whose schema and names stand in the words.
pub record Asks (f w : List ℕ) (r : Lit) : Type 0 where
  pub is : (T : Rows) (form : Form) → reading f ≡ described form → min_words ≤ length w → SchemaStands f w T form.names form.schema
      → (signal_of r.signal ≡ lamp_all form.schema form.queries) × (r.visits ≡ visits_all form.schema form.queries)

pub record LooksAtFile (f w w' : List ℕ) (r : Lit) : Type 0 where
  pub lamp : signal_of r.signal ≡ lamp f (length w)
  pub visits : r.visits ≡ lamp_visits f (length w)
  pub words : length w' ≡ length w

-- The lamp and the visits are the definition's, and the work slice is zero throughout.
pub record Lights (f w w' : List ℕ) (r : Lit) : Type 0 where
  pub lamp : signal_of r.signal ≡ lamp f (length w)
  pub visits : r.visits ≡ lamp_visits f (length w)
  pub work : w' ≡ replicate (length w) 0
