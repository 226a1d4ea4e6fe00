-- What a step of the checker may make. A grade says how often each node may be annotated, how many unknowns and how many diagnostics a step may
-- make; the grades of steps add up.
use Rattle.std.specs.Prelude.{true, false, List, ◌≡◌, ℕ, ◌+◌, ◌-◌, ◌*◌, ◌≤◌, ◌<◌, length, get_or, None, Some}
use Rattle.unification.specs.Ty.{Ty}
use Rattle.unification.specs.Calls.{Side}
use Rattle.unification.specs.Log.{Log}
use Rattle.format.specs.Syntax.{Node}
use Rattle.meaning.specs.Check.{Checker, Entry, lookup_in, is_in, NodeForm, a_wildcard, a_variable, a_constant, a_record, a_disjunction, an_error, another}
use Rattle.format.specs.All.{All}
use Rattle.meaning.specs.Run.{NotYet}
use Rattle.meaning.specs.Weights.{same, sum_of, total, weight, size}

-- ---- Grades
pub record Grade : Type 0 where
  -- how often each node may be annotated
  pub nodes : ℕ → ℕ
  pub unknowns : ℕ
  pub diagnostics : ℕ

abbrev pub plus : Grade → Grade → Grade
plus g h = record { nodes = λ x. g.nodes x + h.nodes x; unknowns = g.unknowns + h.unknowns; diagnostics = g.diagnostics + h.diagnostics }

pub record GradeFits (g h : Grade) : Type 0 where
  pub nodes : (x : ℕ) → g.nodes x ≤ h.nodes x
  pub unknowns : g.unknowns ≤ h.unknowns
  pub diagnostics : g.diagnostics ≤ h.diagnostics

-- ---- States

abbrev pub unknowns : Checker → ℕ
unknowns c = length c.state.subst

-- How many of the first n unknowns are marked.
unfoldable pub present : List ℕ → ℕ → ℕ
unfolding is_in
present marks x = elim (is_in x marks) [ true ↦ 1 | false ↦ 0 ]

abbrev pub marks_below : List ℕ → ℕ → ℕ
marks_below marks n = total (present marks) n

-- Every type of the state is over its unknowns, entries of the environment and those that left unmarked are together no more than there
-- are unknowns, none is marked twice, the undo log is in order, and what the run is to last until has not come.
pub record Orderly (c : Checker) : Type 0 where
  pub log : Log c.state
  pub env : All (λ e. e.unknown < unknowns c) c.env
  pub few : length c.env + length c.unused ≤ unknowns c
  pub marks : length c.marks ≤ marks_below c.marks (unknowns c)
  pub sides : (n : ℕ) (t : Ty) → get_or c.state.tys n None ≡ Some t → Side (unknowns c) t
  pub awaits : NotYet c.until c.diagnostics c.entries

-- The nodes of a grade exist, have no type yet, and are each annotated at most once.
pub record Ready (g : Grade) (c : Checker) : Type 0 where
  pub once : (x : ℕ) → g.nodes x ≤ 1
  pub there : (x : ℕ) → 0 < g.nodes x → x < length c.state.tys
  pub bare : (x : ℕ) → 0 < g.nodes x → get_or c.state.tys x None ≡ None

-- ---- Grades of one thing
abbrev pub no_thing : Grade
no_thing = record { nodes = λ x. 0; unknowns = 0; diagnostics = 0 }

abbrev pub one_diagnostic : Grade
one_diagnostic = record { nodes = λ x. 0; unknowns = 0; diagnostics = 1 }

abbrev pub one_unknown : Grade
one_unknown = record { nodes = λ x. 0; unknowns = 1; diagnostics = 0 }

abbrev pub one_node : ℕ → Grade
one_node n = record { nodes = λ x. same x n; unknowns = 0; diagnostics = 0 }

-- The environment has this variable.
abbrev pub Known : ℕ → Checker → Type 0
Known x c = (e : Entry) × (lookup_in c.env x ≡ Some e)

-- ---- Grades of visits

-- A visit that infers: its own node has two diagnostics at most, for a fuzzy pattern; the third is for who asked.
abbrev pub inferring : List Node → ℕ → ℕ → Grade
inferring nodes d n = record { nodes = λ x. weight nodes (λ m. same x m) d n; unknowns = size nodes d n; diagnostics = 3 * size nodes d n - 1 }

-- A variable that the environment has makes no unknown.
abbrev pub finding : List Node → ℕ → ℕ → Grade
finding nodes d n = record { nodes = λ x. weight nodes (λ m. same x m) d n; unknowns = 0; diagnostics = 3 * size nodes d n - 1 }

abbrev pub checking : List Node → ℕ → ℕ → Grade
checking nodes d n = record { nodes = λ x. weight nodes (λ m. same x m) d n; unknowns = size nodes d n; diagnostics = 3 * size nodes d n }

-- Several nodes.
abbrev pub visiting : List Node → ℕ → List ℕ → Grade
visiting nodes d ns = record {
  nodes = λ x. sum_of (λ n. weight nodes (λ m. same x m) d n) ns;
  unknowns = sum_of (λ n. size nodes d n) ns;
  diagnostics = 3 * sum_of (λ n. size nodes d n) ns;
}

-- A node without its own annotation, over the parts that it names.
abbrev pub within : List Node → ℕ → List ℕ → Grade
within nodes d ns = record {
  nodes = λ x. sum_of (λ n. weight nodes (λ m. same x m) d n) ns;
  unknowns = 1 + sum_of (λ n. size nodes d n) ns;
  diagnostics = 2 + 3 * sum_of (λ n. size nodes d n) ns;
}

-- ---- A comparison introduces a side that is a variable.
unfoldable pub early : NodeForm → ℕ
early (a_variable x) = 1
early a_wildcard = 0
early a_constant = 0
early (a_record fs) = 0
early (a_disjunction es) = 0
early an_error = 0
early another = 0

abbrev pub introducing : NodeForm → Grade
introducing f = record { nodes = λ x. 0; unknowns = early f; diagnostics = 0 }
