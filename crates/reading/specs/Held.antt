-- What the work slice and the counters hold in the midst of reading: what has been read so far (`SoFar` of
-- format/specs/SoFar.antt), kind by kind. `at` is where the next line starts.
use Rattle.std.specs.Prelude.{Bool, true, false, List, [], ◌≡◌, ℕ, ◌+◌, ◌*◌, ◌%◌, ◌≤◌, ◌<◌, length, get_or, None, Option, Some}
use Rattle.unification.specs.Ty as Tree
use Rattle.work.specs.Layout.{NAMES, TYPES, NODES, FIELDS, MAX-DISTANCE, MAX-TERM}
use Rattle.cells.specs.declared.Kind.{Kind}
use Rattle.cells.specs.declared.Kind.TheVariants.{Fields, Alternatives}
use Rattle.cells.specs.Words.{declared_w, count_w, first_w}
use Rattle.cells.specs.Stands.{Rows, tree, tag_of, row_w, part_words}
use Rattle.format.specs.Syntax.{Node, node_at}
use Rattle.format.specs.Schema.{Predicate}
use Rattle.format.specs.Frame as Frame
use Rattle.format.specs.Frame.{Edition}
use Rattle.format.specs.Lines.{position}
use Rattle.format.specs.SoFar.{SoFar}
use Rattle.format.specs.Conditions.{among, same_text}
use Rattle.format.specs.File.{value_text, count_of}
use Rattle.text.specs.Utf8.{characters}
use Rattle.tree.specs.Stands.{NameIs, NodeIn, PredicateIs, no_predicate}
use Rattle.work.specs.declared.Counters.{Counters}

-- ---- Limits

abbrev pub LimitsHeld : List ℕ → Option Frame.Kind → ℕ → ℕ → Type 0
LimitsHeld w None d t = Unit {0}
LimitsHeld w (Some k) d t = (get_or w MAX-DISTANCE 0 ≡ d) × (get_or w MAX-TERM 0 ≡ t)

-- ---- Names

-- A name's word: where its line starts times 512, and the number of its characters.
pub record NamesHeld (f w : List ℕ) (n : ℕ) (value : Option ℕ) (names : List (List ℕ)) : Type 0 where
  pub count : n ≡ length names
  pub few : length names ≤ 256
  pub name : (i : ℕ) → i < length names → NameIs f w i (get_or names i [])
  pub characters : (i : ℕ) → i < length names → get_or w (NAMES + i) 0 % 512 ≡ count_of (characters (get_or names i []))
  pub valued : value ≡ position (same_text value_text) names

-- ---- Types

-- How many words n parts take.
abbrev pub words_of : Kind → ℕ → ℕ
words_of k n = part_words k * n

-- The number of the type of a part.
abbrev pub part_type : List ℕ → Kind → ℕ → ℕ → ℕ
part_type w Fields t j = get_or w (FIELDS + first_w w t + j) 0 % 256
part_type w Alternatives t j = get_or w (FIELDS + first_w w t + 2 * j + 1) 0 % 256

-- The t-th type is a record or a union.
abbrev pub IsOf : List ℕ → Kind → ℕ → Type 0
IsOf w k t = get_or w (TYPES + 2 * t) 0 % 16 ≡ tag_of k

-- Each type stands for its tree; its parts are of earlier types and lie among the words of parts used so far.
pub record TypesHeld (w : List ℕ) (T : Rows) (n fields : ℕ) (types : List Tree.Ty) : Type 0 where
  pub count : n ≡ length types
  pub few : length types ≤ 256
  pub type : (t : ℕ) → t < length types → get_or types t Tree.Error ≡ tree T (declared_w w t)
  pub row : (k : Kind) (t : ℕ) → t < length types → IsOf w k t → T t ≡ row_w T w k t
  pub earlier : (k : Kind) (t j : ℕ) → t < length types → IsOf w k t → j < count_w w t → part_type w k t j < t
  pub within : (k : Kind) (t : ℕ) → t < length types → IsOf w k t → first_w w t + words_of k (count_w w t) ≤ fields
  pub tags : (t : ℕ) → t < length types → get_or w (TYPES + 2 * t) 0 % 16 < 7

-- ---- Predicates

-- m is the number of types.
pub record PredicatesHeld (w : List ℕ) (T : Rows) (m n : ℕ) (predicates : List Predicate) : Type 0 where
  pub count : n ≡ length predicates
  pub few : length predicates ≤ 128
  pub predicate : (p : ℕ) → p < length predicates → PredicateIs w T m p (get_or predicates p no_predicate)

-- ---- Nodes

pub record NodesHeld (e : Edition) (f w : List ℕ) (n : ℕ) (nodes : List Node) : Type 0 where
  pub count : n ≡ length nodes
  pub few : length nodes ≤ 512
  pub node : (i : ℕ) → i < length nodes → NodeIn e f w i (node_at nodes i)

abbrev pub flag : Bool → ℕ
flag true = 1
flag false = 0

-- Of the first m nodes those are marked that have been named, and no later one has been.
pub record Marked (w : List ℕ) (m : ℕ) (named : List ℕ) : Type 0 where
  pub mark : (i : ℕ) → i < m → get_or w (NODES + i) 0 % 2 ≡ flag (among i named)
  pub later : (i : ℕ) → m ≤ i → among i named ≡ false

-- ---- The whole
pub record Held (e : Edition) (f : List ℕ) (at : ℕ) (w : List ℕ) (T : Rows) (c : Counters) (previous : Option Frame.Kind) (so : SoFar) : Type 0 where
  pub long : 16384 ≤ length w
  pub place : at ≤ length f
  pub small : length f ≤ 65536
  pub kind : previous ≡ so.previous
  -- each word of parts took eight digits
  pub room : 8 * c.fields ≤ at
  pub limits : LimitsHeld w so.previous so.max_distance so.max_term_chars
  pub names : NamesHeld f w c.names c.value so.names
  pub types : TypesHeld w T c.types c.fields so.types
  pub predicates : PredicatesHeld w T (length so.types) c.predicates so.predicates
  pub nodes : NodesHeld e f w c.nodes so.nodes
  pub named : Marked w (length so.nodes) so.named
  pub queries : c.queries ≡ length so.queries
  pub turns : length so.queries ≤ 64
