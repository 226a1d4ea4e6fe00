-- The text of each message: ty.rs, "diagnostics", `render`, `name_of`, and the texts where they are reported. Names stand as the file has
-- them; numbers are decimal.
use Rattle.std.specs.Prelude.{true, false, ℕ, zero, suc, ◌+◌, ◌/◌, ◌%◌, ltb, None, Option, Some, slice_get}
use mathlib.Core.List.{List, [], ◌∷◌, ◌++◌}
use Rattle.unification.specs.Ty.{Leaf, Kind, Ty, Row}
use Rattle.unification.specs.Unify.{UnionDiff}
use Rattle.format.specs.Schema.{Schema, get}
use Rattle.format.specs.Bytes.{ascii}
use Rattle.meaning.specs.Diag.{Message}
use Rattle.format.specs.File.{Form}

-- `{}` of a number. A number has fewer digits than its successor, so nothing is cut off.
unfoldable pub decimal_in : ℕ → ℕ → List ℕ
decimal_in zero n = []
decimal_in (suc k) n = elim (ltb n 10) [ true ↦ (48 + n) ∷ [] | false ↦ decimal_in k (n / 10) ++ (48 + n % 10) ∷ [] ]

unfoldable pub decimal : ℕ → List ℕ
unfolding decimal_in
decimal n = decimal_in (suc n) n

-- "`{}`"
unfoldable pub quoted : List ℕ → List ℕ
quoted s = 96 ∷ s ++ 96 ∷ []

-- " — "; the dash is U+2014
unfoldable pub dash : List ℕ
dash = 32 ∷ 0xe2 ∷ 0x80 ∷ 0x94 ∷ 32 ∷ []

-- `unwrap_or("?")`
unfoldable pub or_mark : Option (List ℕ) → List ℕ
or_mark None = 63 ∷ []
or_mark (Some s) = s

-- A fact's predicate by its name, where it has one.
unfoldable pub or_fact : Option (List ℕ) → List ℕ
unfolding quoted ascii
or_fact None = ascii "a fact"
or_fact (Some s) = quoted s

module _ (names : List (List ℕ)) (schema : Schema) where
  -- `name_of`
  unfoldable pub name_of : ℕ → List ℕ
  unfolding or_mark
  name_of x = or_mark (slice_get names x)

  -- `self.schema.get(predicate).and_then(|p| p.name())`
  unfoldable pub fact_name : ℕ → Option (List ℕ)
  unfolding get
  fact_name p = elim (get schema p) [ None ↦ None | Some d ↦ slice_get names d.name ]

  -- ---- `render`, which follows no binding

  unfoldable pub render_leaf : Leaf → List ℕ
  unfolding ascii or_fact fact_name
  render_leaf Leaf.Int = ascii "an integer"
  render_leaf Leaf.String = ascii "a string"
  render_leaf Leaf.Bytes = ascii "bytes"
  render_leaf (Leaf.Fact p) = or_fact (fact_name p)

  -- between two parts
  unfoldable pub separator : Kind → Row → List ℕ
  unfolding ascii
  separator Kind.Record Row.ε = []
  separator Kind.Record (Row.cell k l t r) = ascii ", "
  separator Kind.Union Row.ε = []
  separator Kind.Union (Row.cell k l t r) = ascii " | "

  -- a part, around its type: `name = type` of a record, `name : type = discriminant` of a union
  unfoldable pub part : Kind → ℕ → ℕ → List ℕ → List ℕ
  unfolding name_of decimal ascii
  part Kind.Record name label ty = name_of name ++ (ascii " = " ++ ty)
  part Kind.Union disc name ty = name_of name ++ (ascii " : " ++ (ty ++ (ascii " = " ++ decimal disc)))

  unfoldable mutual
    unfolding render_leaf separator part ascii

    pub render : Ty → List ℕ
    render (Ty.leaf p) = render_leaf p
    render (Ty.node k r) = ascii "{" ++ (render_row r k ++ ascii "}")
    render (Ty.Var x) = ascii "an unknown type"
    render Ty.Error = ascii "(already reported)"

    pub render_row : Row → Kind → List ℕ
    render_row Row.ε k = []
    render_row (Row.cell key label t r) k = part k key label (render t) ++ (separator k r ++ render_row r k)

  -- ---- `report`

  unfoldable pub difference : UnionDiff → List ℕ
  unfolding ascii quoted name_of decimal
  difference (UnionDiff.Absent name disc) = ascii "only one of them declares " ++ (quoted (name_of name) ++ (ascii " = " ++ decimal disc))
  difference (UnionDiff.Renamed expected got disc) =
      ascii "discriminant " ++ (decimal disc ++ (ascii " is " ++ (quoted (name_of expected) ++ (ascii ", not " ++ quoted (name_of got)))))
  difference (UnionDiff.Payload name disc) =
      ascii "alternative " ++ (quoted (name_of name) ++ (ascii " = " ++ (decimal disc ++ ascii " carries a different payload")))

  unfoldable pub expected_found : Ty → Ty → List ℕ
  unfolding ascii render
  expected_found expected got = ascii "expected " ++ (render expected ++ (ascii ", found " ++ render got))

  -- ---- Each message

  unfoldable pub message_text : Message → List ℕ
  unfolding ascii quoted dash decimal name_of render difference expected_found
  message_text Message.wildcard_head = ascii "a wildcard head projects nothing"
  message_text Message.bound_constant = ascii "a literal cannot be bound to; put the variable on the left"
  message_text Message.denied_constant = ascii "nothing here can be denied; put the variable on the left"
  message_text Message.matched_patterns = ascii "matching two patterns against each other is not implemented yet"
  message_text Message.denied_pattern = ascii "denying anything but a variable is not implemented yet"
  message_text (Message.distance_outside d) = ascii "an edit distance of " ++ (decimal d ++ (ascii " is outside 1..=" ++ decimal schema.max_distance))
  message_text (Message.term_too_long n) =
      ascii "a fuzzy term of " ++ (decimal n ++ (ascii " characters is longer than the " ++ (decimal schema.max_term_chars ++ ascii " a match is built for")))
  message_text Message.unknown_type = ascii "the type of this value is not known here, so its field cannot be resolved"
  message_text Message.value_shadowed = ascii "this predicate has a key field called `value`, so `.value` is ambiguous"
  message_text Message.no_value = ascii "this predicate has no value"
  message_text (Message.no_alternative x) = quoted (name_of x) ++ ascii " is not an alternative of this union"
  message_text (Message.no_field x) = quoted (name_of x) ++ ascii " is not a field here"
  message_text (Message.not_one_alternative n) = ascii "a union value is one alternative, and this names " ++ decimal n
  message_text (Message.not_aunion t) = ascii "only a union has alternatives; this is " ++ render t
  message_text (Message.not_afact t) = ascii "only a fact has a value; this is " ++ render t
  message_text (Message.no_fields t) = render t ++ ascii " has no fields"
  message_text (Message.no_order t) =
      render t ++ (ascii " has no order" ++ (dash ++ ascii "it holds a reference, and a reference compares by which fact was written first"))
  message_text (Message.mismatch expected got) = expected_found expected got
  message_text (Message.union_mismatch diff expected got) = expected_found expected got ++ (ascii ": " ++ difference diff)
  message_text Message.infinite = ascii "this pattern would have to contain itself"

-- ---- With the names and the schema of a file

abbrev pub text_in : Form → Message → List ℕ
text_in f = message_text f.names f.schema
