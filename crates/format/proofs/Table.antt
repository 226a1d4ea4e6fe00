-- What files say, computed over the definitions.
use mathlib.Core.List.{List, [], ◌∷◌, ◌++◌}
use mathlib.Core.Path.{◌≡◌, refl}
use Prim.Native.String.{String}
use native.Mathlib.Decide.{ℕ_discrete}
use Rattle.unification.specs.Ty.{Int, Record, Union, leaf, node, ε, cell}
use Rattle.format.specs.Frame.{wide}
use Rattle.format.specs.Refusal.{malformed_frame, too_many_queries}
use Rattle.format.specs.File.{refused, types_of, reading_of, reading}
use Rattle.format.specs.Table.{text, again, TableRows, end, ◌then◌, reads, reference_rows}

-- A file's types by number, none of which a predicate names: Int; a record of it under the name 0; a union of the two, by their
-- discriminants 5 and 7 and their names 0 and 1.
unfoldable three : List String
three = "01020020" ∷ "0261" ∷ "0262" ∷ "0300" ∷ "030400000000" ∷ "030500000000000500000001000000070001" ∷ "05000000000000000300" ∷ "060000" ∷ []

types : types_of wide (text three) ≡ leaf Int ∷ node Record (cell 0 0 (leaf Int) ε) ∷ node Union
    (cell 5 0 (leaf Int) (cell 7 1 (node Record (cell 0 0 (leaf Int) ε)) ε)) ∷ []
unfolding types_of text three
types = refl

-- 6 before 9: a record type with a name that is not there, whose second part is cut off.
form_first : reading (text ("01020020" ∷ "03040001000000" ∷ [])) ≡ refused malformed_frame
unfolding reading_of text ℕ_discrete
form_first = refl

-- A 65th query is refused for 13.
queries_65 : reading (text ("01020020" ∷ []) ++ again 65) ≡ refused too_many_queries
unfolding reading_of text again ℕ_discrete
queries_65 = refl

-- References, what comes twice, and the order of lines.
pub reference_rows_lem : TableRows reads reference_rows
unfolding reference_rows reads ℕ_discrete
reference_rows_lem =
    -- a name that is not there, of a type or a predicate
    refl then
    refl then
    -- of a node
    refl then
    refl then
    refl then
    refl then
    refl then
    refl then
    -- a type that is not earlier
    refl then
    refl then
    refl then
    refl then
    -- a node that is not lower
    refl then
    refl then
    refl then
    refl then
    refl then
    refl then
    refl then
    refl then
    -- of a statement
    refl then
    refl then
    refl then
    refl then
    refl then
    refl then
    refl then
    refl then
    -- a node named again
    refl then
    refl then
    refl then
    refl then
    -- a union that repeats a discriminant, a name
    refl then
    refl then
    -- which line may not follow which
    refl then
    refl then
    refl then
    refl then
    refl then
    refl then
    refl then
    end
