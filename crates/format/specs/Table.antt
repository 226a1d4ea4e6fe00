-- The files of computed rows, here and in crate meaning: lines of digits, each closed by LF; document 01's M.
use Rattle.std.specs.Prelude.{Bool, true, List, [], ◌∷◌, ◌++◌, ◌≡◌, ℕ, zero, suc, eqb}
use Prim.Native.String.{String}
use Rattle.format.specs.Bytes.{ascii}
use Rattle.format.specs.Refusal.{number}
use Rattle.format.specs.File.{Reading, refused, described, reading_of, reading}

-- Each line closed by LF.
unfoldable pub text : List String → List ℕ
unfolding ascii
text [] = []
text (l ∷ ls) = ascii l ++ 10 ∷ text ls

unfoldable pub M : List String
M = "01020020" ∷ "05000000000000000300" ∷ "060000" ∷ []

-- M's query, so many times
unfoldable pub again : ℕ → List ℕ
unfolding text
again zero = []
again (suc n) = text ("05000000000000000300" ∷ "060000" ∷ []) ++ again n

-- Each row passes its test.
infixr 30 ◌then◌
pub data TableRows {A : Type 0} (test : A → Bool) : List A → Type 0 where
  end : TableRows test []
  ◌then◌ : {a : A} {l : List A} → test a ≡ true → TableRows test l → TableRows test (a ∷ l)

-- A file of these lines, and the number of the refusal that its reading comes to; 0 where it passes.
pub record ReadRow : Type 0 where
  pub lines : List String
  pub number : ℕ

abbrev pub lines_read : List String → ℕ → ReadRow
lines_read ls n = record { lines = ls; number = n }

unfoldable pub number_of : Reading → ℕ
unfolding number
number_of (refused r) = number r
number_of (described f) = 0

unfoldable pub reads : ReadRow → Bool
unfolding number_of reading_of text
reads r = eqb (number_of (reading (text r.lines))) r.number

-- Each reference that a frame has, to what is not there; what may not come twice; and which line may not follow which.
unfoldable pub reference_rows : List ReadRow
reference_rows =
    -- 9: a name that is not there: of an alternative, of a predicate
    lines_read ("01020020" ∷ "0300" ∷ "03050000000000000000" ∷ []) 9 ∷
    lines_read ("01020020" ∷ "0300" ∷ "040000000000" ∷ []) 9 ∷
    -- of each node that has one: a variable, a prefix, a term, a field, an access, an alternative
    lines_read ("01020020" ∷ "050000000000000001030000" ∷ []) 9 ∷
    lines_read ("01020020" ∷ "050000000000000001060000" ∷ []) 9 ∷
    lines_read ("01020020" ∷ "05000000000000000107000001" ∷ []) 9 ∷
    lines_read ("01020020" ∷ "05000000000000000100" ∷ "0500000002000000030800000000" ∷ []) 9 ∷
    lines_read ("01020020" ∷ "05000000000000000100" ∷ "0500000002000000030900000000" ∷ []) 9 ∷
    lines_read ("01020020" ∷ "05000000000000000100" ∷ "0500000002000000031000000000" ∷ []) 9 ∷
    -- 9: a type that is not earlier: of a field, of an alternative, of a key, of a value
    lines_read ("01020020" ∷ "0278" ∷ "030400000000" ∷ []) 9 ∷
    lines_read ("01020020" ∷ "0278" ∷ "03050000000000000000" ∷ []) 9 ∷
    lines_read ("01020020" ∷ "0278" ∷ "040000000000" ∷ []) 9 ∷
    lines_read ("01020020" ∷ "0278" ∷ "0300" ∷ "0400000000010001" ∷ []) 9 ∷
    -- 9: a node that is not lower, but the node itself: in a record, an access, a value, a choice, brackets, a fact, a sum, a select
    lines_read ("01020020" ∷ "0278" ∷ "0500000000000000010800000000" ∷ []) 9 ∷
    lines_read ("01020020" ∷ "0278" ∷ "0500000000000000010900000000" ∷ []) 9 ∷
    lines_read ("01020020" ∷ "0278" ∷ "0500000000000000010a0000" ∷ []) 9 ∷
    lines_read ("01020020" ∷ "0278" ∷ "0500000000000000010b0000" ∷ []) 9 ∷
    lines_read ("01020020" ∷ "0278" ∷ "0500000000000000010c0000" ∷ []) 9 ∷
    lines_read ("01020020" ∷ "0278" ∷ "0500000000000000010d000000000000" ∷ []) 9 ∷
    lines_read ("01020020" ∷ "0278" ∷ "0500000000000000010e0000" ∷ []) 9 ∷
    lines_read ("01020020" ∷ "0278" ∷ "0500000000000000011000000000" ∷ []) 9 ∷
    -- in each statement: the left and the right of a bind, one that must hold, one that must not, the sides of a denial and of a comparison
    lines_read ("01020020" ∷ "05000000000000000100" ∷ "05000000020000000300" ∷ "0600000000020001" ∷ []) 9 ∷
    lines_read ("01020020" ∷ "05000000000000000100" ∷ "05000000020000000300" ∷ "0600000000010002" ∷ []) 9 ∷
    lines_read ("01020020" ∷ "05000000000000000100" ∷ "05000000020000000300" ∷ "060000010002" ∷ []) 9 ∷
    lines_read ("01020020" ∷ "05000000000000000100" ∷ "05000000020000000300" ∷ "060000020002" ∷ []) 9 ∷
    lines_read ("01020020" ∷ "05000000000000000100" ∷ "05000000020000000300" ∷ "0600000300020001" ∷ []) 9 ∷
    lines_read ("01020020" ∷ "05000000000000000100" ∷ "05000000020000000300" ∷ "0600000300010002" ∷ []) 9 ∷
    lines_read ("01020020" ∷ "05000000000000000100" ∷ "05000000020000000300" ∷ "0600000400020001" ∷ []) 9 ∷
    lines_read ("01020020" ∷ "05000000000000000100" ∷ "05000000020000000300" ∷ "0600000400010002" ∷ []) 9 ∷
    -- 9: a node that is named again: twice by one node, by two nodes, by a node and the query, as head and in a statement
    lines_read ("01020020" ∷ "05000000000000000100" ∷ "05000000020000000300" ∷ "0500000004000000050b00000000" ∷ []) 9 ∷
    lines_read ("01020020" ∷ "05000000000000000100" ∷ "0500000002000000030b0000" ∷ "0500000004000000050b0000" ∷ []) 9 ∷
    lines_read ("01020020" ∷ "05000000000000000100" ∷ "0500000002000000030b0000" ∷ "060000" ∷ []) 9 ∷
    lines_read ("01020020" ∷ "05000000000000000100" ∷ "05000000020000000300" ∷ "060000010000" ∷ []) 9 ∷
    -- 10: a union that repeats a discriminant; one that repeats a name passes
    lines_read ("01020020" ∷ "0278" ∷ "0279" ∷ "0300" ∷ "030500000000000700000001000000070000" ∷ []) 10 ∷
    lines_read ("01020020" ∷ "0278" ∷ "0300" ∷ "030500000000000700000000000000080000" ∷ "05000000000000000100" ∷ "060000" ∷ []) 0 ∷
    -- 4: names before the limits; a name after a type, a type after a predicate, a name after it; a name, a type and a predicate after a node
    lines_read ("0278" ∷ []) 4 ∷
    lines_read ("01020020" ∷ "0300" ∷ "0278" ∷ []) 4 ∷
    lines_read ("01020020" ∷ "0278" ∷ "0300" ∷ "040000000000" ∷ "0300" ∷ []) 4 ∷
    lines_read ("01020020" ∷ "0278" ∷ "0300" ∷ "040000000000" ∷ "0279" ∷ []) 4 ∷
    lines_read ("01020020" ∷ "05000000000000000100" ∷ "0278" ∷ []) 4 ∷
    lines_read ("01020020" ∷ "05000000000000000100" ∷ "0300" ∷ []) 4 ∷
    lines_read ("01020020" ∷ "0278" ∷ "0300" ∷ "05000000000000000100" ∷ "040000000000" ∷ []) 4 ∷
    []
