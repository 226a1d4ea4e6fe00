-- The rows of specs/Table.antt, computed over the definitions. Each has a line of its own, so that a message tells which one fails.
use mathlib.Core.Path.{◌≡◌, refl}
use native.Mathlib.Decide.{ℕ_discrete}
use Rattle.unification.specs.Bindings as Bindings
use Rattle.unification.specs.Unify as Unify
use Rattle.format.specs.Table.{text, TableRows, end, ◌then◌}
use Rattle.meaning.specs.Lamp.{Yes, No, lamp, lamp_visits}
use Rattle.meaning.specs.Table.{examples, own_examples, shape_examples, message_examples, unused_examples, forms, refusals, limits_of, holds, short_wholes, ends}
use Rattle.meaning.specs.Table.{dark, lit}

-- Document 01's list.
pub table : TableRows holds examples
unfolding examples holds ℕ_discrete Bindings.fresh Bindings.fresh_id Bindings.annotate Bindings.snapshot Bindings.rollback Bindings.zonk Unify.unify
    Unify.orderable
table =
    -- M
    refl then
    -- the whole case
    refl then
    -- Error against Var
    refl then
    -- {a, b} against {b, a}
    refl then
    -- {a, a} of Int against {a = Int, b = String}
    refl then
    -- the swap
    refl then
    -- union arity 0
    refl then
    -- union arity 2
    refl then
    -- two facts compared
    refl then
    -- the empty record compared
    refl then
    -- a rollback past a new unknown
    refl then
    -- key access on an absent predicate
    refl then
    -- value access on an absent predicate
    refl then
    -- fuzzy distances 0, 2 and 3
    refl then
    end

-- Our own.
pub own_examples_lem : TableRows holds own_examples
unfolding own_examples holds ℕ_discrete Bindings.fresh Bindings.fresh_id Bindings.annotate Bindings.snapshot Bindings.rollback Bindings.zonk Unify.unify
    Unify.orderable
own_examples_lem =
    -- a failed bind
    refl then
    -- a field with a diagnostic inside
    refl then
    -- x = y
    refl then
    -- a disjunction as a statement and as a value
    refl then
    -- a subquery's variables
    refl then
    -- 65,536 is not predicate 0
    refl then
    -- all 32 bits of a type's number
    refl then
    end

-- Each shape, each statement, each arm.
pub shape_examples_lem : TableRows holds shape_examples
unfolding shape_examples holds ℕ_discrete Bindings.fresh Bindings.fresh_id Bindings.annotate Bindings.snapshot Bindings.rollback Bindings.zonk Unify.unify
    Unify.orderable
shape_examples_lem =
    -- the left of `=`
    refl then
    -- the left of `!=`
    refl then
    -- comparisons
    refl then
    -- strings, never, arithmetic
    refl then
    -- statements generate
    refl then
    -- statements in brackets
    refl then
    -- records taken apart
    refl then
    -- selects
    refl then
    -- values and fields
    refl then
    -- patterns beside a declared type
    refl then
    -- what unification compares
    refl then
    -- a term at the limit
    refl then
    -- what has an order
    refl then
    end

-- The text of each message.
pub message_examples_lem : TableRows holds message_examples
unfolding message_examples holds ℕ_discrete Bindings.fresh Bindings.fresh_id Bindings.annotate Bindings.snapshot Bindings.rollback Bindings.zonk Unify.unify
    Unify.orderable
message_examples_lem =
    -- left sides and the head
    refl then
    -- two messages at one node
    refl then
    -- what is read
    refl then
    -- unions that differ
    refl then
    -- the outer union, the inner union of a record
    refl then
    -- no binding is followed
    refl then
    -- resolved at its moment
    refl then
    end

-- Card 9's.
pub unused_examples_lem : TableRows holds unused_examples
unfolding unused_examples holds ℕ_discrete Bindings.fresh Bindings.fresh_id Bindings.annotate Bindings.snapshot Bindings.rollback Bindings.zonk Unify.unify
    Unify.orderable
unused_examples_lem =
    -- x < x
    refl then
    -- x < 3
    refl then
    -- a mark taken back with a field
    refl then
    -- a mark of a field that is fine
    refl then
    -- a subquery's line in a field that is rolled back
    refl then
    -- an entry that a rollback removes
    refl then
    -- three entries, in order of leaving
    refl then
    end

-- Forms of several queries.
pub form_examples : TableRows holds forms
unfolding forms holds ℕ_discrete Bindings.fresh Bindings.fresh_id Bindings.annotate Bindings.snapshot Bindings.rollback Bindings.zonk Unify.unify
    Unify.orderable
form_examples =
    -- two queries
    refl then
    -- two queries with visits
    refl then
    -- two queries with messages
    refl then
    -- 06 after 06
    refl then
    -- 01 after 06
    refl then
    -- 04 after 06
    refl then
    -- 03 after 06
    refl then
    -- 02 after 06
    refl then
    -- a 05 last
    refl then
    -- a node of the query before
    refl then
    -- an answer of 54 bytes in 54
    refl then
    -- in 53
    refl then
    -- a 65th query
    refl then
    -- a 65th of no form
    refl then
    -- 06 after the 64th 06
    refl then
    -- a 05 after the 64th
    refl then
    -- a bad line of the last query
    refl then
    end

-- Document 01's table of refusals.
pub refusal_examples : TableRows holds refusals
unfolding refusals holds ℕ_discrete Bindings.fresh Bindings.fresh_id Bindings.annotate Bindings.snapshot Bindings.rollback Bindings.zonk Unify.unify
    Unify.orderable
refusal_examples =
    -- 1
    refl then
    -- 3
    refl then
    -- 4
    refl then
    -- 6
    refl then
    -- 7
    refl then
    -- 8
    refl then
    -- 9
    refl then
    -- 10
    refl then
    -- 12
    refl then
    -- a name that is not there
    refl then
    -- 6 before 9
    refl then
    -- 9 before 10
    refl then
    -- no query
    refl then
    end

-- Forms that document 01 leaves open.
pub limit_examples : TableRows holds limits_of
unfolding limits_of holds ℕ_discrete Bindings.fresh Bindings.fresh_id Bindings.annotate Bindings.snapshot Bindings.rollback Bindings.zonk Unify.unify
    Unify.orderable
limit_examples =
    -- an empty line
    refl then
    -- an odd one
    refl then
    -- an upper-case digit
    refl then
    -- kind 00
    refl then
    -- kind 07
    refl then
    -- limits twice
    refl then
    -- a byte too many
    refl then
    -- shape 06
    refl then
    -- flag 02
    refl then
    -- statement 05
    refl then
    -- a fact as a type: narrow, a byte too few, one too many
    refl then
    refl then
    refl then
    -- as a node
    refl then
    refl then
    refl then
    -- d800
    refl then
    -- dfff
    refl then
    -- two halves
    refl then
    -- the values beside them
    refl then
    end

-- The result and both slices.
pub outcome_examples : TableRows ends short_wholes
unfolding short_wholes ends ℕ_discrete Bindings.fresh Bindings.fresh_id Bindings.annotate Bindings.snapshot Bindings.rollback Bindings.zonk Unify.unify
    Unify.orderable
outcome_examples =
    -- M in 20 bytes
    refl then
    -- in 3 words
    refl then
    end

-- The lamp: two queries of two visits each show nothing. A third between them has its diagnostic after three visits, so the rest of it and the
-- query after it are not asked.
dark_is : lamp (text dark) 16384 ≡ No
unfolding lamp dark text ℕ_discrete Bindings.fresh Bindings.fresh_id Bindings.annotate Bindings.snapshot Bindings.rollback Bindings.zonk Unify.unify
    Unify.orderable
dark_is = refl

dark_visits : lamp_visits (text dark) 16384 ≡ 4
unfolding lamp_visits dark text ℕ_discrete Bindings.fresh Bindings.fresh_id Bindings.annotate Bindings.snapshot Bindings.rollback Bindings.zonk Unify.unify
    Unify.orderable
dark_visits = refl

lit_is : lamp (text lit) 16384 ≡ Yes
unfolding lamp lit text ℕ_discrete Bindings.fresh Bindings.fresh_id Bindings.annotate Bindings.snapshot Bindings.rollback Bindings.zonk Unify.unify
    Unify.orderable
lit_is = refl

lit_visits : lamp_visits (text lit) 16384 ≡ 5
unfolding lamp_visits lit text ℕ_discrete Bindings.fresh Bindings.fresh_id Bindings.annotate Bindings.snapshot Bindings.rollback Bindings.zonk Unify.unify
    Unify.orderable
lit_visits = refl
