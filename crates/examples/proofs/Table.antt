-- The long rows of crates/meaning/specs/Table.antt, computed over the definitions: files at the limits, and whole outcomes with a work slice
-- of 16,384 words. A crate of its own, so that a wrong definition is refused by the short rows alone.
use native.Mathlib.Decide.{ℕ_discrete}
use mathlib.Core.Path.{refl}
use Rattle.unification.specs.Bindings as Bindings
use Rattle.unification.specs.Unify as Unify
use Rattle.format.specs.Table.{TableRows, end, ◌then◌}
use Rattle.meaning.specs.Table.{at_limits, holds, wholes, ends}

-- The last that passes and the first that does not.
pub limit_examples : TableRows holds at_limits
unfolding at_limits holds ℕ_discrete Bindings.fresh Bindings.fresh_id Bindings.annotate Bindings.snapshot Bindings.rollback Bindings.zonk Unify.unify
    Unify.orderable
limit_examples =
    -- 65,536 bytes
    refl then
    -- 65,537 bytes
    refl then
    -- 1 before 2
    refl then
    -- a name of 511 bytes
    refl then
    -- of 512
    refl then
    -- 257 names
    refl then
    -- 257 types
    refl then
    -- 129 predicates
    refl then
    -- 513 nodes
    refl then
    -- 256 names
    refl then
    -- 256 types
    refl then
    -- 128 predicates
    refl then
    -- 512 nodes
    refl then
    end

-- The result and both slices.
pub whole_outcomes : TableRows ends wholes
unfolding wholes ends ℕ_discrete Bindings.fresh Bindings.fresh_id Bindings.annotate Bindings.snapshot Bindings.rollback Bindings.zonk Unify.unify
    Unify.orderable
whole_outcomes =
    -- M in 27 bytes
    refl then
    -- in 19
    refl then
    -- in more words
    refl then
    -- in 16,383 words
    refl then
    -- in no slices
    refl then
    -- an odd line
    refl then
    -- no line
    refl then
    -- two queries
    refl then
    -- a message last that just fits
    refl then
    -- one byte less
    refl then
    end
