-- The schema: schema.rs, `Predicate`, `Schema::get`, `PredicateTyRef::find_field`. A declared type is a `Ty` without
-- unknowns, as `schema_ty` of ty.rs makes it.
use Rattle.std.specs.Prelude.{List, ℕ, None, Option, Some, slice_get}
use Rattle.unification.specs.Ty.{Ty, leaf, node, Var, Error, Record, Union}
use Rattle.unification.specs.Unify.{find_key}

pub record Predicate : Type 0 where
  pub name : ℕ
  pub key : Ty
  pub value : Option Ty

-- What of a file `check` reads besides the tree: the predicates, the number of the name `value` if there is one, the
-- number of characters of each name, and the two limits of `levenshtein`.
pub record Schema : Type 0 where
  pub predicates : List Predicate
  pub value_field : Option ℕ
  pub characters : List ℕ
  pub max_distance : ℕ
  pub max_term_chars : ℕ

-- `Schema::get`: a predicate's position is its number.
unfoldable pub get : Schema → ℕ → Option Predicate
get s p = slice_get s.predicates p

-- `field_of` of ty.rs
unfoldable pub field_of : Ty → ℕ → Option Ty
unfolding find_key
field_of (leaf p) n = None
field_of (node Record r) n = elim (find_key n r) [ None ↦ None | Some f ↦ Some f.1 ]
field_of (node Union r) n = None
field_of (Var x) n = None
field_of Error n = None
