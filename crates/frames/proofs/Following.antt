-- Kinds of frames: bytes past 06 name none, and the rule of `may_stand` is computed for each pair of kinds.
use mathlib.Core.Bool.{Bool, true, false}
use mathlib.Core.List.{List, [], ◌∷◌}
use mathlib.Core.Path.{◌≡◌, refl, sym, ap, ◌∙◌}
use Prim.Native.Nat.{ℕ, zero, suc, ◌<◌, ◌≤◌}
use native.Mathlib.Omega.{arith}
use lib.ListN.{get_or, get_or-eq_default}
use denote.Enum.Bare.{sameb}
use denote.Enum.Enum.{tag}
use denote.Enum.Declared.{intoss}
use denote.Struct.Field.{rows}
use Rattle.format.specs.Frame as Frame
use Rattle.format.specs.Frame.{limits, name, schema_type, predicate, node, query, kind_byte, kind_of, repeatable, rises, follows, may_stand}
use Rattle.frames.specs.contracts.Kind.{the_type, as_values}
use Rattle.frames.specs.declared.Kind.{Kind}
use Rattle.frames.specs.declared.Kind.TheVariants.{Limits, Name, SchemaType, Predicate, Node, Query}
use Rattle.frames.specs.Promises.{kind_meant, known, stands}
use Rattle.std.specs.Prelude.{None, Option, Some}
use Rattle.std.proofs.lemmas.Option.{same_Some}

pub no_kind : (b : ℕ) → (0 < b → 7 ≤ b) → None ≡ kind_of b
unfolding kind_of
no_kind zero h = refl
no_kind (suc b) h =
    sym (get_or-eq_default (None ∷ Some limits ∷ Some name ∷ Some schema_type ∷ Some predicate ∷ Some node ∷ Some query ∷ []) None (h (omega arith)))

-- The table of the code: a row for each kind that came before.
abbrev pub table : List (List Bool)
table =
    (false ∷ true ∷ true ∷ true ∷ true ∷ true ∷ [])
    ∷ (false ∷ true ∷ true ∷ true ∷ true ∷ true ∷ [])
    ∷ (false ∷ false ∷ true ∷ true ∷ true ∷ true ∷ [])
    ∷ (false ∷ false ∷ false ∷ true ∷ true ∷ true ∷ [])
    ∷ (false ∷ false ∷ false ∷ false ∷ true ∷ true ∷ [])
    ∷ (false ∷ false ∷ false ∷ false ∷ true ∷ false ∷ [])
    ∷ []

-- what `kind as usize` says
abbrev pub place : Kind → ℕ
place k = tag (rows [] ∷ rows [] ∷ rows [] ∷ rows [] ∷ rows [] ∷ rows [] ∷ []) (intoss ([] ∷ [] ∷ [] ∷ [] ∷ [] ∷ [] ∷ []) (as_values k))

-- what holds of each kind
each : (P : Kind → Type 0) → P Limits → P Name → P SchemaType → P Predicate → P Node → P Query → (k : Kind) → P k
each P l n s p d q Limits = l
each P l n s p d q Name = n
each P l n s p d q SchemaType = s
each P l n s p d q Predicate = p
each P l n s p d q Node = d
each P l n s p d q Query = q

abbrev meant_by : Frame.Kind → Kind
meant_by limits = Limits
meant_by name = Name
meant_by schema_type = SchemaType
meant_by predicate = Predicate
meant_by node = Node
meant_by query = Query

-- A kind is known by what it means.
pub same_known : (o : Option Kind) (k : Kind) → known o ≡ Some (kind_meant k) → o ≡ Some k
same_known None k e = cc
same_known (Some j) k e = ap Some (sym (back j) ∙ ap meant_by (same_Some _ _ e) ∙ back k)
  where
    back : (k : Kind) → meant_by (kind_meant k) ≡ k
    back = each (λ k. meant_by (kind_meant k) ≡ k) refl refl refl refl refl refl

abbrev Right : Kind → Kind → Type 0
Right p k = get_or (get_or table (place p) []) (place k) false ≡ stands (known (Some p)) (known (Some k))

pub stands_table : (p k : Kind) → Right p k
unfolding kind_byte repeatable rises follows may_stand
stands_table p k =
    each
    (λ p. (k : Kind) → Right p k)
    (each (Right Limits) refl refl refl refl refl refl)
    (each (Right Name) refl refl refl refl refl refl)
    (each (Right SchemaType) refl refl refl refl refl refl)
    (each (Right Predicate) refl refl refl refl refl refl)
    (each (Right Node) refl refl refl refl refl refl)
    (each (Right Query) refl refl refl refl refl refl)
    p
    k

pub stands_first : (k : Kind) → sameb the_type k Limits ≡ stands None (known (Some k))
unfolding kind_byte may_stand
stands_first k = each (λ k. sameb the_type k Limits ≡ stands None (known (Some k))) refl refl refl refl refl refl k

pub ruleset standing = (stands_first, stands_table)
