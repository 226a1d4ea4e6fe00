-- The predicates that a content describes are over its language: its types are made of what their frames refer to.
use mathlib.Core.List.{List, [], ◌∷◌, ◌++◌, map}
use Prim.Native.Nat.{ℕ, zero, suc, ◌<◌}
use lib.ListN.{length}
use Rattle.unification.specs.Ty.{Record, Union, Ty, Error}
use Rattle.format.specs.All.{All}
use Rattle.format.specs.Syntax.{Field}
use Rattle.format.specs.Schema.{get}
use Rattle.format.specs.Frame.{Alternative, TypeShape, a_leaf, a_record, a_union}
use Rattle.format.specs.References.{field_names, shape_names}
use Rattle.format.specs.SoFar.{type_at, field_row, alternative_row, ty_of, value_ty, predicate_of}
use Rattle.format.specs.Content.{PredicateFrame, Content, types_from, predicate_with, describes}
use Rattle.laws.specs.Over.{Language, TypeOver, RowOver, OptionOver, PredicateOver}
use Rattle.laws.specs.Growth.{ShapeFacts}
use Rattle.laws.specs.Marks.{NamedBelow}
use Rattle.laws.proofs.Over.{all_get_d}
use Rattle.format.proofs.Lists.{all_snoc}
use Rattle.std.specs.Prelude.{None, Option, Some, slice_get}

module _ (L : Language) where
  fields_over : (ts : List Ty) (fs : List Field) → All (TypeOver L) ts → All L.name (field_names fs) → RowOver L (field_row ts fs) Record
  unfolding field_row type_at field_names
  fields_over ts [] h n = tt
  fields_over ts (f ∷ fs) h n = (n.0, (all_get_d (TypeOver L) ts f.value Error h tt, fields_over ts fs h n.1))

  alternatives_over : (ts : List Ty) (alts : List Alternative) → All (TypeOver L) ts → All L.name (map (λ a. a.name) alts)
      → RowOver L (alternative_row ts alts) Union
  unfolding alternative_row type_at
  alternatives_over ts [] h n = tt
  alternatives_over ts (a ∷ alts) h n = (n.0, (all_get_d (TypeOver L) ts a.type Error h tt, alternatives_over ts alts h n.1))

  ty_of_over : (ts : List Ty) (s : TypeShape) → All (TypeOver L) ts → ShapeFacts L.predicate s → All L.name (shape_names s) → TypeOver L (ty_of ts s)
  unfolding ty_of shape_names
  ty_of_over ts (a_leaf l) h i n = i
  ty_of_over ts (a_record fs) h i n = fields_over ts fs h n
  ty_of_over ts (a_union alts) h i n = alternatives_over ts alts h n

  types_over : (ts : List Ty) (a : List TypeShape) → All (TypeOver L) ts → All (ShapeFacts L.predicate) a → All (λ s. All L.name (shape_names s)) a
      → All (TypeOver L) (types_from ts a)
  unfolding types_from
  types_over ts [] h i n = h
  types_over ts (s ∷ a) h i n = types_over (ts ++ ty_of ts s ∷ []) a (all_snoc (TypeOver L) ts (ty_of ts s) h (ty_of_over ts s h i.0 n.0)) i.1 n.1

  predicate_over : (ts : List Ty) (ps : List PredicateFrame) (p : ℕ) → All (TypeOver L) ts → PredicateOver L (slice_get (map (predicate_with ts) ps) p)
  unfolding predicate_with predicate_of type_at value_ty
  predicate_over ts [] p h = tt
  predicate_over ts (x ∷ ps) zero h = (all_get_d (TypeOver L) ts x.key Error h tt, value x.value)
    where
      value : (o : Option ℕ) → OptionOver L (value_ty ts o)
      value None = tt
      value (Some n) = all_get_d (TypeOver L) ts n Error h tt
  predicate_over ts (x ∷ ps) (suc p) h = predicate_over ts ps p h

  pub content_over : (c : Content) → All (ShapeFacts L.predicate) c.types → All (λ s. All L.name (shape_names s)) c.types
      → (p : ℕ) → PredicateOver L (get (describes c).schema p)
  unfolding describes get
  content_over c facts names p = predicate_over (types_from [] c.types) c.predicates p (types_over [] c.types tt facts names)

-- Their names are the content's.
frames_named : (n : ℕ) (ts : List Ty) (ps : List PredicateFrame) (p : ℕ) → All (λ x. x.name < n) ps → NamedBelow n (slice_get (map (predicate_with ts) ps) p)
unfolding predicate_with predicate_of
frames_named n ts [] p h = tt
frames_named n ts (x ∷ ps) zero h = h.0
frames_named n ts (x ∷ ps) (suc p) h = frames_named n ts ps p h.1

pub content_named : (c : Content) → All (λ x. x.name < length c.names) c.predicates
    → (p : ℕ) → NamedBelow (length c.names) (get (describes c).schema p)
unfolding describes get
content_named c h p = frames_named (length c.names) (types_from [] c.types) c.predicates p h
